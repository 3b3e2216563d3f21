use Rattle.std.proofs.Common.{subst}
use Rattle.symbol_table.specs.Refusing as symbols
use Rattle.symbol_table.specs.Refusing.{RefusesInclude}
use Rattle.def_file.specs.Naming.{only_symbols}
use Rattle.def_file.proofs.NameFaults.{class_refused}
use Rattle.def_file.specs.Notations.{notation_of}
use Rattle.def_file.proofs.naming.symbols.take_class.Goals as goal

pub returns-in-Err-clause-taking : goal.returns-in-Err-clause-taking
returns-in-Err-clause-taking c = λ syntax.
    let refused = subst (λ bytes. symbols.IfRefused (RefusesInclude c.args.symbols.now bytes) c.in-Err.error) c.bytes_of.ensures c.in-Err.ensures.refused in
    rw c.refused_at.ensures (class_refused (notation_of syntax) c.args.text.now (only_symbols c.args.symbols.now) c.args.name c.in-Err.error refused)
