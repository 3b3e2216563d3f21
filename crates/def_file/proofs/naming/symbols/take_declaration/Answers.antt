use Rattle.std.proofs.Common.{SFits, ◌∙◌, rules}
use Rattle.std.specs.Int.{w128}
use Rattle.std.proofs.Math.Facts.{to_z-of_z}
use Rattle.def_file.specs.Naming.{only_symbols}
use Rattle.def_file.proofs.NameFaults.{declaration_refused}
use Rattle.def_file.specs.Notations.{notation_of}
use Rattle.def_file.proofs.naming.symbols.take_declaration.Goals as goal

pub returns-in-Err-clause-taking : goal.returns-in-Err-clause-taking
returns-in-Err-clause-taking c = λ syntax.
    let fits : SFits w128 c.numeral_value.result = search rules in
    rw c.declaration_error.ensures (declaration_refused (notation_of syntax) c.args.text.now (only_symbols c.args.symbols.now) c.args.name c.args.arity c.in-Err.error _ _ c.bytes_of.ensures (to_z-of_z {w = w128} {z = c.numeral_value.result} fits ∙ c.numeral_value.ensures) c.in-Err.ensures.refused)
