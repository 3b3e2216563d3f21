use Rattle.std.proofs.Common.{List, ℕ, [], ◌∷◌, inl, refl, subst}
use Rattle.symbol_table.specs.Table.{Table}
use Rattle.symbol_table.specs.Refusing as symbols
use Rattle.symbol_table.specs.Refusing.{RefusesVariable}
use Rattle.symbol_table.specs.declared.error.SymbolError.{SymbolError}
use Rattle.symbol_table.specs.declared.error.SymbolError.TheVariants.{Refused, NoMemory}
use Rattle.term_lex.specs.declared.token.Token.{Token}
use Rattle.written_terms.specs.Notation.{Notation}
use Rattle.def_file.specs.Errors.{IfRefused, refused_at}
use Rattle.def_file.specs.Names.{Variable, token_bytes, RefusesFirst}
use Rattle.def_file.specs.declared.naming.listed.Listed.{Listed}
use Rattle.def_file.specs.Naming.{no_operations}
use Rattle.def_file.specs.Notations.{notation_of}
use Rattle.def_file.proofs.naming.variables.take_variable.Goals as goal

refused_variable : (notation : Notation) (text : List ℕ) (table : Table) (listed : Listed) (name : Token) (error : SymbolError)
    → symbols.IfRefused (RefusesVariable table listed.variables (token_bytes text name)) error
    → IfRefused (RefusesFirst notation text (no_operations table listed) (Variable name ∷ [])) (refused_at error name.from)
refused_variable notation text table listed name (Refused kind) h = inl (h, refl)
refused_variable notation text table listed name NoMemory h = tt

pub returns-in-Err-clause-taking : goal.returns-in-Err-clause-taking
returns-in-Err-clause-taking c = λ syntax.
    let refused = subst (λ bytes. symbols.IfRefused (RefusesVariable c.args.symbols.now c.args.listed.now.variables bytes) c.in-Err.error) c.bytes_of.ensures c.in-Err.ensures.refused in
    rw c.refused_at.ensures (refused_variable (notation_of syntax) c.args.text.now c.args.symbols.now c.args.listed.now c.args.name c.in-Err.error refused)
