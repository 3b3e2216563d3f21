use Rattle.std.proofs.Common.{rules, ◌≡◌, Some, refl, sym, ap, ◌∙◌, subst}
use Rattle.std.specs.Prelude.{slice_get, Contains}
use Rattle.std.proofs.lemmas.Option.{slice_get_within, get_or_from_slice_get}
use Rattle.term_lex.specs.Lexemes.{lexeme}
use Rattle.written_terms.specs.Answering.{IfRefused}
use Rattle.written_terms.proofs.cells.variable_of.Goals as goal

-- a variable with arguments
pub returns-in-Some-2-clause-refused : goal.returns-in-Some-2-clause-refused
returns-in-Some-2-clause-refused c =
    let variables = c.args.variables.now in
    let x = lexeme c.args.text.now c.args.mention.token in
    let v = c.in-Some-2.field-0 in
    let listed : slice_get variables v ≡ Some x.bytes = (c.in-Some-2.ensures.listed v).0 refl ∙ ap (λ n. Some n) c.bytes_of-name.ensures in
    let has : Contains variables x.bytes = (v, slice_get_within variables v x.bytes listed, get_or_from_slice_get variables v x.bytes x.bytes listed) in
    subst (IfRefused _) (sym c.refused.ensures) (search rules, has, c.if-mention-eq0.false, refl)
