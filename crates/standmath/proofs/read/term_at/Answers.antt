use Rattle.std.proofs.Common.{All, ◌≡◌, map, [], sym, subst, Err, rules}
use Rattle.symbol_table.specs.Table.{names_of}
use Rattle.symbol_table.specs.Reading.{read}
use Rattle.term_lex.proofs.Readings.{scans_within}
use Rattle.term_lex.specs.Lexemes.{IsFirstFault}
use Rattle.written_terms.specs.declared.error.ReadError.TheVariants.{Refused}
use Rattle.written_terms.specs.Answering.{AnswersRight, as_read}
use Rattle.written_terms.specs.Mentions.{seen, IsMention, Mentioned}
use Rattle.written_terms.specs.Notation.{IsSomeTerm}
use Rattle.written_terms.specs.Refusing.{IsFirstRefused, RefusesTerm, IsTermAt}
use Rattle.written_terms.proofs.Answering.{refused_as}
use Rattle.written_terms.proofs.ReadAnswers.{term_read, term_fault, dot_fault, term_name_fault}
use Rattle.standmath.specs.Notation.{standmath}
use Rattle.standmath.proofs.OneReading.{lawful}
use Rattle.standmath.proofs.read.term_at.Goals as goal

pub skip_dot-requires : goal.skip_dot-requires
skip_dot-requires c = let m = c.in_ok-mentions.ensures.ok in (scans_within c.args.text.now c.args.at m.lexemes c.in_ok-mentions.end c.requires m.reads.scanned).1

-- each of them stands in the text
pub term_of-requires-clause-mentions : goal.term_of-requires-clause-mentions
term_of-requires-clause-mentions c = subst (All (λ m. IsMention c.args.text.now m)) (sym c.deref.ensures.value) c.in_ok-mentions.ensures.ok.inside

pub returns-clause-answer : goal.returns-clause-answer
returns-clause-answer c =
    let m = subst (λ ms. Mentioned standmath c.args.text.now c.args.at ms c.in_ok-mentions.end) (sym c.deref.ensures.value) c.in_ok-mentions.ensures.ok in
    term_read standmath lawful (names_of c.args.symbols.now) c.args.text.now c.args.at m c.in_ok-end.ensures (read c.term_of.new.symbols c.in_ok-term.term) c.in_ok-term.ensures.ok

pub returns-in_err-mentions-clause-answer : goal.returns-in_err-mentions-clause-answer
returns-in_err-mentions-clause-answer c =
    let table = names_of c.args.symbols.now in
    let text = c.args.text.now in
    let same : c.from_residual.result ≡ Err c.in_err-mentions.field-0.0 = search rules in
    let why = refused_as (IsFirstFault (standmath.Misplaced (IsSomeTerm standmath)) (IsSomeTerm standmath) text c.args.at) (RefusesTerm standmath table text c.args.at) (term_fault standmath lawful table text c.args.at) c.in_err-mentions.field-0.0 c.in_err-mentions.ensures.err in
    subst (λ r. AnswersRight (IsTermAt standmath table text c.args.at) (as_read (read c.args.symbols.now) r)) (sym same) why

pub returns-in_err-end-clause-answer : goal.returns-in_err-end-clause-answer
returns-in_err-end-clause-answer c =
    let table = names_of c.args.symbols.now in
    let text = c.args.text.now in
    let f = c.in_err-end.field-0.0 in
    let same : c.from_residual-in_err-end.result ≡ Err (Refused f) = search rules in
    subst (λ r. AnswersRight (IsTermAt standmath table text c.args.at) (as_read (read c.args.symbols.now) r)) (sym same) (dot_fault standmath lawful table text c.args.at c.in_ok-mentions.ensures.ok f c.in_err-end.ensures)

pub returns-in_err-term-clause-answer : goal.returns-in_err-term-clause-answer
returns-in_err-term-clause-answer c =
    let table = names_of c.args.symbols.now in
    let text = c.args.text.now in
    let m = subst (λ ms. Mentioned standmath text c.args.at ms c.in_ok-mentions.end) (sym c.deref.ensures.value) c.in_ok-mentions.ensures.ok in
    let same : c.from_residual-in_err-term.result ≡ Err c.in_err-term.field-0.0 = search rules in
    let why = refused_as (IsFirstRefused table [] (map (seen text) c.deref.result.now)) (RefusesTerm standmath table text c.args.at) (term_name_fault standmath lawful table text c.args.at m c.in_ok-end.ensures) c.in_err-term.field-0.0 c.in_err-term.ensures.refused in
    subst (λ r. AnswersRight (IsTermAt standmath table text c.args.at) (as_read (read c.term_of.new.symbols) r)) (sym same) why
