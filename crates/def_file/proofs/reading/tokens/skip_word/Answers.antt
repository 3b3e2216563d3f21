use Rattle.std.proofs.Common.{◌≡◌, Err, rules, sym, subst}
use Rattle.def_file.specs.declared.error.FileError.TheVariants.{Refused}
use Rattle.term_lex.specs.Lexemes.{IsFirstFault, Plainly}
use Rattle.term_lex.specs.Parts.{One, IsWord}
use Rattle.term_lex.proofs.PlainAnswers.{word_bad, word_misplaced, word_ok}
use Rattle.def_file.proofs.Readings.{skip_refused}
use Rattle.def_file.proofs.Tokens.{one_read}
use Rattle.def_file.proofs.reading.tokens.skip_word.Goals as goal

pub returns-in_err-token : goal.returns-in_err-token
returns-in_err-token c =
    let same : c.from_residual.result ≡ Err (Refused c.in_err-token.field-0.0) = search rules in
    skip_refused (One (IsWord c.args.word.now)) c.args.text.now c.args.at _ (Refused c.in_err-token.field-0.0) same (word_bad c.args.text.now c.args.at c.args.word.now c.in_err-token.field-0.0 c.in_err-token.ensures.first)

pub returns-then-not-is_word : goal.returns-then-not-is_word
returns-then-not-is_word c = subst (IsFirstFault Plainly (One (IsWord c.args.word.now)) c.args.text.now c.args.at) (sym c.misplaced.ensures) (word_misplaced c.args.text.now c.args.at c.args.word.now c.in_ok-token.token c.in_ok-token.ensures.first (c.is_word.ensures.not c.if-not-is_word.true))

pub returns : goal.returns
returns c =
    let yes = c.is_word.ensures.yes c.if-not-is_word.false in
    one_read c.args.text.now c.args.at (IsWord c.args.word.now) c.in_ok-token.token c.in_ok-token.ensures.first yes c.in_ok-token.ensures.within.ends (word_ok c.args.text.now c.args.at c.args.word.now c.in_ok-token.token c.in_ok-token.ensures.first yes)
