use Rattle.std.proofs.Common.{◌≡◌, Err, rules, sym, subst}
use Rattle.def_file.specs.declared.error.FileError.TheVariants.{Refused}
use Rattle.term_lex.specs.Lexemes.{IsFirstFault, Plainly}
use Rattle.term_lex.specs.Parts.{Some as SomeTree}
use Rattle.def_file.specs.Grammar.{IsWordAs}
use Rattle.def_file.proofs.Readings.{read_refused}
use Rattle.def_file.proofs.Tokens.{word_read, word_as_bad, word_as_misplaced}
use Rattle.term_lex.proofs.Telling.{Plain}
use Rattle.def_file.proofs.reading.tokens.read_word.Goals as goal

pub returns-in_err-token : goal.returns-in_err-token
returns-in_err-token c =
    let same : c.from_residual.result ≡ Err (Refused c.in_err-token.field-0.0) = search rules in
    read_refused Plain (IsWordAs c.args.word.now) (λ token. token) c.args.text.now c.args.at _ (Refused c.in_err-token.field-0.0) same (word_as_bad c.args.text.now c.args.at c.args.word.now c.in_err-token.field-0.0 c.in_err-token.ensures.first)

pub returns-then-not-is_word : goal.returns-then-not-is_word
returns-then-not-is_word c = subst (IsFirstFault Plainly (SomeTree (IsWordAs c.args.word.now)) c.args.text.now c.args.at) (sym c.misplaced.ensures) (word_as_misplaced c.args.text.now c.args.at c.args.word.now c.in_ok-token.token c.in_ok-token.ensures.first (c.is_word.ensures.not c.if-not-is_word.true))

pub returns : goal.returns
returns c = word_read c.args.text.now c.args.at c.args.word.now c.in_ok-token.token c.in_ok-token.ensures.first (c.is_word.ensures.yes c.if-not-is_word.false) c.in_ok-token.ensures.within.ends
