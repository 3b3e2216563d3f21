use Rattle.std.proofs.Common.{◌≡◌, Err, rules, sym, subst}
use Rattle.def_file.specs.declared.error.FileError.TheVariants.{Refused}
use Rattle.term_lex.specs.Lexemes.{IsFirstFault, Plainly}
use Rattle.term_lex.specs.Parts.{One, IsKind}
use Rattle.term_lex.proofs.PlainAnswers.{kind_bad, kind_misplaced, kind_ok}
use Rattle.def_file.proofs.Readings.{skip_refused}
use Rattle.def_file.proofs.Tokens.{one_read}
use Rattle.def_file.proofs.reading.tokens.skip_kind.Goals as goal

pub returns-in_err-token : goal.returns-in_err-token
returns-in_err-token c =
    let same : c.from_residual.result ≡ Err (Refused c.in_err-token.field-0.0) = search rules in
    skip_refused (One (IsKind c.args.kind)) c.args.text.now c.args.at _ (Refused c.in_err-token.field-0.0) same (kind_bad c.args.text.now c.args.at c.args.kind c.in_err-token.field-0.0 c.in_err-token.ensures.first)

pub returns-then-not-is_kind : goal.returns-then-not-is_kind
returns-then-not-is_kind c = subst (IsFirstFault Plainly (One (IsKind c.args.kind)) c.args.text.now c.args.at) (sym c.misplaced.ensures) (kind_misplaced c.args.text.now c.args.at c.args.kind c.in_ok-token.token c.in_ok-token.ensures.first (c.is_kind.ensures.not c.if-not-is_kind.true))

pub returns : goal.returns
returns c =
    let yes = c.is_kind.ensures.yes c.if-not-is_kind.false in
    one_read c.args.text.now c.args.at (IsKind c.args.kind) c.in_ok-token.token c.in_ok-token.ensures.first yes c.in_ok-token.ensures.within.ends (kind_ok c.args.text.now c.args.at c.args.kind c.in_ok-token.token c.in_ok-token.ensures.first yes)
