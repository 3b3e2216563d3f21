use Rattle.std.proofs.Common.{◌≡◌, Err, rules, sym, subst}
use Rattle.def_file.specs.declared.error.FileError.TheVariants.{Refused}
use Rattle.term_lex.specs.Lexemes.{IsFirstFault, Plainly}
use Rattle.term_lex.specs.Parts.{Some as SomeTree}
use Rattle.def_file.specs.Grammar.{IsToken}
use Rattle.def_file.proofs.Readings.{read_refused}
use Rattle.def_file.proofs.Tokens.{token_read, token_bad, token_misplaced}
use Rattle.term_lex.proofs.Telling.{Plain}
use Rattle.def_file.proofs.reading.tokens.read_token.Goals as goal

pub returns-in_err-token : goal.returns-in_err-token
returns-in_err-token c =
    let same : c.from_residual.result ≡ Err (Refused c.in_err-token.field-0.0) = search rules in
    read_refused Plain (IsToken c.args.kind) (λ token. token) c.args.text.now c.args.at _ (Refused c.in_err-token.field-0.0) same (token_bad c.args.text.now c.args.at c.args.kind c.in_err-token.field-0.0 c.in_err-token.ensures.first)

pub returns-then-not-is_kind : goal.returns-then-not-is_kind
returns-then-not-is_kind c = subst (IsFirstFault Plainly (SomeTree (IsToken c.args.kind)) c.args.text.now c.args.at) (sym c.misplaced.ensures) (token_misplaced c.args.text.now c.args.at c.args.kind c.in_ok-token.token c.in_ok-token.ensures.first (c.is_kind.ensures.not c.if-not-is_kind.true))

pub returns : goal.returns
returns c = token_read c.args.text.now c.args.at c.args.kind c.in_ok-token.token c.in_ok-token.ensures.first (c.is_kind.ensures.yes c.if-not-is_kind.false) c.in_ok-token.ensures.within.ends
