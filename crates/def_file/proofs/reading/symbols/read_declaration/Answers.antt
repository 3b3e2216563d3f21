use Rattle.std.proofs.Common.{◌≡◌, Err, rules, refl}
use Rattle.term_lex.specs.declared.token.TokenKind.TheVariants.{Name, Numeral, Colon}
use Rattle.term_lex.proofs.Parts.{then_part}
use Rattle.term_lex.proofs.PlainAnswers.{kind_part}
use Rattle.def_file.specs.Grammar.{IsDeclaration}
use Rattle.def_file.proofs.Readings.{read_refused, same_read, same_refused, then_read, first_refused, later_refused}
use Rattle.def_file.proofs.Rules.{token_part, declared_to, declared_from}
use Rattle.term_lex.proofs.Telling.{Plain, plain}
use Rattle.def_file.proofs.reading.symbols.read_declaration.Goals as goal

pub returns-in_err-name : goal.returns-in_err-name
returns-in_err-name c =
    let same : c.from_residual.result ≡ Err c.in_err-name.field-0.0 = search rules in
    read_refused Plain IsDeclaration (λ x. x) c.args.text.now c.args.at _ c.in_err-name.field-0.0 same (same_refused plain declared_to declared_from c.args.text.now c.args.at c.in_err-name.field-0.0 (first_refused plain (token_part Name) (then_part (kind_part Colon) (token_part Numeral) refl) refl refl c.args.text.now _ c.in_err-name.field-0.0 c.in_err-name.ensures))

pub returns-in_err-arity_at : goal.returns-in_err-arity_at
returns-in_err-arity_at c =
    let same : c.from_residual-in_err-arity_at.result ≡ Err c.in_err-arity_at.field-0.0 = search rules in
    read_refused Plain IsDeclaration (λ x. x) c.args.text.now c.args.at _ c.in_err-arity_at.field-0.0 same (same_refused plain declared_to declared_from c.args.text.now c.args.at c.in_err-arity_at.field-0.0 (later_refused plain (token_part Name) (then_part (kind_part Colon) (token_part Numeral) refl) refl refl c.args.text.now _ c.in_ok-name.ensures c.in_err-arity_at.field-0.0 (first_refused plain (kind_part Colon) (token_part Numeral) refl refl c.args.text.now _ c.in_err-arity_at.field-0.0 c.in_err-arity_at.ensures)))

pub returns-in_err-arity : goal.returns-in_err-arity
returns-in_err-arity c =
    let same : c.from_residual-in_err-arity.result ≡ Err c.in_err-arity.field-0.0 = search rules in
    read_refused Plain IsDeclaration (λ x. x) c.args.text.now c.args.at _ c.in_err-arity.field-0.0 same (same_refused plain declared_to declared_from c.args.text.now c.args.at c.in_err-arity.field-0.0 (later_refused plain (token_part Name) (then_part (kind_part Colon) (token_part Numeral) refl) refl refl c.args.text.now _ c.in_ok-name.ensures c.in_err-arity.field-0.0 (later_refused plain (kind_part Colon) (token_part Numeral) refl refl c.args.text.now _ c.in_ok-arity_at.ensures c.in_err-arity.field-0.0 c.in_err-arity.ensures)))

pub returns : goal.returns
returns c = same_read declared_to declared_from c.args.text.now c.args.at (λ xs s. s) (then_read (token_part Name) (then_part (kind_part Colon) (token_part Numeral) refl) refl c.args.text.now _ c.in_ok-name.ensures (then_read (kind_part Colon) (token_part Numeral) refl c.args.text.now _ c.in_ok-arity_at.ensures c.in_ok-arity.ensures))
