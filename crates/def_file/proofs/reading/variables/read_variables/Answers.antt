use Rattle.std.proofs.Common.{◌≡◌, [], Err, rules, sym, subst}
use Rattle.term_lex.specs.Parts.{Some as SomeTree}
use Rattle.def_file.specs.Grammar.{IsVariables}
use Rattle.def_file.specs.Reading.{IsReadAs}
use Rattle.def_file.proofs.Readings.{read_refused}
use Rattle.def_file.proofs.Deciding.{variables_none_refused, variables_none, variables_some_refused, variables_some}
use Rattle.term_lex.proofs.Telling.{Plain}
use Rattle.def_file.proofs.reading.variables.read_variables.Goals as goal

pub returns-in_err-end : goal.returns-in_err-end
returns-in_err-end c =
    let same : c.from_residual.result ≡ Err c.in_err-end.field-0.0 = search rules in
    read_refused Plain IsVariables (λ names. names.items) c.args.text.now c.args.at _ c.in_err-end.field-0.0 same (variables_none_refused c.args.text.now c.args.at (c.next_is.ensures.yes c.if-next_is.true) c.in_err-end.field-0.0 c.in_err-end.ensures)

pub returns-then-next_is : goal.returns-then-next_is
returns-then-next_is c =
    let none : c.new.result.items ≡ [] = search rules in
    subst (λ ns. IsReadAs (SomeTree IsVariables) (IsVariables ns) c.args.text.now c.args.at c.in_ok-end.end) (sym none) (variables_none c.args.text.now c.args.at (c.next_is.ensures.yes c.if-next_is.true) c.in_ok-end.end c.in_ok-end.ensures)

pub returns-in_err-names : goal.returns-in_err-names
returns-in_err-names c =
    let same : c.from_residual-in_err-names.result ≡ Err c.in_err-names.field-0.0 = search rules in
    read_refused Plain IsVariables (λ names. names.items) c.args.text.now c.args.at _ c.in_err-names.field-0.0 same (variables_some_refused c.args.text.now c.args.at (c.next_is.ensures.not c.if-next_is.false) c.in_err-names.field-0.0 c.in_err-names.ensures)

pub returns : goal.returns
returns c = variables_some c.args.text.now c.args.at (c.next_is.ensures.not c.if-next_is.false) c.in_ok-names.names.items c.in_ok-names.end c.in_ok-names.ensures
