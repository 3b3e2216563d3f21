use Rattle.std.proofs.Common.{◌≡◌, [], Err, rules, map, sym, subst}
use Rattle.term_lex.specs.Parts.{Some as SomeTree}
use Rattle.def_file.specs.Grammar.{IsWhere}
use Rattle.def_file.specs.Views.{condition}
use Rattle.def_file.specs.Reading.{IsReadAs}
use Rattle.def_file.proofs.Readings.{read_refused}
use Rattle.def_file.proofs.Deciding.{where_some_refused, where_some, where_none}
use Rattle.def_file.specs.Notations.{notation_of}
use Rattle.def_file.proofs.Lawful.{lawful_of}
use Rattle.def_file.proofs.reading.conditions.read_where.Goals as goal

pub returns-in_err-conditions : goal.returns-in_err-conditions
returns-in_err-conditions c =
    let same : c.from_residual.result ≡ Err c.in_err-conditions.field-0.0 = search rules in
    read_refused (notation_of c.args.syntax).Misplaced (IsWhere (notation_of c.args.syntax)) (λ v. map condition v.items) c.args.text.now c.args.at _ c.in_err-conditions.field-0.0 same (where_some_refused (lawful_of c.args.syntax) c.args.text.now c.args.at (c.next_is_word.ensures.yes c.if-next_is_word.true) c.in_err-conditions.field-0.0 c.in_err-conditions.ensures)

pub returns-then-next_is_word : goal.returns-then-next_is_word
returns-then-next_is_word c = where_some (lawful_of c.args.syntax) c.args.text.now c.args.at (c.next_is_word.ensures.yes c.if-next_is_word.true) (map condition c.in_ok-conditions.conditions.items) c.in_ok-conditions.end c.in_ok-conditions.ensures

pub returns : goal.returns
returns c =
    let none : c.new.result.items ≡ [] = search rules in
    subst (λ cs. IsReadAs (SomeTree (IsWhere (notation_of c.args.syntax))) (IsWhere (notation_of c.args.syntax) (map condition cs)) c.args.text.now c.args.at c.args.at) (sym none) (where_none (lawful_of c.args.syntax) c.args.text.now c.args.at (c.next_is_word.ensures.not c.if-next_is_word.false) c.requires)
