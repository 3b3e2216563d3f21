use Rattle.std.proofs.Common.{◌≡◌, Err, rules}
use Rattle.def_file.specs.Grammar.{IsMember}
use Rattle.def_file.proofs.Readings.{read_refused}
use Rattle.def_file.proofs.Deciding.{member_name, member_name_refused, member_numeral, member_numeral_refused}
use Rattle.term_lex.proofs.Telling.{Plain}
use Rattle.def_file.proofs.reading.classes.read_member.Goals as goal

pub returns-in_err-name : goal.returns-in_err-name
returns-in_err-name c =
    let same : c.from_residual.result ≡ Err c.in_err-name.field-0.0 = search rules in
    read_refused Plain IsMember (λ member. member) c.args.text.now c.args.at _ c.in_err-name.field-0.0 same (member_name_refused c.args.text.now c.args.at (c.next_is.ensures.yes c.if-next_is.true) c.in_err-name.field-0.0 c.in_err-name.ensures)

pub returns-then-next_is : goal.returns-then-next_is
returns-then-next_is c = member_name c.args.text.now c.args.at (c.next_is.ensures.yes c.if-next_is.true) c.in_ok-name.name c.in_ok-name.name_end c.in_ok-name.ensures

pub returns-in_err-numeral : goal.returns-in_err-numeral
returns-in_err-numeral c =
    let same : c.from_residual-in_err-numeral.result ≡ Err c.in_err-numeral.field-0.0 = search rules in
    read_refused Plain IsMember (λ member. member) c.args.text.now c.args.at _ c.in_err-numeral.field-0.0 same (member_numeral_refused c.args.text.now c.args.at (c.next_is.ensures.not c.if-next_is.false) c.in_err-numeral.field-0.0 c.in_err-numeral.ensures)

pub returns : goal.returns
returns c = member_numeral c.args.text.now c.args.at (c.next_is.ensures.not c.if-next_is.false) c.in_ok-numeral.numeral c.in_ok-numeral.end c.in_ok-numeral.ensures
