use Rattle.std.proofs.Common.{◌≡◌, [], Err, rules, refl, arith, sym, subst}
use Rattle.term_lex.specs.declared.token.TokenKind.TheVariants.{Comma}
use Rattle.term_lex.specs.Parts.{IsKind}
use Rattle.term_lex.proofs.Marks.{Kind}
use Rattle.term_lex.proofs.PlainAnswers.{some_of_kind, of_kind, answer_further}
use Rattle.term_lex.proofs.ListAnswers.{led_part}
use Rattle.def_file.specs.Grammar.{IsMember, AreMembers}
use Rattle.def_file.proofs.Readings.{read_refused}
use Rattle.def_file.proofs.Rules.{member_part}
use Rattle.def_file.proofs.Lists.{first-pushed, ListBegun, list_first, list_first_refused, list_more, list_more_refused, list_done}
use Rattle.term_lex.proofs.Telling.{Plain, plain}
use Rattle.def_file.proofs.reading.classes.read_members.Goals as goal

pub returns-in_err-first : goal.returns-in_err-first
returns-in_err-first c =
    let same : c.from_residual.result ≡ Err c.in_err-first.field-0.0 = search rules in
    read_refused Plain AreMembers (λ members. members.items) c.args.text.now c.args.at _ c.in_err-first.field-0.0 same (list_first_refused plain (IsKind Comma) IsMember (Kind Comma) (λ x t. t) (some_of_kind Comma) (of_kind Comma) member_part refl refl refl c.args.text.now c.args.at c.in_err-first.field-0.0 c.in_err-first.ensures)

pub members-init : goal.members-init
members-init c =
    let none : c.new-members.result.items ≡ [] = search rules in
    subst (λ vs. ListBegun Plain (IsKind Comma) IsMember c.args.text.now c.args.at vs c.in_ok-first.first_end) (sym (first-pushed c.in_ok-first.first none c.in_ok-push.ensures.items)) (list_first plain (IsKind Comma) IsMember (Kind Comma) (λ x t. t) (some_of_kind Comma) (of_kind Comma) member_part refl refl refl c.args.text.now c.args.at c.in_ok-first.first c.in_ok-first.first_end c.in_ok-first.ensures)

pub returns-in_err-member : goal.returns-in_err-member
returns-in_err-member c =
    let same : c.from_residual-in_err-member.result ≡ Err c.in_err-member.field-0.0 = search rules in
    read_refused Plain AreMembers (λ members. members.items) c.args.text.now c.args.at _ c.in_err-member.field-0.0 same (list_more_refused plain (IsKind Comma) IsMember (Kind Comma) (λ x t. t) (some_of_kind Comma) (of_kind Comma) member_part refl refl refl c.args.text.now c.args.at c.members.members.items c.members.end c.members.invariant (c.next_is.ensures.yes c.members-test.true) c.in_err-member.field-0.0 c.in_err-member.ensures)

pub members-smaller : goal.members-smaller
members-smaller c =
    let further = answer_further (led_part (IsKind Comma) IsMember (Kind Comma) (λ x t. t) (some_of_kind Comma) (of_kind Comma) member_part refl) refl c.args.text.now c.members.end c.in_ok-member.member_end c.members.invariant.within c.in_ok-member.ensures.answer in
    omega (arith, further, c.in_ok-member.ensures.within)

pub members-preserved : goal.members-preserved
members-preserved c = subst (λ vs. ListBegun Plain (IsKind Comma) IsMember c.args.text.now c.args.at vs c.in_ok-member.member_end) (sym c.in_ok-push-2.ensures.items) (list_more plain (IsKind Comma) IsMember (Kind Comma) (λ x t. t) (some_of_kind Comma) (of_kind Comma) member_part refl refl refl c.args.text.now c.args.at c.members.members.items c.in_ok-member.member c.members.end c.in_ok-member.member_end c.members.invariant (c.next_is.ensures.yes c.members-test.true) c.in_ok-member.ensures)

pub returns : goal.returns
returns c = list_done plain (IsKind Comma) IsMember (Kind Comma) (λ x t. t) (some_of_kind Comma) (of_kind Comma) member_part refl refl refl c.args.text.now c.args.at c.members.members.items c.members.end c.members.invariant (c.next_is.ensures.not c.members-test.false)
