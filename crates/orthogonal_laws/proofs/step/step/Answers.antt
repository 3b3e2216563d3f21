use Rattle.std.proofs.Common.{◌≡◌, Some, subst, sym}
use Rattle.std.proofs.lemmas.Result.{IfOk-weaker}
use Rattle.eq_base.specs.Meeting.{in_class_of}
use Rattle.orthogonal_laws.proofs.Members.{get-in, in-contains}
use Rattle.orthogonal_laws.proofs.Steps.{fits_there, over_there, applied_there, value_there, tree_step, value_step}
use Rattle.orthogonal_laws.proofs.step.step.Goals as goal

pub replace-requires-clause-fits : goal.replace-requires-clause-fits
replace-requires-clause-fits c =
    (in_class_of c.args.rules.now.classes, fits_there c.args.symbols.now c.has_one_number_each.ensures.distinct c.args.rules.now c.requires.live c.requires.regular c.args.term.now c.requires.live_term c.args.at c.requires.at c.args.equation c.equation-rule.result.now c.equation-rule.ensures c.requires.redex)

pub replace-requires-clause-over : goal.replace-requires-clause-over
replace-requires-clause-over c = over_there c.args.symbols.now c.has_one_number_each.ensures.distinct c.args.rules.now c.requires.live c.requires.regular c.args.term.now c.requires.live_term c.args.at c.requires.at c.args.equation c.equation-rule.result.now c.equation-rule.ensures c.requires.redex c.in-Tree.right c.in-Tree.is

pub value_head-requires-clause-truth : goal.value_head-requires-clause-truth
value_head-requires-clause-truth c = c.requires.truths c.equation-rule.result.now (in-contains (get-in c.args.rules.now.equations c.args.equation c.equation-rule.result.now c.equation-rule.ensures)) c.in-Schema.op c.in-Schema.is

pub value_head-requires-clause-applied : goal.value_head-requires-clause-applied
value_head-requires-clause-applied c = applied_there c.args.symbols.now c.has_one_number_each.ensures.distinct c.args.rules.now c.requires.live c.requires.regular c.args.term.now c.requires.live_term c.args.at c.requires.at c.args.equation c.equation-rule.result.now c.equation-rule.ensures c.requires.redex c.in-Schema.op c.in-Schema.is

pub value_head-requires-clause-some : goal.value_head-requires-clause-some
value_head-requires-clause-some c =
    rw (value_there c.args.symbols.now c.has_one_number_each.ensures.distinct c.args.rules.now c.requires.live c.requires.regular c.args.term.now c.requires.live_term c.args.at c.requires.at c.args.equation c.equation-rule.result.now c.equation-rule.ensures c.requires.redex c.in-Schema.op c.in-Schema.is) Rattle.std.proofs.Common.refl

pub returns-in-Tree-clause-ok : goal.returns-in-Tree-clause-ok
returns-in-Tree-clause-ok c =
    IfOk-weaker c.replace.result _ _
    (λ after same. tree_step c.args.symbols.now c.has_one_number_each.ensures.distinct c.args.rules.now c.requires.live c.requires.regular c.args.term.now c.requires.live_term c.args.at c.requires.at c.args.equation c.equation-rule.result.now c.equation-rule.ensures c.requires.redex c.in-Tree.right c.in-Tree.is after same)
    c.replace.ensures

pub returns-in_ok-head-in-Schema-clause-ok : goal.returns-in_ok-head-in-Schema-clause-ok
returns-in_ok-head-in-Schema-clause-ok c =
    IfOk-weaker c.put.result _ _
    (λ after same. value_step c.args.symbols.now c.has_one_number_each.ensures.distinct c.args.rules.now c.requires.live c.requires.regular c.args.term.now c.requires.live_term c.args.at c.requires.at c.args.equation c.equation-rule.result.now c.equation-rule.ensures c.requires.redex c.value_head.new.symbols c.value_head.ensures.keeps c.in-Schema.op c.in-Schema.is c.in_ok-head-in-Schema.head c.in_ok-head-in-Schema.ensures.ok.0 c.in_ok-head-in-Schema.ensures.ok.1 after same)
    c.put.ensures
