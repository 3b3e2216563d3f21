use Rattle.std.proofs.Common.{◌≡◌, Some, refl, sym, ◌∙◌, ap, subst}
use Rattle.eq_base.specs.Tree.{nth_subtree}
use Rattle.eq_base.specs.Pattern.{IsInstanceOf}
use Rattle.eq_base.specs.Meeting.{in_class_of}
use Rattle.eq_base.specs.Operations.{application_value}
use Rattle.eq_base.specs.declared.rules.Right.TheVariants as rights
use Rattle.eq_base.proofs.Heads.{some_same}
use Rattle.symbol_table.specs.Reading.{read}
use Rattle.orthogonal_laws.proofs.Failures.{failing_not_met}
use Rattle.orthogonal_laws.proofs.OperandsRead.{live_at}
use Rattle.orthogonal_laws.proofs.RegularLists.{applied_of}
use Rattle.orthogonal_laws.proofs.Pasts.{past_read, met_past, first_past_met, past_value}
use Rattle.orthogonal_laws.proofs.past.is_past.Goals as goal

pub value_at-requires-clause-applied : goal.value_at-requires-clause-applied
value_at-requires-clause-applied c =
    let a = applied_of c.args.rules.now c.requires.regular c.in-Meets.number c.equation.result.now c.equation.ensures c.in-Schema.op c.in-Schema.is in
    let same = some_same c.in-Meets.ensures.equation c.equation.result.now (sym c.in-Meets.ensures.listed ∙ c.equation.ensures) in
    (a.0, (in_class_of c.args.rules.now.classes, subst (λ p. IsInstanceOf (in_class_of c.args.rules.now.classes) p (nth_subtree c.args.term.now c.args.at)) a.1 (subst (λ e. IsInstanceOf (in_class_of c.args.rules.now.classes) e.left (nth_subtree c.args.term.now c.args.at)) same c.in-Meets.ensures.met)))

pub returns-in-Fails : goal.returns-in-Fails
returns-in-Fails c = (
  λ e. absurd (cc),
  λ p.
      let live = live_at c.args.symbols.now c.args.term.now c.args.at c.requires.at c.requires.live_term in
      let m = met_past c.args.symbols.now c.requires.distinct c.args.rules.now c.requires.live (nth_subtree c.args.term.now c.args.at) live p in
      let f = c.in-Fails.ensures.1.each m.number m.equation m.listed in
      absurd (failing_not_met c.args.rules.now.classes m.equation.left (nth_subtree c.args.term.now c.args.at) f.0 f.1 m.met),
)

pub returns-in-Tree : goal.returns-in-Tree
returns-in-Tree c = (
  λ e. absurd (cc),
  λ p.
      let live = live_at c.args.symbols.now c.args.term.now c.args.at c.requires.at c.requires.live_term in
      let m = met_past c.args.symbols.now c.requires.distinct c.args.rules.now c.requires.live (nth_subtree c.args.term.now c.args.at) live p in
      let same = some_same c.in-Meets.ensures.equation c.equation.result.now (sym c.in-Meets.ensures.listed ∙ c.equation.ensures) in
      let right : rights.Tree c.in-Tree.field-0 ≡ rights.Schema m.op = sym c.in-Tree.is ∙ ap (λ e. e.right) (sym same) ∙ first_past_met c.args.symbols.now c.requires.distinct c.args.rules.now c.requires.live (nth_subtree c.args.term.now c.args.at) live c.requires.regular c.in-Meets.number c.in-Meets.ensures m in
      absurd (cc),
)

pub returns-in-Past : goal.returns-in-Past
returns-in-Past c =
    let live = live_at c.args.symbols.now c.args.term.now c.args.at c.requires.at c.requires.live_term in
    let same = some_same c.in-Meets.ensures.equation c.equation.result.now (sym c.in-Meets.ensures.listed ∙ c.equation.ensures) in
    let met = subst (λ e. IsInstanceOf (in_class_of c.args.rules.now.classes) e.left (nth_subtree c.args.term.now c.args.at)) same c.in-Meets.ensures.met in (
      λ e. past_read c.args.symbols.now c.requires.distinct c.args.rules.now c.requires.live (nth_subtree c.args.term.now c.args.at) live c.in-Meets.number c.equation.result.now c.equation.ensures met c.in-Schema.op c.in-Schema.is c.in-Past.ensures.0 c.in-Past.ensures.1 c.in-Past.ensures.2,
      λ p. refl,
    )

pub returns-in_default : goal.returns-in_default
returns-in_default c = (
  λ e. absurd (cc),
  λ p.
      let live = live_at c.args.symbols.now c.args.term.now c.args.at c.requires.at c.requires.live_term in
      let m = met_past c.args.symbols.now c.requires.distinct c.args.rules.now c.requires.live (nth_subtree c.args.term.now c.args.at) live p in
      let same = some_same c.in-Meets.ensures.equation c.equation.result.now (sym c.in-Meets.ensures.listed ∙ c.equation.ensures) in
      let right : rights.Schema c.in-Schema.op ≡ rights.Schema m.op = sym c.in-Schema.is ∙ ap (λ e. e.right) (sym same) ∙ first_past_met c.args.symbols.now c.requires.distinct c.args.rules.now c.requires.live (nth_subtree c.args.term.now c.args.at) live c.requires.regular c.in-Meets.number c.in-Meets.ensures m in
      let op : c.in-Schema.op ≡ m.op = cc in
      let e = subst (λ op. application_value op (read c.args.symbols.now (nth_subtree c.args.term.now c.args.at)) ≡ Some m.value) (sym op) m.has_value in
      absurd (c.in_default.not-Past (past_value c.value_at.result (application_value c.in-Schema.op (read c.args.symbols.now (nth_subtree c.args.term.now c.args.at))) m.value c.value_at.ensures e m.past)),
)
