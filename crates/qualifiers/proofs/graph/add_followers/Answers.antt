use Rattle.std.proofs.Common.{◌≡◌, ℕ, List, ◌+◌, ◌++◌, ◌∷◌, [], Some, None, sym, ap, ◌∙◌, subst, arith}
use Rattle.std.specs.Prelude.{nat_eq}
use Rattle.std.specs.Option.{option_to_list, option_copied}
use Rattle.indexmap.specs.IndexMap.{get}
use Rattle.eq_base.specs.Tree.{nth_subtree}
use Rattle.eq_base.specs.Cells.{variable_in, root_cell}
use Rattle.qualifiers.proofs.Occurring.{first_variables, first_next, first_all}
use Rattle.qualifiers.proofs.Edges.{Collected, collected_skip, collected_more}
use Rattle.qualifiers.proofs.graph.add_followers.Goals as goal

pub loop-at-preserved-in_default : goal.loop-at-preserved-in_default
loop-at-preserved-in_default c =
    let p = c.args.pattern.now in
    let k = c.loop-at.at in
    let place = get nat_eq c.args.places.now in
    let old = c.args.followers.now.items in
    let now = c.loop-at.followers.items in
    let o = variable_in (root_cell (nth_subtree p k)) in
    subst (Collected place old now) (sym (first_next p k (omega (arith, c.loop-at-test.true, c.len-at-end.ensures))))
    (collected_skip place old now (first_variables p k) o (λ x e. absurd (c.in_default.not-Some x (c.variable.ensures ∙ ap variable_in c.cell.ensures.value ∙ e))) c.loop-at.invariant)

pub loop-at-preserved-in_default-get : goal.loop-at-preserved-in_default-get
loop-at-preserved-in_default-get c =
    let p = c.args.pattern.now in
    let k = c.loop-at.at in
    let place = get nat_eq c.args.places.now in
    let old = c.args.followers.now.items in
    let now = c.loop-at.followers.items in
    let x = c.in-Some.variable in
    let o = variable_in (root_cell (nth_subtree p k)) in
    let here : o ≡ Some x = ap variable_in (sym c.cell.ensures.value) ∙ sym c.in-Some.ensures in
    let none : place x ≡ None = sym c.get.ensures.value ∙ ap option_copied c.in_default-get.is in
    subst (Collected place old now) (sym (first_next p k (omega (arith, c.loop-at-test.true, c.len-at-end.ensures))))
    (collected_skip place old now (first_variables p k) o (λ y e. let both : Some x ≡ Some y = sym here ∙ e in let same : x ≡ y = cc in ap place (sym same) ∙ none) c.loop-at.invariant)

pub loop-at-preserved : goal.loop-at-preserved
loop-at-preserved c =
    let p = c.args.pattern.now in
    let k = c.loop-at.at in
    let place = get nat_eq c.args.places.now in
    let old = c.args.followers.now.items in
    let now = c.loop-at.followers.items in
    let x = c.in-Some.variable in
    let j = c.in-Some-get.place.now in
    let front = first_variables p k in
    let o = variable_in (root_cell (nth_subtree p k)) in
    let here : o ≡ Some x = ap variable_in (sym c.cell.ensures.value) ∙ sym c.in-Some.ensures in
    let there : place x ≡ Some j = sym c.get.ensures.value ∙ ap option_copied c.in-Some-get.is in
    let next : first_variables p (k + 1) ≡ front ++ x ∷ [] = first_next p k (omega (arith, c.loop-at-test.true, c.len-at-end.ensures)) ∙ ap (λ o. front ++ option_to_list o) here in
    subst (Collected place old c.push.new.self.items) (sym next)
    (subst (λ (l : List ℕ). Collected place old l (front ++ x ∷ [])) (sym c.in_ok-push.ensures.items)
    (collected_more place old now front x j there c.loop-at.invariant))

pub returns : goal.returns
returns c =
    let p = c.args.pattern.now in
    subst (Collected (get nat_eq c.args.places.now) c.args.followers.now.items c.loop-at.followers.items) (first_all p c.requires c.loop-at.at (omega (arith, c.loop-at-test.false, c.len-at-end.ensures))) c.loop-at.invariant
