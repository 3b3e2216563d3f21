use Rattle.std.proofs.Common.{◌≡◌, ◌<◌, length, Some, sym, ap, ◌∙◌, subst, arith}
use Rattle.std.specs.Prelude.{nat_eq}
use Rattle.std.specs.List.{AllByRecursion}
use Rattle.std.proofs.lemmas.Option.{slice_get_within}
use Rattle.indexmap.specs.IndexMap.{get}
use Rattle.eq_base.specs.Tree.{Tree, node, empty, size}
use Rattle.eq_base.specs.Pattern.{variable}
use Rattle.eq_base.specs.Testing.{IsPattern}
use Rattle.eq_base.proofs.Lists.{all_contained}
use Rattle.def_file.specs.declared.definitions.Qualifier.{Qualifier}
use Rattle.qualifiers.proofs.Targets.{listed_at, lone_variable, next_stands}
use Rattle.qualifiers.proofs.standing.next_place.Goals as goal

has_root : {A : Type 0} (t : Tree A) → 0 < size t
has_root (node a args) = omega arith

pub cell-requires : goal.cell-requires
cell-requires c = has_root c.get-2.result.now

pub get-requires-4 : goal.get-requires-4
get-requires-4 c =
    let found : get nat_eq c.args.places.now c.in-Var.variable ≡ Some c.in_ok-next.field-0.now = sym c.in_ok-next.ensures.value in
    let (r, there, named) = (c.requires.places c.in-Var.variable c.in_ok-next.field-0.now).0 found in
    slice_get_within c.args.qualifiers.now c.in_ok-next.field-0.now r there

pub returns : goal.returns
returns c =
    let qs = c.args.qualifiers.now in
    let next = c.in_ok-next.field-0.now in
    let q = c.get.result.now in
    let a = c.get-2.result.now in
    let found : get nat_eq c.args.places.now c.in-Var.variable ≡ Some next = sym c.in_ok-next.ensures.value in
    let (r, there, named) = (c.requires.places c.in-Var.variable next).0 found in
    let both : Some c.get-4.result.now ≡ Some r = sym c.get-4.ensures ∙ there in
    let same : c.get-4.result.now ≡ r = cc in
    let alternatives = all_contained (λ (p : Qualifier). AllByRecursion IsPattern p.choices) qs q c.requires.patterns (listed_at qs c.args.place q c.get.ensures) in
    let is = all_contained IsPattern q.choices a alternatives (listed_at q.choices 0 a c.get-2.ensures) in
    let lone = lone_variable a c.in-Var.variable is c.in-Var.ensures.value in
    let one : length q.choices ≡ 1 = omega (arith, c.len.ensures, c.if-len-ne1.false) in
    let some : 0 < length r.choices = subst (λ (p : Qualifier). 0 < length p.choices) same (omega (arith, c.len-2.ensures, c.if-len-eq0.false)) in
    next_stands qs c.requires.distinct c.args.place next q r c.get.ensures there one a c.get-2.ensures (lone ∙ ap (λ x. node (variable x) empty) (sym named)) some
