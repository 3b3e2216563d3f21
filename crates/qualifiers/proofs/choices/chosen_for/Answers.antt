use Rattle.std.proofs.Common.{◌≡◌, ℕ, ◌/◌, ◌%◌, ◌<◌, List, length, get_or, Some, None, rules, sym, ap, ◌∙◌, subst, arith}
use Rattle.std.specs.Prelude.{nat_eq, slice_get, slice_index}
use Rattle.std.proofs.Math.Nat.{mod-lt}
use Rattle.std.proofs.lemmas.List.{get_or_read}
use Rattle.std.proofs.lemmas.Option.{slice_get_within}
use Rattle.indexmap.specs.IndexMap.{get}
use Rattle.def_file.specs.declared.definitions.Qualifier.{Qualifier}
use Rattle.qualifiers.specs.Leading.{IsPlaceOf}
use Rattle.qualifiers.specs.Standing.{choice_with, Stands, StandsFor, IsTableOf}
use Rattle.qualifiers.specs.declared.choices.ChoiceTable.{ChoiceTable}
use Rattle.qualifiers.proofs.Picked.{none_by_place, some_by_place, block_some}
use Rattle.qualifiers.proofs.choices.chosen_for.Goals as goal

same_at : {X : Type 0} (xs : List X) (i : ℕ) (x y : X) → slice_get xs i ≡ Some x → slice_get xs i ≡ Some y → x ≡ y
same_at xs i x y a b = let both : Some x ≡ Some y = sym a ∙ b in cc

module _ (qs : List Qualifier) (table : ChoiceTable) (t : IsTableOf qs table) (x place : ℕ) (e : get nat_eq table.places x ≡ Some place) where
  here : IsPlaceOf qs x place
  here = (t.places x place).0 e

  within : place < length qs
  within = slice_get_within qs place here.0 here.1

  -- what the target of the place stands for
  standing : (target : ℕ) → target ≡ get_or table.targets.items place target → StandsFor qs place target
  standing target is =
      let lt : place < length table.targets.items = omega (arith, within, t.targets.len) in
      subst (StandsFor qs place) (sym (get_or_read table.targets.items place target lt is 0)) (t.targets.each place within)

  target_within : (target : ℕ) → target ≡ get_or table.targets.items place target → target < length qs
  target_within target is = let s = standing target is in slice_get_within qs target s.second s.at_other

  -- the block of the target
  block_is : (target block : ℕ) → target ≡ get_or table.targets.items place target → block ≡ get_or table.blocks.items target block → block ≡ slice_index table.blocks.items target
  block_is target block is b = get_or_read table.blocks.items target block (omega (arith, target_within target is, t.blocks.len)) b 0

  -- the target has alternatives where the place has
  offered : (target : ℕ) → target ≡ get_or table.targets.items place target → (q r : Qualifier) → slice_get qs place ≡ Some q → slice_get qs target ≡ Some r → 0 < length q.choices → 0 < length r.choices
  offered target is q r at there some =
      let s = standing target is in
      subst (λ (p : Qualifier). 0 < length p.choices) (same_at qs target s.second r s.at_other there)
      (s.offers (subst (λ (p : Qualifier). 0 < length p.choices) (same_at qs place q s.first at s.at_place) some))

pub returns-in_err-place : goal.returns-in_err-place
returns-in_err-place c =
    let qs = c.args.qualifiers.now in
    let x = c.in-Var.variable in
    let none : c.from_residual.result ≡ None = search rules in
    let absent : get nat_eq c.args.table.now.places x ≡ None = sym c.in_err-place.ensures.value in
    let nothing = none_by_place qs c.args.number c.requires.number x
    (λ i q at named. let found : get nat_eq c.args.table.now.places x ≡ Some i = (c.requires.table.places x i).1 (q, at, named) in let both : Some i ≡ None = sym found ∙ absent in cc) in
    rw (none, c.in-Var.is) nothing

pub get-requires-2 : goal.get-requires-2
get-requires-2 c = within c.args.qualifiers.now c.args.table.now c.requires.table c.in-Var.variable c.in_ok-place.field-0.now (sym c.in_ok-place.ensures.value)

pub returns-then-len-eq0 : goal.returns-then-len-eq0
returns-then-len-eq0 c =
    let qs = c.args.qualifiers.now in
    let x = c.in-Var.variable in
    let place = c.in_ok-place.field-0.now in
    let found : get nat_eq c.args.table.now.places x ≡ Some place = sym c.in_ok-place.ensures.value in
    let nothing = none_by_place qs c.args.number c.requires.number x
    (λ i q at named.
    let other : get nat_eq c.args.table.now.places x ≡ Some i = (c.requires.table.places x i).1 (q, at, named) in
    let both : Some place ≡ Some i = sym found ∙ other in
    let one : i ≡ place = cc in
    let same : q ≡ c.get-2.result.now = same_at qs place q c.get-2.result.now (subst (λ j. slice_get qs j ≡ Some q) one at) c.get-2.ensures in
    ap (λ (p : Qualifier). length p.choices) same ∙ sym c.len.ensures ∙ c.if-len-eq0.true) in
    rw c.in-Var.is nothing

pub index-target-requires : goal.index-target-requires
index-target-requires c =
    let below = within c.args.qualifiers.now c.args.table.now c.requires.table c.in-Var.variable c.in_ok-place.field-0.now (sym c.in_ok-place.ensures.value) in
    omega (arith, below, c.requires.table.targets.len, c.args.table.now.targets.ok.0)

pub get-requires-3 : goal.get-requires-3
get-requires-3 c = target_within c.args.qualifiers.now c.args.table.now c.requires.table c.in-Var.variable c.in_ok-place.field-0.now (sym c.in_ok-place.ensures.value) c.index-target.result.now c.index-target.ensures

pub index-requires : goal.index-requires
index-requires c =
    let below = target_within c.args.qualifiers.now c.args.table.now c.requires.table c.in-Var.variable c.in_ok-place.field-0.now (sym c.in_ok-place.ensures.value) c.index-target.result.now c.index-target.ensures in
    omega (arith, below, c.requires.table.blocks.len, c.args.table.now.blocks.ok.0)

pub nonzero_div-number : goal.nonzero_div-number
nonzero_div-number c =
    let qs = c.args.qualifiers.now in
    let table = c.args.table.now in
    let target = c.index-target.result.now in
    let below = target_within qs table c.requires.table c.in-Var.variable c.in_ok-place.field-0.now (sym c.in_ok-place.ensures.value) target c.index-target.ensures in
    let block = block_is qs table c.requires.table c.in-Var.variable c.in_ok-place.field-0.now (sym c.in_ok-place.ensures.value) target c.index.result.now c.index-target.ensures c.index.ensures in
    subst (λ n. 0 < n) (sym block) (block_some qs c.args.number c.requires.number table.blocks.items c.requires.table.blocks target below)

pub nonzero_rem-number : goal.nonzero_rem-number
nonzero_rem-number c =
    let some : 0 < length c.get-2.result.now.choices = omega (arith, c.len.ensures, c.if-len-eq0.false) in
    let offered = offered c.args.qualifiers.now c.args.table.now c.requires.table c.in-Var.variable c.in_ok-place.field-0.now (sym c.in_ok-place.ensures.value) c.index-target.result.now c.index-target.ensures c.get-2.result.now c.get-3.result.now c.get-2.ensures c.get-3.ensures some in
    omega (arith, offered, c.len-2.ensures)

pub get-requires-4 : goal.get-requires-4
get-requires-4 c =
    let some : 0 < length c.get-2.result.now.choices = omega (arith, c.len.ensures, c.if-len-eq0.false) in
    let offered = offered c.args.qualifiers.now c.args.table.now c.requires.table c.in-Var.variable c.in_ok-place.field-0.now (sym c.in_ok-place.ensures.value) c.index-target.result.now c.index-target.ensures c.get-2.result.now c.get-3.result.now c.get-2.ensures c.get-3.ensures some in
    rw c.len-2.ensures (mod-lt (c.args.number / c.index.result.now) offered)

pub returns : goal.returns
returns c =
    let qs = c.args.qualifiers.now in
    let table = c.args.table.now in
    let x = c.in-Var.variable in
    let place = c.in_ok-place.field-0.now in
    let target = c.index-target.result.now in
    let found : get nat_eq table.places x ≡ Some place = sym c.in_ok-place.ensures.value in
    let is = here qs table c.requires.table x place found in
    let s = standing qs table c.requires.table x place found target c.index-target.ensures in
    let some : 0 < length s.first.choices = subst (λ (p : Qualifier). 0 < length p.choices) (same_at qs place c.get-2.result.now s.first c.get-2.ensures s.at_place) (omega (arith, c.len.ensures, c.if-len-eq0.false)) in
    let second : c.get-3.result.now ≡ s.second = same_at qs target c.get-3.result.now s.second c.get-3.ensures s.at_other in
    let block = block_is qs table c.requires.table x place found target c.index.result.now c.index-target.ensures c.index.ensures in
    let got : slice_get c.get-3.result.now.choices (c.args.number / slice_index table.blocks.items target % length c.get-3.result.now.choices) ≡ Some c.get-4.result.now =
    subst (λ n. slice_get c.get-3.result.now.choices (c.args.number / n % length c.get-3.result.now.choices) ≡ Some c.get-4.result.now) block
    (subst (λ n. slice_get c.get-3.result.now.choices (c.args.number / c.index.result.now % n) ≡ Some c.get-4.result.now) c.len-2.ensures c.get-4.ensures) in
    let got' = subst (λ (p : Qualifier). slice_get p.choices (c.args.number / slice_index table.blocks.items target % length p.choices) ≡ Some c.get-4.result.now) second got in
    let (z, stands, chosen) = some_by_place qs c.args.number c.requires.number c.requires.distinct table.blocks.items c.requires.table.blocks place target s some c.get-4.result.now got' in
    let named : s.first.variable ≡ x = ap (λ (p : Qualifier). p.variable) (same_at qs place s.first is.0 s.at_place is.1) ∙ is.2 in
    rw c.in-Var.is (z, subst (λ y. Stands (choice_with qs c.args.number) y z) named stands, chosen)
