-- How many items the item sets of a search hold.
use Rattle.std.proofs.Common.{Result, Err, IfErr, ◌≡◌, ◌≢◌, ℕ, suc, Some, refl, ◌+◌, ◌<◌, ◌≤◌, List, [], ◌∷◌, ◌++◌, length, slice_get, sym, ◌∙◌, ap, subst, arith, length-append, ⊎_elim}
use Rattle.eq_base.specs.RuleList.{RuleList}
use Rattle.match_laws.specs.Items.{ItemSet}
use Rattle.match_laws.specs.Reachable.{total_items}
use Rattle.match_laws.specs.Reachable as reachable
use Rattle.match_tables.specs.Sets.{Interns, AreDistinct}
use Rattle.match_tables.specs.Steps.{LeadsTo}
use Rattle.match_tables.specs.Moving.{AreItemsOf}
use Rattle.match_tables.specs.Searching.{Extends, IsNotAdded, IsFindable, AreFound, IsStopped}
use Rattle.match_tables.specs.declared.search.Stop.{Stop}
use Rattle.match_tables.specs.declared.search.Stop.TheVariants.{Past, NoMemory}
use Rattle.match_tables.specs.declared.step.Step.{Step}
use Rattle.match_tables.proofs.Places.{kept, old_or_last, place_from_contains}
use Rattle.match_tables.proofs.Moved.{each_contained}
use Rattle.std.specs.List.{AllByRecursion}

total-push : (sets : List ItemSet) (items : ItemSet) → total_items (sets ++ items ∷ []) ≡ total_items sets + length items
total-push [] items = omega arith
total-push (other ∷ sets) items = omega (arith, total-push sets items)

module _ (old new : List ItemSet) (items : ItemSet) (number held : ℕ) (is : held ≡ total_items old) (interns : Interns old new items number) where
  pub held-more : (more : ℕ) → more ≡ length items → length old < length new → held + more ≡ total_items new
  held-more more long longer =
      ⊎_elim
      (λ same. absurd (let z = ap length same in omega arith))
      (λ grown. let z = ap total_items grown.1 in omega (arith, is, long, z, total-push old items))
      interns.kept

  pub held-same : length new ≤ length old → held ≡ total_items new
  held-same less =
      ⊎_elim
      (λ same. is ∙ sym (ap total_items same))
      (λ grown. absurd (let z = ap length grown.1 in omega (arith, z, length-append old (items ∷ []))))
      interns.kept

module _ (old new : List ItemSet) (items : ItemSet) (number : ℕ) (interns : Interns old new items number) where
  -- what holds of each old set and of this one holds of each new one
  pub each-interned : (P : ItemSet → Type 0) → ((n : ℕ) (xs : ItemSet) → slice_get old n ≡ Some xs → P xs) → P items → (n : ℕ) (xs : ItemSet) → slice_get new n ≡ Some xs → P xs
  each-interned P f this n xs at =
      ⊎_elim
      (λ same. f n xs (ap (λ sets. slice_get sets n) (sym same) ∙ at))
      (λ grown. ⊎_elim
      (λ before. f n xs before)
      (λ here. subst P here.1 this)
      (old_or_last old items n xs (ap (λ sets. slice_get sets n) (sym grown.1) ∙ at)))
      interns.kept

  pub extends-interned : Extends old new
  extends-interned n xs at =
      ⊎_elim
      (λ same. ap (λ sets. slice_get sets n) same ∙ at)
      (λ grown. ap (λ sets. slice_get sets n) grown.1 ∙ kept old (items ∷ []) n xs at)
      interns.kept

-- ---- the list of distinct sets

pub distinct-list : (sets : List ItemSet) → AreDistinct sets → reachable.AreDistinct sets
distinct-list [] d = tt
distinct-list (items ∷ sets) d = (
  each_contained (λ other. items ≢ other) sets (λ other c same.
      let at = place_from_contains sets other c in
      let z : 0 ≡ suc at.0 = d items 0 (suc at.0) refl (at.1 ∙ ap Some (sym same)) in
      omega (arith, z)),
  distinct-list sets (λ xs one other a b. let z : suc one ≡ suc other = d xs (suc one) (suc other) a b in omega (arith, z)),
)

pub each-listed : (P : ItemSet → Type 0) (sets : List ItemSet) → ((n : ℕ) (xs : ItemSet) → slice_get sets n ≡ Some xs → P xs) → AllByRecursion P sets
each-listed P sets f = each_contained P sets (λ xs c. let at = place_from_contains sets xs c in f at.0 xs at.1)

module _ (rules : RuleList) where
  -- where a step leads are items of the left sides
  pub next-items : (items next : ItemSet) (step : Step) → LeadsTo rules items step next → AreItemsOf rules next
  next-items items next step l = record {
    ordered = l.ordered;
    below = λ e c x. let f = (l.exactly e c).0 x in omega (arith, f.further);
    there = λ e c x. ((l.exactly e c).0 x).there;
  }

  module _ (old new : List ItemSet) (items : ItemSet) (f : AreFound rules old) (findable : IsFindable rules items) (distinct : AreDistinct new) where
    pub found-added : (number : ℕ) → Interns old new items number → AreItemsOf rules items → total_items new ≤ 4194304 → AreFound rules new
    found-added number interns are few = record {
      each = each-interned old new items number interns (AreItemsOf rules) f.each are;
      reached = each-interned old new items number interns (IsFindable rules) f.reached findable;
      distinct = distinct;
      few = few;
    }

    -- a set that could not be added stops the search
    not-added : (stop : Stop) → IsNotAdded old new items stop → IsStopped rules stop
    not-added Past ((number, interns), more) = record {
      sets = new;
      distinct = distinct-list new distinct;
      reachable = each-listed (IsFindable rules) new (each-interned old new items number interns (IsFindable rules) f.reached findable);
      more = more;
    }
    not-added NoMemory _ = tt

    pub stopped : {X : Type 0} (r : Result X Stop) (stop : Stop) → r ≡ Err stop → IsNotAdded old new items stop → IfErr r (IsStopped rules)
    stopped r stop is x = subst (λ r. IfErr r (IsStopped rules)) (sym is) (not-added stop x)
