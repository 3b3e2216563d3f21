-- The breaks of RE5, place by place.
use Rattle.std.proofs.Common.{◌≡◌, ℕ, ◌+◌, ◌<◌, ◌≤◌, ◌⊎◌, inl, inr, List, [], ◌∷◌, length, get_or, Bool, false, Some, refl, sym, ◌∙◌, ap, subst, arith, ⊎_elim}
use Rattle.std.specs.Prelude.{IsTrue, Contains, slice_get}
use Rattle.std.proofs.lemmas.Bool.{cases_lt}
use Rattle.std.proofs.lemmas.Option.{slice_get_within}
use Rattle.eq_base.specs.Tree.{Tree, size, nth_subtree, Position, IsBefore}
use Rattle.eq_base.specs.Pattern.{PatternCell, Classes}
use Rattle.eq_base.specs.Meeting.{in_class_of}
use Rattle.eq_base.specs.RuleList.{RuleList}
use Rattle.eq_base.specs.declared.rules.Equation.{Equation}
use Rattle.regularity.specs.Single.{IsSingle, TellSingles}
use Rattle.regularity.specs.Looking.{IsPlaceOf, ListsBefore}
use Rattle.regularity.specs.Occurrences.{IsTestedPlace}
use Rattle.regularity.specs.Violations.{IsOfOne, IsOfTwo}
use Rattle.regularity.specs.Listing.{Lists, break_at}
use Rattle.regularity.specs.declared.breaks.Break.{Break}
use Rattle.regularity.proofs.Order.{same_break, lists_from, lists_next_place, lists_next_first, lists_next_restriction, lists_end}
use Rattle.sequentiality.specs.Comparing.{MismatchAt, IsFirstClash, HasFirstMismatch, IsComparison}
use Rattle.sequentiality.specs.declared.comparison.Comparison as comparisons
use Rattle.sequentiality.specs.declared.comparison.Comparison.TheVariants.{Clash, Mismatch, Common}
use Rattle.sequentiality.specs.Violations.{IsToldBefore, IsNotSequential, IsEarlier, IsTold}
use Rattle.sequentiality.proofs.Agreeing.{clash_no_mismatch}

-- ---- the first clash and the first mismatch

in_order : (p q : Position) → IsBefore p q ⊎ ((p ≡ q) ⊎ IsBefore q p)
in_order [] [] = inr (inl refl)
in_order [] (j ∷ q) = inl tt
in_order (i ∷ p) [] = inr (inr tt)
in_order (i ∷ p) (j ∷ q) =
    ⊎_elim (λ less. inl (inl less))
    (λ past. ⊎_elim (λ more. inr (inr (inl more)))
    (λ not_more. let same : i ≡ j = omega arith in ⊎_elim (λ before. inl (inr (same, before))) (λ rest. ⊎_elim (λ e. inr (inl (ap (λ k. k ∷ p) same ∙ ap (λ l. j ∷ l) e))) (λ behind. inr (inr (inr (sym same, behind)))) rest) (in_order p q))
    (cases_lt j i))
    (cases_lt i j)

-- where a clash comes first, no mismatch does
pub clash_comes_first : {H : Type 0} (in_class : Classes H) (p r : Tree (PatternCell H)) (at : Position) → IsFirstClash in_class p r at → HasFirstMismatch in_class p r → ⊥
clash_comes_first in_class p r at c (at', m) =
    ⊎_elim
    (λ before. (m.before at before).no_clash c.clash)
    (λ rest. ⊎_elim
    (λ same. clash_no_mismatch in_class p r at c.clash (subst (MismatchAt p r) (sym same) m.mismatch))
    (λ behind. (c.before at' behind).no_mismatch m.mismatch)
    rest)
    (in_order at at')

-- a comparison that is no mismatch
pub no_mismatch : {H : Type 0} (in_class : Classes H) (p r : Tree (PatternCell H)) (c : comparisons.Comparison) → IsComparison in_class p r c → ((n : ℕ) → c ≡ Mismatch n → ⊥) → HasFirstMismatch in_class p r → ⊥
no_mismatch in_class p r (Clash n) is none m = clash_comes_first in_class p r is.0 is.1 m
no_mismatch in_class p r (Mismatch n) is none m = none n refl
no_mismatch in_class p r Common is none m = (is m.0).no_mismatch m.1.mismatch

module _ (rules : RuleList) where
  -- ---- what was told before

  module _ (earlier : List Break) (lists : Lists (IsEarlier rules) earlier) (first place second : ℕ) where
    of_two_told : (b : Break) → IsOfTwo rules b → b.first ≡ first → b.place ≡ place → b.second ≡ second → IsTold earlier first place second
    of_two_told b h f p s =
        ⊎_elim
        (λ a. inl (subst (Contains earlier) (same_break b 3 first place second a.restriction f p s) (lists.all b (inr h))))
        (λ o. inr (subst (Contains earlier) (same_break b 4 first place second o.restriction f p s) (lists.all b (inr h))))
        h

    pub told_listed : IsToldBefore rules (break_at 5 first place second) → IsTold earlier first place second
    told_listed t = of_two_told t.told t.of_two t.first t.place t.second

    of_two : (r : ℕ) → 2 < r → Contains earlier (break_at r first place second) → IsToldBefore rules (break_at 5 first place second)
    of_two r more c =
        ⊎_elim
        (λ one. absurd (⊎_elim (λ a. omega (arith, a.restriction)) (λ u. omega (arith, u.restriction)) one))
        (λ two. record { told = break_at r first place second; of_two = two; first = refl; place = refl; second = refl })
        (lists.only (break_at r first place second) c)

    pub listed_told : IsTold earlier first place second → IsToldBefore rules (break_at 5 first place second)
    listed_told t = ⊎_elim (λ a. of_two 3 (omega arith) a) (λ o. of_two 4 (omega arith) o) t

  -- ---- what holds of each break of RE5

  first_below : (b : Break) → IsNotSequential rules b → b.first < length rules.equations
  first_below b h = slice_get_within rules.equations b.first h.one h.one_listed.listed

  second_below : (b : Break) → IsNotSequential rules b → b.second < length rules.equations
  second_below b h = slice_get_within rules.equations b.second h.other h.other_listed.listed

  same_equation : (n m : ℕ) (d e : Equation) → n ≡ m → slice_get rules.equations n ≡ Some d → slice_get rules.equations m ≡ Some e → d ≡ e
  same_equation n m d e is there listed = let again = ap (slice_get rules.equations) is in cc

  pub place_there : (first place : ℕ) (e : Equation) → slice_get rules.equations first ≡ Some e → IsPlaceOf rules.equations first place → place < size e.left
  place_there first place e listed p = subst (λ (d : Equation). place < size d.left) (same_equation first first p.equation e refl p.listed listed) p.there

  module _ (singles : List Bool) (told : TellSingles rules.equations singles) where
    pub first_not_single : (first : ℕ) (found : List Break) → get_or singles first false ≡ false → ListsBefore (IsNotSequential rules) 5 first 0 0 found → ListsBefore (IsNotSequential rules) 5 (first + 1) 0 0 found
    first_not_single first found not l = lists_next_first (IsNotSequential rules) found 5 first 0 (λ b h _ is. absurd (let single : IsTrue (get_or singles first false) = subst (λ n. IsTrue (get_or singles n false)) is ((told.tells b.first h.one h.one_listed.listed).1 h.one_listed.single) in cc)) l

    pub second_not_single : (first place second : ℕ) → get_or singles second false ≡ false → IsNotSequential rules (break_at 5 first place second) → ⊥
    second_not_single first place second not h = let single = (told.tells second h.other h.other_listed.listed).1 h.other_listed.single in cc

  module _ (first : ℕ) (e : Equation) (listed : slice_get rules.equations first ≡ Some e) where
    tested_at : (b : Break) → IsNotSequential rules b → b.first ≡ first → IsTestedPlace e.left b.place
    tested_at b h is = subst (λ (d : Equation). IsTestedPlace d.left b.place) (same_equation b.first first h.one e is h.one_listed.listed listed) h.tested

    module _ (second : ℕ) (d : Equation) (listed' : slice_get rules.equations second ≡ Some d) (place : ℕ) where
      pub not_sequential_here : (place ≡ 0 → first < second) → IsTestedPlace e.left place → IsSingle e → IsSingle d → HasFirstMismatch (in_class_of rules.classes) (nth_subtree e.left place) d.left → (IsToldBefore rules (break_at 5 first place second) → ⊥) → IsNotSequential rules (break_at 5 first place second)
      not_sequential_here order tested single single' mismatch not_told = record {
        restriction = refl;
        one = e;
        other = d;
        one_listed = record { listed = listed; single = single };
        other_listed = record { listed = listed'; single = single' };
        order = order;
        tested = tested;
        mismatch = mismatch;
        not_told = not_told;
      }

      pub mismatch_here : IsNotSequential rules (break_at 5 first place second) → HasFirstMismatch (in_class_of rules.classes) (nth_subtree e.left place) d.left
      mismatch_here h =
          let own = same_equation first first h.one e refl h.one_listed.listed listed in
          let own' = same_equation second second h.other d refl h.other_listed.listed listed' in
          subst (λ (f : Equation). HasFirstMismatch (in_class_of rules.classes) (nth_subtree f.left place) d.left) own (subst (λ (f : Equation). HasFirstMismatch (in_class_of rules.classes) (nth_subtree h.one.left place) f.left) own' h.mismatch)

    module _ (found : List Break) where
      pub untested_done : (place : ℕ) → (IsTestedPlace e.left place → ⊥) → ListsBefore (IsNotSequential rules) 5 first place 0 found → ListsBefore (IsNotSequential rules) 5 first (place + 1) 0 found
      untested_done place not l = lists_next_place (IsNotSequential rules) found 5 first place 0 (λ b h r f p. absurd (not (subst (IsTestedPlace e.left) p (tested_at b h f)))) l

      pub places_done : (end : ℕ) → size e.left ≤ end → ListsBefore (IsNotSequential rules) 5 first end 0 found → ListsBefore (IsNotSequential rules) 5 (first + 1) 0 0 found
      places_done end past l = lists_next_first (IsNotSequential rules) found 5 first end (λ b h r f. let t = tested_at b h f in omega (arith, t.there)) l

  module _ (first : ℕ) (found : List Break) where
    pub root_start : ListsBefore (IsNotSequential rules) 5 first 0 0 found → ListsBefore (IsNotSequential rules) 5 first 0 (first + 1) found
    root_start l = lists_from (IsNotSequential rules) found 5 first 0 (first + 1) (λ b h r f p. omega (arith, h.order p, f)) l

    pub place_done : (place end : ℕ) → length rules.equations ≤ end → ListsBefore (IsNotSequential rules) 5 first place end found → ListsBefore (IsNotSequential rules) 5 first (place + 1) 0 found
    place_done place end past l = lists_next_place (IsNotSequential rules) found 5 first place end (λ b h r f p. let below = second_below b h in omega arith) l

  pub not_sequential_done : (found : List Break) (end : ℕ) → length rules.equations ≤ end → ListsBefore (IsNotSequential rules) 5 end 0 0 found → Lists (IsNotSequential rules) found
  not_sequential_done found end past l =
      lists_end (IsNotSequential rules) found 6 (λ b h. omega (arith, h.restriction))
      (lists_next_restriction (IsNotSequential rules) found 5 end (λ b h r. let below = first_below b h in omega arith) l)

  -- ---- the whole list

  earlier_below : (b : Break) → IsEarlier rules b → b.restriction < 5
  earlier_below b h =
      ⊎_elim
      (λ one. ⊎_elim (λ a. omega (arith, a.restriction)) (λ u. omega (arith, u.restriction)) one)
      (λ two. ⊎_elim (λ a. omega (arith, a.restriction)) (λ o. omega (arith, o.restriction)) two)
      h

  pub one_before_two : (b c : Break) → IsOfOne rules b → IsOfTwo rules c → b.restriction < c.restriction
  one_before_two b c h k =
      let few : b.restriction < 3 = ⊎_elim (λ a. omega (arith, a.restriction)) (λ u. omega (arith, u.restriction)) h in
      let many : 2 < c.restriction = ⊎_elim (λ a. omega (arith, a.restriction)) (λ o. omega (arith, o.restriction)) k in
      omega arith

  pub earlier_before : (b c : Break) → IsEarlier rules b → IsNotSequential rules c → b.restriction < c.restriction
  earlier_before b c h k = let few = earlier_below b h in omega (arith, k.restriction)
