-- The breaks of RE3 and RE4, place by place.
use Rattle.std.proofs.Common.{◌≡◌, ℕ, ◌+◌, ◌<◌, ◌≤◌, inl, inr, List, length, get_or, Bool, true, false, not, Some, refl, ap, subst, arith, ⊎_elim}
use Rattle.std.specs.Prelude.{IsTrue, slice_get}
use Rattle.std.proofs.lemmas.Option.{slice_get_within}
use Rattle.eq_base.specs.Tree.{size, nth_subtree}
use Rattle.eq_base.specs.Meeting.{in_class_of}
use Rattle.eq_base.specs.RuleList.{RuleList}
use Rattle.eq_base.specs.declared.rules.Equation.{Equation}
use Rattle.regularity.specs.Common.{HaveCommon}
use Rattle.regularity.specs.Single.{IsSingle, TellSingles}
use Rattle.regularity.specs.Looking.{IsPlaceOf, ListsBefore}
use Rattle.regularity.specs.Occurrences.{IsTestedPlace}
use Rattle.regularity.specs.Violations.{AreAmbiguous, IsAmbiguous, IsOverlap, IsOfTwo}
use Rattle.regularity.specs.Listing.{Lists, break_at}
use Rattle.regularity.specs.declared.breaks.Break.{Break}
use Rattle.regularity.proofs.Order.{lists_from, lists_next_place, lists_next_first, lists_next_restriction, lists_end}

pub not_true : (b : Bool) → IsTrue (not b) → IsTrue b → ⊥
not_true true differ same = cc
not_true false differ same = cc

pub true_of_not : (b : Bool) → (IsTrue b → ⊥) → IsTrue (not b)
true_of_not true none = absurd (none refl)
true_of_not false none = refl

module _ (rules : RuleList) where
  ambiguous_only : (b : Break) → IsOfTwo rules b → b.restriction ≡ 3 → IsAmbiguous rules b
  ambiguous_only b h is = ⊎_elim (λ r. r) (λ u. absurd (omega (arith, u.restriction))) h

  overlap_only : (b : Break) → IsOfTwo rules b → b.restriction ≡ 4 → IsOverlap rules b
  overlap_only b h is = ⊎_elim (λ r. absurd (omega (arith, r.restriction))) (λ u. u) h

  -- ---- what holds of each break of two equations

  two_below : (b : Break) → IsOfTwo rules b → b.restriction < 5
  two_below b h = ⊎_elim (λ r. omega (arith, r.restriction)) (λ u. omega (arith, u.restriction)) h

  first_below : (b : Break) → IsOfTwo rules b → b.first < length rules.equations
  first_below b h = ⊎_elim (λ r. slice_get_within rules.equations b.first r.one r.one_listed.listed) (λ u. slice_get_within rules.equations b.first u.one u.one_listed.listed) h

  second_below : (b : Break) → IsOfTwo rules b → b.second < length rules.equations
  second_below b h = ⊎_elim (λ r. slice_get_within rules.equations b.second r.other r.other_listed.listed) (λ u. slice_get_within rules.equations b.second u.other u.other_listed.listed) h

  same_equation : (n m : ℕ) (d e : Equation) → n ≡ m → slice_get rules.equations n ≡ Some d → slice_get rules.equations m ≡ Some e → d ≡ e
  same_equation n m d e is there listed = let again = ap (slice_get rules.equations) is in cc

  -- a place of the equation with a number is one of its left side
  pub place_there : (first place : ℕ) (e : Equation) → slice_get rules.equations first ≡ Some e → IsPlaceOf rules.equations first place → place < size e.left
  place_there first place e listed p = subst (λ (d : Equation). place < size d.left) (same_equation first first p.equation e refl p.listed listed) p.there

  -- ---- equations that are not single

  module _ (singles : List Bool) (told : TellSingles rules.equations singles) where
    first_told : (b : Break) → IsOfTwo rules b → IsTrue (get_or singles b.first false)
    first_told b h = ⊎_elim (λ r. (told.tells b.first r.one r.one_listed.listed).1 r.one_listed.single) (λ u. (told.tells b.first u.one u.one_listed.listed).1 u.one_listed.single) h

    second_told : (b : Break) → IsOfTwo rules b → IsTrue (get_or singles b.second false)
    second_told b h = ⊎_elim (λ r. (told.tells b.second r.other r.other_listed.listed).1 r.other_listed.single) (λ u. (told.tells b.second u.other u.other_listed.listed).1 u.other_listed.single) h

    pub first_not_single : (r first : ℕ) (found : List Break) → get_or singles first false ≡ false → ListsBefore (IsOfTwo rules) r first 0 0 found → ListsBefore (IsOfTwo rules) r (first + 1) 0 0 found
    first_not_single r first found not l = lists_next_first (IsOfTwo rules) found r first 0 (λ b h _ is. absurd (let yes : IsTrue (get_or singles first false) = subst (λ n. IsTrue (get_or singles n false)) is (first_told b h) in cc)) l

    pub second_not_single : (r first place second : ℕ) → get_or singles second false ≡ false → IsOfTwo rules (break_at r first place second) → ⊥
    second_not_single r first place second not h = let yes = second_told (break_at r first place second) h in cc

  -- ---- one first equation

  module _ (first : ℕ) (e : Equation) (listed : slice_get rules.equations first ≡ Some e) where
    tested_at : (b : Break) → IsOfTwo rules b → b.restriction ≡ 4 → b.first ≡ first → IsTestedPlace e.left b.place
    tested_at b h r is = let u = overlap_only b h r in subst (λ (d : Equation). IsTestedPlace d.left b.place) (same_equation b.first first u.one e is u.one_listed.listed listed) u.tested

    -- ---- one pair

    module _ (second : ℕ) (d : Equation) (listed' : slice_get rules.equations second ≡ Some d) where
      pub ambiguous_here : first < second → IsSingle e → IsSingle d → AreAmbiguous rules.classes e d → IsOfTwo rules (break_at 3 first 0 second)
      ambiguous_here order single single' ambiguous = inl (record {
        restriction = refl;
        one = e;
        other = d;
        one_listed = record { listed = listed; single = single };
        other_listed = record { listed = listed'; single = single' };
        order = order;
        root = refl;
        ambiguous = ambiguous;
      })

      pub not_ambiguous_here : IsOfTwo rules (break_at 3 first 0 second) → IsSingle d × AreAmbiguous rules.classes e d
      not_ambiguous_here h =
          let r = ambiguous_only (break_at 3 first 0 second) h refl in
          let own = same_equation first first r.one e refl r.one_listed.listed listed in
          let own' = same_equation second second r.other d refl r.other_listed.listed listed' in
          (subst IsSingle own' r.other_listed.single, subst (λ f. AreAmbiguous rules.classes f d) own (subst (λ f. AreAmbiguous rules.classes r.one f) own' r.ambiguous))

      module _ (place : ℕ) where
        pub overlap_here : 0 < place → IsTestedPlace e.left place → IsSingle e → IsSingle d → HaveCommon (in_class_of rules.classes) (nth_subtree e.left place) d.left → IsOfTwo rules (break_at 4 first place second)
        overlap_here below tested single single' common = inr (record {
          restriction = refl;
          one = e;
          other = d;
          one_listed = record { listed = listed; single = single };
          other_listed = record { listed = listed'; single = single' };
          below = below;
          tested = tested;
          common = common;
        })

        pub not_overlap_here : IsOfTwo rules (break_at 4 first place second) → IsSingle d × HaveCommon (in_class_of rules.classes) (nth_subtree e.left place) d.left
        not_overlap_here h =
            let r = overlap_only (break_at 4 first place second) h refl in
            let own = same_equation first first r.one e refl r.one_listed.listed listed in
            let own' = same_equation second second r.other d refl r.other_listed.listed listed' in
            (subst IsSingle own' r.other_listed.single, subst (λ (f : Equation). HaveCommon (in_class_of rules.classes) (nth_subtree f.left place) d.left) own (subst (λ (f : Equation). HaveCommon (in_class_of rules.classes) (nth_subtree r.one.left place) f.left) own' r.common))

    -- ---- from place to place

    module _ (found : List Break) where
      pub ambiguous_start : ListsBefore (IsOfTwo rules) 3 first 0 0 found → ListsBefore (IsOfTwo rules) 3 first 0 (first + 1) found
      ambiguous_start l = lists_from (IsOfTwo rules) found 3 first 0 (first + 1) (λ b h r f p. let a = ambiguous_only b h r in omega (arith, a.order, f)) l

      pub ambiguous_done : (end : ℕ) → length rules.equations ≤ end → ListsBefore (IsOfTwo rules) 3 first 0 end found → ListsBefore (IsOfTwo rules) 3 (first + 1) 0 0 found
      ambiguous_done end past l =
          lists_next_first (IsOfTwo rules) found 3 first 1 (λ b h r f. let a = ambiguous_only b h r in omega (arith, a.root))
          (lists_next_place (IsOfTwo rules) found 3 first 0 end (λ b h r f p. let below = second_below b h in omega arith) l)

      pub root_done : ListsBefore (IsOfTwo rules) 4 first 0 0 found → ListsBefore (IsOfTwo rules) 4 first 1 0 found
      root_done l = lists_next_place (IsOfTwo rules) found 4 first 0 0 (λ b h r f p. let o = overlap_only b h r in omega (arith, o.below, p)) l

      pub untested_done : (place : ℕ) → (IsTestedPlace e.left place → ⊥) → ListsBefore (IsOfTwo rules) 4 first place 0 found → ListsBefore (IsOfTwo rules) 4 first (place + 1) 0 found
      untested_done place not l = lists_next_place (IsOfTwo rules) found 4 first place 0 (λ b h r f p. absurd (not (subst (IsTestedPlace e.left) p (tested_at b h r f)))) l

      pub place_done : (place end : ℕ) → length rules.equations ≤ end → ListsBefore (IsOfTwo rules) 4 first place end found → ListsBefore (IsOfTwo rules) 4 first (place + 1) 0 found
      place_done place end past l = lists_next_place (IsOfTwo rules) found 4 first place end (λ b h r f p. let below = second_below b h in omega arith) l

      pub overlaps_done : (end : ℕ) → size e.left ≤ end → ListsBefore (IsOfTwo rules) 4 first end 0 found → ListsBefore (IsOfTwo rules) 4 (first + 1) 0 0 found
      overlaps_done end past l = lists_next_first (IsOfTwo rules) found 4 first end (λ b h r f. let t = tested_at b h r f in omega (arith, t.there)) l

  -- ---- from restriction to restriction

  module _ (found : List Break) (end : ℕ) (past : length rules.equations ≤ end) where
    pub overlaps_start : ListsBefore (IsOfTwo rules) 3 end 0 0 found → ListsBefore (IsOfTwo rules) 4 0 0 0 found
    overlaps_start l = lists_next_restriction (IsOfTwo rules) found 3 end (λ b h r. let below = first_below b h in omega arith) l

    pub of_two_done : ListsBefore (IsOfTwo rules) 4 end 0 0 found → Lists (IsOfTwo rules) found
    of_two_done l = lists_end (IsOfTwo rules) found 5 two_below (lists_next_restriction (IsOfTwo rules) found 4 end (λ b h r. let below = first_below b h in omega arith) l)
