-- The breaks of RE1 and RE2, place by place.
use Rattle.std.proofs.Common.{◌≡◌, ℕ, ◌+◌, ◌<◌, ◌≤◌, inl, inr, List, [], ◌∷◌, ◌++◌, length, get_or, Bool, false, Some, refl, ap, subst, arith, ⊎_elim}
use Rattle.std.specs.Prelude.{◌↔◌, IsTrue, slice_get}
use Rattle.std.proofs.lemmas.Bool.{cases_lt}
use Rattle.std.proofs.lemmas.List.{get_or_append_left, get_or-append-add}
use Rattle.std.proofs.lemmas.Option.{slice_get_within, get_or_from_slice_get}
use Rattle.eq_base.specs.Tree.{Tree, size}
use Rattle.eq_base.specs.Pattern.{PatternCell}
use Rattle.eq_base.specs.Rules.{right_side}
use Rattle.eq_base.specs.declared.head.Head.{Head}
use Rattle.eq_base.specs.declared.rules.Right.{Right}
use Rattle.eq_base.specs.declared.rules.Right.TheVariants as rights
use Rattle.eq_base.specs.RuleList.{RuleList}
use Rattle.eq_base.specs.declared.rules.Equation.{Equation}
use Rattle.regularity.specs.Occurrences.{Repeats, IsUnbound}
use Rattle.regularity.specs.Restrictions.{HasUnbound}
use Rattle.regularity.specs.Single.{IsSingle}
use Rattle.regularity.specs.WellFormed.{right_size, IsWellFormed, AreWellFormed}
use Rattle.regularity.specs.Violations.{IsRepeated, IsUnboundBreak, IsOfOne}
use Rattle.regularity.specs.Listing.{Precedes, Lists, break_at}
use Rattle.regularity.specs.Looking.{ListsBefore}
use Rattle.regularity.specs.declared.breaks.Break.{Break}
use Rattle.regularity.proofs.Order.{lists_same, lists_moved, lists_found, lists_missed}

-- an operation has no variables
pub operation_bound : (left : Tree (PatternCell Head)) (right : Right) → ((p : Tree (PatternCell Head)) → right ≡ rights.Tree p → ⊥) → (place : ℕ) → HasUnbound left (right_side right) place → ⊥
operation_bound left (rights.Tree p) other place u = other p refl
operation_bound left (rights.Schema op) other place u = u

-- one more equation is told to be single, or not
pub tells_more : (es : List Equation) (singles : List Bool) (n : ℕ) (e : Equation) (b : Bool) → length singles ≡ n → slice_get es n ≡ Some e → IsTrue b ↔ IsSingle e → ((k : ℕ) (d : Equation) → k < n → slice_get es k ≡ Some d → IsTrue (get_or singles k false) ↔ IsSingle d) → (k : ℕ) (d : Equation) → k < n + 1 → slice_get es k ≡ Some d → IsTrue (get_or (singles ++ b ∷ []) k false) ↔ IsSingle d
tells_more es singles n e b long listed is tells k d lt there =
    ⊎_elim
    (λ below. rw (get_or_append_left singles (b ∷ []) false k (omega arith)) (tells k d below there))
    (λ past.
    let same : k ≡ length singles + 0 = omega arith in
    let again : k ≡ n = omega arith in
    let own : e ≡ d = let at = ap (slice_get es) again in cc in
    rw (same, get_or-append-add singles (b ∷ []) 0 false) (subst (λ f. IsTrue b ↔ IsSingle f) own is))
    (cases_lt k n)

module _ (rules : RuleList) where
  -- ---- what holds of each break of one equation

  second_is_first : (b : Break) → IsOfOne rules b → b.second ≡ b.first
  second_is_first b h = ⊎_elim (λ r. r.second) (λ u. u.second) h

  first_below : (b : Break) → IsOfOne rules b → b.first < length rules.equations
  first_below b h = ⊎_elim (λ r. slice_get_within rules.equations b.first r.equation r.listed) (λ u. slice_get_within rules.equations b.first u.equation u.listed) h

  restriction_below : (b : Break) → IsOfOne rules b → (0 < b.restriction) × (b.restriction < 3)
  restriction_below b h = ⊎_elim (λ r. (omega (arith, r.restriction), omega (arith, r.restriction))) (λ u. (omega (arith, u.restriction), omega (arith, u.restriction))) h

  repeated_only : (b : Break) → IsOfOne rules b → b.restriction ≡ 1 → IsRepeated rules b
  repeated_only b h is = ⊎_elim (λ r. r) (λ u. absurd (omega (arith, u.restriction))) h

  unbound_only : (b : Break) → IsOfOne rules b → b.restriction ≡ 2 → IsUnboundBreak rules b
  unbound_only b h is = ⊎_elim (λ r. absurd (omega (arith, r.restriction))) (λ u. u) h

  -- ---- one equation

  module _ (first : ℕ) (e : Equation) (listed : slice_get rules.equations first ≡ Some e) where
    same_equation : (n : ℕ) (d : Equation) → n ≡ first → slice_get rules.equations n ≡ Some d → d ≡ e
    same_equation n d is there = cc

    pub repeated_here : (place : ℕ) → Repeats e.left place ↔ IsOfOne rules (break_at 1 first place first)
    repeated_here place = (
      λ repeats. inl (record { restriction = refl; equation = e; listed = listed; repeats = repeats; second = refl }),
      λ h. let r = repeated_only (break_at 1 first place first) h refl in subst (λ (d : Equation). Repeats d.left place) (same_equation first r.equation refl r.listed) r.repeats,
    )

    repeated_within : (b : Break) → IsOfOne rules b → b.restriction ≡ 1 → b.first ≡ first → b.place < size e.left
    repeated_within b h is here =
        let r = repeated_only b h is in
        subst (λ (d : Equation). b.place < size d.left) (same_equation b.first r.equation here r.listed) r.repeats.here.there

    pub unbound_here : (right : Tree (PatternCell Head)) → e.right ≡ rights.Tree right → (place : ℕ) → IsUnbound e.left right place ↔ IsOfOne rules (break_at 2 first place first)
    unbound_here right is place = (
      λ unbound. inr (record { restriction = refl; equation = e; listed = listed; unbound = rw is unbound; second = refl }),
      λ h.
          let u = unbound_only (break_at 2 first place first) h refl in
          let here : HasUnbound e.left (right_side e.right) place = subst (λ (d : Equation). HasUnbound d.left (right_side d.right) place) (same_equation first u.equation refl u.listed) u.unbound in
          subst (λ r. HasUnbound e.left (right_side r) place) is here,
    )

    unbound_at : (b : Break) → IsOfOne rules b → b.restriction ≡ 2 → b.first ≡ first → HasUnbound e.left (right_side e.right) b.place
    unbound_at b h is here =
        let u = unbound_only b h is in
        subst (λ (d : Equation). HasUnbound d.left (right_side d.right) b.place) (same_equation b.first u.equation here u.listed) u.unbound

    well_formed : AreWellFormed rules → IsWellFormed e
    well_formed w = subst IsWellFormed (get_or_from_slice_get rules.equations first e e listed) (w.each first e (slice_get_within rules.equations first e listed))

    -- the numbers of a right side's cells fit
    pub right_small : AreWellFormed rules → (right : Tree (PatternCell Head)) → e.right ≡ rights.Tree right → size right ≤ 65535
    right_small w right is = subst (λ r. right_size r ≤ 65535) is (well_formed w).right_size

    -- ---- from place to place

    next_place : (r place : ℕ) (b : Break) → IsOfOne rules b → Precedes b (break_at r first place (first + 1)) ↔ Precedes b (break_at r first (place + 1) first)
    next_place r place b h = let second = second_is_first b h in (λ before. grind arith, λ before. grind arith)

    next_equation : (r end : ℕ) → ((b : Break) → IsOfOne rules b → b.restriction ≡ r → b.first ≡ first → b.place < end) → (b : Break) → IsOfOne rules b → Precedes b (break_at r first end first) ↔ Precedes b (break_at r (first + 1) 0 (first + 1))
    next_equation r end within b h =
        let second = second_is_first b h in
        let below = within b h in
        (λ before. grind arith, λ before. grind arith)

    module _ (found : List Break) where
      pub place_found : (r place : ℕ) → IsOfOne rules (break_at r first place first) → ListsBefore (IsOfOne rules) r first place first found → ListsBefore (IsOfOne rules) r first (place + 1) first (found ++ break_at r first place first ∷ [])
      place_found r place here l = lists_moved (IsOfOne rules) r first place (first + 1) r first (place + 1) first (found ++ break_at r first place first ∷ []) (next_place r place) (lists_found (IsOfOne rules) r first place first found l here)

      pub place_missed : (r place : ℕ) → (IsOfOne rules (break_at r first place first) → ⊥) → ListsBefore (IsOfOne rules) r first place first found → ListsBefore (IsOfOne rules) r first (place + 1) first found
      place_missed r place none l = lists_moved (IsOfOne rules) r first place (first + 1) r first (place + 1) first found (next_place r place) (lists_missed (IsOfOne rules) r first place first found l none)

      pub repeated_done : (end : ℕ) → size e.left ≤ end → ListsBefore (IsOfOne rules) 1 first end first found → ListsBefore (IsOfOne rules) 1 (first + 1) 0 (first + 1) found
      repeated_done end past l = lists_moved (IsOfOne rules) 1 first end first 1 (first + 1) 0 (first + 1) found (next_equation 1 end (λ b h is here. omega (arith, repeated_within b h is here))) l

      pub unbound_done : (right : Tree (PatternCell Head)) → e.right ≡ rights.Tree right → (end : ℕ) → size right ≤ end → ListsBefore (IsOfOne rules) 2 first end first found → ListsBefore (IsOfOne rules) 2 (first + 1) 0 (first + 1) found
      unbound_done right right_is end past l =
          let within = λ (b : Break) (h : IsOfOne rules b) (is : b.restriction ≡ 2) (here : b.first ≡ first). let u : IsUnbound e.left right b.place = subst (λ r. HasUnbound e.left (right_side r) b.place) right_is (unbound_at b h is here) in let t : b.place < end = omega (arith, u.here.there) in t in
          lists_moved (IsOfOne rules) 2 first end first 2 (first + 1) 0 (first + 1) found (next_equation 2 end within) l

      pub operation_done : ((right : Tree (PatternCell Head)) → e.right ≡ rights.Tree right → ⊥) → ListsBefore (IsOfOne rules) 2 first 0 first found → ListsBefore (IsOfOne rules) 2 (first + 1) 0 (first + 1) found
      operation_done other l = lists_moved (IsOfOne rules) 2 first 0 first 2 (first + 1) 0 (first + 1) found (next_equation 2 0 (λ b h is here. absurd (operation_bound e.left e.right other b.place (unbound_at b h is here)))) l

  -- ---- from restriction to restriction

  pub unbound_start : (found : List Break) (n : ℕ) → length rules.equations ≤ n → ListsBefore (IsOfOne rules) 1 n 0 n found → ListsBefore (IsOfOne rules) 2 0 0 0 found
  unbound_start found n past l =
      lists_moved (IsOfOne rules) 1 n 0 n 2 0 0 0 found
      (λ b h. let below = first_below b h in (λ before. grind arith, λ before. grind arith))
      l

  pub of_one_done : (found : List Break) (n : ℕ) → length rules.equations ≤ n → ListsBefore (IsOfOne rules) 2 n 0 n found → Lists (IsOfOne rules) found
  of_one_done found n past l =
      lists_same _ (IsOfOne rules) found (λ b h. h.0)
      (λ b h. (h, let below = first_below b h in let few = restriction_below b h in grind arith))
      l
