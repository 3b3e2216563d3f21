-- The merged pattern of two patterns with a common instance is each of them, with patterns in the place of its variables.
use Rattle.std.proofs.Common.{◌≡◌, ℕ, zero, suc, ◌+◌, ◌<◌, ◌≤◌, true, false, Option, Some, None, inl, inr, ◌⊎◌, List, [], ◌∷◌, ◌++◌, append_assoc, refl, sym, ◌∙◌, ap, subst, arith, ⊎_elim}
use Rattle.std.specs.Prelude.{Contains, nat_eq}
use Rattle.std.specs.List.{AllByRecursion, IsDistinct}
use Rattle.std.proofs.lemmas.Bool.{cases_eq, cases_lt, ne_eqb}
use Rattle.std.proofs.lemmas.List.{append-nil}
use Rattle.eq_base.specs.Tree.{Tree, Forest, node, empty, grow, head_of, args_of, count, size, nth_subtree, map_heads, map_all_heads, Position, subtree_at, subtree_in}
use Rattle.eq_base.specs.Storing.{join}
use Rattle.eq_base.specs.Pattern.{PatternCell, fixed, variable, restricted, Classes, Substitution, variables, all_variables, IsLinear}
use Rattle.eq_base.specs.declared.head.Head as heads
use Rattle.eq_base.proofs.Instances.{Fits, FitAll, instance_from_fits}
use Rattle.eq_base.proofs.Scans.{forest_from, forest_from-start, forest_from-node, forest_from-args, forest_from-end}
use Rattle.regularity.specs.Arities.{HasArities, HaveArities, AgreeOnArities}
use Rattle.regularity.specs.Common.{HaveCommon}
use Rattle.regularity.specs.Facing.{DoClash}
use Rattle.regularity.specs.Occurrences.{variable_of, OccursAt, Repeats, IsUnbound}
use Rattle.regularity.specs.Merge.{merge, merge_all, merged, named, all_named, cell_over, fill}
use Rattle.regularity.specs.MergedParts.{IsOverLeft}
use Rattle.std.proofs.lemmas.List.Elements.{Contains-append_right, Contains-append_cases}
use Rattle.regularity.proofs.Faces.{contains_first, contains_here}
use Rattle.regularity.proofs.Clashes.{clash_at}
use Rattle.regularity.proofs.Listed.{part_has_arities}
use Rattle.regularity.proofs.Finding.{variable_no_head, no_head_size}

abbrev Pattern : Type 0
Pattern = Tree (PatternCell heads.Head)

abbrev Patterns : Type 0
Patterns = Forest (PatternCell heads.Head)

-- ---- the merge

-- no two cells at one position clash
abbrev NoClash : Classes heads.Head → Patterns → Patterns → Type 0
NoClash in_class ps rs = (i : ℕ) (q : Position) (t u : Pattern) → subtree_in ps i q ≡ Some t → subtree_in rs i q ≡ Some u → DoClash in_class (head_of t) (head_of u) → ⊥

-- every head is of every class
abbrev every : Classes (PatternCell heads.Head)
every class h = true

-- a pattern fits itself, with other names of variables
mutual
  fits_own : (n : ℕ) (p : Pattern) → Fits every (map_heads cell_over p) (named n p)
  fits_own n (node (fixed h) ps) = (refl, fit_own (suc n) ps)
  fits_own n (node (variable x) ps) = tt
  fits_own n (node (restricted x class) ps) = tt

  fit_own : (n : ℕ) (ps : Patterns) → FitAll every (map_all_heads cell_over ps) (all_named n ps)
  fit_own n empty = tt
  fit_own n (grow p ps) = (fits_own n p, fit_own (n + size p) ps)

-- heads over different numbers of arguments clash
pub counts_same : (in_class : Classes heads.Head) (arity : heads.Head → ℕ) (g h : heads.Head) (us vs : Patterns) → count us ≡ arity g → count vs ≡ arity h → (DoClash in_class (fixed g) (fixed h) → ⊥) → count us ≡ count vs
counts_same in_class arity g h us vs a b none =
    ⊎_elim (λ e. e) (λ differ. absurd (none (tt, tt, λ k e f. differ (a ∙ ap arity (e ∙ sym f) ∙ sym b)))) (cases_eq (count us) (count vs))

module _ (in_class : Classes heads.Head) (arity : heads.Head → ℕ) where
  mutual
    fits_merged : (n : ℕ) (p r : Pattern) → HasArities arity p → HasArities arity r → ((q : Position) (t u : Pattern) → subtree_at p q ≡ Some t → subtree_at r q ≡ Some u → DoClash in_class (head_of t) (head_of u) → ⊥) → Fits every (map_heads cell_over p) (named n (merge p r))
    fits_merged n (node (fixed g) us) (node (fixed h) vs) a b none =
        (refl, fit_merged (suc n) us vs a.1 b.1 (λ i q t u e f. none (i ∷ q) t u e f) (counts_same in_class arity g h us vs a.0 b.0 (none [] (node (fixed g) us) (node (fixed h) vs) refl refl)))
    fits_merged n (node (fixed g) us) (node (variable y) vs) a b none = (refl, fit_own (suc n) us)
    fits_merged n (node (fixed g) us) (node (restricted y class) vs) a b none = (refl, fit_own (suc n) us)
    fits_merged n (node (variable x) us) r a b none = tt
    fits_merged n (node (restricted x other) us) r a b none = tt

    fit_merged : (n : ℕ) (ps rs : Patterns) → HaveArities arity ps → HaveArities arity rs → NoClash in_class ps rs → count ps ≡ count rs → FitAll every (map_all_heads cell_over ps) (all_named n (merge_all ps rs))
    fit_merged n empty empty a b none e = tt
    fit_merged n empty (grow r rs) a b none e = absurd (omega arith)
    fit_merged n (grow p ps) empty a b none e = absurd (omega arith)
    fit_merged n (grow p ps) (grow r rs) a b none e =
        (fits_merged n p r a.0 b.0 (λ q t u f g. none 0 q t u f g), fit_merged (n + size (merge p r)) ps rs a.1 b.1 (λ i q t u f g. none (suc i) q t u f g) (omega arith))

-- ---- no variable occurs twice

mutual
  variables-over : (p : Pattern) → variables (map_heads cell_over p) ≡ variables p
  variables-over (node (fixed h) ps) = all_variables-over ps
  variables-over (node (variable x) ps) = refl
  variables-over (node (restricted x class) ps) = refl

  all_variables-over : (ps : Patterns) → all_variables (map_all_heads cell_over ps) ≡ all_variables ps
  all_variables-over empty = refl
  all_variables-over (grow p ps) = rw (variables-over p, all_variables-over ps) refl

all_variables-join : (ps rs : Patterns) → all_variables (join ps rs) ≡ all_variables ps ++ all_variables rs
all_variables-join empty rs = refl
all_variables-join (grow p ps) rs = rw (all_variables-join ps rs, append_assoc (variables p) (all_variables ps) (all_variables rs)) refl

variables-here : (p : Pattern) (x : ℕ) → variable_of (head_of p) ≡ Some x → variables p ≡ x ∷ []
variables-here (node (fixed h) ps) x e = cc
variables-here (node (variable y) ps) x e = let same : y ≡ x = cc in rw same refl
variables-here (node (restricted y class) ps) x e = let same : y ≡ x = cc in rw same refl

variables-below : (p : Pattern) → variable_of (head_of p) ≡ None → variables p ≡ all_variables (args_of p)
variables-below (node (fixed h) ps) e = refl
variables-below (node (variable y) ps) e = cc
variables-below (node (restricted y class) ps) e = cc

unequal_all : (x : ℕ) (xs : List ℕ) → (Contains xs x → ⊥) → AllByRecursion (λ y. nat_eq x y ≡ false) xs
unequal_all x [] none = tt
unequal_all x (y ∷ ys) none = (
  ne_eqb x y (λ same. none (subst (Contains (y ∷ ys)) (sym same) (contains_first y ys))),
  unequal_all x ys (λ h. none (Contains-append_right (y ∷ []) ys x h)),
)

distinct_none : IsDistinct nat_eq []
unfolding IsDistinct
distinct_none = tt

distinct_more : (x : ℕ) (xs : List ℕ) → (Contains xs x → ⊥) → IsDistinct nat_eq xs → IsDistinct nat_eq (x ∷ xs)
unfolding IsDistinct
distinct_more x xs none d = (unequal_all x xs none, d)

module _ (arity : heads.Head → ℕ) (p : Pattern) (a : HasArities arity p) where
  -- the variables from a cell on
  abbrev from : ℕ → List ℕ
  from i = all_variables (forest_from p i)

  from-head : (i : ℕ) → i < size p → variable_of (head_of (nth_subtree p i)) ≡ None → from i ≡ from (i + 1)
  from-head i lt none =
      ap all_variables (forest_from-node p i lt)
      ∙ ap (λ xs. xs ++ from (i + size (nth_subtree p i))) (variables-below (nth_subtree p i) none)
      ∙ sym (all_variables-join (args_of (nth_subtree p i)) (forest_from p (i + size (nth_subtree p i))))
      ∙ ap all_variables (sym (forest_from-args p i lt))

  from-variable : (i x : ℕ) → i < size p → variable_of (head_of (nth_subtree p i)) ≡ Some x → from i ≡ x ∷ from (i + 1)
  from-variable i x lt own =
      let one : size (nth_subtree p i) ≡ 1 = no_head_size arity (nth_subtree p i) (part_has_arities arity p i lt a) (variable_no_head (nth_subtree p i) x own) in
      ap all_variables (forest_from-node p i lt)
      ∙ ap (λ xs. xs ++ from (i + size (nth_subtree p i))) (variables-here (nth_subtree p i) x own)
      ∙ ap (λ m. x ∷ from (i + m)) one

  -- a variable from a cell on occurs there
  occurs_from : (left i x : ℕ) → i + left ≡ size p → Contains (from i) x → (k : ℕ) × (i ≤ k) × OccursAt p k x
  occurs_from zero i x e c =
      let none : from i ≡ [] = ap all_variables (forest_from-end p i (omega arith)) in
      absurd (let h : Contains [] x = subst (λ xs. Contains xs x) none c in omega (arith, h.1))
  occurs_from (suc left) i x e c = by_variable (λ h. let w = occurs_from left (i + 1) x (omega arith) h in (w.0, omega (arith, w.1), w.2)) (variable_of (head_of (nth_subtree p i))) refl
    where
      by_variable : (Contains (from (i + 1)) x → (k : ℕ) × (i ≤ k) × OccursAt p k x) → (o : Option ℕ) → variable_of (head_of (nth_subtree p i)) ≡ o → (k : ℕ) × (i ≤ k) × OccursAt p k x
      by_variable later None own = later (subst (λ xs. Contains xs x) (from-head i (omega arith) own) c)
      by_variable later (Some y) own =
          ⊎_elim
          (λ first. (i, omega arith, record { there = omega arith; is = own ∙ ap (λ z. Some z) (contains_here x y first) }))
          later
          (Contains-append_cases (y ∷ []) (from (i + 1)) x (subst (λ xs. Contains xs x) (from-variable i y (omega arith) own) c))

  module _ (none : (at : ℕ) → Repeats p at → ⊥) where
    distinct_from : (left i : ℕ) → i + left ≡ size p → IsDistinct nat_eq (from i)
    distinct_from zero i e = let no_more : from i ≡ [] = ap all_variables (forest_from-end p i (omega arith)) in rw no_more distinct_none
    distinct_from (suc left) i e = by_variable (distinct_from left (i + 1) (omega arith)) (variable_of (head_of (nth_subtree p i))) refl
      where
        by_variable : IsDistinct nat_eq (from (i + 1)) → (o : Option ℕ) → variable_of (head_of (nth_subtree p i)) ≡ o → IsDistinct nat_eq (from i)
        by_variable later None own = rw (from-head i (omega arith) own) later
        by_variable later (Some y) own =
            rw (from-variable i y (omega arith) own)
            (distinct_more y (from (i + 1))
            (λ again. let w = occurs_from left (i + 1) y (omega arith) again in none w.0 (record { x = y; here = w.2; earlier = record { at = i; before = omega (arith, w.1); occurs = record { there = omega arith; is = own } } }))
            later)

    pub linear_of_single : IsLinear p
    linear_of_single = subst (IsDistinct nat_eq) (ap all_variables (forest_from-start p) ∙ append-nil (variables p)) (distinct_from (size p) 0 (omega arith))

-- ---- what the variables of a pattern stand for in the merge

pub merge_fills : (in_class : Classes heads.Head) (p r : Pattern) → AgreeOnArities p r → HaveCommon in_class p r → ((at : ℕ) → Repeats p at → ⊥) → (θ : Substitution (PatternCell heads.Head)) × (fill θ p ≡ merged p r)
merge_fills in_class p r agree common none =
    let linear = linear_of_single agree.arity p agree.one none in
    let fits = fits_merged in_class agree.arity 0 p r agree.one agree.other (λ q t u e f clash. common q (clash_at in_class p r q t u e f clash)) in
    let i = instance_from_fits every (map_heads cell_over p) (merged p r) (rw (variables-over p) linear) fits in
    (i.substitution, i.applied)

-- ---- variables that occur on a left side

occurs_or_not : (p : Pattern) (x n : ℕ) → ((k : ℕ) × OccursAt p k x) ⊎ ((k : ℕ) → k < n → OccursAt p k x → ⊥)
occurs_or_not p x zero = inr (λ k lt o. absurd (omega arith))
occurs_or_not p x (suc n) =
    ⊎_elim (λ found. inl found)
    (λ none. ⊎_elim
    (λ is. ⊎_elim (λ lt. inl (n, record { there = lt; is = is })) (λ past. inr (λ k lt o. ⊎_elim (λ below. none k below o) (λ at. absurd (omega (arith, o.there))) (cases_lt k n))) (cases_lt n (size p)))
    (λ differ. inr (λ k lt o. ⊎_elim (λ below. none k below o) (λ at. let same : k ≡ n = omega arith in differ (subst (λ m. variable_of (head_of (nth_subtree p m)) ≡ Some x) same o.is)) (cases_lt k n)))
    (variable_decided (variable_of (head_of (nth_subtree p n))) x))
    (occurs_or_not p x n)
  where
    variable_decided : (o : Option ℕ) (x : ℕ) → (o ≡ Some x) ⊎ (o ≡ Some x → ⊥)
    variable_decided None x = inr (λ e. cc)
    variable_decided (Some y) x = ⊎_elim (λ e. inl (ap (λ z. Some z) e)) (λ differ. inr (λ e. differ (cc))) (cases_eq y x)

pub over_left : (left right : Pattern) → ((at : ℕ) → IsUnbound left right at → ⊥) → IsOverLeft left right
over_left left right bound at x o =
    ⊎_elim (λ found. found) (λ none. absurd (bound at (record { x = x; here = o; not_left = λ k own. none k own.there own }))) (occurs_or_not left x (size left))
