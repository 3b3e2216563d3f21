-- An equation that repeats no variable is linear, and one without unbound variables is bound.
use Rattle.std.proofs.Common.{◌≡◌, ℕ, zero, suc, List, [], ◌∷◌, ◌++◌, Bool, true, false, ◌⊎◌, inl, inr, Some, refl, sym, ap, subst, arith}
use Rattle.std.specs.Prelude.{nat_eq, Contains}
use Rattle.std.specs.List.{AllByRecursion, IsDistinct}
use Rattle.std.proofs.lemmas.Bool.{eqb-true}
use Rattle.std.proofs.lemmas.List.{append-nil}
use Rattle.eq_base.specs.Tree.{Tree, Forest, node, empty, grow, head_of, nth_subtree, nth_position, number, Position, subtree_in, IsBefore}
use Rattle.eq_base.specs.Pattern.{PatternCell, fixed, variable, restricted, variables, all_variables, IsLinear}
use Rattle.eq_base.specs.Testing.{IsPattern, ArePatterns}
use Rattle.eq_base.specs.Rewriting.{pattern}
use Rattle.orthogonal_laws.specs.Orthogonal.{IsBound}
use Rattle.eq_base.specs.declared.head.Head.{Head}
use Rattle.eq_base.proofs.Positions.{subtree_at-nth_position}
use Rattle.eq_base.proofs.Lists.{all_both}
use Rattle.regularity.specs.Occurrences.{variable_of, OccursAt, Repeats, IsUnbound}
use Rattle.regularity.proofs.Faces.{number_before}
use Rattle.eq_base.proofs.Numbers.{number_below, nth_subtree-number}
use Rattle.orthogonal_laws.proofs.Members.{In, in_first, in_next, in_left, in_right, in-contains}

all_of : {A : Type 0} (P : A → Type 0) (xs : List A) → ((x : A) → In xs x → P x) → AllByRecursion P xs
all_of P [] f = tt
all_of P (x ∷ xs) f = (f x in_first, all_of P xs (λ y i. f y (in_next i)))

in_or_not : (xs : List ℕ) (x : ℕ) → In xs x ⊎ (In xs x → ⊥)
in_or_not [] x = inr (λ n. elim n [ ])
in_or_not (y ∷ xs) x =
    elim (number_same y x) [
      | inl e ↦ inl (subst (λ k. In (y ∷ xs) k) e in_first)
      | inr n ↦ elim (in_or_not xs x) [ inl m ↦ inl (in_next m) | inr m ↦ inr (λ z. apart n m z) ]
    ]
  where
    number_same : (y x : ℕ) → (y ≡ x) ⊎ (y ≡ x → ⊥)
    number_same y x = grind arith

    apart : {y : ℕ} → (y ≡ x → ⊥) → (In xs x → ⊥) → In (y ∷ xs) x → ⊥
    apart n m in_first = n refl
    apart n m (in_next i) = m i

not_same : (x y : ℕ) → (x ≡ y → ⊥) → nat_eq x y ≡ false
not_same x y n = by_test (nat_eq x y) refl
  where
    by_test : (b : Bool) → nat_eq x y ≡ b → b ≡ false
    by_test true e = absurd (n (eqb-true x y e))
    by_test false e = refl

-- two lists with no element in both
distinct_both : (xs ys : List ℕ) → IsDistinct nat_eq xs → IsDistinct nat_eq ys → ((x : ℕ) → In xs x → In ys x → ⊥) → IsDistinct nat_eq (xs ++ ys)
unfolding IsDistinct
distinct_both [] ys d d' apart = d'
distinct_both (x ∷ xs) ys d d' apart =
    (all_both (λ y. nat_eq x y ≡ false) xs ys d.0 (all_of (λ y. nat_eq x y ≡ false) ys (λ y i. not_same x y (λ e. apart x in_first (subst (λ z. In ys z) (sym e) i)))), distinct_both xs ys d.1 d' (λ y i j. apart y (in_next i) j))

distinct_next : (x : ℕ) (ys : List ℕ) → IsDistinct nat_eq ys → (In ys x → ⊥) → IsDistinct nat_eq (x ∷ ys)
unfolding IsDistinct
distinct_next x ys d n = (all_of (λ y. nat_eq x y ≡ false) ys (λ y i. not_same x y (λ e. n (subst (λ z. In ys z) (sym e) i))), d)

distinct_none : IsDistinct nat_eq []
unfolding IsDistinct
distinct_none = tt

later : (i j : ℕ) (q r : Position) → IsBefore (j ∷ r) (i ∷ q) → IsBefore (suc j ∷ r) (suc i ∷ q)
later i j q r (inl less) = inl (omega arith)
later i j q r (inr same) = inr (ap suc same.0, same.1)

module _ {H : Type 0} where
  -- the cell is the variable, plain or restricted
  abbrev IsVariable : ℕ → PatternCell H → Type 0
  IsVariable x (fixed h) = ⊥
  IsVariable x (variable y) = y ≡ x
  IsVariable x (restricted y class) = y ≡ x

  -- the variable occurs in one of the patterns
  record OccursIn (ps : Forest (PatternCell H)) (i : ℕ) (q : Position) (x : ℕ) : Type 0 where
    part : Tree (PatternCell H)
    stands : subtree_in ps i q ≡ Some part
    is : IsVariable x (head_of part)

  record Somewhere (ps : Forest (PatternCell H)) (x : ℕ) : Type 0 where
    i : ℕ
    q : Position
    occurs : OccursIn ps i q x

  somewhere : (ps : Forest (PatternCell H)) (x : ℕ) → In (all_variables ps) x → Somewhere ps x
  somewhere empty x n = elim n [ ]
  somewhere (grow (node (fixed g) us) ps) x n =
      elim (in_either (all_variables us) n) [
        | inl m ↦ let s = somewhere us x m in record { i = 0; q = s.i ∷ s.q; occurs = record { part = s.occurs.part; stands = s.occurs.stands; is = s.occurs.is } }
        | inr m ↦ let s = somewhere ps x m in record { i = suc s.i; q = s.q; occurs = record { part = s.occurs.part; stands = s.occurs.stands; is = s.occurs.is } }
      ]
    where
      in_either : (xs : List ℕ) {ys : List ℕ} → In (xs ++ ys) x → In xs x ⊎ In ys x
      in_either [] n = inr n
      in_either (y ∷ xs) in_first = inl in_first
      in_either (y ∷ xs) (in_next n) = elim (in_either xs n) [ inl m ↦ inl (in_next m) | inr m ↦ inr m ]
  somewhere (grow (node (variable y) us) ps) x in_first = record { i = 0; q = []; occurs = record { part = _; stands = refl; is = refl } }
  somewhere (grow (node (variable y) us) ps) x (in_next n) = let s = somewhere ps x n in record { i = suc s.i; q = s.q; occurs = record { part = s.occurs.part; stands = s.occurs.stands; is = s.occurs.is } }
  somewhere (grow (node (restricted y class) us) ps) x in_first = record { i = 0; q = []; occurs = record { part = _; stands = refl; is = refl } }
  somewhere (grow (node (restricted y class) us) ps) x (in_next n) = let s = somewhere ps x n in record { i = suc s.i; q = s.q; occurs = record { part = s.occurs.part; stands = s.occurs.stands; is = s.occurs.is } }

  listed : (ps : Forest (PatternCell H)) → ArePatterns ps → (i : ℕ) (q : Position) (x : ℕ) (part : Tree (PatternCell H)) → subtree_in ps i q ≡ Some part → IsVariable x (head_of part) → In (all_variables ps) x
  listed empty a i q x part e v = absurd (cc)
  listed (grow (node (fixed g) us) ps) a zero [] x part e v = absurd (let same : node (fixed g) us ≡ part = cc in subst (λ p. IsVariable x (head_of p)) (sym same) v)
  listed (grow (node (fixed g) us) ps) a zero (j ∷ q) x part e v = in_left (listed us a.0 j q x part e v) (all_variables ps)
  listed (grow (node (fixed g) us) ps) a (suc i) q x part e v = in_right (all_variables us) (listed ps a.1 i q x part e v)
  listed (grow (node (variable y) us) ps) a zero [] x part e v =
      let same : node (variable y) us ≡ part = cc in
      let z : y ≡ x = subst (λ p. IsVariable x (head_of p)) (sym same) v in subst (λ k. In (y ∷ all_variables ps) k) z in_first
  listed (grow (node (variable y) us) ps) a zero (j ∷ q) x part e v = absurd (let z : subtree_in empty j q ≡ Some part = subst (λ z. subtree_in z j q ≡ Some part) a.0 e in cc)
  listed (grow (node (variable y) us) ps) a (suc i) q x part e v = in_next (listed ps a.1 i q x part e v)
  listed (grow (node (restricted y class) us) ps) a zero [] x part e v =
      let same : node (restricted y class) us ≡ part = cc in
      let z : y ≡ x = subst (λ p. IsVariable x (head_of p)) (sym same) v in subst (λ k. In (y ∷ all_variables ps) k) z in_first
  listed (grow (node (restricted y class) us) ps) a zero (j ∷ q) x part e v = absurd (let z : subtree_in empty j q ≡ Some part = subst (λ z. subtree_in z j q ≡ Some part) a.0 e in cc)
  listed (grow (node (restricted y class) us) ps) a (suc i) q x part e v = in_next (listed ps a.1 i q x part e v)

  abbrev below_in : {c : PatternCell H} {us ps : Forest (PatternCell H)} {i : ℕ} {q : Position} {x : ℕ} → OccursIn us i q x → OccursIn (grow (node c us) ps) 0 (i ∷ q) x
  below_in s = record { part = s.part; stands = s.stands; is = s.is }

  abbrev after_in : {p : Tree (PatternCell H)} {ps : Forest (PatternCell H)} {i : ℕ} {q : Position} {x : ℕ} → OccursIn ps i q x → OccursIn (grow p ps) (suc i) q x
  after_in s = record { part = s.part; stands = s.stands; is = s.is }

  linear_in : (ps : Forest (PatternCell H)) → ((i : ℕ) (q : Position) (j : ℕ) (r : Position) (x : ℕ) → IsBefore (j ∷ r) (i ∷ q) → OccursIn ps j r x → OccursIn ps i q x → ⊥) → IsDistinct nat_eq (all_variables ps)
  linear_in empty none = distinct_none
  linear_in (grow (node (fixed g) us) ps) none =
      distinct_both (all_variables us) (all_variables ps)
      (linear_in us (λ i q j r x before s t. none 0 (i ∷ q) 0 (j ∷ r) x (inr (refl, before)) (below_in s) (below_in t)))
      (linear_in ps (λ i q j r x before s t. none (suc i) q (suc j) r x (later i j q r before) (after_in s) (after_in t)))
      (λ x m n. let s = somewhere us x m in let t = somewhere ps x n in none (suc t.i) t.q 0 (s.i ∷ s.q) x (inl (omega arith)) (below_in s.occurs) (after_in t.occurs))
  linear_in (grow (node (variable y) us) ps) none =
      distinct_next y (all_variables ps)
      (linear_in ps (λ i q j r x before s t. none (suc i) q (suc j) r x (later i j q r before) (after_in s) (after_in t)))
      (λ n. let t = somewhere ps y n in none (suc t.i) t.q 0 [] y (inl (omega arith)) (record { part = _; stands = refl; is = refl }) (after_in t.occurs))
  linear_in (grow (node (restricted y class) us) ps) none =
      distinct_next y (all_variables ps)
      (linear_in ps (λ i q j r x before s t. none (suc i) q (suc j) r x (later i j q r before) (after_in s) (after_in t)))
      (λ n. let t = somewhere ps y n in none (suc t.i) t.q 0 [] y (inl (omega arith)) (record { part = _; stands = refl; is = refl }) (after_in t.occurs))

-- ---- positions as numbers

abbrev Pattern : Type 0
Pattern = Tree (PatternCell Head)

variable_here : (p : Pattern) (x : ℕ) → IsVariable x (head_of p) → variable_of (head_of p) ≡ Some x
variable_here (node (fixed h) ps) x v = absurd v
variable_here (node (variable y) ps) x v = ap (λ z. Some z) v
variable_here (node (restricted y class) ps) x v = ap (λ z. Some z) v

here_variable : (p : Pattern) (x : ℕ) → variable_of (head_of p) ≡ Some x → IsVariable x (head_of p)
here_variable (node (fixed h) ps) x e = absurd (cc)
here_variable (node (variable y) ps) x e = cc
here_variable (node (restricted y class) ps) x e = cc

occurs_at : (p : Pattern) (q : Position) (x : ℕ) → OccursIn (grow p empty) 0 q x → OccursAt p (number p q) x
occurs_at p q x s = record { there = number_below p q s.part s.stands; is = variable_here (nth_subtree p (number p q)) x (subst (λ t. IsVariable x (head_of t)) (sym (nth_subtree-number p q s.part s.stands)) s.is) }

occurs_listed : (p : Pattern) → IsPattern p → (k x : ℕ) → OccursAt p k x → In (variables p) x
occurs_listed p is k x o =
    subst (λ z. In z x) (append-nil (variables p))
    (listed (grow p empty) (is, tt) 0 (nth_position p k) x (nth_subtree p k) (subtree_at-nth_position p k o.there) (here_variable (nth_subtree p k) x o.is))

-- no variable twice on the left side
pub linear_of : (left : Pattern) → ((at : ℕ) → Repeats left at → ⊥) → IsLinear left
linear_of left none = subst (λ z. IsDistinct nat_eq z) (append-nil (variables left)) (linear_in (grow left empty) (λ i q j r x before s t. twice i q j r x before s t))
  where
    twice : (i : ℕ) (q : Position) (j : ℕ) (r : Position) (x : ℕ) → IsBefore (j ∷ r) (i ∷ q) → OccursIn (grow left empty) j r x → OccursIn (grow left empty) i q x → ⊥
    twice (suc i) q j r x before s t = absurd (let z = t.stands in cc)
    twice zero q j r x (inl less) s t = absurd (omega arith)
    twice zero q (suc j) r x (inr same) s t = absurd (let z = s.stands in cc)
    twice zero q zero r x (inr same) s t =
        none (number left q) (record { x = x; here = occurs_at left q x t; earlier = record { at = number left r; before = number_before left r q s.part s.stands same.1; occurs = occurs_at left r x s } })

-- no variable on the right side alone
pub bound_of : (left right : Pattern) → IsPattern left → ((at : ℕ) → IsUnbound left right at → ⊥) → IsBound (variables left) (pattern right)
bound_of left right is none =
    all_of (λ x. Contains (variables left) x) (variables right) (λ x i.
    elim (in_or_not (variables left) x) [
      | inl m ↦ in-contains m
      | inr n ↦
          let s = somewhere (grow right empty) x (subst (λ z. In z x) (sym (append-nil (variables right))) i) in
          absurd (alone s.i s.q s.occurs n)
    ])
  where
    alone : {x : ℕ} (i : ℕ) (q : Position) → OccursIn (grow right empty) i q x → (In (variables left) x → ⊥) → ⊥
    alone {x} zero q s n = none (number right q) (record { x = x; here = occurs_at right q x s; not_left = λ k o. n (occurs_listed left is k x o) })
    alone (suc i) q s n = absurd (let z = s.stands in cc)
