-- Trees and patterns with other heads: positions, values, instances and tests are as before.
use Rattle.std.proofs.Common.{◌≡◌, ℕ, zero, suc, [], ◌∷◌, map, Some, refl, sym, ◌∙◌, ap, subst}
use Rattle.std.proofs.lemmas.Option.{none-some}
use Rattle.std.specs.Prelude.{slice_index_or}
use Rattle.std.specs.List.{AllByRecursion}
use Rattle.eq_base.specs.Tree.{Tree, Forest, node, empty, grow, head_of, map_heads, map_all_heads, Position, subtree_at, subtree_in, replace_at, replace_in, positions, all_positions, nth_position}
use Rattle.eq_base.specs.Pattern.{PatternCell, fixed, variable, restricted, IsTested, Classes, Meets, Clash, variables, all_variables, restrictions, all_restrictions, Substitution, apply, apply_all, IsConstantOf, Respects, IsInstanceOf}
use Rattle.eq_base.specs.Testing.{MeetsRoot, IsTestedAt, MeetsAt, ClashAt, IsPattern, ArePatterns}
use Rattle.eq_base.specs.Rewriting.{RightSide, pattern, operation, Rule}
use Rattle.eq_base.specs.Mapping.{map_cell, map_pattern, map_right, map_rule}
use Rattle.eq_base.proofs.Heads.{some_same}
use Rattle.eq_base.proofs.Lists.{all_map}
use Rattle.eq_base.proofs.Trees.{count-map_all_heads}

module _ {A B : Type 0} (f : A → B) where
  -- ---- trees

  mutual
    pub subtree_at-map : (t : Tree A) (q : Position) (s : Tree A) → subtree_at t q ≡ Some s → subtree_at (map_heads f t) q ≡ Some (map_heads f s)
    subtree_at-map t [] s e = ap (λ t. Some (map_heads f t)) (some_same t s e)
    subtree_at-map (node a args) (i ∷ q) s e = subtree_in-map args i q s e

    subtree_in-map : (ts : Forest A) (i : ℕ) (q : Position) (s : Tree A) → subtree_in ts i q ≡ Some s → subtree_in (map_all_heads f ts) i q ≡ Some (map_heads f s)
    subtree_in-map empty i q s e = absurd (none-some s e)
    subtree_in-map (grow t ts) zero q s e = subtree_at-map t q s e
    subtree_in-map (grow t ts) (suc i) q s e = subtree_in-map ts i q s e

  mutual
    pub subtree_at-unmap : (t : Tree A) (q : Position) (s : Tree B) → subtree_at (map_heads f t) q ≡ Some s → (r : Tree A) × (subtree_at t q ≡ Some r) × (map_heads f r ≡ s)
    subtree_at-unmap t [] s e = (t, refl, some_same (map_heads f t) s e)
    subtree_at-unmap (node a args) (i ∷ q) s e = subtree_in-unmap args i q s e

    subtree_in-unmap : (ts : Forest A) (i : ℕ) (q : Position) (s : Tree B) → subtree_in (map_all_heads f ts) i q ≡ Some s → (r : Tree A) × (subtree_in ts i q ≡ Some r) × (map_heads f r ≡ s)
    subtree_in-unmap empty i q s e = absurd (none-some s e)
    subtree_in-unmap (grow t ts) zero q s e = subtree_at-unmap t q s e
    subtree_in-unmap (grow t ts) (suc i) q s e = subtree_in-unmap ts i q s e

  mutual
    pub replace_at-map : (t : Tree A) (q : Position) (u : Tree A) → map_heads f (replace_at t q u) ≡ replace_at (map_heads f t) q (map_heads f u)
    replace_at-map t [] u = refl
    replace_at-map (node a args) (i ∷ q) u = ap (node (f a)) (replace_in-map args i q u)

    replace_in-map : (ts : Forest A) (i : ℕ) (q : Position) (u : Tree A) → map_all_heads f (replace_in ts i q u) ≡ replace_in (map_all_heads f ts) i q (map_heads f u)
    replace_in-map empty i q u = refl
    replace_in-map (grow t ts) zero q u = ap (λ t. grow t (map_all_heads f ts)) (replace_at-map t q u)
    replace_in-map (grow t ts) (suc i) q u = ap (grow (map_heads f t)) (replace_in-map ts i q u)

  mutual
    pub positions-map : (t : Tree A) → positions (map_heads f t) ≡ positions t
    positions-map (node a args) = ap (λ ps. [] ∷ map (λ p. p.0 ∷ p.1) ps) (all_positions-map args)

    all_positions-map : (ts : Forest A) → all_positions (map_all_heads f ts) ≡ all_positions ts
    all_positions-map empty = refl
    all_positions-map (grow t ts) = rw (positions-map t, all_positions-map ts) refl

  pub nth_position-map : (t : Tree A) (n : ℕ) → nth_position (map_heads f t) n ≡ nth_position t n
  nth_position-map t n = ap (λ ps. slice_index_or ps n []) (positions-map t)

  -- what is mapped to one with another map, which undoes it
  mutual
    pub map-back : (g : B → A) → ((a : A) → g (f a) ≡ a) → (t : Tree A) → map_heads g (map_heads f t) ≡ t
    map-back g back (node a args) = rw (back a, map_all-back g back args) refl

    map_all-back : (g : B → A) → ((a : A) → g (f a) ≡ a) → (ts : Forest A) → map_all_heads g (map_all_heads f ts) ≡ ts
    map_all-back g back empty = refl
    map_all-back g back (grow t ts) = rw (map-back g back t, map_all-back g back ts) refl

-- ---- patterns

module _ {A B : Type 0} (f : A → B) where
  mutual
    pub variables-map : (p : Tree (PatternCell A)) → variables (map_pattern f p) ≡ variables p
    variables-map (node (fixed h) ps) = all_variables-map ps
    variables-map (node (variable x) ps) = refl
    variables-map (node (restricted x class) ps) = refl

    all_variables-map : (ps : Forest (PatternCell A)) → all_variables (map_all_heads (map_cell f) ps) ≡ all_variables ps
    all_variables-map empty = refl
    all_variables-map (grow p ps) = rw (variables-map p, all_variables-map ps) refl

  mutual
    pub restrictions-map : (p : Tree (PatternCell A)) → restrictions (map_pattern f p) ≡ restrictions p
    restrictions-map (node (fixed h) ps) = all_restrictions-map ps
    restrictions-map (node (variable x) ps) = refl
    restrictions-map (node (restricted x class) ps) = refl

    all_restrictions-map : (ps : Forest (PatternCell A)) → all_restrictions (map_all_heads (map_cell f) ps) ≡ all_restrictions ps
    all_restrictions-map empty = refl
    all_restrictions-map (grow p ps) = rw (restrictions-map p, all_restrictions-map ps) refl

  mutual
    pub apply-map : (σ : Substitution A) (p : Tree (PatternCell A)) → map_heads f (apply σ p) ≡ apply (λ x. map_heads f (σ x)) (map_pattern f p)
    apply-map σ (node (fixed h) ps) = ap (node (f h)) (apply_all-map σ ps)
    apply-map σ (node (variable x) ps) = refl
    apply-map σ (node (restricted x class) ps) = refl

    apply_all-map : (σ : Substitution A) (ps : Forest (PatternCell A)) → map_all_heads f (apply_all σ ps) ≡ apply_all (λ x. map_heads f (σ x)) (map_all_heads (map_cell f) ps)
    apply_all-map σ empty = refl
    apply_all-map σ (grow p ps) = rw (apply-map σ p, apply_all-map σ ps) refl

  mutual
    pub unmap-pattern : (p : Tree (PatternCell A)) → IsPattern (map_pattern f p) → IsPattern p
    unmap-pattern (node (fixed h) ps) i = unmap-patterns ps i
    unmap-pattern (node (variable x) ps) i = no_trees ps i
    unmap-pattern (node (restricted x class) ps) i = no_trees ps i

    unmap-patterns : (ps : Forest (PatternCell A)) → ArePatterns (map_all_heads (map_cell f) ps) → ArePatterns ps
    unmap-patterns empty i = tt
    unmap-patterns (grow p ps) i = (unmap-pattern p i.0, unmap-patterns ps i.1)

    no_trees : (ps : Forest (PatternCell A)) → map_all_heads (map_cell f) ps ≡ empty → ps ≡ empty
    no_trees empty e = refl
    no_trees (grow p ps) e = absurd (cc)

  pub tested-map : (c : PatternCell A) → IsTested c → IsTested (map_cell f c)
  tested-map (fixed h) t = tt
  tested-map (variable x) t = absurd t
  tested-map (restricted x class) t = tt

  pub tested-unmap : (c : PatternCell A) → IsTested (map_cell f c) → IsTested c
  tested-unmap (fixed h) t = tt
  tested-unmap (variable x) t = absurd t
  tested-unmap (restricted x class) t = tt

  pub head-map : (p : Tree (PatternCell A)) → head_of (map_pattern f p) ≡ map_cell f (head_of p)
  head-map (node c ps) = refl

  pub tested_at-map : (p : Tree (PatternCell A)) (q : Position) → IsTestedAt p q → IsTestedAt (map_pattern f p) q
  tested_at-map p q t = record {
    part = map_pattern f t.part;
    stands = subtree_at-map (map_cell f) p q t.part t.stands;
    tested = subst IsTested (sym (head-map t.part)) (tested-map (head_of t.part) t.tested);
  }

  pub tested_at-unmap : (p : Tree (PatternCell A)) (q : Position) → IsTestedAt (map_pattern f p) q → IsTestedAt p q
  tested_at-unmap p q t =
      let s = subtree_at-unmap (map_cell f) p q t.part t.stands in
      record {
        part = s.0;
        stands = s.1;
        tested = tested-unmap (head_of s.0) (subst IsTested (head-map s.0) (subst (λ r. IsTested (head_of r)) (sym s.2) t.tested));
      }

  -- ---- instances

  module _ (in_a : Classes A) (in_b : Classes B) (same : (class : ℕ) (h : A) → in_b class (f h) ≡ in_a class h) where
    pub constant-map : (class : ℕ) (t : Tree A) → IsConstantOf in_a class t → IsConstantOf in_b class (map_heads f t)
    constant-map class (node h empty) is = same class h ∙ is
    constant-map class (node h (grow t ts)) is = absurd is

    pub respects-map : (σ : Substitution A) (p : Tree (PatternCell A)) → Respects in_a σ p → Respects in_b (λ x. map_heads f (σ x)) (map_pattern f p)
    respects-map σ p r =
        subst (λ rs. AllByRecursion (λ r. IsConstantOf in_b r.1 (map_heads f (σ r.0))) rs) (sym (restrictions-map p))
        (all_map (λ r. IsConstantOf in_a r.1 (σ r.0)) (λ r. IsConstantOf in_b r.1 (map_heads f (σ r.0))) (restrictions p) (λ r. constant-map r.1 (σ r.0)) r)

    pub applied-map : (σ : Substitution A) (p : Tree (PatternCell A)) (t : Tree A) → apply σ p ≡ t → apply (λ x. map_heads f (σ x)) (map_pattern f p) ≡ map_heads f t
    applied-map σ p t e = sym (apply-map σ p) ∙ ap (map_heads f) e

    pub instance-map : (p : Tree (PatternCell A)) (t : Tree A) → IsInstanceOf in_a p t → IsInstanceOf in_b (map_pattern f p) (map_heads f t)
    instance-map p t i = record {
      substitution = λ x. map_heads f (i.substitution x);
      respects = respects-map i.substitution p i.respects;
      applied = applied-map i.substitution p t i.applied;
    }

    meets_root-map : (p : Tree (PatternCell A)) (t : Tree A) → MeetsRoot in_a p t → MeetsRoot in_b (map_pattern f p) (map_heads f t)
    meets_root-map (node (fixed g) ps) (node h ts) m = (ap f m.0, count-map_all_heads (map_cell f) ps ∙ m.1 ∙ sym (count-map_all_heads f ts))
    meets_root-map (node (variable x) ps) t m = tt
    meets_root-map (node (restricted x class) ps) t m = constant-map class t m

    pub meets_at-map : (p : Tree (PatternCell A)) (t : Tree A) (q : Position) → MeetsAt in_a p t q → MeetsAt in_b (map_pattern f p) (map_heads f t) q
    meets_at-map p t q m = record {
      part = map_pattern f m.part;
      subterm = map_heads f m.subterm;
      part_stands = subtree_at-map (map_cell f) p q m.part m.part_stands;
      subterm_stands = subtree_at-map f t q m.subterm m.subterm_stands;
      meets = meets_root-map m.part m.subterm m.meets;
    }

    -- ---- clashes

    meets-map : (c : PatternCell A) (h : A) → Meets in_a c h → Meets in_b (map_cell f c) (f h)
    meets-map (fixed g) h m = ap f m
    meets-map (variable x) h m = tt
    meets-map (restricted x class) h m = same class h ∙ m

    -- a clash of the mapped cells is one of the cells
    clash-unmap : (c d : PatternCell A) → Clash in_b (map_cell f c) (map_cell f d) → Clash in_a c d
    clash-unmap c d clash h m m' = clash (f h) (meets-map c h m) (meets-map d h m')

    pub clash_at-unmap : (p r : Tree (PatternCell A)) (q : Position) → ClashAt in_b (map_pattern f p) (map_pattern f r) q → ClashAt in_a p r q
    clash_at-unmap p r q c =
        let one = subtree_at-unmap (map_cell f) p q c.one.part c.one.stands in
        let other = subtree_at-unmap (map_cell f) r q c.other.part c.other.stands in
        let e : head_of c.one.part ≡ map_cell f (head_of one.0) = sym (ap head_of one.2) ∙ head-map one.0 in
        let e' : head_of c.other.part ≡ map_cell f (head_of other.0) = sym (ap head_of other.2) ∙ head-map other.0 in
        record {
          one = record { part = one.0; stands = one.1; tested = tested-unmap (head_of one.0) (subst IsTested e c.one.tested) };
          other = record { part = other.0; stands = other.1; tested = tested-unmap (head_of other.0) (subst IsTested e' c.other.tested) };
          clash =
              clash-unmap (head_of one.0) (head_of other.0)
              (subst (λ z. Clash in_b (map_cell f (head_of one.0)) z) e' (subst (λ z. Clash in_b z (head_of c.other.part)) e c.clash));
        }

  -- ---- patterns and rules, mapped and mapped back

  module _ (g : B → A) (back : (a : A) → g (f a) ≡ a) where
    cell-back : (c : PatternCell A) → map_cell g (map_cell f c) ≡ c
    cell-back (fixed h) = ap fixed (back h)
    cell-back (variable x) = refl
    cell-back (restricted x class) = refl

    pub pattern-back : (p : Tree (PatternCell A)) → map_pattern g (map_pattern f p) ≡ p
    pattern-back p = map-back (map_cell f) (map_cell g) cell-back p

    right-back : (right : RightSide A) → map_right g (map_right f right) ≡ right
    right-back (pattern p) = ap pattern (pattern-back p)
    right-back (operation op) = refl

    pub rule-back : (rule : Rule A) → map_rule g (map_rule f rule) ≡ rule
    rule-back rule = rw (pattern-back rule.left, right-back rule.right) refl

-- ---- heads that stay

module _ {A : Type 0} where
  cell-own : (c : PatternCell A) → map_cell (λ h. h) c ≡ c
  cell-own (fixed h) = refl
  cell-own (variable x) = refl
  cell-own (restricted x class) = refl

  mutual
    pattern-own : (p : Tree (PatternCell A)) → map_pattern (λ h. h) p ≡ p
    pattern-own (node c ps) = rw (cell-own c, patterns-own ps) refl

    patterns-own : (ps : Forest (PatternCell A)) → map_all_heads (map_cell (λ h. h)) ps ≡ ps
    patterns-own empty = refl
    patterns-own (grow p ps) = rw (pattern-own p, patterns-own ps) refl

  right-own : (right : RightSide A) → map_right (λ h. h) right ≡ right
  right-own (pattern p) = ap pattern (pattern-own p)
  right-own (operation op) = refl

  pub rule-own : (rule : Rule A) → map_rule (λ h. h) rule ≡ rule
  rule-own rule = rw (pattern-own rule.left, right-own rule.right) refl
