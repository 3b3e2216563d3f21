-- Addition of Peano numerals is well formed and orthogonal, so the premises of the laws can be met.
use Rattle.std.proofs.Common.{◌≡◌, ℕ, zero, suc, ◌<◌, [], ◌∷◌, ◌⊎◌, inl, inr, Some, refl, sym, ◌∙◌, subst, arith}
use Rattle.std.specs.Prelude.{◌↔◌, ◌≢◌, Contains, nat_eq, slice_get}
use Rattle.std.specs.List.{IsDistinct}
use Rattle.std.proofs.lemmas.Bool.{eqb-true, eq-eqb}
use Rattle.eq_base.specs.Tree.{Tree, Forest, node, empty, grow, head_of, Position, IsBefore}
use Rattle.eq_base.specs.Pattern.{PatternCell, fixed, IsTested, variables, IsLinear}
use Rattle.orthogonal_laws.specs.Orthogonal.{IsHead, TestSame, ClashFirst, IsBound, SameRight, IsWellFormedSystem, IsOrthogonal}
use Rattle.eq_base.specs.Testing.{IsTestedAt, IsPattern}
use Rattle.eq_base.specs.Rewriting.{pattern, operation, Rule}
use Rattle.eq_base.specs.declared.rules.Op.{Op}
use Rattle.orthogonal_laws.proofs.Members.{In, in_first, in_next, contains-in}
use Rattle.orthogonal_laws.specs.Addition.{first_variable, second_variable, zero_rule, successor_rule, addition}

each : (P : Rule ℕ → Type 0) → P zero_rule → P successor_rule → (rule : Rule ℕ) → Contains addition.rules rule → P rule
each P b s rule i = go (contains-in i)
  where
    go : {rule : Rule ℕ} → In addition.rules rule → P rule
    go in_first = b
    go (in_next in_first) = s
    go (in_next (in_next i)) = elim i [ ]

no_operation : (p : Tree (PatternCell ℕ)) (op : Op) → pattern p ≡ operation op → ⊥
no_operation p op e = absurd (cc)

pub addition_well_formed : IsWellFormedSystem addition
addition_well_formed = record {
  same = nat_eq;
  decides = λ g h. (λ e. eqb-true g h e, λ e. eq-eqb g h e);
  patterns = λ rule i. each (λ r. IsPattern r.left) (tt, (refl, tt)) ((refl, tt), (refl, tt)) rule i;
  roots = λ rule i. each (λ r. IsHead (head_of r.left)) tt tt rule i;
  values = λ rule i op e. absurd (each (λ r. r.right ≡ operation op → ⊥) (no_operation first_variable op) (no_operation (node (fixed 1) (grow (node (fixed 2) (grow first_variable (grow second_variable empty))) empty)) op) rule i e);
}

-- two heads that differ clash first
heads_clash : (g h : ℕ) (ps qs : Forest (PatternCell ℕ)) → (g ≡ h → ⊥) → ClashFirst addition.in_class (node (fixed g) ps) (node (fixed h) qs)
heads_clash g h ps qs n = record {
  at = [];
  clashes = record { one = record { part = _; stands = refl; tested = tt }; other = record { part = _; stands = refl; tested = tt }; clash = λ k e e'. n (e ∙ sym e') };
  before = λ q b. absurd b;
}

roots_clash : ClashFirst addition.in_class zero_rule.left successor_rule.left
roots_clash = record {
  at = 0 ∷ [];
  clashes = record { one = record { part = _; stands = refl; tested = tt }; other = record { part = _; stands = refl; tested = tt }; clash = λ k e e'. absurd (let z : 0 ≡ 1 = e ∙ sym e' in omega (arith, z)) };
  before = λ q b. only_root q b;
}
  where
    only_root : (q : Position) → IsBefore q (0 ∷ []) → IsTestedAt zero_rule.left q ↔ IsTestedAt successor_rule.left q
    only_root [] b = (λ t. record { part = _; stands = refl; tested = tt }, λ t. record { part = _; stands = refl; tested = tt })
    only_root (i ∷ q) (inl less) = absurd (omega arith)
    only_root (i ∷ q) (inr s) = absurd s.1

-- the only tested part below a root is 0 or s(x)
below_base : (q : Position) → q ≢ [] → (t : IsTestedAt zero_rule.left q) → t.part ≡ node (fixed 0) empty
below_base [] n t = absurd (n refl)
below_base (zero ∷ []) n t = let z = t.stands in cc
below_base (zero ∷ j ∷ r) n t = absurd (let z = t.stands in cc)
below_base (suc zero ∷ []) n t = absurd (let same : first_variable ≡ t.part = let z = t.stands in cc in subst (λ p. IsTested (head_of p)) (sym same) t.tested)
below_base (suc zero ∷ j ∷ r) n t = absurd (let z = t.stands in cc)
below_base (suc (suc i) ∷ r) n t = absurd (let z = t.stands in cc)

below_step : (q : Position) → q ≢ [] → (t : IsTestedAt successor_rule.left q) → t.part ≡ node (fixed 1) (grow first_variable empty)
below_step [] n t = absurd (n refl)
below_step (zero ∷ []) n t = let z = t.stands in cc
below_step (zero ∷ zero ∷ []) n t = absurd (let same : first_variable ≡ t.part = let z = t.stands in cc in subst (λ p. IsTested (head_of p)) (sym same) t.tested)
below_step (zero ∷ zero ∷ j ∷ r) n t = absurd (let z = t.stands in cc)
below_step (zero ∷ suc i ∷ r) n t = absurd (let z = t.stands in cc)
below_step (suc zero ∷ []) n t = absurd (let same : second_variable ≡ t.part = let z = t.stands in cc in subst (λ p. IsTested (head_of p)) (sym same) t.tested)
below_step (suc zero ∷ j ∷ r) n t = absurd (let z = t.stands in cc)
below_step (suc (suc i) ∷ r) n t = absurd (let z = t.stands in cc)

part_clash : (g : ℕ) (ps : Forest (PatternCell ℕ)) → (g ≡ 2 → ⊥) → (p : Tree (PatternCell ℕ)) → p ≡ node (fixed g) ps → (b : Rule ℕ) → Contains addition.rules b → ClashFirst addition.in_class p b.left
part_clash g ps n p e b i = each (λ r. ClashFirst addition.in_class p r.left) (subst (λ z. ClashFirst addition.in_class z zero_rule.left) (sym e) (heads_clash g 2 ps _ n)) (subst (λ z. ClashFirst addition.in_class z successor_rule.left) (sym e) (heads_clash g 2 ps _ n)) b i

pub addition_orthogonal : IsOrthogonal addition
unfolding IsDistinct
addition_orthogonal = record {
  linear = λ rule i. each (λ r. IsLinear r.left) (tt, tt) ((refl, tt), (tt, tt)) rule i;
  bound = λ rule i. each (λ r. IsBound (variables r.left) r.right) ((0, omega arith, refl), tt) ((0, omega arith, refl), ((1, omega arith, refl), tt)) rule i;
  roots = λ i j a b less e e'. pair i j a b less e e';
  parts = λ a b i j. each (λ a. (q : Position) → q ≢ [] → (t : IsTestedAt a.left q) → ClashFirst addition.in_class t.part b.left)
      (λ q n t. part_clash 0 empty (λ e. absurd (omega arith)) t.part (below_base q n t) b j)
      (λ q n t. part_clash 1 (grow first_variable empty) (λ e. absurd (omega arith)) t.part (below_step q n t) b j)
      a i;
}
  where
    pair : (i j : ℕ) (a b : Rule ℕ) → i < j → slice_get addition.rules i ≡ Some a → slice_get addition.rules j ≡ Some b → ClashFirst addition.in_class a.left b.left ⊎ (TestSame a.left b.left × SameRight addition a b)
    pair zero zero a b less e e' = absurd (omega arith)
    pair zero (suc zero) a b less e e' =
        let x : zero_rule ≡ a = cc in
        let y : successor_rule ≡ b = cc in
        inl (subst (λ z. ClashFirst addition.in_class z.left b.left) x (subst (λ z. ClashFirst addition.in_class zero_rule.left z.left) y roots_clash))
    pair zero (suc (suc j)) a b less e e' = absurd (cc)
    pair (suc zero) zero a b less e e' = absurd (omega arith)
    pair (suc zero) (suc zero) a b less e e' = absurd (omega arith)
    pair (suc zero) (suc (suc j)) a b less e e' = absurd (cc)
    pair (suc (suc i)) j a b less e e' = absurd (cc)
