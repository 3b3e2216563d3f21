-- What is left of left sides beside one that is completed.
use Rattle.std.proofs.Common.{◌≡◌, ℕ, suc, ◌+◌, ◌<◌, ◌≤◌, List, refl, sym, ◌∙◌, ap, subst, arith, ⊎_elim}
use Rattle.std.specs.Prelude.{Contains, Some, slice_get}
use Rattle.std.proofs.lemmas.Bool.{cases_lt}
use Rattle.eq_base.specs.Tree.{Tree, Forest, node, empty, grow, head_of, args_of, size, nth_subtree}
use Rattle.eq_base.specs.Storing.{join}
use Rattle.eq_base.specs.Pattern.{PatternCell, fixed, variable, restricted, Classes, IsTested}
use Rattle.eq_base.specs.Rewriting.{System}
use Rattle.eq_base.proofs.Scans.{forest_from, forest_from-node, forest_from-end}
use Rattle.regularity.specs.Arities.{HasArities}
use Rattle.orthogonal_laws.specs.Orthogonal.{IsWellFormedSystem, IsOrthogonal}
use Rattle.match_laws.specs.Items.{ItemSet, IsCell, IsRead, IsCompleted}
use Rattle.match_laws.specs.Reachable.{IsReachable}
use Rattle.match_laws.specs.Demand.{left_sides, HasFixedArities}
use Rattle.match_laws.proofs.Passing.{Suits, part-arities, from-suc, is-cell}
use Rattle.match_laws.proofs.Beside.{Beside, apart, both, open_both, end}
use Rattle.match_laws.proofs.Unmixed.{suits, met_beside}

variable_alone : {H : Type 0} (arity : H → ℕ) (c : PatternCell H) (us : Forest (PatternCell H)) → HasArities arity (node c us) → (IsTested c → ⊥) → us ≡ empty
variable_alone arity (fixed g) us a n = absurd (n tt)
variable_alone arity (variable x) us a n = a
variable_alone arity (restricted x class) us a n = absurd (n tt)

module _ {H : Type 0} (in_class : Classes H) (lefts : List (Tree (PatternCell H))) (arity : H → ℕ) (s : Suits in_class lefts arity) where
  -- no cell of the left side from this one on is tested
  abbrev pub UntestedFrom : ℕ → ℕ → Type 0
  UntestedFrom e k = (n : ℕ) (cell : PatternCell H) → k ≤ n → IsCell lefts e n cell → IsTested cell → ⊥

  module _ (e : ℕ) (left : Tree (PatternCell H)) (listed : slice_get lefts e ≡ Some left) where
    -- the patterns from a cell on, and those behind it
    record Opens (k : ℕ) (c : PatternCell H) (ps : Forest (PatternCell H)) : Type 0 where
      cell : IsCell lefts e k c
      next : (IsTested c → ⊥) → forest_from left (suc k) ≡ ps

    opens : (k : ℕ) (c : PatternCell H) (us ps : Forest (PatternCell H)) → forest_from left k ≡ grow (node c us) ps → Opens k c ps
    opens k c us ps is =
        ⊎_elim
        (λ below.
        let all = forest_from-node left k below in
        let part : nth_subtree left k ≡ node c us = cc in
        let rest : forest_from left (k + size (nth_subtree left k)) ≡ ps = cc in
        record {
          cell = subst (λ z. IsCell lefts e k (head_of z)) part (is-cell in_class lefts arity s e left listed k below);
          next = λ plain.
              let none = variable_alone arity c us (subst (λ z. HasArities arity z) part (part-arities in_class lefts arity s e left listed k below)) plain in
              from-suc in_class lefts arity s e left listed k below ∙ (ap (λ z. join z (forest_from left (k + size (nth_subtree left k)))) (ap args_of part ∙ none) ∙ rest);
        })
        (λ past. absurd (let z = forest_from-end left k past in cc))
        (cases_lt k (size left))

    one_cell : (k : ℕ) (c d : PatternCell H) → IsCell lefts e k c → IsCell lefts e k d → c ≡ d
    one_cell k c d x y =
        let z : x.left ≡ y.left = let a = x.listed in let b = y.listed in cc in
        sym x.stands ∙ (ap (λ t. head_of (nth_subtree t k)) z ∙ y.stands)

    -- where nothing is left, no cell is tested
    none_left : (k : ℕ) → forest_from left k ≡ empty → UntestedFrom e k
    none_left k is n cell past there tested =
        let same : there.left ≡ left = let a = there.listed in let b = listed in cc in
        let below : n < size left = subst (λ (t : Tree (PatternCell H)). n < size t) same there.there in
        absurd (let z = forest_from-node left k (omega (arith, past, below)) in cc)

  -- beside patterns without a tested cell there are none with one
  beside_untested : {ps qs : Forest (PatternCell H)} → Beside in_class ps qs → (e k : ℕ) (left other : Tree (PatternCell H)) → slice_get lefts e ≡ Some left → slice_get lefts k ≡ Some other → (a b : ℕ) → forest_from left a ≡ ps → forest_from other b ≡ qs → UntestedFrom e a → UntestedFrom k b
  beside_untested (apart {c = c} {us = us} {ps = ps} t t' x) e k left other l l' a b is is' none = absurd (none a c (omega arith) (opens e left l a c us ps is).cell t)
  beside_untested (both {c = c} {us = us} {ps = ps} t t' x) e k left other l l' a b is is' none = absurd (none a c (omega arith) (opens e left l a c us ps is).cell t)
  beside_untested (open_both {c = c} {d = d} {us = us} {ps = ps} {vs = vs} {qs = qs} n n' x) e k left other l l' a b is is' none =
      let here = opens e left l a c us ps is in
      let there = opens k other l' b d vs qs is' in
      let rest = beside_untested x e k left other l l' (suc a) (suc b) (here.next n) (there.next n') (λ m cell past at tested. none m cell (omega (arith, past)) at tested) in
      λ m cell past at tested. ⊎_elim
      (λ more. rest m cell (omega (arith, more)) at tested)
      (λ first. let same : m ≡ b = omega (arith, first, past) in n' (subst IsTested (one_cell k other l' b cell d (subst (λ z. IsCell lefts k z cell) same at) there.cell) tested))
      (cases_lt b m)
  beside_untested end e k left other l l' a b is is' none = none_left k other l' b is'

module _ {H : Type 0} (system : System H) (w : IsWellFormedSystem system) (o : IsOrthogonal system) (arity : H → ℕ) (k : HasFixedArities system arity) where
  -- after a head that completes a left side no item has a tested cell before it
  pub untested_after : (items next : ItemSet) (h : H) (e c : ℕ) → IsReachable system.in_class (left_sides system) items → IsCompleted system.in_class (left_sides system) items h e c → IsRead system.in_class (left_sides system) items h next →
      (i d : ℕ) → Contains next (i, d) → UntestedFrom system.in_class (left_sides system) arity (suits system w arity k.lefts k.constants) i d
  untested_after items next h e c r done is i d x =
      let f = (is.exactly i d).0 x in
      let left = done.met.is_cell in
      let other = f.this.is_cell in
      let both = met_beside system w o arity k.lefts k.constants r h e i left.left other.left left.listed other.listed c f.before done.met f.this in
      let rest = beside_untested system.in_class (left_sides system) arity (suits system w arity k.lefts k.constants) both e i left.left other.left left.listed other.listed (suc c) (suc f.before) refl refl (λ n cell past there tested. done.last n cell (omega (arith, past)) there tested) in
      λ n cell past there tested. rest n cell (let z = f.further in omega (arith, z, past)) there tested
