-- The item set at a position is that of the term there.
use Rattle.std.proofs.Common.{◌≡◌, ℕ, zero, suc, ◌<◌, List, [], ◌∷◌, refl, sym, subst, arith, ⊎_elim, inl, inr}
use Rattle.std.specs.Prelude.{Some, slice_get}
use Rattle.eq_base.specs.Tree.{Tree, empty, grow, head_of, size, Position, subtree_in, IsBefore}
use Rattle.eq_base.specs.Pattern.{PatternCell, Classes, IsTested}
use Rattle.eq_base.specs.Testing.{MeetsRoot}
use Rattle.eq_base.proofs.Numbers.{number_below}
use Rattle.match_laws.specs.Items.{ItemSet, Holds}
use Rattle.match_laws.specs.Reading.{KeepArities, IsItemAt, IsSetAt, IsReached}
use Rattle.match_laws.specs.Reachable.{start}
use Rattle.match_laws.proofs.Meeting.{Root, front-meets, front-stands, meets-front}
use Rattle.match_laws.proofs.Passing.{AllUnmixed, Suits}
use Rattle.match_laws.proofs.Reached.{Inner, reached-from, reached-to}

module _ {H : Type 0} (in_class : Classes H) (lefts : List (Tree (PatternCell H))) (arity : H → ℕ) (suits : Suits in_class lefts arity) (unmixed : AllUnmixed in_class lefts) (t : Tree H) (keeps : KeepArities arity (grow t empty)) (q : Position) (next : ItemSet) (reached : IsReached in_class lefts t [] q next) where
  inner-item : (e c : ℕ) (left : Tree (PatternCell H)) (listed : slice_get lefts e ≡ Some left) → Inner in_class lefts arity suits e left listed (grow t empty) zero q c → IsItemAt in_class lefts t q e c
  inner-item e c left listed i =
      let x = front-stands in_class arity (grow left empty) (grow i.subterm empty) zero i.below i.front in
      record {
        above = i.above;
        below = i.below;
        position = i.position;
        subterm = i.subterm;
        stands = i.stands;
        left = left;
        listed = listed;
        part = x.0;
        part_stands = x.1;
        cell = sym i.is;
        met = λ p before tested.
            let r = front-meets in_class arity (grow left empty) (grow i.subterm empty) zero i.below (suits.arities e left listed, tt) i.front zero p tested.part (inr (refl, before)) tested.stands tested.tested in
            record { part = tested.part; subterm = r.subterm; part_stands = tested.stands; subterm_stands = r.stands; meets = r.meets };
      }

  item-inner : (e c : ℕ) (i : IsItemAt in_class lefts t q e c) → Inner in_class lefts arity suits e i.left i.listed (grow t empty) zero q c
  item-inner e c i = record {
    above = i.above;
    below = i.below;
    position = i.position;
    subterm = i.subterm;
    stands = i.stands;
    front = meets-front in_class arity (grow i.left empty) (grow i.subterm empty) zero i.below (suits.arities e i.left i.listed, tt) (omega arith) i.part i.part_stands (λ k r part b s x. before k r part b s x);
    is = sym i.cell;
    there = subst (λ n. n < size i.left) i.cell (number_below i.left i.below i.part i.part_stands);
  }
    where
      before : (k : ℕ) (r : Position) (part : Tree (PatternCell H)) → IsBefore (k ∷ r) (0 ∷ i.below) → subtree_in (grow i.left empty) k r ≡ Some part → IsTested (head_of part) → Root in_class part (grow i.subterm empty) k r
      before zero r part (inl less) s x = absurd (omega arith)
      before zero r part (inr same) s x =
          let m = i.met r same.1 (record { part = part; stands = s; tested = x }) in
          let e' : m.part ≡ part = let z = m.part_stands in cc in
          record { subterm = m.subterm; stands = m.subterm_stands; meets = subst (λ p. MeetsRoot in_class p m.subterm) e' m.meets }
      before (suc k) r part b s x = absurd (cc)

  pub reached-set : IsSetAt in_class lefts t q next
  reached-set e c = (
    λ held.
        let cell = held.0.1 in
        ⊎_elim
        (λ o. absurd (nothing e o.b o.below o.held))
        (λ i. inner-item e c cell.left cell.listed i)
        (reached-from in_class lefts arity suits e cell.left cell.listed (grow t empty) [] next zero q start keeps reached c held),
    λ i. reached-to in_class lefts arity suits e i.left i.listed unmixed (grow t empty) [] next zero q start keeps reached c (inr (item-inner e c i)),
  )
    where
      nothing : (e b : ℕ) → 0 < b → Holds lefts [] e b → ⊥
      nothing e b more held = ⊎_elim (λ z. omega arith) (λ x. omega (arith, x.1)) held.1
