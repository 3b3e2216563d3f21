-- What a comparison has found, where the cells that are next clash or mismatch.
use Rattle.std.proofs.Common.{◌≡◌, ℕ, ◌-◌, ◌<◌, arith}
use Rattle.eq_base.specs.Tree.{Tree, head_of, size, nth_subtree, number, Position, IsBefore}
use Rattle.eq_base.specs.Pattern.{PatternCell, Classes}
use Rattle.regularity.specs.Facing.{DoClash, IsMismatch}
use Rattle.regularity.proofs.Scan.{IsScannedAt, part_here, part_before}
use Rattle.regularity.proofs.Clashes.{clash_at}
use Rattle.sequentiality.specs.Comparing.{AgreeAt, IsFirstClash, IsFirstMismatch}
use Rattle.sequentiality.proofs.Agreeing.{Agree, agree_at}

module _ {H : Type 0} (in_class : Classes H) (left : Tree (PatternCell H)) (place : ℕ) (there : place < size left) (other : Tree (PatternCell H)) (at beside : ℕ) (is : IsScannedAt left place other (Agree in_class) at beside) (lt : beside < size other) where
  abbrev part : Tree (PatternCell H)
  part = nth_subtree left place

  abbrev one : PatternCell H
  one = head_of (nth_subtree left at)

  abbrev two : PatternCell H
  two = head_of (nth_subtree other beside)

  agree_before : (found q : Position) → number part found ≡ is.i → IsBefore q found → AgreeAt in_class part other q
  agree_before found q n before = agree_at in_class part other q (λ t u e e'. part_before left place there other (Agree in_class) at beside is found q t u n before e e')

  pub first_clash : DoClash in_class one two → (found : Position) × IsFirstClash in_class part other found × (number part found ≡ at - place)
  first_clash clash =
      let here = part_here left place there other (Agree in_class) at beside is lt in (
        here.at,
        record {
          clash = clash_at in_class part other here.at here.one here.other here.one_stands here.other_stands (rw (here.one_is, here.other_is) clash);
          before = λ q before. agree_before here.at q here.number_is before;
        },
        omega (arith, is.at_is, here.number_is),
      )

  pub first_mismatch : IsMismatch one two → (found : Position) × IsFirstMismatch in_class part other found × (number part found ≡ at - place)
  first_mismatch mismatch =
      let here = part_here left place there other (Agree in_class) at beside is lt in (
        here.at,
        record {
          mismatch = record { one = here.one; other = here.other; one_stands = here.one_stands; other_stands = here.other_stands; differ = rw (here.one_is, here.other_is) mismatch };
          before = λ q before. agree_before here.at q here.number_is before;
        },
        omega (arith, is.at_is, here.number_is),
      )
