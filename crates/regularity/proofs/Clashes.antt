-- Clashes at positions, by the cells that stand there.
use Rattle.std.proofs.Common.{◌≡◌, Some}
use Rattle.eq_base.specs.Tree.{Tree, head_of, Position, subtree_at}
use Rattle.eq_base.specs.Pattern.{PatternCell, Classes}
use Rattle.eq_base.specs.Testing.{ClashAt}
use Rattle.regularity.specs.Facing.{DoClash}

module _ {H : Type 0} (in_class : Classes H) (p r : Tree (PatternCell H)) (q : Position) (one other : Tree (PatternCell H)) (one_stands : subtree_at p q ≡ Some one) (other_stands : subtree_at r q ≡ Some other) where
  pub clash_at : DoClash in_class (head_of one) (head_of other) → ClashAt in_class p r q
  clash_at d = record {
    one = record { part = one; stands = one_stands; tested = d.0 };
    other = record { part = other; stands = other_stands; tested = d.1 };
    clash = d.2;
  }

-- the cells at a clash do clash
pub do_clash : {H : Type 0} (in_class : Classes H) (p r : Tree (PatternCell H)) (q : Position) → (c : ClashAt in_class p r q) → DoClash in_class (head_of c.one.part) (head_of c.other.part)
do_clash in_class p r q c = (c.one.tested, c.other.tested, c.clash)
