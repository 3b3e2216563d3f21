-- Which positions a pattern tests, and when a tree, or another pattern, meets it there.
use Rattle.std.specs.Prelude.{◌≡◌, Some}
use Rattle.eq_base.specs.Tree.{Tree, Forest, node, empty, grow, head_of, count, Position, subtree_at}
use Rattle.eq_base.specs.Pattern.{PatternCell, fixed, variable, restricted, Classes, IsTested, IsConstantOf}
use Rattle.eq_base.specs.Pattern.{Clash}

module _ {H : Type 0} where
  -- the root of the tree meets that of the pattern: the same head over as many arguments, or a constant of
  -- the class
  abbrev pub MeetsRoot : Classes H → Tree (PatternCell H) → Tree H → Type 0
  MeetsRoot in_class (node (fixed g) ps) (node h ts) = (g ≡ h) × (count ps ≡ count ts)
  MeetsRoot in_class (node (variable x) ps) t = Unit {0}
  MeetsRoot in_class (node (restricted x class) ps) t = IsConstantOf in_class class t

  -- the pattern is tested at the position: no plain variable stands there
  pub record IsTestedAt (p : Tree (PatternCell H)) (q : Position) : Type 0 where
    pub part : Tree (PatternCell H)
    pub stands : subtree_at p q ≡ Some part
    pub tested : IsTested (head_of part)

  -- the tree meets the pattern at the position
  pub record MeetsAt (in_class : Classes H) (p : Tree (PatternCell H)) (t : Tree H) (q : Position)
      : Type 0 where
    pub part : Tree (PatternCell H)
    pub subterm : Tree H
    pub part_stands : subtree_at p q ≡ Some part
    pub subterm_stands : subtree_at t q ≡ Some subterm
    pub meets : MeetsRoot in_class part subterm

  -- the patterns clash at the position: both are tested there, and no head meets both
  pub record ClashAt (in_class : Classes H) (p r : Tree (PatternCell H)) (q : Position) : Type 0 where
    pub one : IsTestedAt p q
    pub other : IsTestedAt r q
    pub clash : Clash in_class (head_of one.part) (head_of other.part)

  -- the tree is a pattern: its variables have no arguments
  abbrev mutual
    pub IsPattern : Tree (PatternCell H) → Type 0
    IsPattern (node (fixed h) ps) = ArePatterns ps
    IsPattern (node (variable x) ps) = ps ≡ empty
    IsPattern (node (restricted x class) ps) = ps ≡ empty

    pub ArePatterns : Forest (PatternCell H) → Type 0
    ArePatterns empty = Unit {0}
    ArePatterns (grow p ps) = IsPattern p × ArePatterns ps
