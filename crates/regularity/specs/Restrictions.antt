-- What breaks a restriction, RE1 to RE4, whatever the heads and however the equations are kept.
use Rattle.std.specs.Prelude.{◌≡◌, ◌⊎◌, ℕ, ◌<◌, List, Some, slice_get}
use Rattle.eq_base.specs.Tree.{Tree, nth_subtree}
use Rattle.eq_base.specs.Pattern.{PatternCell, Classes}
use Rattle.eq_base.specs.Rewriting.{RightSide, pattern, operation, Rule}
use Rattle.regularity.specs.Common.{HaveCommon}
use Rattle.regularity.specs.Occurrences.{Repeats, IsUnbound, IsTestedPlace}
use Rattle.regularity.specs.Merge.{AreSameUnderMerge}
use Rattle.regularity.specs.declared.breaks.Break.{Break}

module _ {H : Type 0} where
  -- the variable at the position of the right side does not occur on the left side; an operation has none
  abbrev pub HasUnbound : Tree (PatternCell H) → RightSide H → ℕ → Type 0
  HasUnbound left (pattern right) at = IsUnbound left right at
  HasUnbound left (operation op) at = ⊥

  -- right sides are the same, read under the merge of the left sides; an operation is the same as no other
  abbrev pub IsSameRight : Tree (PatternCell H) → Tree (PatternCell H) → RightSide H → RightSide H → Type 0
  IsSameRight p r (pattern s) (pattern t) = AreSameUnderMerge p r s t
  IsSameRight p r one other = ⊥

-- equations are of any type that has a rule for each
module _ {H E : Type 0} (rule : E → Rule H) where
  -- the equation breaks neither RE1 nor RE2
  pub record IsSingle (e : E) : Type 0 where
    pub linear : (at : ℕ) → Repeats (rule e).left at → ⊥
    pub bound : (at : ℕ) → HasUnbound (rule e).left (rule e).right at → ⊥

module _ {H E : Type 0} (in_class : Classes H) (rule : E → Rule H) where
  -- the left sides have a common instance, and the right sides are not the same under the merge
  pub record AreAmbiguous (one other : E) : Type 0 where
    pub common : HaveCommon in_class (rule one).left (rule other).left
    pub differ : IsSameRight (rule one).left (rule other).left (rule one).right (rule other).right → ⊥

  module _ (equations : List E) where
    -- the equation with this number, which breaks neither RE1 nor RE2
    pub record IsListedSingle (number : ℕ) (e : E) : Type 0 where
      pub listed : slice_get equations number ≡ Some e
      pub single : IsSingle rule e

    -- RE1: a second or later occurrence of a variable on a left side
    pub record IsRepeated (b : Break) : Type 0 where
      pub restriction : b.restriction ≡ 1
      pub equation : E
      pub listed : slice_get equations b.first ≡ Some equation
      pub repeats : Repeats (rule equation).left b.place
      pub second : b.second ≡ b.first

    -- RE2: an occurrence on a right side of a variable that is not on the left side
    pub record IsUnboundBreak (b : Break) : Type 0 where
      pub restriction : b.restriction ≡ 2
      pub equation : E
      pub listed : slice_get equations b.first ≡ Some equation
      pub unbound : HasUnbound (rule equation).left (rule equation).right b.place
      pub second : b.second ≡ b.first

    -- RE3: left sides of a first and a later equation with a common instance, whose right sides are not the
    -- same under the merge
    pub record IsAmbiguous (b : Break) : Type 0 where
      pub restriction : b.restriction ≡ 3
      pub one : E
      pub other : E
      pub one_listed : IsListedSingle b.first one
      pub other_listed : IsListedSingle b.second other
      pub order : b.first < b.second
      pub root : b.place ≡ 0
      pub ambiguous : AreAmbiguous one other

    -- RE4: a tested part of a left side below its root, and a left side, with a common instance
    pub record IsOverlap (b : Break) : Type 0 where
      pub restriction : b.restriction ≡ 4
      pub one : E
      pub other : E
      pub one_listed : IsListedSingle b.first one
      pub other_listed : IsListedSingle b.second other
      pub below : 0 < b.place
      pub tested : IsTestedPlace (rule one).left b.place
      pub common : HaveCommon in_class (nth_subtree (rule one).left b.place) (rule other).left

    -- one equation breaks RE1 or RE2
    abbrev pub IsOfOne : Break → Type 0
    IsOfOne b = IsRepeated b ⊎ IsUnboundBreak b

    -- two equations break RE3 or RE4
    abbrev pub IsOfTwo : Break → Type 0
    IsOfTwo b = IsAmbiguous b ⊎ IsOverlap b
