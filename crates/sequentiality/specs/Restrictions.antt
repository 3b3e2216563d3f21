-- What breaks a restriction, RE1 to RE5, whatever the heads and however the equations are kept.
use Rattle.std.specs.Prelude.{◌≡◌, ◌⊎◌, ◌<◌, List}
use Rattle.eq_base.specs.Tree.{nth_subtree}
use Rattle.eq_base.specs.Pattern.{Classes}
use Rattle.eq_base.specs.Rewriting.{Rule}
use Rattle.regularity.specs.declared.breaks.Break.{Break}
use Rattle.regularity.specs.Occurrences.{IsTestedPlace}
use Rattle.regularity.specs.Restrictions.{IsListedSingle, IsOfOne, IsOfTwo}
use Rattle.sequentiality.specs.Comparing.{HasFirstMismatch}

-- equations are of any type that has a rule for each
module _ {H E : Type 0} (in_class : Classes H) (rule : E → Rule H) (equations : List E) where
  -- RE3 or RE4 is broken by the same equations at the same place
  pub record IsToldBefore (b : Break) : Type 0 where
    pub told : Break
    pub of_two : IsOfTwo in_class rule equations told
    pub first : told.first ≡ b.first
    pub place : told.place ≡ b.place
    pub second : told.second ≡ b.second

  -- RE5: a tested part of a left side, and a left side, that first differ by a plain variable and a tested
  -- cell; at the root for a first and a later equation; where RE3 and RE4 hold
  pub record IsNotSequential (b : Break) : Type 0 where
    pub restriction : b.restriction ≡ 5
    pub one : E
    pub other : E
    pub one_listed : IsListedSingle in_class rule equations b.first one
    pub other_listed : IsListedSingle in_class rule equations b.second other
    pub order : b.place ≡ 0 → b.first < b.second
    pub tested : IsTestedPlace (rule one).left b.place
    pub mismatch : HasFirstMismatch in_class (nth_subtree (rule one).left b.place) (rule other).left
    pub not_told : IsToldBefore b → ⊥

  -- the equations break RE1, RE2, RE3 or RE4
  abbrev pub IsEarlier : Break → Type 0
  IsEarlier b = IsOfOne in_class rule equations b ⊎ IsOfTwo in_class rule equations b

  -- the equations break a restriction
  abbrev pub IsViolation : Break → Type 0
  IsViolation b = IsEarlier b ⊎ IsNotSequential b
