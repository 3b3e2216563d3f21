-- Two patterns compared position by position, in preorder.
use Rattle.std.specs.Prelude.{◌≡◌, Some}
use Rattle.eq_base.specs.Tree.{Tree, head_of, number, Position, subtree_at, IsBefore}
use Rattle.eq_base.specs.Pattern.{PatternCell, Classes}
use Rattle.eq_base.specs.Testing.{ClashAt}
use Rattle.regularity.specs.Facing.{IsMismatch}
use Rattle.sequentiality.specs.declared.comparison.Comparison.{Comparison}
use Rattle.sequentiality.specs.declared.comparison.Comparison.TheVariants.{Clash, Mismatch, Common}

module _ {H : Type 0} where
  -- at the position one of the two patterns has a plain variable, and the other is tested
  pub record MismatchAt (p r : Tree (PatternCell H)) (q : Position) : Type 0 where
    pub one : Tree (PatternCell H)
    pub other : Tree (PatternCell H)
    pub one_stands : subtree_at p q ≡ Some one
    pub other_stands : subtree_at r q ≡ Some other
    pub differ : IsMismatch (head_of one) (head_of other)

  module _ (in_class : Classes H) (p r : Tree (PatternCell H)) where
    -- the patterns have neither a clash nor a mismatch at the position
    pub record AgreeAt (q : Position) : Type 0 where
      pub no_clash : ClashAt in_class p r q → ⊥
      pub no_mismatch : MismatchAt p r q → ⊥

    -- the position has a clash, and there is neither a clash nor a mismatch before it
    pub record IsFirstClash (at : Position) : Type 0 where
      pub clash : ClashAt in_class p r at
      pub before : (q : Position) → IsBefore q at → AgreeAt q

    -- the position has a mismatch, and there is neither a clash nor a mismatch before it
    pub record IsFirstMismatch (at : Position) : Type 0 where
      pub mismatch : MismatchAt p r at
      pub before : (q : Position) → IsBefore q at → AgreeAt q

    -- some position has a mismatch, and neither a clash nor a mismatch before it
    abbrev pub HasFirstMismatch : Type 0
    HasFirstMismatch = (at : Position) × IsFirstMismatch at

    -- what a comparison finds: the number of the first position with a clash or a mismatch, whichever comes first, or that there is none
    abbrev pub IsComparison : Comparison → Type 0
    IsComparison (Clash n) = (at : Position) × IsFirstClash at × (number p at ≡ n)
    IsComparison (Mismatch n) = (at : Position) × IsFirstMismatch at × (number p at ≡ n)
    IsComparison Common = (q : Position) → AgreeAt q
