-- How two cells at one position stand to each other.
use Rattle.std.specs.Prelude.{◌≡◌, ◌⊎◌, List}
use Rattle.eq_base.specs.Pattern.{PatternCell, fixed, IsTested, Classes, Clash}
use Rattle.eq_base.specs.Meeting.{in_class_of}
use Rattle.eq_base.specs.declared.head.Head.{Head}
use Rattle.regularity.specs.declared.facing.Facing as facings
use Rattle.regularity.specs.declared.facing.Facing.TheVariants as facing

module _ {H : Type 0} where
  -- both cells are tested, and no head meets both
  abbrev pub DoClash : Classes H → PatternCell H → PatternCell H → Type 0
  DoClash in_class c d = IsTested c × IsTested d × Clash in_class c d

  -- of the two cells one is tested, and the other is a plain variable
  abbrev pub IsMismatch : PatternCell H → PatternCell H → Type 0
  IsMismatch c d = (IsTested c × (IsTested d → ⊥)) ⊎ ((IsTested c → ⊥) × IsTested d)

  -- both cells are the same head
  abbrev pub IsSameHead : PatternCell H → PatternCell H → Type 0
  IsSameHead c d = (h : H) × (c ≡ fixed h) × (d ≡ fixed h)

  -- one of the two cells is a variable, plain or restricted, and they have neither a clash nor a mismatch
  pub record IsQuietVariable (in_class : Classes H) (c d : PatternCell H) : Type 0 where
    pub variable : ((g : H) → c ≡ fixed g → ⊥) ⊎ ((h : H) → d ≡ fixed h → ⊥)
    pub no_clash : DoClash in_class c d → ⊥
    pub no_mismatch : IsMismatch c d → ⊥

-- how the cells stand to each other, in a file with these classes
abbrev pub IsFacing : List (List Head) → PatternCell Head → PatternCell Head → facings.Facing → Type 0
IsFacing classes c d facing.Clash = DoClash (in_class_of classes) c d
IsFacing classes c d facing.Mismatch = IsMismatch c d
IsFacing classes c d facing.SameHead = IsSameHead c d
IsFacing classes c d facing.Variable = IsQuietVariable (in_class_of classes) c d
