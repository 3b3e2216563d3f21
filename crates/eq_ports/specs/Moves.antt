-- What calls on the outside move: bytes, and the choice of a file.
use Rattle.std.specs.Prelude.{◌≡◌, ℕ, ◌<◌, List, ◌++◌, length, Bool, Result, IfOk}
use Rattle.std.specs.Io.KnownBytes.{Appends}
use Rattle.std.specs.declared.option.Option.{Option}
use Rattle.std.specs.declared.option.Option.TheVariants.{None, Some}

-- a write of some bytes takes at least one of them
abbrev pub TakesSome : {E : Type 0} → Result ℕ E → List ℕ → Type 0
TakesSome result piece = IfOk result (λ n. 0 < length piece → 0 < n)

-- known bytes grow by a front of these
abbrev pub AppendsFront : Option (List ℕ) → Option (List ℕ) → List ℕ → Type 0
AppendsFront old new bytes =
    (front : List ℕ) × (back : List ℕ) × (front ++ back ≡ bytes) × Appends old new front

-- the file is there, and all of its bytes are left
abbrev pub BeginsAt : Option (List ℕ) → Option (List ℕ) → Type 0
BeginsAt None rest = ⊥
BeginsAt (Some bytes) rest = rest ≡ Some bytes

-- the bytes under each name, where these are known
abbrev pub Named : Type 0
Named = Option (List ℕ → Option (List ℕ))

-- what is known of the files of the system
pub record Folder : Type 0 where
  -- whether one is chosen
  pub is_chosen : Bool
  -- the fault count
  pub faults : ℕ
