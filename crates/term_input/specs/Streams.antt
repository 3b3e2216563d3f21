-- The bytes that were taken of an input, and not given up.
use Rattle.std.specs.Prelude.{◌≡◌, ℕ, ◌+◌, ◌<◌, ◌≤◌, List, [], ◌++◌, length, drop}
use Rattle.std.specs.declared.option.Option.{Option}
use Rattle.std.specs.Io.KnownBytes.{Consumes, IsAtEnd}
use Rattle.eq_ports.specs.Causes.{Rose}
use Rattle.term_input.specs.declared.source_state.SourceState.{SourceState}
use Rattle.term_input.specs.declared.source_state.SourceState.TheVariants.{Open, AtEnd, Failed}

-- What contracts see of a stream: the bytes that are held, the place of the first of them in the input, the
-- limit on the bytes that are read, and what is known of the source.
pub record Held : Type 0 where
  pub bytes : List ℕ
  pub place : ℕ
  pub limit : ℕ
  pub state : SourceState

-- nothing was taken yet
abbrev pub nothing_held : ℕ → Held
nothing_held limit = record { bytes = []; place = 0; limit = limit; state = Open }

-- how many bytes were taken of the input
abbrev pub taken_count : Held → ℕ
taken_count held = held.place + length held.bytes

-- a read may be made: none has ended or failed, and no byte was taken behind the limit
abbrev pub MayTake : Held → Type 0
MayTake held = (held.state ≡ Open) × (taken_count held ≤ held.limit)

-- The bytes that left the source joined those that are held, up to one byte behind the limit. Where a read
-- might be made, there are some of them, or the source is at its end, or the read failed.
pub record Takes (before left : Option (List ℕ)) (old new : Held) : Type 0 where
  pub taken : List ℕ
  pub consumed : Consumes before left taken
  pub bytes : new.bytes ≡ old.bytes ++ taken
  pub place : new.place ≡ old.place
  pub limit : new.limit ≡ old.limit
  pub within : taken_count new ≤ new.limit + 1
  pub some : MayTake old → new.state ≡ Open → 0 < length taken
  pub at_end : MayTake old → new.state ≡ AtEnd → IsAtEnd left
  pub unchanged : ¬ MayTake old → (new ≡ old) × (left ≡ before)

-- a read failed
abbrev pub HasFailed : Held → Held → Type 0
HasFailed old new = (old.state ≡ Open) × (new.state ≡ Failed)

-- the fault count rose where a read failed, and else it is as before
pub record IsTakingCount (before now : ℕ) (old new : Held) : Type 0 where
  pub later : before ≤ now
  pub failed : HasFailed old new → Rose before now
  pub steady : ¬ HasFailed old new → now ≡ before

-- these bytes were taken of the input so far, and those from the place on are held
pub record IsTaken (before left : Option (List ℕ)) (taken : List ℕ) (held : Held) : Type 0 where
  pub consumed : Consumes before left taken
  pub place : held.place ≤ length taken
  pub bytes : held.bytes ≡ drop held.place taken
  pub within : length taken ≤ held.limit + 1
  pub at_end : held.state ≡ AtEnd → IsAtEnd left
