-- What comes next in the bytes that were taken of an input.
use Rattle.std.specs.Prelude.{◌≡◌, ◌≢◌, ◌⊎◌, ℕ, ◌+◌, ◌-◌, ◌<◌, ◌≤◌, Bool, true, false, List, ◌++◌, length}
use Rattle.std.specs.Prelude.{take}
use Rattle.std.specs.Prelude.{Result, Ok, Err, Option, Some}
use Rattle.std.specs.Io.KnownBytes.{IsAtEnd}
use Rattle.eq_base.specs.Tree.{Tree}
use Rattle.eq_base.specs.ReadHead.{ReadHead}
use Rattle.eq_ports.specs.Causes.{Rose}
use Rattle.term_lex.specs.declared.fault.Fault.{Fault}
use Rattle.term_lex.specs.declared.syntax.Syntax.{Syntax}
use Rattle.symbol_table.specs.Table.{Table}
use Rattle.symbol_table.specs.Reading.{read, IsLiveTerm}
use Rattle.term_input.specs.declared.source_state.SourceState.TheVariants as states
use Rattle.term_input.specs.Places.{NothingLeft, StandsNext}
use Rattle.term_input.specs.Ending.{BytesEnded}
use Rattle.term_input.specs.Inputs as inputs
use Rattle.term_input.specs.TermReading.{ReadsOne}
use Rattle.term_input.specs.Streams.{Held, MayTake, IsTaken}
use Rattle.ei_program.specs.declared.reading.End.{End}
use Rattle.ei_program.specs.declared.reading.End.TheVariants.{Whole, Refused, Long}
use Rattle.ei_program.specs.declared.reading.Next.{Next}
use Rattle.ei_program.specs.declared.reading.Next.TheVariants as nexts

-- the end that is meant
abbrev pub end_of : End → inputs.End
end_of Whole = inputs.whole
end_of (Refused fault) = inputs.refused fault
end_of Long = inputs.long

-- ---- what is held

-- those of the bytes that are held that are not behind the limit
abbrev pub readable : Held → List ℕ
readable held = take (held.limit - held.place) held.bytes

-- the window of the term that begins with the first byte that is held
abbrev pub window_of : Held → List ℕ
window_of held = take inputs.window_bytes (readable held)

-- more bytes can change how that term is read
abbrev pub MayChange : Held → Type 0
MayChange held = MayTake held × (length held.bytes ≤ inputs.window_bytes)

-- the window cuts that term off, where it has this fault
abbrev pub IsCut : Held → Fault → Type 0
IsCut held fault = BytesEnded (window_of held) fault × (length (window_of held) < length held.bytes)

-- how reading ends at that term, with this fault
abbrev pub EndsSo : Held → Fault → End → Type 0
EndsSo held fault end =
    ((¬ IsCut held fault) × (end ≡ Refused (inputs.fault_from held.place fault)))
    ⊎ (IsCut held fault × (length (window_of held) ≡ inputs.window_bytes)
    × (end ≡ Refused (inputs.too_long held.place)))
    ⊎ (IsCut held fault × (length (window_of held) < inputs.window_bytes) × (end ≡ Long))

-- ---- what is taken

-- More was taken and bytes were given up: however the bytes before were taken, this holds of all that were.
abbrev pub Goes : (mid left : Option (List ℕ)) (old new : Held) → (List ℕ → Type 0) → Type 0
Goes mid left old new Holds = (before : Option (List ℕ)) (taken : List ℕ) → IsTaken before mid taken old
    → (more : List ℕ) × IsTaken before left (taken ++ more) new × Holds (taken ++ more)

-- the limit is as before; the fault count rose where a read failed, and else it is as before
pub record IsCounted (before now : ℕ) (old new : Held) : Type 0 where
  pub limit : new.limit ≡ old.limit
  pub later : before ≤ now
  pub failed : old.state ≢ states.Failed → new.state ≡ states.Failed → Rose before now
  pub steady : new.state ≢ states.Failed → now ≡ before
  pub stays : old.state ≡ states.Failed → (new.state ≡ states.Failed) × (now ≡ before)

-- more was taken and nothing given up: bytes, or the end or a failure of the source
pub record IsFarther (old new : Held) : Type 0 where
  pub place : new.place ≡ old.place
  pub more : length old.bytes ≤ length new.bytes
  pub some : (length old.bytes < length new.bytes) ⊎ (new.state ≢ states.Open)

-- whether something stands behind blanks and comments; where nothing does, no more can be taken
abbrev pub SkipsTo : Bool → (old new : Held) (taken : List ℕ) → Type 0
SkipsTo true old new taken = StandsNext (take old.limit taken) old.place new.place
SkipsTo false old new taken = NothingLeft (take old.limit taken) old.place
    × (new.place ≡ length (take old.limit taken)) × (¬ MayTake new)

-- ---- what comes next

-- each number in a term that comes next is live
abbrev pub IsLiveNext : Table → Next → Type 0
IsLiveNext table (nexts.Term t) = IsLiveTerm table t
IsLiveNext table (nexts.End end) = Unit {0}

module _ (syntax : Syntax) (names : Table) where
  -- what comes next in bytes at a place
  abbrev pub TermNext : (limit : ℕ) → List ℕ → ℕ → Result (Tree ReadHead × ℕ) inputs.End → Type 0
  TermNext limit bytes at r = inputs.IsNext (ReadsOne syntax names) BytesEnded limit bytes at r

  -- the window of the thing at a place
  abbrev pub window : (limit : ℕ) → List ℕ → ℕ → List ℕ
  window limit bytes from = inputs.window (ReadsOne syntax names) BytesEnded limit bytes from

  -- the term that begins at the first byte that is held, or its fault and the end there, which no more bytes
  -- can change
  abbrev pub IsThing : Table → (old new : Held) → Next → List ℕ → Type 0
  IsThing table old new (nexts.Term t) taken = (len : ℕ)
      × ReadsOne syntax names (window old.limit taken old.place) (Ok (read table t, len))
      × (new.place ≡ old.place + len)
  IsThing table old new (nexts.End end) taken = (fault : Fault)
      × ReadsOne syntax names (window old.limit taken old.place) (Err fault)
      × inputs.EndsAt (ReadsOne syntax names) BytesEnded old.limit taken old.place fault (end_of end)
      × (new.place ≡ old.place) × (¬ MayChange new)

  -- unless a read failed, the end comes next also in the whole input, and nothing is left where that is whole
  pub record Settles (old new : Held) (left : Option (List ℕ)) (end : End) (taken : List ℕ) : Type 0 where
    pub stays : new.state ≢ states.Failed → (rest : List ℕ) → left ≡ Some rest
        → TermNext old.limit (taken ++ rest) old.place (Err (end_of end))
    pub at_end : new.state ≢ states.Failed → end ≡ Whole → IsAtEnd left

  -- this comes next in the bytes that were taken, and is given up
  abbrev pub ComesNext : Table → (old new : Held) (left : Option (List ℕ)) → Next → List ℕ → Type 0
  ComesNext table old new left (nexts.Term t) taken =
      TermNext old.limit taken old.place (Ok (read table t, new.place))
  ComesNext table old new left (nexts.End end) taken =
      TermNext old.limit taken old.place (Err (end_of end)) × Settles old new left end taken
