-- What an input is read as: things that stand one after another, up to a limit on its bytes, and how their
-- reading ends.
use Rattle.std.specs.Prelude.{◌≡◌, ◌⊎◌, ℕ, ◌+◌, ◌<◌, ◌≤◌, ◌^◌, List, [], ◌∷◌, length, take, drop}
use Rattle.std.specs.Prelude.{Result, Ok, Err}
use Rattle.term_lex.specs.declared.fault.Fault.{Fault}
use Rattle.term_lex.specs.declared.fault.FaultKind.TheVariants.{TermLong}
use Rattle.term_input.specs.Places.{NothingLeft, StandsNext}

-- How reading ends: nothing is left of the input; or a thing is refused for a fault, whose byte counts from
-- the input's beginning; or the input is longer than the limit.
pub data End : Type 0 where
  whole : End
  refused : Fault → End
  long : End

-- the most bytes of one thing
abbrev pub window_bytes : ℕ
window_bytes = 2 ^ 24

-- the fault of a thing that begins at the place
abbrev pub fault_from : ℕ → Fault → Fault
fault_from from fault = record { kind = fault.kind; byte = from + fault.byte }

-- the thing that begins at the place is too long
abbrev pub too_long : ℕ → Fault
too_long from = record { kind = TermLong; byte = from }

-- `ReadsOne window r`: reading one thing at the beginning of the bytes comes to the thing and its length, or
-- to its first fault. `BytesEnded window fault`: the thing has the fault because the bytes ended before it
-- did.
module _ {A : Type 0} (ReadsOne : List ℕ → Result (A × ℕ) Fault → Type 0)
    (BytesEnded : List ℕ → Fault → Type 0) (limit : ℕ) (input : List ℕ) where
  -- the bytes of the input that are read
  abbrev pub read_bytes : List ℕ
  read_bytes = take limit input

  -- the window of a thing: the bytes from its beginning on, as many as a thing may have
  abbrev pub window : ℕ → List ℕ
  window from = take window_bytes (drop from read_bytes)

  -- the bytes ended too early, and the input goes on behind the window
  abbrev pub IsCut : ℕ → Fault → Type 0
  IsCut from fault = BytesEnded (window from) fault × (from + length (window from) < length input)

  -- How reading ends at a thing with a fault: it is refused for the fault, where it is not cut; as too long,
  -- where it is cut and fills its window; and where it does not, the limit has cut it.
  abbrev pub EndsAt : ℕ → Fault → End → Type 0
  EndsAt from fault end =
      ((¬ IsCut from fault) × (end ≡ refused (fault_from from fault)))
      ⊎ ((IsCut from fault × (length (window from) ≡ window_bytes) × (end ≡ refused (too_long from)))
      ⊎ (IsCut from fault × (length (window from) < window_bytes) × (end ≡ long)))

  -- how reading ends where no thing is left
  abbrev pub EndsBehind : End → Type 0
  EndsBehind end = ((length input ≤ limit) × (end ≡ whole)) ⊎ ((limit < length input) × (end ≡ long))

  -- what comes next at a place, behind blanks and comments: a thing and the place behind it, or the end
  abbrev pub IsNext : ℕ → Result (A × ℕ) End → Type 0
  IsNext at (Ok x) = (from : ℕ) × (len : ℕ) × StandsNext read_bytes at from
      × ReadsOne (window from) (Ok (x.0, len)) × (x.1 ≡ from + len)
  IsNext at (Err end) =
      (NothingLeft read_bytes at × EndsBehind end)
      ⊎ ((from : ℕ) × (fault : Fault) × StandsNext read_bytes at from
      × ReadsOne (window from) (Err fault) × EndsAt from fault end)

  -- these things come next from a place on, and then the end
  abbrev pub IsReadFrom : ℕ → List A → End → Type 0
  IsReadFrom at [] end = IsNext at (Err end)
  IsReadFrom at (x ∷ xs) end = (next : ℕ) × IsNext at (Ok (x, next)) × IsReadFrom next xs end

  -- these things come next from a place on, and the last one ends at `last`
  abbrev pub IsReadTo : ℕ → List A → ℕ → Type 0
  IsReadTo at [] last = at ≡ last
  IsReadTo at (x ∷ xs) last = (next : ℕ) × IsNext at (Ok (x, next)) × IsReadTo next xs last

  -- the input is read as these things and this end
  abbrev pub IsRead : List A → End → Type 0
  IsRead things end = IsReadFrom 0 things end
