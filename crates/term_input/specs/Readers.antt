-- What is asked of a reader of one thing, for each input to be read in one way.
use Rattle.std.specs.Prelude.{◌≡◌, ℕ, ◌<◌, ◌≤◌, Bool, IsTrue, List, ◌++◌, length, Result, Ok}
use Rattle.term_lex.specs.declared.fault.Fault.{Fault}

module _ {A : Type 0} (ReadsOne : List ℕ → Result (A × ℕ) Fault → Type 0) where
  -- bytes are read in one way, a thing has bytes of its own, and nothing behind it is looked at
  pub record IsReader : Type 0 where
    pub one : (window : List ℕ) (r s : Result (A × ℕ) Fault) → ReadsOne window r → ReadsOne window s → r ≡ s
    pub within : (window : List ℕ) (x : A) (len : ℕ) → ReadsOne window (Ok (x, len))
        → (0 < len) × (len ≤ length window)
    pub front : (window more : List ℕ) (x : A) (len : ℕ) → ReadsOne window (Ok (x, len))
        → ReadsOne (window ++ more) (Ok (x, len))

-- the bytes are read as a function says
abbrev pub ReadsBy : {A : Type 0} → (List ℕ → Result (A × ℕ) Fault) → List ℕ → Result (A × ℕ) Fault → Type 0
ReadsBy read_one window r = read_one window ≡ r

-- the bytes ended too early, as a function says
abbrev pub EndedBy : (List ℕ → Fault → Bool) → List ℕ → Fault → Type 0
EndedBy ended window fault = IsTrue (ended window fault)
