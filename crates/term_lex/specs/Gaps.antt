-- What stands between tokens: blanks and comments.
use Rattle.std.specs.Prelude.{◌≡◌, ◌≢◌, ℕ, ◌<◌, ◌≤◌, true, List, length, slice_get, Some, ◌⊎◌}
use Rattle.term_lex.specs.Bytes.{is_blank}

-- the byte stands in a comment: at a `%`, or behind one on the same line
pub record IsInComment (bytes : List ℕ) (place : ℕ) : Type 0 where
  pub sign : ℕ
  pub found : slice_get bytes sign ≡ Some 37
  pub before : sign ≤ place
  pub same_line : (between : ℕ) → sign ≤ between → between ≤ place → slice_get bytes between ≢ Some 10

-- the byte is blank
abbrev pub IsBlankAt : List ℕ → ℕ → Type 0
IsBlankAt bytes place = (b : ℕ) × (slice_get bytes place ≡ Some b) × (is_blank b ≡ true)

-- the byte is blank or in a comment
abbrev pub IsSkipped : List ℕ → ℕ → Type 0
IsSkipped bytes place = IsBlankAt bytes place ⊎ IsInComment bytes place

-- so many bytes are blank or in a comment, and the next one, if any, is not
pub record IsGap (bytes : List ℕ) (len : ℕ) : Type 0 where
  pub within : len ≤ length bytes
  pub skipped : (place : ℕ) → place < len → IsSkipped bytes place
  pub ends : len < length bytes → ¬ IsSkipped bytes len
