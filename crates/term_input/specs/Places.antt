-- What stands behind blanks and comments.
use Rattle.std.specs.Prelude.{◌≡◌, ℕ, ◌+◌, ◌<◌, List, length, drop}
use Rattle.term_lex.specs.Gaps.{IsGap}

-- the next byte that is neither blank nor in a comment stands at `byte`, which is the text's length where
-- there is none
pub record IsNextByte (text : List ℕ) (place byte : ℕ) : Type 0 where
  pub gap : ℕ
  pub skipped : IsGap (drop place text) gap
  pub behind : byte ≡ place + gap

-- only blanks and comments stand in the text from the place on
abbrev pub NothingLeft : List ℕ → ℕ → Type 0
NothingLeft text place = IsNextByte text place (length text)

-- something else stands there first, at the byte
abbrev pub StandsNext : List ℕ → ℕ → ℕ → Type 0
StandsNext text place byte = IsNextByte text place byte × (byte < length text)
