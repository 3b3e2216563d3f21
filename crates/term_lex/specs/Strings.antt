-- Strings: the bytes that they hold, and how these are written.
use Rattle.std.specs.Prelude.{◌≡◌, ℕ, true, ◌==◌, List, [], ◌∷◌, ◌++◌, flat_map, if◌then◌else◌}
use Rattle.std.specs.List.{AllByRecursion}
use Rattle.term_lex.specs.Bytes.{is_text_byte}

-- how a byte is written: " and \\ behind a backslash, newline and tab as \n and \t, every other byte as
-- itself
abbrev pub written : ℕ → List ℕ
written b =
    if b == 34 then 92 ∷ 34 ∷ []
    else (if b == 92 then 92 ∷ 92 ∷ []
    else (if b == 10 then 92 ∷ 110 ∷ []
    else (if b == 9 then 92 ∷ 116 ∷ []
    else b ∷ [])))

-- how bytes are written, one after another
abbrev pub spelled : List ℕ → List ℕ
spelled value = flat_map written value

-- a string can hold each of the bytes
abbrev pub AreTextBytes : List ℕ → Type 0
AreTextBytes value = AllByRecursion (λ b. is_text_byte b ≡ true) value

-- the bytes are the string that holds this value: its spelling between quotes
pub record IsString (bytes value : List ℕ) : Type 0 where
  pub quoted : bytes ≡ 34 ∷ (spelled value ++ 34 ∷ [])
  pub holds : AreTextBytes value

-- an element of a string begins the bytes
abbrev pub BeginsElement : List ℕ → Type 0
BeginsElement bytes = (b : ℕ) × (rest : List ℕ) × (is_text_byte b ≡ true) × (bytes ≡ written b ++ rest)
