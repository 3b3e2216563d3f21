-- The names and literals of a term as they are met from left to right, each with its arguments so far.
use Rattle.std.specs.Prelude.{ℕ, zero, suc, ◌-◌, ◌<◌, ◌≤◌, Bool, true, false, List, [], ◌∷◌, ◌++◌, length, map, reverse, All}
use Rattle.term_lex.specs.declared.token.Token.{Token}
use Rattle.term_lex.specs.declared.token.TokenKind.{TokenKind}
use Rattle.term_lex.specs.declared.token.TokenKind.TheVariants.{Name, Numeral, Text, OpenRound, CloseRound}
use Rattle.written_terms.specs.Mentions.{pair_of}
use Rattle.written_terms.specs.Mentions as written
use Rattle.standmath.specs.Notation.{standmath}
use Rattle.written_terms.specs.declared.mention.Mention.{Mention}

-- the heads met so far, and the numbers of those whose brackets are open, the innermost first
pub record Met (A : Type 0) : Type 0 where
  pub heads : List (A × ℕ)
  pub open_heads : List ℕ

-- the open heads behind a closing bracket
abbrev pub without_first : List ℕ → List ℕ
without_first [] = []
without_first (n ∷ ns) = ns

module _ {A : Type 0} where
  -- one more argument of the head with the number
  abbrev pub increased : ℕ → List (A × ℕ) → List (A × ℕ)
  increased n [] = []
  increased zero (h ∷ hs) = (h.0, suc h.1) ∷ hs
  increased (suc n) (h ∷ hs) = h ∷ increased n hs

  -- one more argument of the innermost of the open heads
  abbrev pub counted : List ℕ → List (A × ℕ) → List (A × ℕ)
  counted [] hs = hs
  counted (n ∷ ns) hs = increased n hs

  -- a head, which is one more argument of the innermost open one
  abbrev pub met_head : A → Met A → Met A
  met_head a m = record { heads = counted m.open_heads m.heads ++ (a, 0) ∷ []; open_heads = m.open_heads }

  -- a bracket, or another lexeme that is no head
  abbrev pub met_sign : TokenKind → Met A → Met A
  met_sign OpenRound m = record { heads = m.heads; open_heads = (length m.heads - 1) ∷ m.open_heads }
  met_sign CloseRound m = record { heads = m.heads; open_heads = without_first m.open_heads }
  met_sign kind m = m

  -- what has been met with one more lexeme of the kind
  abbrev pub met_kind : TokenKind → A → Met A → Met A
  met_kind Name a m = met_head a m
  met_kind Numeral a m = met_head a m
  met_kind Text a m = met_head a m
  met_kind kind a m = met_sign kind m

-- no head is open
abbrev pub is_closed : List ℕ → Bool
is_closed [] = true
is_closed (n ∷ ns) = false

-- what the fields of a `Mentions` stand for
abbrev pub met_of : List Mention → List ℕ → Met Token
met_of mentions opened = record { heads = map pair_of mentions; open_heads = reverse opened }

-- the open heads are among the mentions, and no count is above the number of mentions
pub record IsSound (mentions : List Mention) (opened : List ℕ) : Type 0 where
  pub inside : All (λ number. number < length mentions) opened
  pub few : All (λ mention. mention.args ≤ length mentions) mentions

-- these are the names and literals of the term that is read from `at` to `end`, each with its number of arguments
abbrev pub Mentioned : List ℕ → ℕ → List Mention → ℕ → Type 0
Mentioned text at mentions end = written.Mentioned standmath text at mentions end
