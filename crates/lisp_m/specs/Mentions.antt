-- The names, literals and parts of lists of a term as they are met from left to right, each with its
-- arguments so far.
use Rattle.std.specs.Prelude.{ℕ, zero, suc, ◌+◌, ◌-◌, ◌<◌, ◌≤◌, Bool, true, false, List, [], ◌∷◌, ◌++◌, length, map, reverse, All, Option, Some, None, cond, ◌&&◌}
use Rattle.term_lex.specs.declared.token.Token.{Token}
use Rattle.term_lex.specs.declared.token.TokenKind.{TokenKind}
use Rattle.term_lex.specs.declared.token.TokenKind.TheVariants.{Name, Numeral, Text, OpenRound, CloseRound, OpenSquare, CloseSquare, Dot}
use Rattle.written_terms.specs.declared.mention.Mention.{Mention}
use Rattle.written_terms.specs.Mentions.{pair_of}
use Rattle.written_terms.specs.Mentions as written
use Rattle.term_lex.specs.declared.fault.Fault.{Fault}
use Rattle.term_lex.specs.declared.fault.FaultKind.TheVariants.{DotPlace}
use Rattle.term_lex.specs.Lexemes.{misplaced}
use Rattle.lisp_m.specs.Notation.{lisp_m}
use Rattle.lisp_m.specs.Steps.{step_of}
use Rattle.lisp_m.specs.declared.place.Place.{Place}
use Rattle.lisp_m.specs.declared.place.Bracket.{Bracket}
use Rattle.lisp_m.specs.declared.place.Bracket.TheVariants.{Square, NoElement, Round, BehindDot, Tail}
use Rattle.lisp_m.specs.declared.mentions.Open.{Open}

-- the heads met so far, and the open brackets, the innermost first
pub record Met (A : Type 0) : Type 0 where
  pub heads : List (A × ℕ)
  pub opens : List Open

-- the innermost open bracket
abbrev pub innermost : List Open → Option Bracket
innermost [] = None
innermost (o ∷ os) = Some o.bracket

-- a bracket behind the beginning of a term: a list has an element, or a tail behind its dot
abbrev pub entered : Bracket → Bracket
entered NoElement = Round
entered BehindDot = Tail
entered bracket = bracket

-- no bracket is open
abbrev pub is_closed : List Open → Bool
is_closed [] = true
is_closed (o ∷ os) = false

-- the open brackets behind a closing one
abbrev pub without_first : List Open → List Open
without_first [] = []
without_first (o ∷ os) = os

-- the innermost bracket behind the beginning of a term, and behind a dot
abbrev pub begun : List Open → List Open
begun [] = []
begun (o ∷ os) = record { bracket = entered o.bracket; number = o.number } ∷ os

abbrev pub dotted : Bracket → Bracket
dotted Round = BehindDot
dotted bracket = bracket

abbrev pub behind_dot : List Open → List Open
behind_dot [] = []
behind_dot (o ∷ os) = record { bracket = dotted o.bracket; number = o.number } ∷ os

module _ {A : Type 0} where
  -- one more argument of the head with the number
  abbrev pub increased : ℕ → List (A × ℕ) → List (A × ℕ)
  increased n [] = []
  increased zero (h ∷ hs) = (h.0, suc h.1) ∷ hs
  increased (suc n) (h ∷ hs) = h ∷ increased n hs

  -- the head with the number gets two arguments
  abbrev pub with_two : ℕ → List (A × ℕ) → List (A × ℕ)
  with_two n [] = []
  with_two zero (h ∷ hs) = (h.0, 2) ∷ hs
  with_two (suc n) (h ∷ hs) = h ∷ with_two n hs

  -- the head with the number once more, with so many arguments
  abbrev pub again : ℕ → ℕ → List (A × ℕ) → List (A × ℕ)
  again n args [] = []
  again zero args (h ∷ hs) = (h.0, args) ∷ []
  again (suc n) args (h ∷ hs) = again n args hs

  -- one more part of a list that has elements, with so many arguments
  abbrev pub parted : ℕ → Bracket → ℕ → List (A × ℕ) → List (A × ℕ)
  parted args Round n hs = hs ++ again n args hs
  parted args bracket n hs = hs

  -- one more argument of a name, or the first element of a list
  abbrev pub added : Bracket → ℕ → List (A × ℕ) → List (A × ℕ)
  added Square n hs = increased n hs
  added NoElement n hs = with_two n hs
  added bracket n hs = hs

  -- what a term that begins does to the heads before it: it is one more argument, the first element, or one
  -- more element with a part of its own
  abbrev pub room : Bracket → ℕ → List (A × ℕ) → List (A × ℕ)
  room Square n hs = increased n hs
  room NoElement n hs = with_two n hs
  room Round n hs = hs ++ again n 2 hs
  room bracket n hs = hs

  -- the heads where a term begins
  abbrev pub counted : List Open → List (A × ℕ) → List (A × ℕ)
  counted [] hs = hs
  counted (o ∷ os) hs = room o.bracket o.number hs

  -- a head, where a term begins
  abbrev pub met_head : A → Met A → Met A
  met_head a m = record { heads = counted m.opens m.heads ++ (a, 0) ∷ []; opens = begun m.opens }

  -- a bracket behind the last head
  abbrev pub opened : Bracket → Met A → Met A
  opened bracket m =
      record { heads = m.heads; opens = record { bracket = bracket; number = length m.heads - 1 } ∷ m.opens }

  -- the end of a list that has elements and no tail
  abbrev pub closed : List Open → List (A × ℕ) → List (A × ℕ)
  closed [] hs = hs
  closed (o ∷ os) hs = parted 0 o.bracket o.number hs

  -- a sign
  abbrev pub met_sign : TokenKind → Met A → Met A
  met_sign OpenSquare m = opened Square m
  met_sign CloseSquare m = record { heads = m.heads; opens = without_first m.opens }
  met_sign CloseRound m = record { heads = closed m.opens m.heads; opens = without_first m.opens }
  met_sign Dot m = record { heads = m.heads; opens = behind_dot m.opens }
  met_sign kind m = m

  -- what has been met with one more lexeme of the kind
  abbrev pub met_kind : TokenKind → A → Met A → Met A
  met_kind Name a m = met_head a m
  met_kind Numeral a m = met_head a m
  met_kind Text a m = met_head a m
  met_kind OpenRound a m = opened NoElement (met_head a m)
  met_kind kind a m = met_sign kind m

-- what the fields of a `Mentions` stand for
abbrev pub met_of : List Mention → List Open → Met Token
met_of mentions opens = record { heads = map pair_of mentions; opens = reverse opens }

-- the open brackets are behind mentions, and no count is far above the number of mentions
pub record IsSound (mentions : List Mention) (opens : List Open) : Type 0 where
  pub inside : All (λ bracket. bracket.number < length mentions) opens
  pub few : All (λ mention. mention.args ≤ length mentions + 1) mentions

-- these are the names, literals and parts of lists of the term that is read from `at` to `end`, each with its
-- number of arguments
abbrev pub Mentioned : List ℕ → ℕ → List Mention → ℕ → Type 0
Mentioned text at mentions end = written.Mentioned lisp_m text at mentions end

-- the lexeme is a dot
abbrev pub is_dot : TokenKind → Bool
is_dot Dot = true
is_dot kind = false

abbrev pub is_some : Option Place → Bool
is_some (Some place) = true
is_some None = false

-- the fault of a token that has no step: a dot where a list could end, or any other
abbrev pub stuck_fault : Place → Option Bracket → Token → Fault
stuck_fault place bracket t =
    cond (is_dot t.kind && is_some (step_of place bracket CloseRound))
    (record { kind = DotPlace; byte = t.from })
    (misplaced t)
