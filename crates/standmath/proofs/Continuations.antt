-- What may still come of a term, by the place and the number of open brackets.
use Rattle.std.specs.Prelude.{◌≡◌, ℕ, zero, suc, List, [], ◌∷◌, ◌++◌, ◌⊎◌}
use Rattle.term_lex.specs.declared.token.TokenKind.TheVariants.{OpenRound, CloseRound}
use Rattle.standmath.specs.declared.place.Place.{Place}
use Rattle.standmath.specs.declared.place.Place.TheVariants.{Term, FirstArgument, AfterName, AfterTerm}
use Rattle.standmath.specs.Terms.{Terminal, Sign, Written, Others, spelling, behind_commas}

-- after a whole term, with d brackets open
abbrev pub Closes : ℕ → List Terminal → Type 0
Closes zero more = more ≡ []
Closes (suc d) more = (others : Others) × (rest : List Terminal) × (more ≡ behind_commas others ++ Sign CloseRound ∷ rest) × Closes d rest

-- a term, and then what closes the brackets
abbrev pub Begins : ℕ → List Terminal → Type 0
Begins d more = (t : Written) × (rest : List Terminal) × (more ≡ spelling t ++ rest) × Closes d rest

-- the bracket that closes an empty list
abbrev pub ClosesEmpty : ℕ → List Terminal → Type 0
ClosesEmpty zero more = ⊥
ClosesEmpty (suc d) more = (rest : List Terminal) × (more ≡ Sign CloseRound ∷ rest) × Closes d rest

-- a first argument, or none
abbrev pub Arguments : ℕ → List Terminal → Type 0
Arguments d more = Begins d more ⊎ ClosesEmpty d more

-- the bracket that opens a list of arguments
abbrev pub Opens : ℕ → List Terminal → Type 0
Opens d more = (rest : List Terminal) × (more ≡ Sign OpenRound ∷ rest) × Arguments (suc d) rest

abbrev pub Completes : Place → ℕ → List Terminal → Type 0
Completes Term d more = Begins d more
Completes FirstArgument d more = Arguments d more
Completes AfterName d more = Closes d more ⊎ Opens d more
Completes AfterTerm d more = Closes d more
