-- How a lexeme changes what may still come.
use Rattle.std.proofs.Common.{◌≡◌, ℕ, zero, suc, Bool, true, false, List, [], ◌∷◌, ◌++◌, ◌⊎◌, inl, inr, refl, append_assoc, subst, ◌↔◌, Option, Some, None}
use Rattle.term_lex.specs.declared.token.TokenKind.{TokenKind}
use Rattle.term_lex.specs.declared.token.TokenKind.TheVariants.{Name, Numeral, Text, OpenRound, CloseRound, Comma}
use Rattle.term_lex.specs.Lexemes.{Lexeme}
use Rattle.standmath.specs.declared.place.Place.{Place}
use Rattle.standmath.specs.declared.place.Place.TheVariants.{Term, FirstArgument, AfterName, AfterTerm}
use Rattle.standmath.specs.Terms.{Terminal, Word, Literal, Sign, Constant, Value, Empty, Call, NoMore, More, spelling, behind_commas, terminal_of_kind}
use Rattle.standmath.specs.Steps.{step_of, ends_term}
use Rattle.standmath.proofs.Continuations.{Closes, Begins, Arguments, Opens, Completes}

closes_comma : (d : ℕ) (more : List Terminal) → Closes (suc d) (Sign Comma ∷ more) → Begins (suc d) more
closes_comma d more (NoMore, rest, e, c) = cc
closes_comma d more (More t others, rest, e, c) = (t, behind_commas others ++ Sign CloseRound ∷ rest, cc (append_assoc (spelling t) (behind_commas others) (Sign CloseRound ∷ rest)), (others, rest, refl, c))

comma_closes : (d : ℕ) (more : List Terminal) → Begins (suc d) more → Closes (suc d) (Sign Comma ∷ more)
comma_closes d more (t, after, e, (others, rest, f, c)) = (More t others, rest, cc (append_assoc (spelling t) (behind_commas others) (Sign CloseRound ∷ rest)), c)

closes_close : (d : ℕ) (more : List Terminal) → Closes (suc d) (Sign CloseRound ∷ more) → Closes d more
closes_close d more (NoMore, rest, e, c) = let same : rest ≡ more = cc in subst (Closes d) same c
closes_close d more (More t others, rest, e, c) = cc

close_closes : (d : ℕ) (more : List Terminal) → Closes d more → Closes (suc d) (Sign CloseRound ∷ more)
close_closes d more c = (NoMore, more, refl, c)

-- nothing else follows a term
closes_no_word : (d : ℕ) (x : Lexeme) (more : List Terminal) → Closes d (Word x ∷ more) → ⊥
closes_no_word zero x more c = cc
closes_no_word (suc d) x more (NoMore, rest, e, c) = cc
closes_no_word (suc d) x more (More u others, rest, e, c) = cc

closes_no_literal : (d : ℕ) (x : Lexeme) (more : List Terminal) → Closes d (Literal x ∷ more) → ⊥
closes_no_literal zero x more c = cc
closes_no_literal (suc d) x more (NoMore, rest, e, c) = cc
closes_no_literal (suc d) x more (More u others, rest, e, c) = cc

closes_no_sign : (d : ℕ) (k : TokenKind) (more : List Terminal) → (k ≡ Comma → ⊥) → (k ≡ CloseRound → ⊥) → Closes d (Sign k ∷ more) → ⊥
closes_no_sign zero k more f g c = cc
closes_no_sign (suc d) k more f g (NoMore, rest, e, c) = let same : k ≡ CloseRound = cc in g same
closes_no_sign (suc d) k more f g (More u others, rest, e, c) = let same : k ≡ Comma = cc in f same

closes_none : (k : TokenKind) (more : List Terminal) → Closes 0 (Sign k ∷ more) → ⊥
closes_none k more c = cc

-- a term begins with a name or a literal
begins_no_sign : (d : ℕ) (k : TokenKind) (more : List Terminal) → Begins d (Sign k ∷ more) → ⊥
begins_no_sign d k more (Constant x, rest, e, c) = cc
begins_no_sign d k more (Value x, rest, e, c) = cc
begins_no_sign d k more (Empty x, rest, e, c) = cc
begins_no_sign d k more (Call x first others, rest, e, c) = cc

begins_literal : (d : ℕ) (x : Lexeme) (more : List Terminal) → Begins d (Literal x ∷ more) → Closes d more
begins_literal d x more (Constant u, rest, e, c) = cc
begins_literal d x more (Value u, rest, e, c) = let same : rest ≡ more = cc in subst (Closes d) same c
begins_literal d x more (Empty u, rest, e, c) = cc
begins_literal d x more (Call u first others, rest, e, c) = cc

literal_begins : (d : ℕ) (x : Lexeme) (more : List Terminal) → Closes d more → Begins d (Literal x ∷ more)
literal_begins d x more c = (Value x, more, refl, c)

begins_word : (d : ℕ) (x : Lexeme) (more : List Terminal) → Begins d (Word x ∷ more) → Closes d more ⊎ Opens d more
begins_word d x more (Constant u, rest, e, c) = let same : rest ≡ more = cc in inl (subst (Closes d) same c)
begins_word d x more (Value u, rest, e, c) = cc
begins_word d x more (Empty u, rest, e, c) = inr (Sign CloseRound ∷ rest, cc, inr (rest, refl, c))
begins_word d x more (Call u first others, rest, e, c) =
    inr (spelling first ++ behind_commas others ++ Sign CloseRound ∷ rest, cc (append_assoc (spelling first ++ behind_commas others) (Sign CloseRound ∷ []) rest), inl (first, behind_commas others ++ Sign CloseRound ∷ rest, append_assoc (spelling first) (behind_commas others) (Sign CloseRound ∷ rest), (others, rest, refl, c)))

word_begins : (d : ℕ) (x : Lexeme) (more : List Terminal) → Closes d more ⊎ Opens d more → Begins d (Word x ∷ more)
word_begins d x more (inl c) = (Constant x, more, refl, c)
word_begins d x more (inr (after, e, inr (rest, f, c))) = (Empty x, rest, cc, c)
word_begins d x more (inr (after, e, inl (first, tail, f, (others, rest, g, c)))) =
    (Call x first others, rest, cc (append_assoc (spelling first) (behind_commas others) (Sign CloseRound ∷ rest), append_assoc (spelling first ++ behind_commas others) (Sign CloseRound ∷ []) rest), c)

-- how many brackets are open behind a lexeme of the kind
abbrev pub depth_after : TokenKind → ℕ → ℕ
depth_after OpenRound d = suc d
depth_after CloseRound zero = zero
depth_after CloseRound (suc d) = d
depth_after kind d = d

abbrev pub is_nested : ℕ → Bool
is_nested zero = false
is_nested (suc d) = true

-- What follows a step is what followed before it, without the lexeme. Where there is no step, the lexeme follows nowhere.
abbrev pub StepIs : Option Place → ℕ → (List Terminal → Type 0) → Type 0
StepIs (Some place) d Before = (more : List Terminal) → Before more ↔ Completes place d more
StepIs None d Before = (more : List Terminal) → Before more → ⊥

arguments_word : (d : ℕ) (x : Lexeme) (more : List Terminal) → Arguments d (Word x ∷ more) → Closes d more ⊎ Opens d more
arguments_word d x more (inl b) = begins_word d x more b
arguments_word zero x more (inr b) = absurd b
arguments_word (suc d) x more (inr (rest, e, c)) = cc

arguments_literal : (d : ℕ) (x : Lexeme) (more : List Terminal) → Arguments d (Literal x ∷ more) → Closes d more
arguments_literal d x more (inl b) = begins_literal d x more b
arguments_literal zero x more (inr b) = absurd b
arguments_literal (suc d) x more (inr (rest, e, c)) = cc

arguments_close : (d : ℕ) (more : List Terminal) → Arguments (suc d) (Sign CloseRound ∷ more) → Closes d more
arguments_close d more (inl b) = absurd (begins_no_sign (suc d) CloseRound more b)
arguments_close d more (inr (rest, e, c)) = let same : rest ≡ more = cc in subst (Closes d) same c

arguments_no_sign : (d : ℕ) (k : TokenKind) (more : List Terminal) → (k ≡ CloseRound → ⊥) → Arguments d (Sign k ∷ more) → ⊥
arguments_no_sign d k more f (inl b) = begins_no_sign d k more b
arguments_no_sign zero k more f (inr b) = b
arguments_no_sign (suc d) k more f (inr (rest, e, c)) = let same : k ≡ CloseRound = cc in f same

arguments_none : (k : TokenKind) (more : List Terminal) → Arguments 0 (Sign k ∷ more) → ⊥
arguments_none k more (inl b) = begins_no_sign 0 k more b
arguments_none k more (inr b) = b

opens_open : (d : ℕ) (more : List Terminal) → Closes d (Sign OpenRound ∷ more) ⊎ Opens d (Sign OpenRound ∷ more) → Arguments (suc d) more
opens_open d more (inl c) = absurd (closes_no_sign d OpenRound more (λ e. cc) (λ e. cc) c)
opens_open d more (inr (rest, e, a)) = let same : rest ≡ more = cc in subst (Arguments (suc d)) same a

opens_no_word : (d : ℕ) (x : Lexeme) (more : List Terminal) → Closes d (Word x ∷ more) ⊎ Opens d (Word x ∷ more) → ⊥
opens_no_word d x more (inl c) = closes_no_word d x more c
opens_no_word d x more (inr (rest, e, a)) = cc

opens_no_literal : (d : ℕ) (x : Lexeme) (more : List Terminal) → Closes d (Literal x ∷ more) ⊎ Opens d (Literal x ∷ more) → ⊥
opens_no_literal d x more (inl c) = closes_no_literal d x more c
opens_no_literal d x more (inr (rest, e, a)) = cc

-- a sign other than the opening bracket follows a name only as it follows a term
opens_sign : (d : ℕ) (k : TokenKind) (more : List Terminal) → (k ≡ OpenRound → ⊥) → Closes d (Sign k ∷ more) ⊎ Opens d (Sign k ∷ more) → Closes d (Sign k ∷ more)
opens_sign d k more f (inl c) = c
opens_sign d k more f (inr (rest, e, a)) = let same : k ≡ OpenRound = cc in absurd (f same)

pub step_law : (place : Place) (d : ℕ) (kind : TokenKind) (x : Lexeme) → StepIs (step_of place kind (is_nested d)) (depth_after kind d) (λ more. Completes place d (terminal_of_kind kind x ∷ more))
step_law Term d Name x = λ more. (begins_word d x more, word_begins d x more)
step_law Term d Numeral x = λ more. (begins_literal d x more, literal_begins d x more)
step_law Term d Text x = λ more. (begins_literal d x more, literal_begins d x more)
step_law Term d kind x = λ more. begins_no_sign d _ more
step_law FirstArgument d Name x = λ more. (arguments_word d x more, λ c. inl (word_begins d x more c))
step_law FirstArgument d Numeral x = λ more. (arguments_literal d x more, λ c. inl (literal_begins d x more c))
step_law FirstArgument d Text x = λ more. (arguments_literal d x more, λ c. inl (literal_begins d x more c))
step_law FirstArgument (suc d) CloseRound x = λ more. (arguments_close d more, λ c. inr (more, refl, c))
step_law FirstArgument zero CloseRound x = λ more. arguments_none CloseRound more
step_law FirstArgument d kind x = λ more. arguments_no_sign d _ more (λ e. cc)
step_law AfterName d OpenRound x = λ more. (opens_open d more, λ a. inr (more, refl, a))
step_law AfterName d Name x = λ more. opens_no_word d x more
step_law AfterName d Numeral x = λ more. opens_no_literal d x more
step_law AfterName d Text x = λ more. opens_no_literal d x more
step_law AfterName (suc d) Comma x = λ more. (λ c. closes_comma d more (opens_sign (suc d) Comma more (λ e. cc) c), λ b. inl (comma_closes d more b))
step_law AfterName (suc d) CloseRound x = λ more. (λ c. closes_close d more (opens_sign (suc d) CloseRound more (λ e. cc) c), λ b. inl (close_closes d more b))
step_law AfterName zero Comma x = λ more c. closes_none _ more (opens_sign 0 _ more (λ e. cc) c)
step_law AfterName zero CloseRound x = λ more c. closes_none _ more (opens_sign 0 _ more (λ e. cc) c)
step_law AfterName d kind x = λ more c. closes_no_sign d _ more (λ e. cc) (λ e. cc) (opens_sign d _ more (λ e. cc) c)
step_law AfterTerm d Name x = λ more. closes_no_word d x more
step_law AfterTerm d Numeral x = λ more. closes_no_literal d x more
step_law AfterTerm d Text x = λ more. closes_no_literal d x more
step_law AfterTerm (suc d) Comma x = λ more. (closes_comma d more, comma_closes d more)
step_law AfterTerm (suc d) CloseRound x = λ more. (closes_close d more, close_closes d more)
step_law AfterTerm zero Comma x = λ more. closes_none _ more
step_law AfterTerm zero CloseRound x = λ more. closes_none _ more
step_law AfterTerm d kind x = λ more. closes_no_sign d _ more (λ e. cc) (λ e. cc)

-- The lexemes so far are a whole term exactly where nothing has to follow.
pub whole_completes : (place : Place) → ends_term place ≡ true → Completes place 0 []
whole_completes Term h = cc
whole_completes FirstArgument h = cc
whole_completes AfterName h = inl refl
whole_completes AfterTerm h = refl

begins_something : (d : ℕ) → Begins d [] → ⊥
begins_something d (Constant u, rest, e, c) = cc
begins_something d (Value u, rest, e, c) = cc
begins_something d (Empty u, rest, e, c) = cc
begins_something d (Call u first others, rest, e, c) = cc

closes_something : (d : ℕ) → Closes (suc d) [] → ⊥
closes_something d (NoMore, rest, e, c) = cc
closes_something d (More u others, rest, e, c) = cc

arguments_something : (d : ℕ) → Arguments d [] → ⊥
arguments_something d (inl b) = begins_something d b
arguments_something zero (inr b) = b
arguments_something (suc d) (inr (rest, e, c)) = cc

pub inside_completes : (place : Place) (d : ℕ) → Completes place (suc d) [] → ⊥
inside_completes Term d c = begins_something (suc d) c
inside_completes FirstArgument d c = arguments_something (suc d) c
inside_completes AfterName d (inl c) = closes_something d c
inside_completes AfterName d (inr (rest, e, a)) = cc
inside_completes AfterTerm d c = closes_something d c

pub unfinished_completes : (place : Place) → ends_term place ≡ false → (d : ℕ) → Completes place d [] → ⊥
unfinished_completes Term h d c = begins_something d c
unfinished_completes FirstArgument h d c = arguments_something d c
unfinished_completes AfterName h d c = cc
unfinished_completes AfterTerm h d c = cc
