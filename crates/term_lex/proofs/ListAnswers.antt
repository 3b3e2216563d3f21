-- The answers of lists, as a loop needs them: from the answer from here on to the answer of the whole.
use Rattle.std.proofs.Common.{◌≡◌, ℕ, Bool, true, false, List, [], ◌∷◌, ◌++◌, inl, inr, refl, sym, subst, append-nil, Result, Ok, Err}
use Rattle.term_lex.specs.declared.token.TokenKind.TheVariants.{CloseRound}
use Rattle.term_lex.specs.declared.fault.Fault.{Fault}
use Rattle.term_lex.specs.Lexemes.{Lexeme, IsViable, IsAnswer, Plainly}
use Rattle.term_lex.specs.Parts.{IsKind, Nothing, One, Then, BeginsWith, Either, Some, Each, Closed, NextIs, This, Led, Separated}
use Rattle.term_lex.proofs.Marks.{Mark, Fits, HasMark, disjoint, disjoint_marks}
use Rattle.term_lex.proofs.Parts.{IsPart, one_part, then_part, either_part, then_begun, each_cases, each_more}
use Rattle.term_lex.proofs.Lists.{each_part, closed_part, Behind, closed_cases, closed_none, closed_more}
use Rattle.term_lex.proofs.Answers.{same_by, nothing_by, second_by}
use Rattle.term_lex.proofs.Telling.{IsTelling, IsAnswerIn, NoClose, no_close, same_answer, then_err, then_ok, first_in, second_in}
use Rattle.term_lex.proofs.PlainAnswers.{then_can}

-- grammars with the same sentences
pub same_part : {G H : List Lexeme → Type 0} {n : Bool} {first more : List Mark} → ((xs : List Lexeme) → G xs → H xs) → ((xs : List Lexeme) → H xs → G xs) → IsPart G n first more → IsPart H n first more
same_part to from p = record {
  some = p.some;
  some_is = to p.some p.some_is;
  empty = λ h. p.empty (from [] h);
  begins = λ x v. p.begins x (v.0, from _ v.1);
  goes_on = λ xs x h v. p.goes_on xs x (from xs h) (v.0, from _ v.1);
}

-- one lexeme, named
module _ {Test : Lexeme → Type 0} where
  pub this_to : (xs : List Lexeme) → One Test xs → Some (This Test) xs
  this_to xs (x, e, t) = (x, (e, t))

  pub this_from : (xs : List Lexeme) → Some (This Test) xs → One Test xs
  this_from xs (x, (e, t)) = (x, e, t)

-- lists: one more sentence where the next lexeme begins one, none where it does not
module _ {V : Type 0} (G : V → List Lexeme → Type 0) (Test : Lexeme → Type 0) (begun : (xs : List Lexeme) → Some G xs → BeginsWith Test xs) (can : (x : Lexeme) → Test x → IsViable (Some G) (x ∷ [])) (text : List ℕ) (at : ℕ) where
  more_begun : (xs : List Lexeme) → Then (Some G) (Some (Each G)) xs → BeginsWith Test xs
  more_begun xs (front, back, e, g, r) = goes front back xs e g where
    goes : (front back xs : List Lexeme) → xs ≡ front ++ back → Some G front → BeginsWith Test xs
    goes [] back xs e g = absurd (begun [] g)
    goes (y ∷ ys) back [] e g = cc
    goes (y ∷ ys) back (x ∷ xs) e g = let same : y ≡ x = cc in subst Test same (begun (y ∷ ys) g)

  more_can : (x : Lexeme) → Test x → IsViable (Then (Some G) (Some (Each G))) (x ∷ [])
  more_can x t = let v = can x t in (v.0, (x ∷ v.0, [], sym (append-nil (x ∷ v.0)), v.1, ([], refl)))

  to : (xs : List Lexeme) → Either Test (Then (Some G) (Some (Each G))) Nothing xs → Some (Each G) xs
  to xs (inl t) = each_more G xs t
  to xs (inr n) = ([], n.1)

  from : (xs : List Lexeme) → Some (Each G) xs → Either Test (Then (Some G) (Some (Each G))) Nothing xs
  from xs s = elim (each_cases G xs s) [ inl none ↦ inr (λ b. subst (BeginsWith Test) none b, none) | inr t ↦ inl t ]

  pub each_on : {M : (List Lexeme → Type 0) → List Lexeme → Lexeme → Fault → Type 0} → IsTelling M → NextIs Test text at → (r : Result ℕ Fault) → IsAnswerIn M (Then (Some G) (Some (Each G))) text at r → IsAnswerIn M (Some (Each G)) text at r
  each_on telling next r a = same_answer telling to from text at r (first_in telling text at Test (Then (Some G) (Some (Each G))) Nothing more_begun more_can next r a)

  pub each_end : (NextIs Test text at → ⊥) → IsAnswer (Some (Each G)) text at (Ok at)
  each_end never = same_by Plainly Plainly (λ xs x f is. is) text at to from (Ok at) (second_by Plainly Plainly text at Test (Then (Some G) (Some (Each G))) Nothing more_begun (λ xs x f b is. is) ([], inr ((λ b. b), refl)) never (Ok at) (nothing_by Plainly text at))

-- behind a sentence of a closed list stands a separator and the others, or what closes the list
module _ {V : Type 0} (S C : Lexeme → Type 0) (G : V → List Lexeme → Type 0) (first : List Mark) (mark sign : Mark) (sep_fits : (x : Lexeme) → S x → Fits mark x) (close_fits : (x : Lexeme) → C x → Fits sign x) (other : disjoint (sign ∷ []) (mark ∷ first) ≡ true) where
  sign_no_sep : (xs : List Lexeme) → One C xs → BeginsWith S xs → ⊥
  sign_no_sep [] c s = s
  sign_no_sep (x ∷ xs) (y, e, c) s = let same : y ≡ x = cc in disjoint_marks (sign ∷ []) (mark ∷ first) x other (inl (subst (Fits sign) same (close_fits y c))) (inl (sep_fits x s))

  behind_to : (xs : List Lexeme) → Either S (Then (One S) (Some (Closed S C G))) (One C) xs → Behind S C G xs
  behind_to xs (inl t) = inl t
  behind_to xs (inr c) = inr c.1

  behind_from : (xs : List Lexeme) → Behind S C G xs → Either S (Then (One S) (Some (Closed S C G))) (One C) xs
  behind_from xs (inl t) = inl t
  behind_from xs (inr c) = inr (λ s. sign_no_sep xs c s, c)

-- closed lists: what closes them, or a sentence and what stands behind it, a separator and the others or what closes them
module _ {M : (List Lexeme → Type 0) → List Lexeme → Lexeme → Fault → Type 0} (telling : IsTelling M) {V : Type 0} (S C : Lexeme → Type 0) (G : V → List Lexeme → Type 0) {first more : List Mark} (p : IsPart (Some G) false first more) (mark sign : Mark) (sep_fits : (x : Lexeme) → S x → Fits mark x) (close_fits : (x : Lexeme) → C x → Fits sign x) (x0 : Lexeme) (closes : C x0) (other : disjoint (sign ∷ []) (mark ∷ first) ≡ true) (c : NoClose (mark ∷ sign ∷ [])) (text : List ℕ) (at : ℕ) where
  one_begun : (Test : Lexeme → Type 0) (xs : List Lexeme) → One Test xs → BeginsWith Test xs
  one_begun Test [] (y, e, t) = cc
  one_begun Test (x ∷ xs) (y, e, t) = let same : y ≡ x = cc in subst Test same t

  one_can : (x : Lexeme) → C x → IsViable (One C) (x ∷ [])
  one_can x c = ([], (x, refl, c))

  sign_other : (y : Lexeme) → C y → HasMark (mark ∷ first) y → ⊥
  sign_other y c h = disjoint_marks (sign ∷ []) (mark ∷ first) y other (inl (close_fits y c)) h

  more_no_sign : (xs : List Lexeme) → Then (Some G) (Behind S C G) xs → BeginsWith C xs → ⊥
  more_no_sign xs (front, back, e, g, b) c = goes front back xs e g c where
    goes : (front back xs : List Lexeme) → xs ≡ front ++ back → Some G front → BeginsWith C xs → ⊥
    goes [] back xs e g c = let no = p.empty g in cc
    goes (y ∷ ys) back [] e g c = c
    goes (y ∷ ys) back (x ∷ xs) e g c = let same : x ≡ y = cc in sign_other y (subst C same c) (inr (p.begins y (ys, g)))

  closed_to : (xs : List Lexeme) → Either C (One C) (Then (Some G) (Behind S C G)) xs → Some (Closed S C G) xs
  closed_to xs (inl c) = closed_none S C G xs c
  closed_to xs (inr t) = closed_more S C G xs t.1

  closed_from : (xs : List Lexeme) → Some (Closed S C G) xs → Either C (One C) (Then (Some G) (Behind S C G)) xs
  closed_from xs s = elim (closed_cases S C G xs s) [ inl c ↦ inl c | inr t ↦ inr (λ b. more_no_sign xs t b, t) ]

  no_separator : (x : Lexeme) → IsKind CloseRound x → S x → ⊥
  no_separator x is s = no_close (mark ∷ sign ∷ []) c x is (inl (sep_fits x s))

  no_sign : (x : Lexeme) → IsKind CloseRound x → C x → ⊥
  no_sign x is close = no_close (mark ∷ sign ∷ []) c x is (inr (inl (close_fits x close)))

  pub closed_end : NextIs C text at → (r : Result ℕ Fault) → IsAnswerIn M (One C) text at r → IsAnswerIn M (Some (Closed S C G)) text at r
  closed_end next r a = same_answer telling closed_to closed_from text at r (first_in telling text at C (One C) (Then (Some G) (Behind S C G)) (one_begun C) one_can next r a)

  pub closed_on : (NextIs C text at → ⊥) → (r : Result ℕ Fault) → IsAnswerIn M (Then (Some G) (Behind S C G)) text at r → IsAnswerIn M (Some (Closed S C G)) text at r
  closed_on never r a = same_answer telling closed_to closed_from text at r (second_in telling text at C (One C) (Then (Some G) (Behind S C G)) (one_begun C) no_sign (x0 ∷ [], inl (x0, refl, closes)) never r a)

  sep_begun : (xs : List Lexeme) → Then (One S) (Some (Closed S C G)) xs → BeginsWith S xs
  sep_begun xs t = then_begun xs t

  pub behind_on : NextIs S text at → (r : Result ℕ Fault) → IsAnswerIn M (Then (One S) (Some (Closed S C G))) text at r → IsAnswerIn M (Behind S C G) text at r
  behind_on next r a = same_answer telling (behind_to S C G first mark sign sep_fits close_fits other) (behind_from S C G first mark sign sep_fits close_fits other) text at r (first_in telling text at S (Then (One S) (Some (Closed S C G))) (One C) sep_begun (then_can (x0 ∷ []) ([], (x0, refl, closes))) next r a)

  pub behind_end : (NextIs S text at → ⊥) → (r : Result ℕ Fault) → IsAnswerIn M (One C) text at r → IsAnswerIn M (Behind S C G) text at r
  behind_end never r a = same_answer telling (behind_to S C G first mark sign sep_fits close_fits other) (behind_from S C G first mark sign sep_fits close_fits other) text at r (second_in telling text at S (Then (One S) (Some (Closed S C G))) (One C) sep_begun no_separator (x0 ∷ [], inr (sign_no_sep S C G first mark sign sep_fits close_fits other (x0 ∷ []) (x0, refl, closes), (x0, refl, closes))) never r a)

-- sentences with separators between them
module _ {V : Type 0} {Separator : Lexeme → Type 0} {G : V → List Lexeme → Type 0} where
  pub led_to : (xs : List Lexeme) → Then (One Separator) (Some G) xs → Some (Led Separator G) xs
  led_to xs (front, back, e, s, (v, g)) = (v, (front, back, e, s, g))

  pub led_from : (xs : List Lexeme) → Some (Led Separator G) xs → Then (One Separator) (Some G) xs
  led_from xs (v, (front, back, e, s, g)) = (front, back, e, s, (v, g))

  pub separated_to : (xs : List Lexeme) → Then (Some G) (Some (Each (Led Separator G))) xs → Some (Separated Separator G) xs
  separated_to xs (front, back, e, (v, g), (vs, r)) = (v ∷ vs, (front, back, e, g, r))

  pub separated_from : (xs : List Lexeme) → Some (Separated Separator G) xs → Then (Some G) (Some (Each (Led Separator G))) xs
  separated_from xs ([], none) = absurd none
  separated_from xs (v ∷ vs, (front, back, e, g, r)) = (front, back, e, (v, g), (vs, r))

-- What a reader of such a list needs to know: the separator's mark goes on behind no sentence.
module _ {V : Type 0} (Separator : Lexeme → Type 0) (G : V → List Lexeme → Type 0) {first more : List Mark} (mark : Mark) (fits : (x : Lexeme) → Separator x → Fits mark x) (x0 : Lexeme) (separates : Separator x0) (p : IsPart (Some G) false first more) (e : disjoint more (mark ∷ []) ≡ true) where
  pub led_part : IsPart (Some (Led Separator G)) false (mark ∷ []) more
  led_part = same_part led_to led_from (subst (λ ms. IsPart (Then (One Separator) (Some G)) false (mark ∷ []) ms) (no_more more) (then_part (one_part mark fits x0 separates) p refl)) where
    no_more : (ms : List Mark) → ms ++ [] ≡ ms
    no_more ms = append-nil ms

  pub rest_part : IsPart (Some (Each (Led Separator G))) true (mark ∷ []) (more ++ mark ∷ [])
  rest_part = each_part (Led Separator G) (mark ∷ []) more led_part e

  pub separated_part : IsPart (Some (Separated Separator G)) false first ((more ++ mark ∷ []) ++ more)
  separated_part = same_part separated_to separated_from (subst (λ ms. IsPart (Then (Some G) (Some (Each (Led Separator G)))) false ms ((more ++ mark ∷ []) ++ more)) (append-nil first) (then_part p rest_part e))

  led_begun : (xs : List Lexeme) → Some (Led Separator G) xs → BeginsWith Separator xs
  led_begun xs s = then_begun xs (led_from xs s)

  led_can : (x : Lexeme) → Separator x → IsViable (Some (Led Separator G)) (x ∷ [])
  led_can x s = let v : IsViable (Then (One Separator) (Some G)) (x ∷ []) = then_can p.some p.some_is x s in (v.0, led_to _ v.1)

  module _ {M : (List Lexeme → Type 0) → List Lexeme → Lexeme → Fault → Type 0} (telling : IsTelling M) (c : NoClose (mark ∷ [])) (d : NoClose more) {text : List ℕ} {at : ℕ} where
    pub separated_start : (mid : ℕ) → IsAnswerIn M (Some G) text at (Ok mid) → (r : Result ℕ Fault) → IsAnswerIn M (Some (Each (Led Separator G))) text mid r → IsAnswerIn M (Some (Separated Separator G)) text at r
    separated_start mid a r b = same_answer telling separated_to separated_from text at r (then_ok telling p rest_part e d mid a r b)

    pub separated_err : (f : Fault) → IsAnswerIn M (Some G) text at (Err f) → IsAnswerIn M (Some (Separated Separator G)) text at (Err f)
    separated_err f a = same_answer telling separated_to separated_from text at (Err f) (then_err telling p rest_part e c f a)

    pub separated_on : NextIs Separator text at → (mid : ℕ) → IsAnswerIn M (Some (Led Separator G)) text at (Ok mid) → (r : Result ℕ Fault) → IsAnswerIn M (Some (Each (Led Separator G))) text mid r → IsAnswerIn M (Some (Each (Led Separator G))) text at r
    separated_on next mid a r b = each_on (Led Separator G) Separator led_begun led_can text at telling next r (then_ok telling led_part rest_part e d mid a r b)

    pub separated_on_err : NextIs Separator text at → (f : Fault) → IsAnswerIn M (Some (Led Separator G)) text at (Err f) → IsAnswerIn M (Some (Each (Led Separator G))) text at (Err f)
    separated_on_err next f a = each_on (Led Separator G) Separator led_begun led_can text at telling next (Err f) (then_err telling led_part rest_part e c f a)

    pub separated_end : (NextIs Separator text at → ⊥) → IsAnswerIn M (Some (Each (Led Separator G))) text at (Ok at)
    separated_end never = each_end (Led Separator G) Separator led_begun led_can text at never

-- a closed list
module _ {V : Type 0} (S C : Lexeme → Type 0) (G : V → List Lexeme → Type 0) {first more : List Mark} (mark sign : Mark) (sep_fits : (x : Lexeme) → S x → Fits mark x) (close_fits : (x : Lexeme) → C x → Fits sign x) (s0 : Lexeme) (separates : S s0) (x0 : Lexeme) (closes : C x0) (p : IsPart (Some G) false first more) (goes : disjoint more (mark ∷ sign ∷ []) ≡ true) (other : disjoint (sign ∷ []) (mark ∷ first) ≡ true) where
  pub list_part : IsPart (Some (Closed S C G)) false (sign ∷ first) []
  list_part = closed_part S C G first more p mark sign sep_fits close_fits x0 closes goes other

  pub behind_part : IsPart (Behind S C G) false (mark ∷ sign ∷ []) []
  behind_part = same_part (behind_to S C G first mark sign sep_fits close_fits other) (behind_from S C G first mark sign sep_fits close_fits other) (either_part then_begun (then_part (one_part mark sep_fits s0 separates) list_part refl) (one_part sign close_fits x0 closes))

  module _ {M : (List Lexeme → Type 0) → List Lexeme → Lexeme → Fault → Type 0} (telling : IsTelling M) (c : NoClose (mark ∷ sign ∷ [])) (d : NoClose more) (text : List ℕ) (at : ℕ) where
    -- nothing more than what closes the list
    pub list_end : NextIs C text at → (r : Result ℕ Fault) → IsAnswerIn M (One C) text at r → IsAnswerIn M (Some (Closed S C G)) text at r
    list_end next r a = closed_end telling S C G p mark sign sep_fits close_fits x0 closes other c text at next r a

    -- a sentence that is refused
    pub list_err : (NextIs C text at → ⊥) → (f : Fault) → IsAnswerIn M (Some G) text at (Err f) → IsAnswerIn M (Some (Closed S C G)) text at (Err f)
    list_err never f a = closed_on telling S C G p mark sign sep_fits close_fits x0 closes other c text at never (Err f) (then_err telling p behind_part goes c f a)

    -- a sentence and what closes the list
    pub list_last : (NextIs C text at → ⊥) → (mid : ℕ) → IsAnswerIn M (Some G) text at (Ok mid) → (NextIs S text mid → ⊥) → (r : Result ℕ Fault) → IsAnswerIn M (One C) text mid r → IsAnswerIn M (Some (Closed S C G)) text at r
    list_last never mid a last r b = closed_on telling S C G p mark sign sep_fits close_fits x0 closes other c text at never r (then_ok telling p behind_part goes d mid a r (behind_end telling S C G p mark sign sep_fits close_fits x0 closes other c text mid last r b))

    -- a sentence, a separator and the others
    pub list_on : (NextIs C text at → ⊥) → (mid : ℕ) → IsAnswerIn M (Some G) text at (Ok mid) → NextIs S text mid → (next : ℕ) → IsAnswerIn M (One S) text mid (Ok next) → (r : Result ℕ Fault) → IsAnswerIn M (Some (Closed S C G)) text next r → IsAnswerIn M (Some (Closed S C G)) text at r
    list_on never mid a on next b r rest = closed_on telling S C G p mark sign sep_fits close_fits x0 closes other c text at never r (then_ok telling p behind_part goes d mid a r (behind_on telling S C G p mark sign sep_fits close_fits x0 closes other c text mid on r (then_ok telling (one_part mark sep_fits s0 separates) list_part refl refl next b r rest)))
