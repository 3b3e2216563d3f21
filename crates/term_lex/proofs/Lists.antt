-- What is known of lists of sentences.
use Rattle.std.proofs.Common.{◌≡◌, true, false, List, [], ◌∷◌, ◌++◌, ◌⊎◌, inl, inr, refl, sym, ap, ◌∙◌, append_assoc, subst}
use Rattle.term_lex.specs.Lexemes.{Lexeme, IsViable}
use Rattle.term_lex.specs.Parts.{One, Then, Some, Each, Closed}
use Rattle.term_lex.proofs.Marks.{Mark, Fits, HasMark, disjoint, disjoint_marks, has_left, has_right}
use Rattle.term_lex.proofs.Parts.{IsPart, Apart, cut_behind, each_cases}

-- a front that is not empty begins the whole
front_begins : (G : List Lexeme → Type 0) (first more : List Mark) → IsPart G false first more → (front back : List Lexeme) (x : Lexeme) (rest : List Lexeme) → x ∷ rest ≡ front ++ back → G front → HasMark first x
front_begins G first more p [] back x rest e g = let no = p.empty g in cc
front_begins G first more p (y ∷ ys) back x rest e g = let same : y ≡ x = cc in p.begins x (ys, subst (λ (z : Lexeme). G (z ∷ ys)) same g)

module _ {V : Type 0} (G : V → List Lexeme → Type 0) (first more : List Mark) (p : IsPart (Some G) false first more) where
  each_begins : (x : Lexeme) → IsViable (Some (Each G)) (x ∷ []) → HasMark first x
  each_begins x (rest, s) = elim (each_cases G (x ∷ rest) s) [
    | inl e ↦ cc
    | inr (front, back, e, g, r) ↦ front_begins (Some G) first more p front back x rest e g
  ]

  module _ (e : disjoint more first ≡ true) where
    each_apart : Apart (Some G) (Some (Each G))
    each_apart ts x h v w = disjoint_marks more first x e (p.goes_on ts x h v) (each_begins x w)

    each_goes_on : (vs : List V) (xs : List Lexeme) (x : Lexeme) → Each G vs xs → (rest : List Lexeme) → Some (Each G) (xs ++ x ∷ rest) → HasMark (more ++ first) x
    each_goes_on [] xs x is rest s = has_right more first x (each_begins x (rest, subst (λ ys. Some (Each G) (ys ++ x ∷ rest)) is s))
    each_goes_on (v ∷ vs) xs x (front, back, is, g, r) rest s =
        let regroup : xs ++ x ∷ rest ≡ front ++ (back ++ x ∷ rest) = ap (λ ys. ys ++ x ∷ rest) is ∙ append_assoc front back (x ∷ rest) in
        elim (each_cases G (xs ++ x ∷ rest) s) [
          | inl none ↦ absurd (no_end xs none)
          | inr t ↦ elim (cut_behind (Some G) (Some (Each G)) each_apart front back x rest (v, g) (vs, r) (subst (Then (Some G) (Some (Each G))) regroup t)) [
            | inl c ↦ has_left more first x (p.goes_on front x (v, g) c.1)
            | inr c ↦ each_goes_on vs back x r rest c
          ]
        ]
      where
        no_end : (xs : List Lexeme) → xs ++ x ∷ rest ≡ [] → ⊥
        no_end [] e = cc
        no_end (y ∷ ys) e = cc

    pub each_part : IsPart (Some (Each G)) true first (more ++ first)
    each_part = record {
      some = [];
      some_is = ([], refl);
      empty = λ _. refl;
      begins = each_begins;
      goes_on = λ xs x (vs, s) (rest, t). each_goes_on vs xs x s rest (subst (Some (Each G)) (append_assoc xs (x ∷ []) rest) t);
    }

-- what stands behind a sentence of a closed list
abbrev pub Behind : {V : Type 0} → (Lexeme → Type 0) → (Lexeme → Type 0) → (V → List Lexeme → Type 0) → List Lexeme → Type 0
Behind Separator Close G ys = Then (One Separator) (Some (Closed Separator Close G)) ys ⊎ One Close ys

-- a closed list is what closes it, or a first sentence and what stands behind it
pub closed_cases : {V : Type 0} (S C : Lexeme → Type 0) (G : V → List Lexeme → Type 0) (xs : List Lexeme) → Some (Closed S C G) xs → One C xs ⊎ Then (Some G) (Behind S C G) xs
closed_cases S C G xs ([], c) = inl c
closed_cases S C G xs (v ∷ vs, (front, back, e, g, inl (sep, rest, f, s, r))) = inr (front, back, e, (v, g), inl (sep, rest, f, s, (vs, r)))
closed_cases S C G xs (v ∷ vs, (front, back, e, g, inr (none, c))) = inr (front, back, e, (v, g), inr c)

pub closed_none : {V : Type 0} (S C : Lexeme → Type 0) (G : V → List Lexeme → Type 0) (xs : List Lexeme) → One C xs → Some (Closed S C G) xs
closed_none S C G xs c = ([], c)

pub closed_more : {V : Type 0} (S C : Lexeme → Type 0) (G : V → List Lexeme → Type 0) (xs : List Lexeme) → Then (Some G) (Behind S C G) xs → Some (Closed S C G) xs
closed_more S C G xs (front, back, e, (v, g), inl (sep, rest, f, s, (vs, r))) = (v ∷ vs, (front, back, e, g, inl (sep, rest, f, s, r)))
closed_more S C G xs (front, back, e, (v, g), inr c) = (v ∷ [], (front, back, e, g, inr (refl, c)))

module _ {V : Type 0} (S C : Lexeme → Type 0) (G : V → List Lexeme → Type 0) (first more : List Mark) (p : IsPart (Some G) false first more) (mark sign : Mark) (sep_fits : (x : Lexeme) → S x → Fits mark x) (close_fits : (x : Lexeme) → C x → Fits sign x) (x0 : Lexeme) (closes : C x0) where
  closed_begins : (x : Lexeme) → IsViable (Some (Closed S C G)) (x ∷ []) → HasMark (sign ∷ first) x
  closed_begins x (rest, s) = elim (closed_cases S C G (x ∷ rest) s) [
    | inl (y, e, c) ↦ let same : y ≡ x = cc in inl (subst (Fits sign) same (close_fits y c))
    | inr (front, back, e, g, b) ↦ inr (front_begins (Some G) first more p front back x rest e g)
  ]

  behind_begins : (x : Lexeme) → IsViable (Behind S C G) (x ∷ []) → HasMark (mark ∷ sign ∷ []) x
  behind_begins x (rest, inl (front, back, e, (y, f, s), r)) = let same : y ≡ x = cc in inl (subst (Fits mark) same (sep_fits y s))
  behind_begins x (rest, inr (y, e, c)) = let same : y ≡ x = cc in inr (inl (subst (Fits sign) same (close_fits y c)))

  module _ (goes : disjoint more (mark ∷ sign ∷ []) ≡ true) (other : disjoint (sign ∷ []) (mark ∷ first) ≡ true) where
    closed_apart : Apart (Some G) (Behind S C G)
    closed_apart ts x h v w = disjoint_marks more (mark ∷ sign ∷ []) x goes (p.goes_on ts x h v) (behind_begins x w)

    sign_is_one : (y : Lexeme) → C y → HasMark (mark ∷ first) y → ⊥
    sign_is_one y c h = disjoint_marks (sign ∷ []) (mark ∷ first) y other (inl (close_fits y c)) h

    no_end : (xs : List Lexeme) (x : Lexeme) (rest : List Lexeme) → xs ++ x ∷ rest ≡ [] → ⊥
    no_end [] x rest e = cc
    no_end (y ∷ ys) x rest e = cc

    behind : (vs : List V) (back : List Lexeme) → Then (One S) (Closed S C G vs) back ⊎ ((vs ≡ []) × One C back) → Behind S C G back
    behind vs back (inl (sep, tail, e, s, r)) = inl (sep, tail, e, s, (vs, r))
    behind vs back (inr (none, c)) = inr c

    behind_not_empty : (back : List Lexeme) → Behind S C G back → back ≡ [] → ⊥
    behind_not_empty back (inl (sep, tail, e, (y, f, s), r)) none = cc
    behind_not_empty back (inr (y, e, c)) none = cc

    first_is_no_sign : (front back : List Lexeme) (x : Lexeme) (rest : List Lexeme) (z : Lexeme) → z ∷ [] ≡ front ++ (back ++ x ∷ rest) → Some G front → C z → ⊥
    first_is_no_sign front back x rest z e g c = sign_is_one z c (inr (front_begins (Some G) first more p front (back ++ x ∷ rest) z [] e g))

    empty : (front back : List Lexeme) → [] ≡ front ++ back → Some G front → ⊥
    empty [] back e g = let no = p.empty g in cc
    empty (y ∷ ys) back e g = cc

    -- Ends says that nothing goes on behind the rest of the list.
    behind_goes : (vs : List V) (back : List Lexeme) (x : Lexeme) (rest : List Lexeme) → ((tail : List Lexeme) → Closed S C G vs tail → Some (Closed S C G) (tail ++ x ∷ rest) → ⊥) → Then (One S) (Closed S C G vs) back ⊎ ((vs ≡ []) × One C back) → Behind S C G (back ++ x ∷ rest) → ⊥
    behind_goes vs back x rest ends (inl (sep, tail, e, (y, f, s), r)) (inl (sep', tail', e', (z, f', s'), r')) =
        let same : tail ++ x ∷ rest ≡ tail' = cc in
        ends tail r (subst (Some (Closed S C G)) (sym same) r')
    behind_goes vs back x rest ends (inl (sep, tail, e, (y, f, s), r)) (inr (z, f', c)) =
        let none : tail ++ x ∷ rest ≡ [] = cc in
        no_end tail x rest none
    behind_goes vs back x rest ends (inr (none, (y, e, c))) (inl (sep', tail', e', (z, f', s'), r')) =
        let same : z ≡ y = cc in
        sign_is_one y c (inl (subst (Fits mark) same (sep_fits z s')))
    behind_goes vs back x rest ends (inr (none, (y, e, c))) (inr (z, f, d)) = cc

    closed_goes : (vs : List V) (xs : List Lexeme) (x : Lexeme) → Closed S C G vs xs → (rest : List Lexeme) → Some (Closed S C G) (xs ++ x ∷ rest) → ⊥
    closed_goes [] xs x (y, e, c) rest s = elim (closed_cases S C G (xs ++ x ∷ rest) s) [
      | inl (z, f, d) ↦ cc
      | inr (front, back, f, g, b) ↦ sign_is_one y c (inr (front_begins (Some G) first more p front back y (x ∷ rest) (cc) g))
    ]
    closed_goes (v ∷ vs) xs x (front, back, e, g, t) rest s =
        let regroup : xs ++ x ∷ rest ≡ front ++ (back ++ x ∷ rest) = ap (λ ys. ys ++ x ∷ rest) e ∙ append_assoc front back (x ∷ rest) in
        elim (closed_cases S C G (xs ++ x ∷ rest) s) [
          | inl (z, f, c) ↦ first_is_no_sign front back x rest z (sym f ∙ regroup) (v, g) c
          | inr u ↦ elim (cut_behind (Some G) (Behind S C G) closed_apart front back x rest (v, g) (behind vs back t) (subst (Then (Some G) (Behind S C G)) regroup u)) [
            | inl c ↦ behind_not_empty back (behind vs back t) c.0
            | inr c ↦ behind_goes vs back x rest (λ tail r u. closed_goes vs tail x r rest u) t c
          ]
        ]

    pub closed_part : IsPart (Some (Closed S C G)) false (sign ∷ first) []
    closed_part = record {
      some = x0 ∷ [];
      some_is = ([], (x0, refl, closes));
      empty = λ s. elim (closed_cases S C G [] s) [ inl (y, e, c) ↦ cc | inr (front, back, e, g, b) ↦ absurd (empty front back e g) ];
      begins = closed_begins;
      goes_on = λ xs x (vs, s) (rest, t). absurd (closed_goes vs xs x s rest (subst (Some (Closed S C G)) (append_assoc xs (x ∷ []) rest) t));
    }
