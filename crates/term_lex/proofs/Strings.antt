-- The elements of a string.
use Rattle.std.proofs.Common.{◌≡◌, ℕ, ◌+◌, ◌<◌, true, List, [], ◌∷◌, ◌++◌, length, arith, refl, sym, ◌∙◌, ap, subst, append_assoc, length-append, append-nil}
use Rattle.eq_base.proofs.Lists.{all_push}
use Rattle.term_lex.specs.Bytes.{is_text_byte}
use Rattle.term_lex.specs.Strings.{written, spelled, AreTextBytes, BeginsElement, IsString}

-- behind the quote stand elements for so many bytes, then the rest, `len` bytes behind the quote's place
pub record HasElements (bytes rest : List ℕ) (used len : ℕ) : Type 0 where
  pub value : List ℕ
  pub front : bytes ≡ spelled value ++ rest
  pub holds : AreTextBytes value
  pub counted : length value ≡ used
  pub long : len ≡ 1 + length (spelled value)

pub spelled_push : (value : List ℕ) (b : ℕ) → spelled (value ++ b ∷ []) ≡ spelled value ++ written b
spelled_push [] b = append-nil (written b)
spelled_push (c ∷ value) b = ap (λ xs. written c ++ xs) (spelled_push value b) ∙ sym (append_assoc (written c) (spelled value) (written b))

pub no_element : (bytes : List ℕ) → HasElements bytes bytes 0 1
no_element bytes = record { value = []; front = refl; holds = tt; counted = refl; long = refl }

-- one more element
pub one_more : (bytes rest : List ℕ) (used len b : ℕ) → HasElements bytes (written b ++ rest) used len → is_text_byte b ≡ true → HasElements bytes rest (used + 1) (len + length (written b))
one_more bytes rest used len b h is = record {
  value = h.value ++ b ∷ [];
  front = h.front ∙ sym (append_assoc (spelled h.value) (written b) rest) ∙ ap (λ xs. xs ++ rest) (sym (spelled_push h.value b));
  holds = all_push (λ c. is_text_byte c ≡ true) h.value b h.holds is;
  counted = omega (arith, length-append h.value (b ∷ []), h.counted);
  long = omega (arith, ap length (spelled_push h.value b), length-append (spelled h.value) (written b), h.long);
}

-- an element written in two ways is one element, and the same is left
pub same_element : (b c : ℕ) (xs ys : List ℕ) → written b ++ xs ≡ written c ++ ys → (b ≡ c) × (xs ≡ ys)
same_element b c xs ys e = search (e, arith)

-- The value that is read from elements: what has been read, and what the rest still spells.
pub record IsRead (elements value rest : List ℕ) : Type 0 where
  pub left : List ℕ
  pub rest_is : rest ≡ spelled left
  pub left_holds : AreTextBytes left
  pub front : elements ≡ spelled value ++ rest
  pub holds : AreTextBytes value

-- an element is no empty list
pub element_len : (b : ℕ) → 0 < length (written b)
element_len b = search (arith)

nothing_left : (b : ℕ) (rest : List ℕ) → written b ++ rest ≡ [] → ⊥
nothing_left b rest is = omega (arith, ap length is, length-append (written b) rest, element_len b)

-- an element begins what is left, if anything is
pub left_begins : (elements value rest : List ℕ) → IsRead elements value rest → 0 < length rest → BeginsElement rest
left_begins elements value rest r some = begins r.left r.rest_is r.left_holds
  where
    begins : (left : List ℕ) → rest ≡ spelled left → AreTextBytes left → BeginsElement rest
    begins [] is holds = absurd (omega (arith, some, ap length is))
    begins (b ∷ left) is holds = (b, spelled left, holds.0, is)

-- one more element is read
pub read_more : (elements value rest : List ℕ) (b : ℕ) → IsRead elements value (written b ++ rest) → IsRead elements (value ++ b ∷ []) rest
read_more elements value rest b r = read_on r.left r.rest_is r.left_holds
  where
    read_on : (left : List ℕ) → written b ++ rest ≡ spelled left → AreTextBytes left → IsRead elements (value ++ b ∷ []) rest
    read_on [] is holds = absurd (nothing_left b rest is)
    read_on (c ∷ left) is holds =
        let same = same_element b c rest (spelled left) is in
        record {
          left = left;
          rest_is = same.1;
          left_holds = holds.1;
          front = r.front ∙ sym (append_assoc (spelled value) (written b) rest) ∙ ap (λ xs. xs ++ rest) (sym (spelled_push value b));
          holds = all_push (λ d. is_text_byte d ≡ true) value b r.holds (subst (λ d. is_text_byte d ≡ true) (sym same.0) holds.0);
        }

-- no element begins with a quote
no_quote : (b : ℕ) (xs ys : List ℕ) → written b ++ xs ≡ 34 ∷ ys → ⊥
no_quote b xs ys e = search (e, arith)

one_spelling : (value other : List ℕ) → spelled value ++ 34 ∷ [] ≡ spelled other ++ 34 ∷ [] → value ≡ other
one_spelling [] [] e = refl
one_spelling [] (c ∷ other) e = absurd (no_quote c (spelled other ++ 34 ∷ []) [] (sym (append_assoc (written c) (spelled other) (34 ∷ [])) ∙ sym e))
one_spelling (b ∷ value) [] e = absurd (no_quote b (spelled value ++ 34 ∷ []) [] (sym (append_assoc (written b) (spelled value) (34 ∷ [])) ∙ e))
one_spelling (b ∷ value) (c ∷ other) e =
    let same = same_element b c (spelled value ++ 34 ∷ []) (spelled other ++ 34 ∷ []) (sym (append_assoc (written b) (spelled value) (34 ∷ [])) ∙ e ∙ append_assoc (written c) (spelled other) (34 ∷ [])) in
    cc (same.0, one_spelling value other same.1)

-- a string has one value
pub one_value : (bytes value other : List ℕ) → IsString bytes value → IsString bytes other → value ≡ other
one_value bytes value other is is' = let same : 34 ∷ (spelled value ++ 34 ∷ []) ≡ 34 ∷ (spelled other ++ 34 ∷ []) = sym is.quoted ∙ is'.quoted in one_spelling value other cc
