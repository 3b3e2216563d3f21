-- Where an element of a string begins, and where none does.
use Rattle.std.proofs.Common.{◌≡◌, ℕ, Bool, true, false, cond, List, [], ◌∷◌, ◌++◌, arith, Option, Some, None, ◌⊎◌, inl, inr, refl, sym, ap, subst, ◌==◌}
use Rattle.std.proofs.lemmas.Option.{none-some}
use Rattle.std.proofs.lemmas.Bool.{eqb-true}
use Rattle.term_lex.specs.Bytes.{is_text_byte, is_plain, is_escape}
use Rattle.term_lex.specs.Strings.{written, BeginsElement}
use Rattle.term_lex.specs.Tokens.{escape_end, string_end}

-- the byte for which an escape stands
abbrev unescaped : ℕ → ℕ
unescaped c = cond (c == 110) 10 (cond (c == 116) 9 c)

-- an escape is how a byte is written
pub escape_written : (c : ℕ) → is_escape c ≡ true → (written (unescaped c) ≡ 92 ∷ c ∷ []) × (is_text_byte (unescaped c) ≡ true)
escape_written c is = search (is, arith)

-- a plain byte is written as itself
pub plain_written : (b : ℕ) → is_plain b ≡ true → (written b ≡ b ∷ []) × (is_text_byte b ≡ true)
plain_written b is = search (is, arith)

-- what is left open by two tests
no_escape : {A : Type 0} (escape newline : Bool) (x y : A) → cond escape None (cond newline (Some x) (Some y)) ≡ None → escape ≡ true
no_escape true newline x y none = refl
no_escape false true x y none = absurd (none-some x (sym none))
no_escape false false x y none = absurd (none-some y (sym none))

escape_here : (from len : ℕ) (bs : List ℕ) → escape_end from len bs ≡ None → BeginsElement (92 ∷ bs)
escape_here from len [] none = absurd (none-some _ (sym none))
escape_here from len (c ∷ cs) none =
    let e = escape_written c (no_escape (is_escape c) (c == 10) _ _ none) in
    (unescaped c, cs, e.1, ap (λ xs. xs ++ cs) (sym e.0))

-- what is left open by four
no_end : {A : Type 0} (quote newline backslash plain : Bool) (x y z : A) (behind : Option A) → cond quote (Some x) (cond newline (Some y) (cond backslash behind (cond plain None (Some z)))) ≡ None → ((backslash ≡ true) × (behind ≡ None)) ⊎ (plain ≡ true)
no_end true newline backslash plain x y z behind none = absurd (none-some x (sym none))
no_end false true backslash plain x y z behind none = absurd (none-some y (sym none))
no_end false false true plain x y z behind none = inl (refl, none)
no_end false false false true x y z behind none = inr refl
no_end false false false false x y z behind none = absurd (none-some z (sym none))

-- an element begins where a string does not end
pub element_begins : (from len : ℕ) (bs : List ℕ) → string_end from len bs ≡ None → BeginsElement bs
element_begins from len [] none = absurd (none-some _ (sym none))
element_begins from len (b ∷ bs) none = elim (no_end (b == 34) (b == 10) (b == 92) (is_plain b) _ _ _ (escape_end from len bs) none) [
  | inl backslash ↦ subst (λ c. BeginsElement (c ∷ bs)) (sym (eqb-true b 92 backslash.0)) (escape_here from len bs backslash.1)
  | inr plain ↦ let w = plain_written b plain in (b, bs, w.1, ap (λ xs. xs ++ bs) (sym w.0))
]

-- and ends where one begins: how a byte is written is never the end of a string
pub no_end_at_element : (from len b : ℕ) (rest : List ℕ) → is_text_byte b ≡ true → string_end from len (written b ++ rest) ≡ None
no_end_at_element from len b rest is = search (is, arith)
