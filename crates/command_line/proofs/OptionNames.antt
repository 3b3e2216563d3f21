-- The names of the options: without `=`, not empty, and apart.
use Rattle.std.proofs.Common.{◌≡◌, ◌⊎◌, ℕ, zero, suc, Bool, false, List, [], ◌∷◌, ◌++◌, codes, Some, inl, inr, refl, sym, ◌∙◌, ap, subst, arith, ◌==◌, slice_get, get_or, ◌<◌, length}
use Rattle.std.specs.Prelude.{Contains, ◌||◌}
use Rattle.std.proofs.lemmas.Bool.{eqb-false, or_parts}
use Rattle.std.proofs.lemmas.Option.{slice_get_within, get_or_from_slice_get}
use Rattle.command_line.specs.Parts.{flag_names, setting_names}
use Rattle.command_line.specs.Given.{setting_name}
use Rattle.command_line.specs.declared.part.Setting.{Setting}
use Rattle.command_line.specs.declared.part.Setting.TheVariants.{Syntax, Replacements, Most}

-- ---- what lists contain

pub contains_first : {X : Type 0} (x : X) (xs : List X) → Contains (x ∷ xs) x
contains_first x xs = (0, omega arith, refl)

pub contains_behind : {X : Type 0} (x y : X) (xs : List X) → Contains xs y → Contains (x ∷ xs) y
contains_behind x y xs (k, lt, is) = (suc k, omega (arith, lt), is)

pub first_or_behind : {X : Type 0} (x y : X) (xs : List X) → Contains (x ∷ xs) y → (x ≡ y) ⊎ Contains xs y
first_or_behind x y xs (zero, lt, is) = inl is
first_or_behind x y xs (suc k, lt, is) = inr (k, omega (arith, lt), is)

pub no_member : {X : Type 0} (y : X) → Contains [] y → ⊥
no_member y (k, lt, is) = omega (arith, lt)

-- ---- names without `=`

-- no byte of the name is `=`
abbrev pub HasNoSign : List ℕ → Type 0
HasNoSign name = (k : ℕ) → slice_get name k ≡ Some 61 → ⊥

pub no_middle : (name value : List ℕ) → HasNoSign (name ++ 61 ∷ value) → ⊥
no_middle [] value none = none 0 refl
no_middle (b ∷ name) value none = no_middle name value (λ k is. none (suc k) is)

pub sign : (w : List ℕ) → codes "=" ++ w ≡ 61 ∷ w
sign w = refl

-- no sign stands in a name
pub no_sign : (name m value : List ℕ) → HasNoSign name → name ≡ m ++ (codes "=" ++ value) → ⊥
no_sign name m value none e = no_middle m value (subst HasNoSign (e ∙ ap (λ w. m ++ w) (sign value)) none)

pub one_split : (m n v w : List ℕ) → HasNoSign m → HasNoSign n → m ++ 61 ∷ v ≡ n ++ 61 ∷ w → (m ≡ n) × (v ≡ w)
one_split [] [] v w none none' e = (refl, cc (e))
one_split [] (c ∷ n) v w none none' e = absurd (none' 0 (let same : c ≡ 61 = cc (e) in ap (λ b. Some b) same))
one_split (b ∷ m) [] v w none none' e = absurd (none 0 (let same : b ≡ 61 = cc (e) in ap (λ b. Some b) same))
one_split (b ∷ m) (c ∷ n) v w none none' e =
    let same = one_split m n v w (λ k is. none (suc k) is) (λ k is. none' (suc k) is) (cc (e)) in
    let first : b ≡ c = cc (e) in
    (cc (first, same.0), same.1)

-- ---- the names of the options

-- some byte is `=`
abbrev has_sign : List ℕ → Bool
has_sign [] = false
has_sign (b ∷ name) = (b == 61) || has_sign name

no_sign_in : (name : List ℕ) → has_sign name ≡ false → HasNoSign name
no_sign_in [] none k is = cc (is)
no_sign_in (b ∷ name) none zero is = eqb-false b 61 ((or_parts (b == 61) (has_sign name) none).0) (let same : Some b ≡ Some 61 = is in cc (same))
no_sign_in (b ∷ name) none (suc k) is = no_sign_in name ((or_parts (b == 61) (has_sign name) none).1) k is

pub flag_is : (name : List ℕ) → Contains flag_names name → codes "check" ≡ name
flag_is name is = elim (first_or_behind (codes "check") name [] is) [ inl same ↦ same | inr none ↦ absurd (no_member name none) ]

pub setting_is : (name : List ℕ) → Contains setting_names name → (codes "syntax" ≡ name) ⊎ ((codes "replacements" ≡ name) ⊎ (codes "most" ≡ name))
setting_is name is = elim (first_or_behind (codes "syntax") name (codes "replacements" ∷ codes "most" ∷ []) is) [
  | inl same ↦ inl same
  | inr more ↦ (elim (first_or_behind (codes "replacements") name (codes "most" ∷ []) more) [
    | inl same ↦ inr (inl same)
    | inr last ↦ (elim (first_or_behind (codes "most") name [] last) [ inl same ↦ inr (inr same) | inr none ↦ absurd (no_member name none) ])
  ])
]

pub plain_flags : (name : List ℕ) → Contains flag_names name → HasNoSign name
plain_flags name is = subst HasNoSign (flag_is name is) (no_sign_in (codes "check") refl)

pub plain_settings : (name : List ℕ) → Contains setting_names name → HasNoSign name
plain_settings name is = elim (setting_is name is) [
  | inl same ↦ subst HasNoSign same (no_sign_in (codes "syntax") refl)
  | inr (inl same) ↦ subst HasNoSign same (no_sign_in (codes "replacements") refl)
  | inr (inr same) ↦ subst HasNoSign same (no_sign_in (codes "most") refl)
]

pub named_flags : ¬ Contains flag_names []
named_flags is = let same = flag_is [] is in cc (same)

pub named_settings : ¬ Contains setting_names []
named_settings is = elim (setting_is [] is) [
  | inl same ↦ cc (same)
  | inr (inl same) ↦ cc (same)
  | inr (inr same) ↦ cc (same)
]

pub apart : (name : List ℕ) → Contains flag_names name → ¬ Contains setting_names name
apart name is is' = elim (setting_is name is') [
  | inl same ↦ (let e : codes "syntax" ≡ codes "check" = same ∙ sym (flag_is name is) in cc (e))
  | inr (inl same) ↦ (let e : codes "replacements" ≡ codes "check" = same ∙ sym (flag_is name is) in cc (e))
  | inr (inr same) ↦ (let e : codes "most" ≡ codes "check" = same ∙ sym (flag_is name is) in cc (e))
]

-- ---- what is read of a name

-- where no index has `=`, the name has none
pub no_sign_at : (name : List ℕ) → ((i : ℕ) → i < length name → get_or name i 0 ≡ 61 → ⊥) → HasNoSign name
no_sign_at name none k is = none k (slice_get_within name k 61 is) (get_or_from_slice_get name k 61 0 is)

-- each option that takes a value is named
pub setting_known : (named : Setting) → Contains setting_names (setting_name named)
setting_known Syntax = contains_first (codes "syntax") (codes "replacements" ∷ codes "most" ∷ [])
setting_known Replacements = contains_behind (codes "syntax") (codes "replacements") (codes "replacements" ∷ codes "most" ∷ []) (contains_first (codes "replacements") (codes "most" ∷ []))
setting_known Most = contains_behind (codes "syntax") (codes "most") (codes "replacements" ∷ codes "most" ∷ []) (contains_behind (codes "replacements") (codes "most") (codes "most" ∷ []) (contains_first (codes "most") []))
