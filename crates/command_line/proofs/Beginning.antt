-- A word `--name=value` begins one part at most, and none where no option has this name.
use Rattle.std.proofs.Common.{◌≡◌, ℕ, List, ◌∷◌, ◌++◌, codes, Option, Some, None, inl, inr, refl, sym, ◌∙◌, ap, subst, arith, length, get_or, ◌<◌, Bor}
use Rattle.std.specs.Prelude.{Contains}
use Rattle.std.proofs.lemmas.Option.{MatchOption-at_some, MatchOption-at_none}
use Rattle.std.proofs.lemmas.Str.Pattern.{IsSplitOnceResult, split_parts}
use Rattle.command_line.specs.Parts.{Part, flag, setting, operand, setting_names, BeginWith}
use Rattle.command_line.proofs.OptionNames.{HasNoSign, no_middle, no_sign, one_split, sign, no_sign_at, plain_flags, plain_settings}
use Rattle.command_line.proofs.OneReading.{same_name, operand_or_option}

-- a text that is split at `=` is a name without one, and the value
pub split_name : (text : List ℕ) (result : Option (Bor (List ℕ) × Bor (List ℕ))) (name value : Bor (List ℕ)) → IsSplitOnceResult 61 text result → result ≡ Some (name, value) → (text ≡ name.now ++ 61 ∷ value.now) × HasNoSign name.now
split_name text result name value split is =
    let parts = MatchOption-at_some ((i : ℕ) → i < length text → get_or text i 0 ≡ 61 → ⊥) (λ (x : Bor (List ℕ) × Bor (List ℕ)). (text ≡ x.0.now ++ (61 ∷ x.1.now)) × ((i : ℕ) → i < length x.0.now → get_or x.0.now i 0 ≡ 61 → ⊥)) (name, value) is (split_parts 61 text result split (omega arith)) in
    (parts.0, no_sign_at name.now parts.1)

-- a text that is not split has none
pub no_split : (text : List ℕ) (result : Option (Bor (List ℕ) × Bor (List ℕ))) → IsSplitOnceResult 61 text result → result ≡ None → (name value : List ℕ) → text ≡ name ++ (codes "=" ++ value) → ⊥
no_split text result split is name value e =
    let none = MatchOption-at_none ((i : ℕ) → i < length text → get_or text i 0 ≡ 61 → ⊥) (λ (x : Bor (List ℕ) × Bor (List ℕ)). (text ≡ x.0.now ++ (61 ∷ x.1.now)) × ((i : ℕ) → i < length x.0.now → get_or x.0.now i 0 ≡ 61 → ⊥)) is (split_parts 61 text result split (omega arith)) in
    no_middle name value (subst HasNoSign e (no_sign_at text none))

-- where no option has the name, no part begins with it
pub none_named : (name value : List ℕ) (others : List (List ℕ)) → HasNoSign name → (Contains setting_names name → ⊥) → (part : Part) (behind : List (List ℕ)) → BeginWith part ((codes "--" ++ (name ++ (codes "=" ++ value))) ∷ others) behind → ⊥
none_named name value others plain none (flag m) behind (is, e) = let same = same_name (name ++ (codes "=" ++ value)) m others behind _ refl e in no_sign m name value (plain_flags m is) (sym same.0)
none_named name value others plain none (setting m v) behind (is, inl e) =
    let same = same_name (name ++ (codes "=" ++ value)) (m ++ (codes "=" ++ v)) others behind _ refl e in
    let split = one_split name m value v plain (plain_settings m is) (ap (λ w. name ++ w) (sym (sign value)) ∙ same.0 ∙ ap (λ w. m ++ w) (sign v)) in
    none (subst (λ n. Contains setting_names n) (sym split.0) is)
none_named name value others plain none (setting m v) behind (is, inr (e, free)) = let same = same_name (name ++ (codes "=" ++ value)) m others (v ∷ behind) _ refl e in no_sign m name value (plain_settings m is) (sym same.0)
none_named name value others plain none (operand w) behind (e, is) = operand_or_option w (name ++ (codes "=" ++ value)) behind others _ e is refl
