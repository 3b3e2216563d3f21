-- The text of a list of breaks, whole or cut.
use Rattle.std.proofs.Common.{◌≡◌, ◌∙◌, ◌≤◌, ◌<◌, ◌-◌, ℕ, zero, suc, List, ◌++◌, take, length, append-nil, append_assoc, refl, sym, ap, arith}
use Rattle.std.specs.Prelude.{codes, decimal, flat_map}
use Rattle.eq_base.specs.declared.rules.Equation.{Equation}
use Rattle.regularity.specs.declared.breaks.Break.{Break}
use Rattle.eq_base.specs.Rules.{rule_of}
use Rattle.ei_program.specs.Restrictions.{origin_of, break_line, more_line, broken_text}
use Rattle.ei_program.proofs.Sums.{take_all}

module _ (es : List Equation) (bs : List Break) where
  -- the first line
  abbrev first_line : List ℕ
  first_line = codes "ei: restrictions broken: " ++ decimal (length bs) ++ codes "\n"

  -- so many lines of breaks
  abbrev lines : ℕ → List ℕ
  lines n = flat_map (break_line rule_of origin_of es) (take n bs)

  -- all breaks are told
  pub told_whole : (text header : List ℕ) (i : ℕ) → header ≡ first_line → text ≡ header ++ lines i → i ≡ length bs → length bs ≤ 50 → text ≡ broken_text rule_of origin_of es bs
  told_whole text header i head is all few =
      let none : length bs - 50 ≡ 0 = omega (arith, few) in
      let taken : lines i ≡ lines 50 = ap lines all ∙ ap (flat_map (break_line rule_of origin_of es)) (sym (take_all bs 50 few)) in
      let ends : lines 50 ≡ lines 50 ++ more_line (length bs - 50) = sym (ap (λ n. lines 50 ++ more_line n) none ∙ append-nil (lines 50)) in
      is ∙ ap (λ h. h ++ lines i) head ∙ ap (λ z. first_line ++ z) (taken ∙ ends) ∙ sym (append_assoc first_line (lines 50) (more_line (length bs - 50)))

  -- what is told of the rest
  more_told : (n : ℕ) → 0 < n → codes "ei: " ++ decimal n ++ codes " more\n" ≡ more_line n
  more_told zero some = absurd (omega (arith, some))
  more_told (suc n) some = refl

  -- the first breaks are told, and how many more there are
  pub told_in_part : (text header whole : List ℕ) (i more : ℕ) → header ≡ first_line → text ≡ header ++ lines i → i ≡ 50 → more ≡ length bs - 50 → 0 < more
      → whole ≡ text ++ (codes "ei: " ++ decimal more ++ codes " more\n") → whole ≡ broken_text rule_of origin_of es bs
  told_in_part text header whole i more head is cut rest some end =
      let tail : codes "ei: " ++ decimal more ++ codes " more\n" ≡ more_line (length bs - 50) = more_told more some ∙ ap more_line rest in
      let front : text ≡ first_line ++ lines 50 = is ∙ ap (λ h. h ++ lines i) head ∙ ap (λ n. first_line ++ lines n) cut in
      end ∙ ap (λ z. text ++ z) tail ∙ ap (λ z. z ++ more_line (length bs - 50)) front
