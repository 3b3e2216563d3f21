-- A term has one line at most.
use Rattle.std.proofs.Common.{◌≡◌, ℕ, List, [], ◌∷◌, ◌++◌, inl, inr, refl, sym, ◌∙◌, ap, subst, arith}
use Rattle.std.specs.Prelude.{codes}
use Rattle.std.proofs.lemmas.Bool.{cases_order}
use Rattle.eq_base.specs.Tree.{Tree, nth_subtree}
use Rattle.eq_base.specs.ReadHead.{ReadHead}
use Rattle.orthogonal_laws.specs.Past.{HasNoPast, IsFirstPast}
use Rattle.term_input.specs.Printing.{print}
use Rattle.ei_program.specs.declared.settings.Settings.{Settings}
use Rattle.ei_program.specs.Definitions.{Definitions, system}
use Rattle.ei_program.specs.Lines.{IsFormLine, IsAnswered, IsSpent, IsLine, AreLines}
use Rattle.ei_program.specs.Phases.{HasOne}

module _ (settings : Settings) (d : Definitions) where
  -- a part that is past is none of a term that has none
  no_past : (form : Tree ReadHead) (at : ℕ) → HasNoPast (system d) form → IsFirstPast (system d) form at → ⊥
  no_past form at clean first = clean at first.there first.past

  -- the first part that is past is one
  one_first : (form : Tree ReadHead) (at other : ℕ) → IsFirstPast (system d) form at → IsFirstPast (system d) form other → at ≡ other
  one_first form at other p q = elim (cases_order at other) [
    | inl same ↦ same
    | inr (inl less) ↦ absurd (q.before at less p.past)
    | inr (inr more) ↦ absurd (p.before other more q.past)
  ]

  one_form_line : (form : Tree ReadHead) → HasOne (IsFormLine settings d form)
  one_form_line form r s (inl p) (inl q) = p.printed ∙ sym q.printed
  one_form_line form r s (inl p) (inr (inl q)) = absurd (no_past form q.at p.clean q.first)
  one_form_line form r s (inl p) (inr (inr q)) = let small = p.small in let large = q.large in absurd (omega (arith, small, large))
  one_form_line form r s (inr (inl p)) (inl q) = absurd (no_past form p.at q.clean p.first)
  one_form_line form r s (inr (inl p)) (inr (inl q)) =
      p.printed ∙ ap (λ at. codes "? past " ++ print settings.syntax d.names (nth_subtree form at)) (one_first form p.at q.at p.first q.first) ∙ sym q.printed
  one_form_line form r s (inr (inl p)) (inr (inr q)) = absurd (no_past form p.at q.clean p.first)
  one_form_line form r s (inr (inr p)) (inl q) = let small = q.small in let large = p.large in absurd (omega (arith, small, large))
  one_form_line form r s (inr (inr p)) (inr (inl q)) = absurd (no_past form q.at p.clean q.first)
  one_form_line form r s (inr (inr p)) (inr (inr q)) = p.written ∙ sym q.written

  -- a run that ends within the budget has not used it up before
  not_both : (t : Tree ReadHead) (r s : List ℕ) → IsAnswered settings d t r → IsSpent settings.budget d t s → ⊥
  not_both t r s (form, reduced, line) spent =
      let within = reduced.within in
      let longer = spent.longer form reduced.steps reduced.length in
      omega (arith, within, longer)

  pub one_line : (t : Tree ReadHead) → HasOne (IsLine settings d t)
  one_line t r s (inl (form, reduced, line)) (inl (form', reduced', line')) =
      let same : form' ≡ form = reduced.only form' reduced'.derivable reduced'.normal in
      one_form_line form r s line (subst (λ f. IsFormLine settings d f s) same line')
  one_line t r s (inl p) (inr q) = absurd (not_both t r s p q)
  one_line t r s (inr p) (inl q) = absurd (not_both t s r q p)
  one_line t r s (inr p) (inr q) = p.written ∙ sym q.written

-- ---- lines

-- things that have one line each have one list of lines
pub lines_one : {A : Type 0} (Fits : A → List ℕ → Type 0) → ((x : A) → HasOne (Fits x)) → (xs : List A) (ls ms : List (List ℕ)) → AreLines Fits xs ls → AreLines Fits xs ms → ls ≡ ms
lines_one Fits one [] [] [] p q = refl
lines_one Fits one [] [] (m ∷ ms) p q = absurd q
lines_one Fits one [] (l ∷ ls) ms p q = absurd p
lines_one Fits one (x ∷ xs) [] ms p q = absurd p
lines_one Fits one (x ∷ xs) (l ∷ ls) [] p q = absurd q
lines_one Fits one (x ∷ xs) (l ∷ ls) (m ∷ ms) p q =
    let first : l ≡ m = one x l m p.0 q.0 in
    let others : ls ≡ ms = lines_one Fits one xs ls ms p.1 q.1 in
    cc (first, others)

-- one line more behind those of the first things
pub lines_more : {A : Type 0} (Fits : A → List ℕ → Type 0) (xs : List A) (ls : List (List ℕ)) (x : A) (l : List ℕ) → AreLines Fits xs ls → Fits x l → AreLines Fits (xs ++ x ∷ []) (ls ++ l ∷ [])
lines_more Fits [] [] x l p q = (q, tt)
lines_more Fits [] (m ∷ ms) x l p q = absurd p
lines_more Fits (y ∷ ys) [] x l p q = absurd p
lines_more Fits (y ∷ ys) (m ∷ ms) x l p q = (p.0, lines_more Fits ys ms x l p.1 q)
