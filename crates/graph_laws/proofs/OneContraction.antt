-- What a redex contracts to is one, and two contractions cross.
use Rattle.std.proofs.Common.{◌≡◌, ◌≢◌, ℕ, ◌+◌, ◌≤◌, ◌==◌, false, Some, inl, inr, refl, sym, ◌∙◌, ap, subst, arith}
use Rattle.std.proofs.lemmas.Bool.{ne_eqb, cases_lt}
use Rattle.eq_base.specs.Tree.{Tree, node, empty, size}
use Rattle.eq_base.specs.Pattern.{PatternCell, fixed, variable, restricted, variables, Substitution}
use Rattle.eq_base.specs.Rewriting.{RightSide, pattern, operation, System, Gives, IsRedexBy, IsRedex, IsFirst}
use Rattle.eq_base.proofs.Lists.{all_map, all_contained}
use Rattle.orthogonal_laws.specs.Orthogonal.{IsBound, IsWellFormedSystem, IsOrthogonal}
use Rattle.orthogonal_laws.proofs.Members.{get-in, in-contains}
use Rattle.graph_laws.specs.Numbered.{Numbered, plain, root_number, replace_numbered}
use Rattle.graph_laws.specs.Replacing.{new_count, contractum}
use Rattle.graph_laws.specs.SharedRuns.{HaveConstantValues}
use Rattle.graph_laws.proofs.Numbering.{Only, put_nowhere, none_inside}
use Rattle.graph_laws.proofs.OneRun.{Same, met-same, all_numbered-same, one_first}
use Rattle.graph_laws.proofs.FirstFits.{some_meets, first_fit}
use Rattle.graph_laws.proofs.Contracts.{MakesRight, Contracts}
use Rattle.graph_laws.proofs.Crossing.{IsOff, put-put}
use Rattle.graph_laws.proofs.PutNumbers.{Numbers, contracts-numbers}

module _ {H : Type 0} (system : System H) where
  contractum-same : (σ τ : Substitution (H × ℕ)) (n k : ℕ) (p : Tree (PatternCell H)) → Same σ τ (variables p) → contractum σ n k p ≡ contractum τ n k p
  contractum-same σ τ n k (node (fixed h) ps) s = ap (node (h, n)) (all_numbered-same σ τ k ps s)
  contractum-same σ τ n k (node (variable x) ps) s = s.0
  contractum-same σ τ n k (node (restricted x class) ps) s = s.0

  -- it is one, from each base on
  pub one_contraction : IsOrthogonal system → (n base : ℕ) (s c d : Numbered H) (many few : ℕ) → Contracts system n base s c many → Contracts system n base s d few → (c ≡ d) × (many ≡ few)
  one_contraction o n base s c d many few x y =
      let number : x.number ≡ y.number = one_first system o x.number y.number (plain s) x.redex x.first y.redex y.first in
      let rule : y.rule ≡ x.rule = let a = x.listed in let b = y.listed in cc in
      let makes : MakesRight system y.rule.left y.rule.right n base s d few = y.makes in
      by_right x.rule.right refl x.makes (subst (λ r. MakesRight system r.left r.right n base s d few) rule makes)
    where
      by_right : (right : RightSide H) → x.rule.right ≡ right → MakesRight system x.rule.left right n base s c many → MakesRight system x.rule.left right n base s d few → (c ≡ d) × (many ≡ few)
      by_right (pattern p) e a b =
          let there = in-contains (get-in system.rules x.number x.rule x.listed) in
          let bound = subst (λ r. IsBound (variables x.rule.left) r) e (o.bound x.rule there) in
          let agree = met-same a.0 b.0 x.rule.left s a.1 b.1 in
          let on = all_map _ (λ v. a.0 v ≡ b.0 v) (variables p) (λ v inside. all_contained (λ v. a.0 v ≡ b.0 v) (variables x.rule.left) v agree inside) bound in
          (a.2 ∙ (contractum-same a.0 b.0 n base p on ∙ sym b.2), a.3 ∙ sym b.3)
      by_right (operation op) e a b =
          let value = a.1 in
          let value' = b.1 in
          let same : a.0 ≡ b.0 = cc in
          (a.2 ∙ (ap (λ h. node (h, n) empty) same ∙ sym b.2), a.3 ∙ sym b.3)

  -- a redex contracts to something
  pub some_contraction : IsWellFormedSystem system → IsOrthogonal system → HaveConstantValues system → (n base : ℕ) (s : Numbered H) → IsRedex system (plain s) → (c : Numbered H) × (many : ℕ) × Contracts system n base s c many
  some_contraction w o constant n base s r = of_first (first_fit system w o r.1.0 (plain s) (r.0, r.1.1))
    where
      of_right : (number : ℕ) (fits : IsRedexBy system number (plain s)) → (right : RightSide H) → fits.1.rule.right ≡ right → (c : Numbered H) × (many : ℕ) × MakesRight system fits.1.rule.left right n base s c many
      of_right number fits (pattern p) e =
          let rule = fits.1.rule in
          let m = some_meets system.in_class rule.left s (o.linear rule (in-contains (get-in system.rules number rule fits.1.listed))) fits.1.is_instance.left in
          (contractum m.0 n base p, new_count p, (m.0, m.1, refl, refl))
      of_right number fits (operation op) e =
          let rule = fits.1.rule in
          let value : system.value_of op (plain s) ≡ Some fits.0 = subst (λ z. Gives system fits.1.is_instance.left.substitution z (plain s) fits.0) e fits.1.is_instance.right in
          let h = constant rule (in-contains (get-in system.rules number rule fits.1.listed)) op e (plain s) fits.0 value in
          (node (h.0, n) empty, 0, (h.0, value ∙ ap (λ z. Some z) h.1, refl, refl))

      of_first : (first : ℕ) × IsRedexBy system first (plain s) × IsFirst system first (plain s) → (c : Numbered H) × (many : ℕ) × Contracts system n base s c many
      of_first f =
          let x = of_right f.0 f.1 f.1.1.rule.right refl in
          (x.0, x.1, record { number = f.0; rule = f.1.1.rule; listed = f.1.1.listed; redex = f.1; first = f.2; makes = x.2 })

-- ---- two replacements in either order

module _ {H : Type 0} (system : System H) (o : IsOrthogonal system) (n k m base : ℕ) (p d s c : Numbered H) (few many : ℕ) where
  pub put_crossed : n ≢ m → root_number p ≡ n → root_number s ≡ m → Contracts system n k p d few → Contracts system m base s c many → Only n p s → Only m s p → IsOff base many n → IsOff k few m → (t : Numbered H) → replace_numbered m (replace_numbered n d c) (replace_numbered n d t) ≡ replace_numbered n (replace_numbered m c d) (replace_numbered m c t)
  put_crossed other own own' x y only_p only_s off off' t =
      elim (cases_lt (size p) (size s)) [
        | inr le ↦
            let none = contracts-numbers (λ j. (j == n) ≡ false) system o m base s c many y (ne_eqb m n (λ e. other (sym e))) (λ i less. ne_eqb (base + i) n (off i less)) (not_in s own' only_p le) in
            ap (λ z. replace_numbered m z (replace_numbered n d t)) (put_nowhere n d c none) ∙ put-put m n c d (λ e. other (sym e)) none t
        | inl less ↦
            let none = contracts-numbers (λ j. (j == m) ≡ false) system o n k p d few x (ne_eqb n m other) (λ i less. ne_eqb (k + i) m (off' i less)) (not_in' p own only_s (omega arith)) in
            sym (ap (λ z. replace_numbered n z (replace_numbered m c t)) (put_nowhere m c d none) ∙ put-put n m d c other none t)
      ]
    where
      not_in : (s : Numbered H) → root_number s ≡ m → Only n p s → size s ≤ size p → Numbers (λ j. (j == n) ≡ false) s
      not_in (node l args) e only le = (ne_eqb l.1 n (λ e'. other (sym e' ∙ e)), none_inside n p args only.1 (omega arith))

      not_in' : (p : Numbered H) → root_number p ≡ n → Only m s p → size p ≤ size s → Numbers (λ j. (j == m) ≡ false) p
      not_in' (node l args) e only le = (ne_eqb l.1 m (λ e'. other (sym e ∙ e')), none_inside m s args only.1 (omega arith))
