-- What a line says of its term: the form that it prints; and where any derivation ends in a normal form, each budget from some number on answers with it.
use Rattle.std.proofs.Common.{◌≡◌, ℕ, ◌≤◌, List, inl, inr, refl, sym, subst, arith}
use Rattle.eq_base.specs.Tree.{Tree}
use Rattle.eq_base.specs.ReadHead.{ReadHead}
use Rattle.eq_base.specs.Rewriting.{IsDerivable, IsNormal}
use Rattle.orthogonal_laws.specs.Strategy.{HasLength}
use Rattle.ei_program.specs.declared.settings.Settings.{Settings}
use Rattle.ei_program.specs.Definitions.{Definitions, system}
use Rattle.ei_program.specs.Lines.{ReducesTo, PrintsForm, IsFormLine, IsLine, IsQuestion}

-- a line that does not begin with `?` prints the normal form
pub prints_form : (settings : Settings) (d : Definitions) (t : Tree ReadHead) (line : List ℕ) → IsLine settings d t line → ¬ IsQuestion line → (form : Tree ReadHead) × ReducesTo settings.budget d t form × PrintsForm settings d form line
prints_form settings d t line (inl (form, reduced, inl prints)) plain = (form, reduced, prints)
prints_form settings d t line (inl (form, reduced, inr (inl past))) plain = absurd (plain (subst IsQuestion (sym past.printed) refl))
prints_form settings d t line (inl (form, reduced, inr (inr large))) plain = absurd (plain (subst IsQuestion (sym large.written) refl))
prints_form settings d t line (inr spent) plain = absurd (plain (subst IsQuestion (sym spent.written) refl))

pub large_budget_answers : (settings : Settings) (d : Definitions) (t form : Tree ReadHead) (line : List ℕ)
    → IsDerivable (system d) t form → IsNormal (system d) form → IsLine settings d t line
    → (steps : ℕ) × HasLength (system d) t steps form × (steps ≤ settings.budget → IsFormLine settings d form line)
large_budget_answers settings d t form line derivable normal (inl (found, reduced, is)) =
    let same : form ≡ found = reduced.only form derivable normal in
    (reduced.steps, subst (HasLength (system d) t reduced.steps) (sym same) reduced.length, (λ enough. subst (λ f. IsFormLine settings d f line) (sym same) is))
large_budget_answers settings d t form line derivable normal (inr spent) =
    let (steps, length) = spent.ends form derivable normal in
    (steps, length, (λ enough. let longer = spent.longer form steps length in absurd (omega (arith, enough, longer))))
