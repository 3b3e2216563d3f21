-- Plain runs: their steps, and that a budget leads to one term.
use Rattle.std.proofs.Common.{◌≡◌, ℕ, ◌+◌, ◌≤◌, refl, sym, ◌∙◌, ap, subst, arith, add-one}
use Rattle.eq_base.specs.Tree.{Tree, Position, nth_subtree, nth_position, replace_at}
use Rattle.eq_base.specs.Rewriting.{System, RootStep, RootStepBy, StepAt, Derivation, IsNormal}
use Rattle.eq_base.specs.ReadHead.{ReadHead}
use Rattle.symbol_table.specs.Table.{Table}
use Rattle.symbol_table.specs.Reading.{read}
use Rattle.eq_base.specs.declared.head.Head.{Head}
use Rattle.eq_base.proofs.Positions.{subtree_at-nth_position}
use Rattle.orthogonal_laws.specs.Next.{IsNextRedex}
use Rattle.orthogonal_laws.specs.Orthogonal.{IsWellFormedSystem, IsOrthogonal}
use Rattle.orthogonal_laws.specs.Run.{IsEnd}
use Rattle.orthogonal_laws.specs.Strategy.{IsNext, PlainRun, start, then, HasLength}
use Rattle.orthogonal_laws.specs.declared.run.PlainEnd.TheVariants.{Normal, Spent}
use Rattle.orthogonal_laws.proofs.NextLaws.{one_result, next_one}
use Rattle.orthogonal_laws.proofs.RunLaws.{one_run, spent_right}

-- a plain run is a derivation
pub run-derivation : {H : Type 0} {system : System H} {t u : Tree H} {n : ℕ} → PlainRun system t n u → Derivation system t n u
run-derivation start = Derivation.start
run-derivation (then q run next step) = Derivation.then (run-derivation run) (q, step)

module _ {H : Type 0} (system : System H) (w : IsWellFormedSystem system) (o : IsOrthogonal system) where
  -- the step at a position has one result
  step_one : (t u v : Tree H) (q : Position) → StepAt system t q u → StepAt system t q v → u ≡ v
  step_one t u v q a b =
      let same : a.redex ≡ b.redex = (let x = a.stands in let y = b.stands in cc) in
      let one = one_result system w o b.redex a.contractum b.contractum (subst (λ z. RootStep system z a.contractum) same a.root_step) b.root_step in
      sym a.result ∙ ap (replace_at t q) one ∙ b.result

  -- so many steps lead to one term
  pub run_one : {t u v : Tree H} {n : ℕ} → PlainRun system t n u → PlainRun system t n v → u ≡ v
  run_one start start = refl
  run_one {v = v} (then {u = u} {v = x} q run next step) (then {u = u'} q' run' next' step') =
      let same : u' ≡ u = sym (run_one run run') in
      let next'' = subst (λ z. IsNext system z q') same next' in
      let step'' = subst (λ z. StepAt system z q' v) same step' in
      let e : q' ≡ q = next_one system w o u q' q next'' next in
      step_one u x v q step (subst (λ z. StepAt system u z v) e step'')

  -- one more step
  pub run_more : (t : Tree H) (n at equation : ℕ) (u v contractum : Tree H) → PlainRun system t n u → IsNextRedex system u at equation → RootStepBy system equation (nth_subtree u at) contractum → v ≡ replace_at u (nth_position u at) contractum → PlainRun system t (n + 1) v
  run_more t n at equation u v contractum run next s result =
      rw (add-one n)
      (then (nth_position u at) run next.next
      (record { redex = nth_subtree u at; contractum = contractum; stands = subtree_at-nth_position u at next.there; root_step = (equation, s); result = sym result }))

module _ (system : System ReadHead) (w : IsWellFormedSystem system) (o : IsOrthogonal system) (t : Tree ReadHead) (budget : ℕ) (table : Table) where
  pub normal_end : (n : ℕ) (u : Tree Head) → PlainRun system t n (read table u) → IsNormal system (read table u) → n ≤ budget → IsEnd system t budget table (Normal u n)
  normal_end n u run norm within =
      let has : HasLength system t n (read table u) = record { run = run; normal = norm } in
      record {
        normal = λ v m. (
          λ e. (subst (λ z. HasLength system t z v) e.1 (subst (λ z. HasLength system t n z) e.0 has), omega (arith, e.1, within)),
          λ h. let one = one_run system w o t (read table u) v n m has h.0 in (one.1, one.0),
        );
        spent = λ v. (λ e. absurd e, λ h. absurd (let z = spent_right system w o t v (read table u) budget n h.0 h.1 has in omega (arith, z, within)));
      }

  pub spent_end : (u : Tree Head) → PlainRun system t budget (read table u) → (IsNormal system (read table u) → ⊥) → IsEnd system t budget table (Spent u)
  spent_end u run unfinished =
      record {
        normal = λ v n. (λ e. absurd e, λ h. absurd (let z = spent_right system w o t (read table u) v budget n run unfinished h.0 in omega (arith, z, h.1)));
        spent = λ v. (
          λ e. (subst (λ z. PlainRun system t budget z) e run, subst (λ z. IsNormal system z → ⊥) e unfinished),
          λ h. run_one system w o run h.0,
        );
      }
