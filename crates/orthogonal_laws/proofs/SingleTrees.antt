-- Runs and derivations of trees, as those of lists of one tree.
use Rattle.std.proofs.Common.{◌≡◌, ℕ, suc, ◌+◌, List, [], ◌∷◌, refl, subst, arith}
use Rattle.eq_base.specs.Tree.{Tree, Forest, empty, grow, head_of, Position}
use Rattle.eq_base.specs.Rewriting as rewriting
use Rattle.eq_base.specs.Rewriting.{System, StepAt, Derivation, start, then, IsDerivable, IsNormal}
use Rattle.orthogonal_laws.specs.Convertible.{IsConvertible, same, forth, back}
use Rattle.orthogonal_laws.specs.Orthogonal.{IsWellFormedSystem, IsOrthogonal}
use Rattle.orthogonal_laws.specs.Strategy.{IsNext, PlainRun, HasLength}
use Rattle.orthogonal_laws.specs.Strategy as strategy
use Rattle.orthogonal_laws.proofs.LeftSides.{Compiled}
use Rattle.orthogonal_laws.proofs.ForestSteps.{Step, step_here, step_below, step_after, Normal, Derives, no_step, then_step, Joined, joined_end, joined_forth, joined_back}
use Rattle.orthogonal_laws.proofs.ForestStrategy.{Next, next_demand, next_below, next_after, Plain, plain_end, plain_step}
use Rattle.orthogonal_laws.proofs.Redexes.{compiled}
use Rattle.orthogonal_laws.proofs.Stepping.{step-to, step_alone, normal-to, normal-from}
use Rattle.orthogonal_laws.proofs.NextRedexes.{next-from, next-one}

derives_on : {H : Type 0} {rules : List (Compiled H)} {ts us vs : Forest H} → Derives rules ts us → Derives rules us vs → Derives rules ts vs
derives_on no_step d = d
derives_on (then_step s d) d' = then_step s (derives_on d d')

module _ {H : Type 0} (system : System H) (w : IsWellFormedSystem system) (o : IsOrthogonal system) where
  pub next_alone : {t : Tree H} {p : Position} → Next (compiled system w) (grow t empty) p → (q : Position) × (p ≡ 0 ∷ q)
  next_alone (next_demand {p = p} d) = (p, refl)
  next_alone (next_below {p = p} x n) = (p, refl)
  next_alone (next_after x y n) = elim n [ ]

  step_shape : {t : Tree H} {us : Forest H} {p : Position} → Step (compiled system w) (grow t empty) p us → (q : Position) × (p ≡ 0 ∷ q)
  step_shape (step_here x) = ([], refl)
  step_shape (step_below {p = p} s) = (p, refl)
  step_shape (step_after s) = elim s [ ]

  -- a step in front of a run
  pub run_before : {t u v : Tree H} {n : ℕ} {q : Position} → IsNext system t q → StepAt system t q u → PlainRun system u n v → PlainRun system t (suc n) v
  run_before {t} {q = q} nx s strategy.start = strategy.then q strategy.start nx s
  run_before nx s (strategy.then q run nx' s') = strategy.then q (run_before nx s run) nx' s'

  run-to : {t u : Tree H} {vs : Forest H} {n m : ℕ} → PlainRun system t n u → Plain (compiled system w) (grow u empty) m vs → Plain (compiled system w) (grow t empty) (n + m) vs
  run-to {t} {vs = vs} {m = m} strategy.start p = subst (λ k. Plain (compiled system w) (grow t empty) k vs) (omega arith) p
  run-to {t} {vs = vs} {m = m} (strategy.then {n = n} q run nx s) p =
      subst (λ k. Plain (compiled system w) (grow t empty) k vs) (omega arith) (run-to run (plain_step (next-from system w o nx) (step-to system w o s empty) p))

  pub length-to : {t v : Tree H} {n : ℕ} → HasLength system t n v → Plain (compiled system w) (grow t empty) n (grow v empty)
  length-to {t} {v} {n} l = subst (λ k. Plain (compiled system w) (grow t empty) k (grow v empty)) (omega arith) (run-to l.run (plain_end (normal-to system w o v l.normal)))

  pub record LengthOf (t : Tree H) (n : ℕ) (vs : Forest H) : Type 0 where
    pub end : Tree H
    pub is : vs ≡ grow end empty
    pub has : HasLength system t n end

  pub length-from : {ts vs : Forest H} {n : ℕ} → Plain (compiled system w) ts n vs → (t : Tree H) → ts ≡ grow t empty → LengthOf t n vs
  length-from (plain_end norm) t e = record { end = t; is = e; has = record { run = strategy.start; normal = normal-from system w o t (subst (λ z. Normal (compiled system w) z) e norm) } }
  length-from (plain_step {us = us} {p = p} nx s rest) t e =
      let nx1 = subst (λ z. Next (compiled system w) z p) e nx in
      let q = next_alone nx1 in
      let nx2 = next-one system w o (subst (λ p. Next (compiled system w) (grow t empty) p) q.1 nx1) in
      let s1 = subst (λ p. Step (compiled system w) (grow t empty) p us) q.1 (subst (λ z. Step (compiled system w) z p us) e s) in
      let u = step_alone system w o (head_of t) s1 in
      let l = length-from rest u.0 u.1 in
      record { end = l.end; is = l.is; has = record { run = run_before nx2 u.2 l.has.run; normal = l.has.normal } }

  derives-to : {t v : Tree H} {n : ℕ} → Derivation system t n v → Derives (compiled system w) (grow t empty) (grow v empty)
  derives-to start = no_step
  derives-to (then d s) = derives_on (derives-to d) (then_step (step-to system w o s.1 empty) no_step)

  pub derivable-to : {t v : Tree H} → IsDerivable system t v → Derives (compiled system w) (grow t empty) (grow v empty)
  derivable-to d = derives-to d.1

  derivation_before : {t u v : Tree H} {n : ℕ} → rewriting.Step system t u → Derivation system u n v → Derivation system t (suc n) v
  derivation_before s start = then start s
  derivation_before s (then d s') = then (derivation_before s d) s'

  pub derivable-from : {ts vs : Forest H} → Derives (compiled system w) ts vs → (t : Tree H) → ts ≡ grow t empty → (v : Tree H) × (vs ≡ grow v empty) × IsDerivable system t v
  derivable-from no_step t e = (t, e, (0, start))
  derivable-from (then_step {us = us} {p = p} s d) t e =
      let s1 = subst (λ z. Step (compiled system w) z p us) e s in
      let q = step_shape s1 in
      let u = step_alone system w o (head_of t) (subst (λ p. Step (compiled system w) (grow t empty) p us) q.1 s1) in
      let v = derivable-from d u.0 u.1 in
      (v.0, v.1, (suc v.2.0, derivation_before (q.0, u.2) v.2.1))

  pub joined-to : {t u : Tree H} → IsConvertible system t u → Joined (compiled system w) (grow t empty) (grow u empty)
  joined-to same = joined_end
  joined-to (forth s c) = joined_forth (step-to system w o s.1 empty) (joined-to c)
  joined-to (back s c) = joined_back (step-to system w o s.1 empty) (joined-to c)
