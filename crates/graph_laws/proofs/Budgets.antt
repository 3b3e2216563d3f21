-- The graph run with a budget, and how much a store grows.
use Rattle.std.proofs.Common.{◌≡◌, ℕ, suc, ◌+◌, ◌*◌, ◌≤◌, List, length, Some, None, refl, ap, subst, arith}
use Rattle.eq_base.specs.Tree.{Tree}
use Rattle.eq_base.specs.Rewriting.{RightSide, pattern, operation, System}
use Rattle.orthogonal_laws.specs.Orthogonal.{IsWellFormedSystem, IsOrthogonal}
use Rattle.orthogonal_laws.proofs.Members.{get-in, in-contains}
use Rattle.graph_laws.specs.Numbered.{Numbered}
use Rattle.graph_laws.specs.Runs.{GraphRun, start, then}
use Rattle.graph_laws.specs.SharedRuns.{GraphEnds, GraphLeaves}
use Rattle.graph_laws.specs.Answers.{IsAnswer, MakeAtMost}
use Rattle.graph_laws.proofs.Contracts.{MakesRight, Contracts, replaces-from}
use Rattle.graph_laws.proofs.OneRun.{one_end, ends_or_leaves}

module _ {H : Type 0} (system : System H) where
  makes_at_most : (largest : ℕ) → MakeAtMost system largest → (n base : ℕ) (s c : Numbered H) (many : ℕ) → Contracts system n base s c many → many ≤ largest
  makes_at_most largest most n base s c many x = by_right x.rule.right refl x.makes
    where
      by_right : (right : RightSide H) → x.rule.right ≡ right → MakesRight system x.rule.left right n base s c many → many ≤ largest
      by_right (pattern p) e m =
          let le = most x.rule (in-contains (get-in system.rules x.number x.rule x.listed)) p e in
          let same = m.3 in
          omega arith
      by_right (operation op) e m = let same = m.3 in omega arith

  -- a store grows by at most so many nodes for each replacement
  pub run_grows : (largest : ℕ) → MakeAtMost system largest → (root : ℕ) (trees : List (Numbered H)) {n : ℕ} {after : List (Numbered H)} → GraphRun system root trees n after → length after ≤ length trees + n * largest
  run_grows largest most root trees start = omega arith
  run_grows largest most root trees (then {k = k} {n = n} {between = between} {after = after} run next x) =
      let r = replaces-from system n between after x in
      let le = makes_at_most largest most n (length between) r.part r.contractum r.many r.contracts in
      let before = run_grows largest most root trees run in
      let long = r.long in
      let e : suc k * largest ≡ k * largest + largest = suc-times k largest in
      omega arith
    where
      suc-times : (k m : ℕ) → suc k * m ≡ k * m + m
      suc-times k m = omega arith

  module _ (w : IsWellFormedSystem system) (o : IsOrthogonal system) (root budget : ℕ) (trees after : List (Numbered H)) where
    -- the run ended within the budget
    pub normal_answer : (n : ℕ) (v : Tree H) → GraphEnds system root trees n after v → n ≤ budget → IsAnswer system root budget trees after (Some n)
    normal_answer n v e within = record {
      normal = λ m. (
        λ same. let z : n ≡ m = cc in (v, subst (λ k. GraphEnds system root trees k after v) z e, omega arith),
        λ x. let z = (one_end system w o root trees n m after after v x.0 e x.1).0 in ap (λ k. Some k) z,
      );
      spent = (λ same. absurd (cc), λ x. absurd (ends_or_leaves system w o root trees n budget after after x.0 v e within x.1));
    }

    -- or the whole budget leaves a redex
    pub spent_answer : (u : Tree H) → GraphLeaves system root trees budget after u → IsAnswer system root budget trees after None
    spent_answer u l = record {
      normal = λ m. (λ same. absurd (cc), λ x. absurd (ends_or_leaves system w o root trees m budget after after u x.0 x.1 x.2 l));
      spent = (λ same. (u, l), λ x. refl);
    }
