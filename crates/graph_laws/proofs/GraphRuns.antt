-- Runs of shared steps, and the graph run as one of them.
use Rattle.std.proofs.Common.{◌≡◌, ℕ, zero, suc, ◌+◌, ◌<◌, ◌≤◌, List, Some, refl, ◌∙◌, ap, subst, arith}
use Rattle.std.specs.Prelude.{slice_get}
use Rattle.eq_base.specs.Tree.{Tree}
use Rattle.eq_base.specs.Rewriting.{System, IsDerivable, IsNormal}
use Rattle.eq_base.specs.Rewriting as rewriting
use Rattle.orthogonal_laws.specs.Orthogonal.{IsWellFormedSystem, IsOrthogonal}
use Rattle.orthogonal_laws.specs.Strategy.{IsNext, PlainRun, HasLength}
use Rattle.orthogonal_laws.specs.Strategy as strategy
use Rattle.orthogonal_laws.proofs.RunLaws.{run_after_shared, one_end, run_found}
use Rattle.graph_laws.specs.Numbered.{Numbered, plain, AreShared}
use Rattle.graph_laws.specs.Runs.{IsReplaced, IsNextNode, GraphRun}
use Rattle.graph_laws.specs.Runs as runs
use Rattle.graph_laws.specs.Rewritten.{HasNumber}
use Rattle.graph_laws.specs.SharedRuns.{SharedRun, start, then, StandsFor, GraphEnds, GraphLeaves, IsOnlyNormalForm}
use Rattle.graph_laws.proofs.ManySteps.{on, replaced_derives}
use Rattle.graph_laws.proofs.Rewriting.{rewrites, shared_step}
use Rattle.graph_laws.proofs.KeepingShared.{stay_shared}

module _ {H : Type 0} (system : System H) (w : IsWellFormedSystem system) (o : IsOrthogonal system) where
  -- ---- shared steps

  pub shared_run-derives : {t u : Tree H} {n : ℕ} → SharedRun system t n u → IsDerivable system t u
  shared_run-derives start = (0, rewriting.start)
  shared_run-derives (then r s) = on system (shared_run-derives r) (replaced_derives system s.root_step s.replaced)

  -- n shared steps make the plain run shorter by n at least
  pub shared_run-shorter : {t u : Tree H} {n : ℕ} → SharedRun system t n u → (v : Tree H) (m : ℕ) → HasLength system t m v → (k : ℕ) × HasLength system u k v × (n + k ≤ m)
  shared_run-shorter start v m l = (m, l, omega arith)
  shared_run-shorter (then {n = n} {u = u} {v = u'} r s) v m l =
      let x = shared_run-shorter r v m l in
      let y = run_after_shared system w o u u' v x.0 s x.1 in
      let le = x.2 in
      let le' = y.2 in
      (y.0, y.1, omega arith)

  no_run : {t v : Tree H} → PlainRun system t 0 v → v ≡ t
  no_run strategy.start = refl

  -- where n shared steps leave a redex, the plain run is longer than n
  pub shared_run-longer : {t u : Tree H} {n : ℕ} → SharedRun system t n u → (IsNormal system u → ⊥) → (v : Tree H) (m : ℕ) → HasLength system t m v → n < m
  shared_run-longer {t} {u} {n} r left v m l = let x = shared_run-shorter r v m l in of_length x.0 x.1 x.2
    where
      of_length : (k : ℕ) → HasLength system u k v → n + k ≤ m → n < m
      of_length zero l le = absurd (left (subst (λ z. IsNormal system z) (no_run l.run) l.normal))
      of_length (suc k) l le = omega arith

  -- ---- the graph run

  -- the run of the root's term
  pub record Shares (trees : List (Numbered H)) (root : ℕ) (t : Numbered H) (n : ℕ) (after : List (Numbered H)) : Type 0 where
    pub tree : Numbered H
    pub stands : slice_get after root ≡ Some tree
    pub run : SharedRun system (plain t) n (plain tree)
    pub shared : AreShared after

  -- a graph run is a run of shared steps
  pub graph_run-shares : (trees : List (Numbered H)) (root : ℕ) (t : Numbered H) → AreShared trees → slice_get trees root ≡ Some t → {n : ℕ} {after : List (Numbered H)} → GraphRun system root trees n after → Shares trees root t n after
  graph_run-shares trees root t shared e runs.start = record { tree = t; stands = e; run = start; shared = shared }
  graph_run-shares trees root t shared e (runs.then {n = n} {between = between} {after = after} r next x) =
      let y = graph_run-shares trees root t shared e r in
      let same : next.tree ≡ y.tree = let a = next.stands in let b = y.stands in cc in
      let a = rewrites system between after n root y.tree y.shared x y.stands in
      let number : HasNumber y.tree next.position n = subst (λ z. HasNumber z next.position n) same (record { part = next.part; stands = next.there; own = next.own }) in
      let s = shared_step system n y.tree a.tree next.position a.rewritten (subst (λ z. IsNext system (plain z) next.position) same next.next) number in
      record { tree = a.tree; stands = a.stands; run = then y.run s; shared = stay_shared system w o between after n y.shared x }

  -- ---- how it ends

  module _ (trees : List (Numbered H)) (root : ℕ) (t : Numbered H) (shared : AreShared trees) (at : slice_get trees root ≡ Some t) where
    -- the run leads to the term that the root stands for afterwards
    pub shares-to : (n : ℕ) (after : List (Numbered H)) (u : Tree H) → GraphRun system root trees n after → StandsFor after root u → SharedRun system (plain t) n u
    shares-to n after u r s =
        let x = graph_run-shares trees root t shared at r in
        let tree : x.tree ≡ s.0 = let a = x.stands in let b = s.1 in cc in
        let same : plain x.tree ≡ u = ap plain tree ∙ s.2 in
        subst (λ z. SharedRun system (plain t) n z) same x.run

    -- where it ends, it ends in the only normal form, and the plain run is at least as long
    pub end_is_normal_form : (n : ℕ) (after : List (Numbered H)) (v : Tree H) → GraphEnds system root trees n after v → IsOnlyNormalForm system (plain t) n v
    end_is_normal_form n after v e =
        let run = shares-to n after v e.run e.stands in
        let derivable = shared_run-derives run in
        let l = run_found system w o (plain t) v derivable e.normal in
        let x = shared_run-shorter run v l.0 l.1 in
        let le = x.2 in
        record {
          derivable = derivable;
          normal = e.normal;
          only = λ u d norm. one_end system w o (plain t) u v d norm derivable e.normal;
          length = l.0;
          has_length = l.1;
          long = omega arith;
        }

    -- where a redex is left, so many shared steps were made, and the plain run is longer
    pub leaves_redex : (n : ℕ) (after : List (Numbered H)) (u : Tree H) → GraphLeaves system root trees n after u → SharedRun system (plain t) n u × ((v : Tree H) (m : ℕ) → HasLength system (plain t) m v → n < m)
    leaves_redex n after u l =
        let run = shares-to n after u l.run l.stands in
        (run, λ v m has. shared_run-longer run l.redex_left v m has)
