-- What the machine answers.
use Rattle.std.proofs.Common.{◌≡◌, ℕ, ◌<◌, ◌≤◌, List, [], length, Some, refl}
use Rattle.std.specs.Prelude.{slice_get}
use Rattle.eq_base.specs.Tree.{Tree}
use Rattle.eq_base.specs.Rewriting.{System, IsNormal}
use Rattle.orthogonal_laws.specs.Orthogonal.{IsLawful}
use Rattle.orthogonal_laws.specs.Strategy.{HasLength}
use Rattle.match_laws.specs.Demand.{HasFixedArities}
use Rattle.graph_laws.specs.Numbered.{Numbered, plain, AreShared}
use Rattle.graph_laws.specs.Runs.{GraphRun, ReplacementList}
use Rattle.graph_laws.specs.SharedRuns.{SharedRun, StandsFor, GraphEnds, IsOnlyNormalForm, HaveConstantValues}
use Rattle.graph_laws.proofs.GraphRuns.{end_is_normal_form, leaves_redex}
use Rattle.graph_laws.proofs.Renaming.{ends-from}
use Rattle.graph_laws.proofs.Shortest.{none_shorter}
use Rattle.machine_laws.specs.Places.{Place, arriving, ended}
use Rattle.machine_laws.specs.MachineRuns.{KeepAll, RightsKeep, MachineRun}
use Rattle.machine_laws.proofs.KeepingArities.{replacements_keep}
use Rattle.machine_laws.proofs.MachineRuns.{is_graph_run, ends_normal}

module _ {H : Type 0} (system : System H) (lawful : IsLawful system) (arity : H → ℕ) (k : HasFixedArities system arity) (r : RightsKeep system arity) (root : ℕ) (trees : List (Numbered H)) (t : Numbered H) (shared : AreShared trees) (keeps : KeepAll arity trees) (stands : slice_get trees root ≡ Some t) where
  graph_run : (n : ℕ) (now : List (Numbered H)) (place : Place H) → MachineRun system trees (arriving [] t) n now place → GraphRun system root trees n now
  graph_run n now place run = is_graph_run system lawful.well_formed lawful.orthogonal arity k (replacements_keep system arity lawful.orthogonal r) root trees t shared keeps stands n now place run

  -- where the machine ends, the graph run does
  ends : (n : ℕ) (now : List (Numbered H)) (v : Numbered H) → MachineRun system trees (arriving [] t) n now (ended v) → GraphEnds system root trees n now (plain v)
  ends n now v run =
      let x = ends_normal system lawful.well_formed lawful.orthogonal arity k (replacements_keep system arity lawful.orthogonal r) root trees t shared keeps stands n now v run in
      record { run = graph_run n now (ended v) run; stands = (v, x.0, refl); normal = x.1 }

  pub only_end : (n : ℕ) (now : List (Numbered H)) (v : Numbered H) → MachineRun system trees (arriving [] t) n now (ended v) → IsOnlyNormalForm system (plain t) n (plain v)
  only_end n now v run = end_is_normal_form system lawful.well_formed lawful.orthogonal trees root t shared stands n now (plain v) (ends n now v run)

  pub shortest_end : HaveConstantValues system → (n : ℕ) (now : List (Numbered H)) (v : Numbered H) → MachineRun system trees (arriving [] t) n now (ended v) → (others : List (Numbered H)) (ns : List ℕ) (u : Tree H) → ReplacementList system trees ns others → StandsFor others root u → IsNormal system u → n ≤ length ns
  shortest_end constant n now v run others ns u l at normal = none_shorter system lawful.well_formed lawful.orthogonal constant root l t shared stands u at normal n (ends-from system root trees now n (plain v) (ends n now v run))

  pub redex_left : (n : ℕ) (now : List (Numbered H)) (place : Place H) → MachineRun system trees (arriving [] t) n now place → (u : Tree H) → StandsFor now root u → (IsNormal system u → ⊥) → SharedRun system (plain t) n u × ((v : Tree H) (m : ℕ) → HasLength system (plain t) m v → n < m)
  redex_left n now place run u at left = leaves_redex system lawful.well_formed lawful.orthogonal trees root t shared stands n now u (record { run = graph_run n now place run; stands = at; redex_left = left })
