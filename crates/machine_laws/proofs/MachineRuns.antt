-- What the machine does is the graph run.
use Rattle.std.proofs.Common.{◌≡◌, ℕ, List, [], ◌++◌, Some, subst}
use Rattle.std.specs.Prelude.{slice_get}
use Rattle.eq_base.specs.Tree.{empty, grow}
use Rattle.eq_base.specs.Rewriting.{System, IsRedex, IsNormal}
use Rattle.orthogonal_laws.specs.Orthogonal.{IsWellFormedSystem, IsOrthogonal}
use Rattle.match_laws.specs.Reading.{KeepArities}
use Rattle.match_laws.specs.Demand.{HasFixedArities}
use Rattle.graph_laws.specs.Numbered.{Numbered, plain, root_number, AllParts, AreShared}
use Rattle.graph_laws.specs.Runs.{GraphRun, start, then}
use Rattle.graph_laws.proofs.ListEntries.{all_get}
use Rattle.graph_laws.proofs.Numbering.{part-here}
use Rattle.graph_laws.proofs.KeepingShared.{stay_shared}
use Rattle.machine_laws.specs.Frames.{Frame, plug}
use Rattle.machine_laws.specs.Normalising.{AreSettledAround}
use Rattle.machine_laws.specs.Ways.{plain_frames, put_frames}
use Rattle.machine_laws.specs.Places.{Place, arriving, reading, ended}
use Rattle.machine_laws.specs.MachineRuns.{KeepAll, ReplacementsKeep, MachineRun, run_start, run_turn, run_replace}
use Rattle.machine_laws.proofs.Completions.{plug-append}
use Rattle.machine_laws.proofs.Replacing.{parts_below}
use Rattle.machine_laws.proofs.Turns.{Holds, turn_keeps}
use Rattle.machine_laws.proofs.Replacements.{next_at, replaced_at}

module _ {H : Type 0} (system : System H) (w : IsWellFormedSystem system) (o : IsOrthogonal system) (arity : H → ℕ) (k : HasFixedArities system arity) (stay : ReplacementsKeep system arity) (root : ℕ) where
  -- what holds after a part of a run
  pub record Reached (trees : List (Numbered H)) (n : ℕ) (now : List (Numbered H)) (p : Place H) : Type 0 where
    pub run : GraphRun system root trees n now
    pub shared : AreShared now
    pub keeps : KeepAll arity now
    pub holds : Holds system w o arity k now root p

  -- a part of a store's tree is the tree of its number
  pub part_stands : (trees : List (Numbered H)) (outer above : List (Frame (H × ℕ))) (s : Numbered H) (m : ℕ) → AreShared trees → slice_get trees root ≡ Some (plug outer (plug above s)) → root_number s ≡ m → slice_get trees m ≡ Some s
  part_stands trees outer above s m shared stands own =
      let whole = all_get (λ t. AllParts (λ p. slice_get trees (root_number p) ≡ Some p) t) trees root (plug outer (plug above s)) shared stands in
      let here = part-here (λ p. slice_get trees (root_number p) ≡ Some p) s (parts_below _ above s (parts_below _ outer (plug above s) whole)) in
      subst (λ i. slice_get trees i ≡ Some s) own here

  pub reaches : (trees : List (Numbered H)) (t : Numbered H) → AreShared trees → KeepAll arity trees → slice_get trees root ≡ Some t → {n : ℕ} {now : List (Numbered H)} {p : Place H} → MachineRun system trees (arriving [] t) n now p → Reached trees n now p
  reaches trees t shared keeps stands run_start = record { run = start; shared = shared; keeps = keeps; holds = (stands, keeps root t stands, tt) }
  reaches trees t shared keeps stands (run_turn run turn) =
      let r = reaches trees t shared keeps stands run in
      record { run = r.run; shared = r.shared; keeps = r.keeps; holds = turn_keeps system w o arity k _ root turn r.holds }
  reaches trees t shared keeps stands (run_replace {m = m} {now = now} {after = after} outer below above {t = s} {new = new} {before = before} run own comes x there) =
      let r = reaches trees t shared keeps stands run in
      let part = plug below s in
      let tree_is : plug (below ++ above) s ≡ plug above part = plug-append below above s in
      let way = subst (λ z. slice_get now root ≡ Some (plug outer z)) tree_is r.holds.0 in
      let holds : Holds system w o arity k now root (reading outer above part before) =
      (way, subst (λ z. KeepArities arity (grow (plain (plug outer z)) empty)) tree_is r.holds.1, subst (λ z. AreSettledAround system (plain_frames outer) (plain z)) tree_is r.holds.2, comes) in
      let same : x.tree ≡ part = let a = x.stands in let b = part_stands now outer above part m r.shared way own in cc in
      let redex : IsRedex system (plain part) = subst (λ z. IsRedex system (plain z)) same (x.redex.0, (x.number, x.redex.1)) in
      let next = next_at system w o arity k now root m outer above part before holds own redex in
      let after_it = replaced_at system w o arity k now after root m outer above part before r.shared x holds own in
      let same_new : after_it.new ≡ new = let a = after_it.node in let b = there in cc in
      let kept = stay now after m r.keeps x in
      record {
        run = then r.run next x;
        shared = stay_shared system w o now after m r.shared x;
        keeps = kept;
        holds = subst (λ z. Holds system w o arity k after root (reading (put_frames m z outer) (put_frames m z above) z before)) same_new (after_it.holds (kept root (plug (put_frames m after_it.new outer) (plug (put_frames m after_it.new above) after_it.new)) after_it.way));
      }

  -- the run makes the graph run's replacements
  pub is_graph_run : (trees : List (Numbered H)) (t : Numbered H) → AreShared trees → KeepAll arity trees → slice_get trees root ≡ Some t → (n : ℕ) (now : List (Numbered H)) (p : Place H) → MachineRun system trees (arriving [] t) n now p → GraphRun system root trees n now
  is_graph_run trees t shared keeps stands n now p run = (reaches trees t shared keeps stands run).run

  -- and where it ends, the root's tree is normal
  pub ends_normal : (trees : List (Numbered H)) (t : Numbered H) → AreShared trees → KeepAll arity trees → slice_get trees root ≡ Some t → (n : ℕ) (now : List (Numbered H)) (v : Numbered H) → MachineRun system trees (arriving [] t) n now (ended v) → (slice_get now root ≡ Some v) × IsNormal system (plain v)
  ends_normal trees t shared keeps stands n now v run = (reaches trees t shared keeps stands run).holds
