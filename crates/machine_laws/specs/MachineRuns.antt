-- What the machine does: turns of its loop, and replacements after which it goes on where it stood.
use Rattle.std.specs.Prelude.{◌≡◌, ℕ, zero, suc, List, ◌++◌, Contains, Some, slice_get}
use Rattle.eq_base.specs.Tree.{Tree, node, empty, grow}
use Rattle.eq_base.specs.Pattern.{PatternCell}
use Rattle.eq_base.specs.Rewriting.{pattern, operation, Rule, System}
use Rattle.eq_base.specs.declared.rules.Op.{Op}
use Rattle.regularity.specs.Arities.{HasArities}
use Rattle.match_laws.specs.Items.{ItemSet}
use Rattle.match_laws.specs.Reading.{KeepArities}
use Rattle.graph_laws.specs.Numbered.{Numbered, plain, root_number}
use Rattle.graph_laws.specs.Runs.{IsReplaced}
use Rattle.machine_laws.specs.Frames.{Frame, plug}
use Rattle.machine_laws.specs.Scanning.{ComesTo}
use Rattle.machine_laws.specs.Ways.{plain_frames, put_frames}
use Rattle.machine_laws.specs.Places.{Place, reading, Turn}

module _ {H : Type 0} where
  -- each tree of the store has the fixed numbers of arguments
  abbrev pub KeepAll : (H → ℕ) → List (Numbered H) → Type 0
  KeepAll arity trees = (i : ℕ) (t : Numbered H) → slice_get trees i ≡ Some t
      → KeepArities arity (grow (plain t) empty)

  -- replacements keep the fixed numbers of arguments
  abbrev pub ReplacementsKeep : System H → (H → ℕ) → Type 0
  ReplacementsKeep system arity = (trees after : List (Numbered H)) (n : ℕ) → KeepAll arity trees
      → IsReplaced system n trees after → KeepAll arity after

  -- the right sides have the fixed numbers of arguments, and the constants that operations give have none
  pub record RightsKeep (system : System H) (arity : H → ℕ) : Type 0 where
    pub patterns : (rule : Rule H) → Contains system.rules rule → (p : Tree (PatternCell H))
        → rule.right ≡ pattern p → HasArities arity p
    pub values : (rule : Rule H) → Contains system.rules rule → (op : Op) → rule.right ≡ operation op
        → (t : Tree H) (h : H) → system.value_of op t ≡ Some (node h empty) → arity h ≡ 0

  -- from a place, by turns and so many replacements, to another: a redex on the way of a reading is replaced,
  -- the frames below it are cut off, and its new tree is read with the items with which the reading had come
  -- to it
  pub data MachineRun (system : System H) (trees : List (Numbered H)) (first : Place H) : ℕ
      → List (Numbered H) → Place H → Type 0 where
    run_start : MachineRun system trees first zero trees first
    run_turn : {n : ℕ} {now : List (Numbered H)} {p q : Place H} → MachineRun system trees first n now p
        → Turn system p q → MachineRun system trees first n now q
    run_replace : {n m : ℕ} {now after : List (Numbered H)} (outer below above : List (Frame (H
        × ℕ))) {t new : Numbered H} {items before : ItemSet}
        → MachineRun system trees first n now (reading outer (below ++ above) t items)
        → root_number (plug below t) ≡ m → ComesTo system (plain_frames above) before →
        IsReplaced system m now after → slice_get after m ≡ Some new
        → MachineRun system trees first (suc n) after
        (reading (put_frames m new outer) (put_frames m new above) new before)
