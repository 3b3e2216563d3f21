use Rattle.std.proofs.Common.{◌≡◌, ℕ, ◌-◌, length, drop}
use Rattle.std.specs.Prelude.{nat_eq}
use Rattle.indexmap.specs.IndexMap.{get}
use Rattle.def_file.specs.Definitions.{class_of}
use Rattle.def_file.proofs.naming.variable_classes.table_of.Given as goal

abbrev pub invariant-loop-i : goal.invariant-loop-i
invariant-loop-i l = (x : ℕ) → get nat_eq l.table x ≡ class_of (drop (length l.list - l.i) l.list) x
