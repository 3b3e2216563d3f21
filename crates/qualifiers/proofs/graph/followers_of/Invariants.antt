use Rattle.std.proofs.Common.{ℕ, take}
use Rattle.std.specs.Prelude.{nat_eq, Contains, ◌↔◌}
use Rattle.std.specs.List.{flat_map}
use Rattle.indexmap.specs.IndexMap.{get}
use Rattle.eq_base.specs.Pattern.{variables}
use Rattle.qualifiers.specs.Leading.{IsPlaceAmong}
use Rattle.qualifiers.proofs.graph.followers_of.Given as goal

abbrev pub invariant-loop-i : goal.invariant-loop-i
invariant-loop-i l = (j : ℕ) → Contains l.followers.items j ↔ IsPlaceAmong (get nat_eq l.places) (flat_map variables (take l.i l.choices)) j
