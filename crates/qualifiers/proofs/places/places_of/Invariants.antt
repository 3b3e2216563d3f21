use Rattle.std.proofs.Common.{◌≡◌, ℕ, ◌<◌, Some}
use Rattle.std.specs.Prelude.{nat_eq, ◌↔◌}
use Rattle.indexmap.specs.IndexMap.{get}
use Rattle.qualifiers.specs.Leading.{IsPlaceOf}
use Rattle.qualifiers.proofs.places.places_of.Given as goal

abbrev pub invariant-loop-place : goal.invariant-loop-place
invariant-loop-place l = (x p : ℕ) → (get nat_eq l.places x ≡ Some p) ↔ (IsPlaceOf l.qualifiers x p × (p < l.place))
