use Rattle.std.proofs.Common.{◌≡◌, ℕ, ◌<◌, length, Some, false, get_or}
use Rattle.std.specs.Prelude.{◌↔◌, IsTrue, slice_get}
use Rattle.eq_base.specs.declared.rules.Equation.{Equation}
use Rattle.regularity.specs.Single.{IsSingle}
use Rattle.regularity.proofs.single.tell_singles.Given as goal

abbrev pub invariant-loop-number : goal.invariant-loop-number
invariant-loop-number l = record {
  lengths : length l.singles.items ≡ l.number;
  tells : (k : ℕ) (e : Equation) → k < l.number → slice_get l.rules.equations k ≡ Some e → IsTrue (get_or l.singles.items k false) ↔ IsSingle e;
}
