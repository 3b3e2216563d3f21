-- Equations by number that repeat no variable, and have no variable on the right side alone.
use Rattle.std.specs.Prelude.{◌≡◌, ◌↔◌, ℕ, List, length, Bool, false, IsTrue, Some, slice_get, slice_index_or}
use Rattle.eq_base.specs.Rules.{rule_of}
use Rattle.eq_base.specs.declared.rules.Equation.{Equation}
use Rattle.regularity.specs.Restrictions as restrictions

-- the equation breaks neither RE1 nor RE2
abbrev pub IsSingle : Equation → Type 0
IsSingle e = restrictions.IsSingle rule_of e

-- which equations of the list are single
pub record TellSingles (equations : List Equation) (singles : List Bool) : Type 0 where
  pub lengths : length singles ≡ length equations
  pub tells : (k : ℕ) (e : Equation) → slice_get equations k ≡ Some e →
      IsTrue (slice_index_or singles k false) ↔ IsSingle e
