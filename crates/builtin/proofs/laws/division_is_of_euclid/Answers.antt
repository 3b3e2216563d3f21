use Rattle.std.proofs.Common.{refl}
use Rattle.std.specs.Int.{int_div_euclid, int_rem_euclid}
use Rattle.builtin.proofs.Divisions.{divides_so, values_of, division_of}
use Rattle.builtin.proofs.laws.division_is_of_euclid.Goals as goal

pub returns : goal.returns
returns c = record {
  exact = λ a b q r. (λ d. values_of a b q r d, λ is. division_of a b q r is.0 is.1);
  found = λ a b some. (int_div_euclid a b, int_rem_euclid a b, divides_so a b some);
  none = λ a. (refl, refl);
}
