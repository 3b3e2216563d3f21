use Rattle.std.proofs.Common.{◌≡◌, ◌<◌, length}
use Rattle.std.specs.List.{AllByRecursion}
use Rattle.qualifiers.specs.Standing.{StandsFor}
use Rattle.qualifiers.proofs.standing.follow.Given as goal

abbrev pub invariant-loop : goal.invariant-loop
invariant-loop l = record {
  within : l.last < length l.qualifiers;
  way : AllByRecursion (λ i. StandsFor l.qualifiers i l.last) l.way.items;
}
