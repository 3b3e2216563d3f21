use Rattle.std.proofs.Common.{List}
use Rattle.std.specs.List.{AllByRecursion}
use Rattle.def_file.specs.declared.definitions.Qualifier.{Qualifier}
use Rattle.qualifiers.specs.Standing.{StandsFor, AreTargets}
use Rattle.qualifiers.proofs.standing.lead.Given as goal

abbrev pub invariant-loop-place : goal.invariant-loop-place
invariant-loop-place l = (qs : List Qualifier) → AreTargets qs l.initial.targets → AllByRecursion (λ i. StandsFor qs i l.last) l.way → AreTargets qs l.targets
