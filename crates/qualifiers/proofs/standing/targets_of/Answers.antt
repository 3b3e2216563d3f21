use Rattle.std.proofs.Common.{◌≡◌, ◌∙◌, length, sym, subst, arith}
use Rattle.qualifiers.specs.Standing.{AreTargets}
use Rattle.qualifiers.proofs.Targets.{targets-itself, within_all}
use Rattle.qualifiers.proofs.standing.targets_of.Goals as goal

pub loop-start-init : goal.loop-start-init
loop-start-init c = targets-itself c.args.qualifiers.now c.in_ok-targets.targets.items (c.in_ok-targets.ensures.len ∙ c.len.ensures) (λ i lt. c.in_ok-targets.ensures.each i (omega (arith, c.len.ensures, lt)))
