use Rattle.std.proofs.Common.{◌∙◌, ap, map}
use Rattle.eq_base.specs.Building.{missing_of}
use Rattle.eq_base.specs.Cells.{with_arity}
use Rattle.eq_base.proofs.Patterns.{missing_of-cells}
use Rattle.eq_base.proofs.pattern.PatternMaker.missing.Goals as goal

pub returns : goal.returns
returns c =
    c.missing.ensures ∙ missing_of-cells c.self.inside.begun c.self.invariant ∙ ap (λ l. missing_of (map with_arity l)) c.self.view_is
