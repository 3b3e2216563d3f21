use Rattle.std.proofs.Common.{ap, ◌∙◌, sym, subst, map}
use Rattle.eq_base.specs.Building.{missing_of}
use Rattle.eq_base.specs.Cells.{with_arity, tree_cell}
use Rattle.eq_base.specs.Kinds.{cell_of}
use Rattle.eq_base.specs.Vectors.{AreProper, IsPatternVector}
use Rattle.eq_base.specs.declared.kind.Kind.TheVariants.{Var}
use Rattle.eq_base.proofs.Patterns.{missing_of-cells, cells-pattern_of}
use Rattle.eq_base.proofs.pattern.PatternMaker.finish.Goals as goal

pub finish-requires : goal.finish-requires
finish-requires c =
    missing_of-cells c.self.inside.begun c.self.invariant ∙ ap (λ l. missing_of (map with_arity l)) c.self.view_is ∙ c.requires

pub invariant_of-result : goal.invariant_of-result
invariant_of-result c = record {
  preorder = c.finish.ensures.whole (Var 0);
  proper = subst AreProper (sym c.finish.ensures.labels) c.self.invariant;
}

pub returns : goal.returns
returns c =
    let vector : IsPatternVector c.finish.result.items = record {
      preorder = c.finish.ensures.whole (Var 0);
      proper = subst AreProper (sym c.finish.ensures.labels) c.self.invariant;
    } in
    cells-pattern_of c.finish.result.items vector
    ∙ ap (λ l. map tree_cell (map cell_of l)) c.finish.ensures.labels
    ∙ ap (map tree_cell) c.self.view_is
