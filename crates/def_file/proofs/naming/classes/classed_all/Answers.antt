use Rattle.std.proofs.Common.{◌∷◌, [], ◌++◌, map, take, sym, ap, ◌∙◌}
use Rattle.eq_base.specs.Tree.{map_heads}
use Rattle.def_file.specs.Definitions.{classed}
use Rattle.def_file.proofs.Pairs.{map_next}
use Rattle.def_file.proofs.naming.classes.classed_all.Goals as goal

pub loop-pattern-preserved : goal.loop-pattern-preserved
loop-pattern-preserved c =
    let f = map_heads (classed c.args.classes.now) in
    c.in_ok-push.ensures.items
    ∙ ap (λ l. l ++ c.in_ok-copy.copy ∷ []) c.loop-pattern.invariant
    ∙ ap (λ x. map f (take c.loop-pattern.pattern-index c.args.patterns.now) ++ x ∷ []) c.in_ok-copy.ensures
    ∙ sym (map_next f c.args.patterns.now c.loop-pattern.pattern-index c.pattern-item.result c.pattern-item.result c.pattern-item.is c.loop-pattern-test.true)
