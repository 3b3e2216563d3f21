use Rattle.std.proofs.Common.{◌<◌, ◌≤◌, [], ◌∷◌, ◌++◌, length, map, take, ap, ◌∙◌, arith}
use Rattle.std.proofs.lemmas.List.{map-append, take_all}
use Rattle.eq_base.specs.Tree.{size, cells, map_heads}
use Rattle.eq_base.specs.Cells.{tree_cell}
use Rattle.eq_base.proofs.Trees.{length-cells, size-map_heads, cells-injective}
use Rattle.def_file.specs.Definitions.{classed}
use Rattle.def_file.proofs.Classes.{more_missing, none_missing, next_cell}
use Rattle.def_file.proofs.naming.classes.classed.Goals as goal

pub push_cell-requires-clause-missing : goal.push_cell-requires-clause-missing
push_cell-requires-clause-missing c =
    let copy = map_heads (classed c.args.classes.now) c.args.pattern.now in
    more_missing copy c.loop-at.maker c.loop-at.at c.loop-at.invariant (omega (arith, length-cells copy, size-map_heads (classed c.args.classes.now) c.args.pattern.now, c.len-at-end.ensures, c.loop-at-test.true))

pub loop-at-preserved : goal.loop-at-preserved
loop-at-preserved c =
    let f = classed c.args.classes.now in
    let p = c.args.pattern.now in
    let lt : c.loop-at.at < size p = omega (arith, c.len-at-end.ensures, c.loop-at-test.true) in
    ap (map tree_cell) c.in_ok-push_cell.ensures.ok
    ∙ map-append tree_cell c.loop-at.maker (c.classed_cell.result ∷ [])
    ∙ ap (λ l. l ++ tree_cell c.classed_cell.result ∷ []) c.loop-at.invariant
    ∙ ap (λ x. take c.loop-at.at (cells (map_heads f p)) ++ x ∷ []) c.classed_cell.ensures.cell
    ∙ next_cell f p c.loop-at.at lt c.cell.result c.cell.ensures.value c.cell.ensures.arity

pub finish-requires : goal.finish-requires
finish-requires c =
    let copy = map_heads (classed c.args.classes.now) c.args.pattern.now in
    none_missing copy c.loop-at.maker c.loop-at.at c.loop-at.invariant (omega (arith, length-cells copy, size-map_heads (classed c.args.classes.now) c.args.pattern.now, c.len-at-end.ensures, c.loop-at-test.false))

pub returns : goal.returns
returns c =
    let copy = map_heads (classed c.args.classes.now) c.args.pattern.now in
    let le : length (cells copy) ≤ c.loop-at.at = omega (arith, length-cells copy, size-map_heads (classed c.args.classes.now) c.args.pattern.now, c.len-at-end.ensures, c.loop-at-test.false) in
    cells-injective c.finish.result copy (c.finish.ensures ∙ c.loop-at.invariant ∙ take_all c.loop-at.at (cells copy) le)
