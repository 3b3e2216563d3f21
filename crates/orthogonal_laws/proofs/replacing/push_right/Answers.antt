use Rattle.std.proofs.Common.{◌≡◌, Some, arith, sym, ◌∙◌, ap, subst}
use Rattle.std.specs.Prelude.{slice_range, Contains}
use Rattle.eq_base.specs.Tree.{nth_subtree, cells}
use Rattle.eq_base.specs.Pattern.{Substitution, apply, variables}
use Rattle.eq_base.specs.Cells.{root_cell, variable_in, CellTakesArguments}
use Rattle.eq_base.specs.declared.head.Head.{Head}
use Rattle.eq_base.specs.declared.head.Cell.TheVariants as cell
use Rattle.eq_base.proofs.Trees.{end_within}
use Rattle.orthogonal_laws.specs.Replacing.{HasRoom}
use Rattle.orthogonal_laws.proofs.Copying.{slice_subtree}
use Rattle.orthogonal_laws.proofs.Pushing.{push_start, push_end, push_head_room, push_head, push_variable_room, push_variable, bound_variable}
use Rattle.orthogonal_laws.proofs.replacing.push_right.Goals as goal
use Rattle.orthogonal_laws.proofs.replacing.push_right.Goals.{In-Head, In-Some, After-end_of}

pub loop-i-init : goal.loop-i-init
loop-i-init c = push_start c.args.right.now c.args.left.now _ c.args.maker.now c.requires.over

is_head : (c : In-Head) → root_cell (nth_subtree c.args.right.now c.loop-i.i) ≡ cell.Head c.in-Head.head c.in-Head.arity
is_head c = sym c.cell-cell.ensures.value ∙ c.in-Head.is

pub push_cell-requires-clause-missing : goal.push_cell-requires-clause-missing
push_cell-requires-clause-missing c =
    let σ = c.requires.fits.1.substitution in
    let a = c.requires.fits.1.applied in
    push_head_room c.args.right.now c.args.left.now _ c.args.maker.now c.loop-i.maker c.loop-i.i c.loop-i.invariant (omega arith) σ c.in-Head.head c.in-Head.arity a (sym c.cell-cell.ensures.value ∙ c.in-Head.is) (c.requires.room σ a)

pub push_cell-requires-clause-taken : goal.push_cell-requires-clause-taken
push_cell-requires-clause-taken c = subst CellTakesArguments c.in-Head.is c.cell-cell.ensures.taken

pub loop-i-preserved-in-Head : goal.loop-i-preserved-in-Head
loop-i-preserved-in-Head c =
    push_head c.args.right.now c.args.left.now _ c.args.maker.now c.loop-i.maker c.loop-i.i c.loop-i.invariant (omega arith) c.in-Head.head c.in-Head.arity c.push_cell.new.self (sym c.cell-cell.ensures.value ∙ c.in-Head.is) c.in_ok-push_cell.ensures.ok

is_variable : (c : In-Some) → variable_in (root_cell (nth_subtree c.args.right.now c.loop-i.i)) ≡ Some c.in-Some.variable
is_variable c = ap variable_in (sym c.cell-cell.ensures.value) ∙ sym c.variable.ensures ∙ c.in-Some.is

occurs : (c : In-Some) → Contains (variables c.args.left.now) c.in-Some.variable
occurs c = bound_variable c.args.right.now c.loop-i.i (omega arith) (variables c.args.left.now) c.loop-i.invariant.bound c.in-Some.variable (is_variable c)

pub find-node-requires : goal.find-node-requires
find-node-requires c = record { at = c.requires.at; fits = c.requires.fits; occurs = occurs c }

-- the cells of what the variable stands for
copied : (c : After-end_of) (σ : Substitution Head) → apply σ c.args.left.now ≡ nth_subtree c.args.term.now c.args.at → cells (σ c.in-Some.variable) ≡ slice_range (cells c.args.term.now) c.find-node.result c.end_of.result
copied c σ a =
    ap cells (c.find-node.ensures.value σ a)
    ∙ sym (slice_subtree c.args.term.now c.find-node.result c.find-node.ensures.there)
    ∙ ap (slice_range (cells c.args.term.now) c.find-node.result) (sym c.end_of.ensures)

pub copy-requires : goal.copy-requires
copy-requires c =
    let d = (goal.at.copy-requires c).In-Some in
    let σ = c.requires.fits.1.substitution in
    let a = c.requires.fits.1.applied in
    record {
      order = omega arith;
      within = omega (arith, end_within c.args.term.now c.find-node.result c.find-node.ensures.there);
      room = subst (HasRoom c.loop-i.maker) (copied c σ a)
          (push_variable_room c.args.right.now c.args.left.now _ c.args.maker.now c.loop-i.maker c.loop-i.i c.loop-i.invariant (omega arith) σ c.in-Some.variable a (is_variable d) (c.requires.room σ a));
    }

pub loop-i-preserved-in-Some : goal.loop-i-preserved-in-Some
loop-i-preserved-in-Some c =
    let d = (goal.at.loop-i-preserved-in-Some c).In-Some in
    let e = (goal.at.loop-i-preserved-in-Some c).After-end_of in
    rw c.end_of-i.ensures
    (push_variable c.args.right.now c.args.left.now _ c.args.maker.now c.loop-i.maker c.loop-i.i c.loop-i.invariant (omega arith) c.in-Some.variable _ c.copy.new.maker (is_variable d) (copied e) c.in_ok-copy.ensures)

pub returns : goal.returns
returns c = push_end c.args.right.now c.args.left.now _ c.args.maker.now c.loop-i.maker c.loop-i.i c.loop-i.invariant (omega arith)
