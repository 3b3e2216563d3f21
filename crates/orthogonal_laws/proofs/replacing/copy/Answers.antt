use Rattle.std.proofs.Common.{◌+◌, ◌∷◌, [], ap, sym, ◌∙◌, ◌++◌, append_assoc}
use Rattle.std.specs.Prelude.{slice_range}
use Rattle.eq_base.specs.Tree.{cells}
use Rattle.orthogonal_laws.proofs.Copying.{slice_next, room_next, room_moved}
use Rattle.orthogonal_laws.proofs.replacing.copy.Goals as goal

pub push_cell-requires-clause-missing : goal.push_cell-requires-clause-missing
push_cell-requires-clause-missing c =
    let cs = cells c.args.term.now in
    let room = room_moved c.args.maker.now (slice_range cs c.args.from c.args.to) c.loop-at.maker (slice_range cs c.loop-at.at c.args.to) (sym c.loop-at.invariant) c.requires.room in
    room_next c.loop-at.maker (slice_range cs c.loop-at.at c.args.to) _ _ room (slice_next c.args.term.now c.loop-at.at c.args.to c.loop-at-test.true c.requires.within)

pub push_cell-requires-clause-taken : goal.push_cell-requires-clause-taken
push_cell-requires-clause-taken c = rw c.head.ensures c.arity.ensures.taken

pub loop-at-preserved : goal.loop-at-preserved
loop-at-preserved c =
    let cs = cells c.args.term.now in
    let next = slice_next c.args.term.now c.loop-at.at c.args.to c.loop-at-test.true c.requires.within in
    let rest = slice_range cs (c.loop-at.at + 1) c.args.to in
    ap (λ m. m ++ rest) c.in_ok-push_cell.ensures.ok
    ∙ append_assoc c.loop-at.maker ((c.head.result, c.arity.result) ∷ []) rest
    ∙ rw (c.head.ensures, c.arity.ensures.value) (ap (λ l. c.loop-at.maker ++ l) (sym next))
    ∙ c.loop-at.invariant
