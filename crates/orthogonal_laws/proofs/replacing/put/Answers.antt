use Rattle.std.proofs.Common.{◌≡◌, ◌++◌, [], refl, arith, ◌∙◌, ap}
use Rattle.std.specs.Prelude.{slice_range}
use Rattle.eq_base.specs.Tree.{node, empty, nth_position, replace_at, cells}
use Rattle.eq_base.specs.Building.{missing_of}
use Rattle.eq_base.proofs.Trees.{cells-injective, end_within}
use Rattle.eq_base.proofs.Replacing.{missing_of-cells}
use Rattle.orthogonal_laws.proofs.Replaced.{room_first, room_middle, room_last, done, takes_none}
use Rattle.orthogonal_laws.proofs.Copying.{room_next}
use Rattle.orthogonal_laws.proofs.replacing.put.Goals as goal
use Rattle.orthogonal_laws.proofs.replacing.put.Goals.{In_ok-copy, In_ok-push_cell}

pub copy-requires-clause-room : goal.copy-requires-clause-room
copy-requires-clause-room c = rw c.new-maker.ensures (room_first c.args.term.now c.args.at c.requires.at)

front : (c : In_ok-copy) → c.copy.new.maker ≡ slice_range (cells c.args.term.now) 0 c.args.at
front c = c.in_ok-copy.ensures ∙ ap (λ m. m ++ slice_range (cells c.args.term.now) 0 c.args.at) c.new-maker.ensures

pub push_cell-requires-clause-missing : goal.push_cell-requires-clause-missing
push_cell-requires-clause-missing c =
    room_next c.copy.new.maker (cells (node c.args.head empty)) (c.args.head, 0) [] (rw (front (goal.at.push_cell-requires-clause-missing c).In_ok-copy) (room_middle c.args.term.now c.args.at c.requires.at (node c.args.head empty))) refl

pub push_cell-requires-clause-taken : goal.push_cell-requires-clause-taken
push_cell-requires-clause-taken c = takes_none c.args.head

pub copy-requires-2-clause-order : goal.copy-requires-2-clause-order
copy-requires-2-clause-order c = omega (arith, end_within c.args.term.now c.args.at c.requires.at)

pushed : (c : In_ok-push_cell) → c.push_cell.new.self ≡ slice_range (cells c.args.term.now) 0 c.args.at ++ cells (node c.args.head empty)
pushed c = c.in_ok-push_cell.ensures.ok ∙ ap (λ m. m ++ cells (node c.args.head empty)) (c.in_ok-copy.ensures ∙ ap (λ m. m ++ slice_range (cells c.args.term.now) 0 c.args.at) c.new-maker.ensures)

pub copy-requires-2-clause-room : goal.copy-requires-2-clause-room
copy-requires-2-clause-room c =
    let d = (goal.at.copy-requires-2-clause-room c).In_ok-push_cell in
    room_last c.args.term.now c.args.at c.requires.at (node c.args.head empty) c.push_cell.new.self c.end_of-end.result c.len.result (pushed d) c.end_of-end.ensures c.len.ensures

pub finish-requires : goal.finish-requires
finish-requires c =
    let d = (goal.at.finish-requires c).In_ok-push_cell in
    let all = done c.args.term.now c.args.at c.requires.at (node c.args.head empty) c.push_cell.new.self c.end_of-end.result c.len.result (pushed d) c.end_of-end.ensures c.len.ensures c.copy-2.new.maker c.in_ok-copy-2.ensures in
    ap missing_of all ∙ missing_of-cells (replace_at c.args.term.now (nth_position c.args.term.now c.args.at) (node c.args.head empty))

pub returns : goal.returns
returns c =
    let d = (goal.at.returns c).In_ok-push_cell in
    let all = done c.args.term.now c.args.at c.requires.at (node c.args.head empty) c.push_cell.new.self c.end_of-end.result c.len.result (pushed d) c.end_of-end.ensures c.len.ensures c.copy-2.new.maker c.in_ok-copy-2.ensures in
    cells-injective c.finish.result _ (c.finish.ensures ∙ all)
