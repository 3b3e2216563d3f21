use Rattle.std.proofs.Common.{◌≡◌, ◌++◌, arith, ◌∙◌, ap}
use Rattle.std.specs.Prelude.{slice_range}
use Rattle.eq_base.specs.Tree.{nth_subtree, nth_position, replace_at, cells}
use Rattle.eq_base.specs.Building.{missing_of}
use Rattle.eq_base.specs.Pattern.{Substitution, apply}
use Rattle.eq_base.specs.declared.head.Head.{Head}
use Rattle.eq_base.proofs.Trees.{cells-injective, end_within}
use Rattle.eq_base.proofs.Replacing.{missing_of-cells}
use Rattle.orthogonal_laws.proofs.Replaced.{room_first, room_middle, room_last, done}
use Rattle.orthogonal_laws.proofs.replacing.replace.Goals as goal
use Rattle.orthogonal_laws.proofs.replacing.replace.Goals.{In_ok-copy, In_ok-push_right}

pub copy-requires-clause-room : goal.copy-requires-clause-room
copy-requires-clause-room c = rw c.new-maker.ensures (room_first c.args.term.now c.args.at c.requires.at)

front : (c : In_ok-copy) → c.copy.new.maker ≡ slice_range (cells c.args.term.now) 0 c.args.at
front c = c.in_ok-copy.ensures ∙ ap (λ m. m ++ slice_range (cells c.args.term.now) 0 c.args.at) c.new-maker.ensures

pub push_right-requires-clause-room : goal.push_right-requires-clause-room
push_right-requires-clause-room c =
    λ σ a. rw (front (goal.at.push_right-requires-clause-room c).In_ok-copy) (room_middle c.args.term.now c.args.at c.requires.at (apply σ c.args.right.now))

pub copy-requires-2-clause-order : goal.copy-requires-2-clause-order
copy-requires-2-clause-order c = omega (arith, end_within c.args.term.now c.args.at c.requires.at)

copied : (c : In_ok-push_right) → c.copy.new.maker ≡ slice_range (cells c.args.term.now) 0 c.args.at
copied c = c.in_ok-copy.ensures ∙ ap (λ m. m ++ slice_range (cells c.args.term.now) 0 c.args.at) c.new-maker.ensures

pushed : (c : In_ok-push_right) (σ : Substitution Head) → apply σ c.args.left.now ≡ nth_subtree c.args.term.now c.args.at → c.push_right.new.maker ≡ slice_range (cells c.args.term.now) 0 c.args.at ++ cells (apply σ c.args.right.now)
pushed c σ a = c.in_ok-push_right.ensures σ a ∙ ap (λ m. m ++ cells (apply σ c.args.right.now)) (copied c)

pub copy-requires-2-clause-room : goal.copy-requires-2-clause-room
copy-requires-2-clause-room c =
    let d = (goal.at.copy-requires-2-clause-room c).In_ok-push_right in
    let fits = c.requires.fits.1 in
    room_last c.args.term.now c.args.at c.requires.at (apply fits.substitution c.args.right.now) c.push_right.new.maker c.end_of-end.result c.len.result (pushed d fits.substitution fits.applied) c.end_of-end.ensures c.len.ensures

pub finish-requires : goal.finish-requires
finish-requires c =
    let d = (goal.at.finish-requires c).In_ok-push_right in
    let fits = c.requires.fits.1 in
    let all = done c.args.term.now c.args.at c.requires.at (apply fits.substitution c.args.right.now) c.push_right.new.maker c.end_of-end.result c.len.result (pushed d fits.substitution fits.applied) c.end_of-end.ensures c.len.ensures c.copy-2.new.maker c.in_ok-copy-2.ensures in
    ap missing_of all ∙ missing_of-cells (replace_at c.args.term.now (nth_position c.args.term.now c.args.at) (apply fits.substitution c.args.right.now))

pub returns : goal.returns
returns c =
    λ σ a.
    let d = (goal.at.returns c).In_ok-push_right in
    let all = done c.args.term.now c.args.at c.requires.at (apply σ c.args.right.now) c.push_right.new.maker c.end_of-end.result c.len.result (pushed d σ a) c.end_of-end.ensures c.len.ensures c.copy-2.new.maker c.in_ok-copy-2.ensures in
    cells-injective c.finish.result _ (c.finish.ensures ∙ all)
