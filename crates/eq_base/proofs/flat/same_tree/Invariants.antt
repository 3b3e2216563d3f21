use Rattle.std.proofs.Common.{◌≡◌, ℕ, ◌<◌}
use Rattle.eq_base.specs.Tree.{nth_subtree}
use Rattle.eq_base.proofs.Trees.{label_of}
use Rattle.eq_base.proofs.flat.same_tree.Given as goal

abbrev pub invariant-loop-at : goal.invariant-loop-at
invariant-loop-at l = (k : ℕ) → k < l.at → label_of (nth_subtree l.one k) ≡ label_of (nth_subtree l.other k)
