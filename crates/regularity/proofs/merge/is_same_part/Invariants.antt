use Rattle.eq_base.specs.Tree.{nth_subtree}
use Rattle.regularity.proofs.Merging.{PartsBeside}
use Rattle.regularity.proofs.merge.is_same_part.Given as goal

abbrev pub invariant-loop-i : goal.invariant-loop-i
invariant-loop-i l = PartsBeside l.part.name (nth_subtree l.one l.part.at) l.other_part.name (nth_subtree l.other l.other_part.at) l.i
