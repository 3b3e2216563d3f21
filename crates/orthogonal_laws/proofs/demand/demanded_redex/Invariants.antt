use Rattle.std.proofs.Common.{◌-◌, ◌<◌, ◌≤◌}
use Rattle.eq_base.specs.Tree.{size, nth_subtree}
use Rattle.eq_base.specs.Rules.{system_of}
use Rattle.orthogonal_laws.specs.Operations.{Values}
use Rattle.orthogonal_laws.specs.Orthogonal.{IsWellFormedSystem, IsOrthogonal}
use Rattle.orthogonal_laws.proofs.Followed.{IsFollowed}
use Rattle.orthogonal_laws.proofs.demand.demanded_redex.Given as goal

abbrev pub invariant-loop-number : goal.invariant-loop-number
invariant-loop-number l = record {
  after : l.at ≤ l.node;
  there : l.node < size l.term;
  order : l.node ≤ l.last;
  followed : (values : Values) (w : IsWellFormedSystem (system_of values l.rules)) (o : IsOrthogonal (system_of values l.rules)) → IsFollowed (system_of values l.rules) w o (nth_subtree l.term l.at) (nth_subtree l.term l.node) (l.last - l.node) (l.node - l.at);
}

abbrev pub decreases-loop-number : goal.decreases-loop-number
decreases-loop-number l = size l.term - l.node
