use Rattle.std.proofs.Common.{rules}
use Rattle.std.specs.List.{IsDistinct}
use Rattle.program_tests.proofs.rows.files.Goals as goal

pub new-requires-clause-distinct : goal.new-requires-clause-distinct
unfolding IsDistinct
new-requires-clause-distinct c = rw c.in_ok-list.ensures.items (rw (c.in_ok-equations.ensures, c.in_ok-terms.ensures) (search rules))
