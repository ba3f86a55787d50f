use Rattle.std.proofs.Common.{◌≤◌}
use Rattle.table_suite.proofs.trees.free_nodes.Given as goal

abbrev pub invariant-loop-n : goal.invariant-loop-n
invariant-loop-n l = l.free ≤ l.n
