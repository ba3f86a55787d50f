use Rattle.std.proofs.Common.{◌≡◌, ◌≤◌, replicate, vec_len, vec_capacity}
use Rattle.cow_space.proofs.rows.empty_trees.Given as goal

abbrev pub invariant-rows : goal.invariant-rows
invariant-rows l =
    record { items : l.trees.items ≡ replicate l.counter 0; long : vec_len l.trees ≡ l.counter; room : l.fn.rows ≤ vec_capacity l.trees }
