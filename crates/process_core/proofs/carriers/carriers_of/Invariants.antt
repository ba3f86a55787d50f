use Rattle.std.proofs.Common.{◌≡◌, ◌≤◌, ◌+◌, ◌++◌, length, map, vec_capacity}
use Rattle.process_core.proofs.carriers.carriers_of.Given as goal

-- the carriers so far are those of the passes and the counts before the ones that are left
abbrev pub invariant-passes : goal.invariant-passes
invariant-passes g l = record {
  all : map (λ c. c.pass) l.carriers.items ++ l.passes.items ≡ l.fn.passes.items;
  turns : map (λ c. c.turns) l.carriers.items ++ l.turns.items ≡ l.fn.turns.items;
  room : length l.carriers.items + length l.passes.items ≤ vec_capacity l.carriers;
  even : length l.turns.items ≡ length l.passes.items;
}

abbrev pub decreases-passes : goal.decreases-passes
decreases-passes g l = length l.passes.items
