use Rattle.std.proofs.Common.{◌≡◌, ◌≤◌, ◌+◌, ◌++◌, length, map, vec_capacity}
use Rattle.process_core.proofs.carriers.parts_of.Given as goal

-- the parts so far are those of the carriers before the ones that are left
abbrev pub invariant-carriers : goal.invariant-carriers
invariant-carriers g l = record {
  all : l.passes.items ++ map (λ c. c.pass) l.carriers.items ≡ map (λ c. c.pass) l.fn.carriers.items;
  turns : l.turns.items ++ map (λ c. c.turns) l.carriers.items ≡ map (λ c. c.turns) l.fn.carriers.items;
  passes_room : length l.passes.items + length l.carriers.items ≤ vec_capacity l.passes;
  turns_room : length l.turns.items + length l.carriers.items ≤ vec_capacity l.turns;
}

abbrev pub decreases-carriers : goal.decreases-carriers
decreases-carriers g l = length l.carriers.items
