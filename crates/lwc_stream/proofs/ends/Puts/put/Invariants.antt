use Rattle.std.proofs.Common.{◌≡◌}
use Rattle.crossbeam_queue.specs.Passes.{IsPassOf}
use Rattle.lwc_stream.specs.Queues.{IsPutting, puts_of}
use Rattle.lwc_stream.proofs.ends.Puts.put.Given as goal

-- the end is as it was
abbrev pub invariant-loop : goal.invariant-loop
invariant-loop g l = IsPassOf l.self-inside.queue.value l.self-inside.pass × IsPutting l.self-inside.pass × (puts_of l.self-inside.pass ≡ l.fn.self) × (l.left ≡ l.fn.reply)
