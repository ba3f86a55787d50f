use Rattle.std.proofs.Common.{◌≡◌}
use Rattle.std.specs.List.{flat_map, range_with_len}
use Rattle.lwc_guard.specs.Steady.{state_of}
use Rattle.lwc_text.specs.Report.{thread_at}
use Rattle.lwc_guard.proofs.guarded.Guarded.threads_text.Given as goal

abbrev pub invariant-threads : goal.invariant-threads
invariant-threads g l = l.text.items ≡ flat_map (thread_at (state_of l.self).machine) (range_with_len 0 l.t)
