use Rattle.std.proofs.Common.{◌≡◌}
use Rattle.std.specs.List.{flat_map, range_with_len}
use Rattle.kernel_core.specs.Kernel.{machine_of}
use Rattle.lwc_text.specs.Report.{thread_at}
use Rattle.lwc_text.proofs.reporting.threads_text.Given as goal

abbrev pub invariant-threads : goal.invariant-threads
invariant-threads g l = l.text.items ≡ flat_map (thread_at (machine_of l.kernel)) (range_with_len 0 l.t)
