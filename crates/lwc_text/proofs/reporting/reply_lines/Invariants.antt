use Rattle.std.proofs.Common.{◌≡◌, ◌++◌}
use Rattle.std.specs.List.{flat_map, range_with_len}
use Rattle.kernel_core.specs.Kernel.{machine_of}
use Rattle.kernel_core.specs.Machine.{reply_of}
use Rattle.lwc_text.specs.Lines.{reply_line}
use Rattle.lwc_text.proofs.reporting.reply_lines.Given as goal

abbrev pub invariant-requests : goal.invariant-requests
invariant-requests g l = l.out.items ≡ l.initial.out.items ++ flat_map (λ q. reply_line q (reply_of (machine_of l.kernel) q)) (range_with_len 0 l.r)
