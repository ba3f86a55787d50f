use Rattle.std.proofs.Common.{◌≡◌, take}
use Rattle.kernel_core.proofs.starting.copy_files.Given as goal

abbrev pub invariant-files : goal.invariant-files
invariant-files l = l.copies.items ≡ take l.i l.files
