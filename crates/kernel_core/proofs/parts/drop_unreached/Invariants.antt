use Rattle.std.proofs.Common.{◌≡◌, ◌++◌, take}
use Rattle.kernel_core.specs.Machine.{homes_of}
use Rattle.kernel_core.specs.Step.{contexts_of}
use Rattle.kernel_core.proofs.parts.drop_unreached.Given as goal

abbrev pub invariant-threads : goal.invariant-threads
invariant-threads g l = l.contexts.items ≡ contexts_of (take l.i l.threads)

abbrev pub invariant-homes : goal.invariant-homes
invariant-homes g l = l.contexts.items ≡ contexts_of l.threads ++ homes_of l.t
