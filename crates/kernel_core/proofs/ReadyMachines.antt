-- The machines of runs are ready.
use Rattle.std.proofs.Common.{◌+◌, List, arith, length, ℕ}
use Rattle.kernel_core.proofs.HomeStart.{ready_start}
use Rattle.kernel_core.proofs.ReadyRuns.{ready_later, ready_run}
use Rattle.kernel_core.specs.Kernel.{CanOpen}
use Rattle.kernel_core.specs.Ready.{IsReady}
use Rattle.kernel_core.specs.Runs.{run}
use Rattle.kernel_core.specs.Start.{Inputs, start}
use Rattle.lwc_base.specs.Sound.{IsSound}

-- from everything that a kernel can be opened with, each run comes to a machine that is ready
pub ready_machine : (inputs : Inputs) (steps : List ℕ) → CanOpen inputs → IsReady inputs (length steps) (run (start inputs) steps)
ready_machine inputs steps can =
    ready_later inputs (0 + length steps) (length steps) (run (start inputs) steps) (omega arith)
    (ready_run inputs 0 steps (start inputs) (ready_start inputs can))

-- its world is sound
pub sound_machine : (inputs : Inputs) (steps : List ℕ) → CanOpen inputs → IsSound (run (start inputs) steps).environment.world
sound_machine inputs steps can = (ready_machine inputs steps can).sound
