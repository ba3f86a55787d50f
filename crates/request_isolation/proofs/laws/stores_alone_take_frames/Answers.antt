use Rattle.std.proofs.Common.{length}
use Rattle.kernel_core.proofs.ReadyMachines.{ready_machine}
use Rattle.kernel_core.specs.Runs.{run}
use Rattle.kernel_core.specs.Start.{start}
use Rattle.request_isolation.proofs.Frames.{acted-frames, read-frames}
use Rattle.request_isolation.proofs.laws.stores_alone_take_frames.Goals as goal

pub returns-clause-step : goal.returns-clause-step
returns-clause-step c inputs steps t can never =
    acted-frames inputs (length steps) t (run (start inputs) steps) (ready_machine inputs steps can) never

pub returns-clause-read : goal.returns-clause-read
returns-clause-read c w io job three args = read-frames w io job three args
