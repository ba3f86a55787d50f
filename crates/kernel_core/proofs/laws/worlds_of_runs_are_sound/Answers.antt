use Rattle.kernel_core.proofs.ReadyMachines.{sound_machine}
use Rattle.kernel_core.proofs.laws.worlds_of_runs_are_sound.Goals as goal

pub returns : goal.returns
returns c = sound_machine
