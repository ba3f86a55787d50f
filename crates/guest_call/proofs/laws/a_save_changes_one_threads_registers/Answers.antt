use Rattle.guest_call.proofs.Changes.{saving}
use Rattle.guest_call.proofs.laws.a_save_changes_one_threads_registers.Goals as goal

pub returns : goal.returns
returns c = saving
