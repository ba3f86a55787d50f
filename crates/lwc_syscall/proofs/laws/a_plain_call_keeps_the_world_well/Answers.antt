use Rattle.lwc_syscall.proofs.Kept.{inputs-change, numbers-change, well-change}
use Rattle.lwc_syscall.proofs.laws.a_plain_call_keeps_the_world_well.Goals as goal

pub returns : goal.returns
returns c = record { well = well-change; numbers = numbers-change; inputs = inputs-change }
