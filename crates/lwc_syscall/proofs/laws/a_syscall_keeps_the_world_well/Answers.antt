use Rattle.lwc_syscall.proofs.Syscalls.{inputs-over, numbers-over, well-over}
use Rattle.lwc_syscall.proofs.laws.a_syscall_keeps_the_world_well.Goals as goal

pub returns : goal.returns
returns c = record {
  well = λ w io d job regs live well. well-over w io d job regs well.named well.files live well.sound;
  numbers = λ w io d job regs live well. numbers-over w io d job regs well.named well.files live;
  inputs = λ w io d job regs live well. inputs-over w io d job regs well.named well.files live;
}
