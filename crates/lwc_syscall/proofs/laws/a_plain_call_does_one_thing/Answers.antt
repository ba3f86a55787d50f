use Rattle.lwc_syscall.proofs.Does.{does-one_thing}
use Rattle.lwc_syscall.proofs.laws.a_plain_call_does_one_thing.Goals as goal

pub returns : goal.returns
returns c = does-one_thing
