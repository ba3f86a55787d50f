use Rattle.std.proofs.Common.{arith, refl}
use Rattle.lwc_gen.proofs.Served.{can_open, few_steps}
use Rattle.lwc_gen.specs.Generated.{generated}
use Rattle.kernel_core.proofs.Others.{work_at_serve}
use Rattle.lwc_gen.proofs.laws.a_generated_server_can_be_served.Goals as goal

pub returns-clause-opens : goal.returns-clause-opens
returns-clause-opens c = can_open

pub returns-clause-steps : goal.returns-clause-steps
returns-clause-steps c number small =
    few_steps number 8 small (omega arith) (work_at_serve (generated number) 8 refl)
