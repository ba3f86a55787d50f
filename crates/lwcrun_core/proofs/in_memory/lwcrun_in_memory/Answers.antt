use Rattle.std.proofs.Common.{refl, arith}
use Rattle.lwc_io.specs.Outside.{CountsOneFault}
use Rattle.lwcrun_core.proofs.in_memory.lwcrun_in_memory.Goals as goal

never : CountsOneFault 0 0 → ⊥
never one = omega (arith, one)

pub returns-clause-ends : goal.returns-clause-ends
returns-clause-ends g c command is =
    c.lwcrun.ensures.ends command _ is (record { contents = λ q named. refl; faults = record { files = λ q named. never; out = never } })

pub returns-clause-complete : goal.returns-clause-complete
returns-clause-complete g c command is runnable =
    c.lwcrun.ensures.complete command _ is (record { contents = λ q named. refl; faults = record { files = λ q named. never; out = never } }) runnable
