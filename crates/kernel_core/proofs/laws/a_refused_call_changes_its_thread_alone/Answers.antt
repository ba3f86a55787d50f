use Rattle.kernel_core.proofs.ReadyMachines.{ready_machine}
use Rattle.kernel_core.proofs.Refusing.{call_refused, refused_alone, step_refused}
use Rattle.kernel_core.specs.Runs.{run}
use Rattle.kernel_core.specs.Start.{start}
use Rattle.kernel_core.proofs.laws.a_refused_call_changes_its_thread_alone.Goals as goal

pub returns : goal.returns
returns c = record {
  call = λ number t e x refusal. call_refused e x refusal number t;
  step = λ inputs steps t x i refusal can comes. step_refused (run (start inputs) steps) t x i refusal comes;
  alone = λ inputs steps t x i refusal can comes last. refused_alone (run (start inputs) steps) t x i refusal comes (ready_machine inputs steps can).reaped last;
}
