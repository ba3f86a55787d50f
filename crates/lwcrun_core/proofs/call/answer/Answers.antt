use Rattle.std.proofs.Common.{ap, Err, refl}
use Rattle.lwcrun_core.proofs.Answered.{call_ended, fetches_asked, fetches_nothing, line_ended, line_fault, not_begun}
use Rattle.lwcrun_core.proofs.call.answer.Goals as goal

pub returns-in-Err-clause-answers : goal.returns-in-Err-clause-answers
returns-in-Err-clause-answers g c = (
  c.write_message.ensures.0,
  not_begun _ _ c.write_message.ensures.0 refl refl
      (line_ended _ _ c.write_message.ensures.0 (line_fault _ c.in-Err.fault _ (λ is. (c.in-Err.ensures.usage.0 (ap Err is)).1) c.fault_ending.ensures) c.write_message.ensures.1),
  c.write_message.ensures.2,
)

pub returns-clause-answers : goal.returns-clause-answers
returns-clause-answers g c = (
  c.write_message-2.ensures.0,
  call_ended _ _ _ _ c.write_message-2.ensures.0 c.in-Ok.ensures.accepted c.write_message-2.ensures.1 c.carry_out-ending.ensures.ended,
  c.write_message-2.ensures.2,
)

pub returns-in-Err-clause-fetches : goal.returns-in-Err-clause-fetches
returns-in-Err-clause-fetches g c = fetches_nothing _ _

pub returns-clause-fetches : goal.returns-clause-fetches
returns-clause-fetches g c = fetches_asked _ _ _ _ c.in-Ok.ensures.accepted c.carry_out-ending.ensures.fetches
