use Rattle.std.proofs.Common.{rules, slice_index}
use Rattle.kernel_core.proofs.Makes.{makes_with}
use Rattle.kernel_core.specs.Step.{byte_outcome, guest_calls, shared_outcome, word_outcome}
use Rattle.kernel_core.proofs.acting.execute.Goals as goal

pub returns-in-Stb-clause-outcome : goal.returns-in-Stb-clause-outcome
unfolding shared_outcome
returns-in-Stb-clause-outcome g c =
    makes_with _ (λ e x. byte_outcome e x c.address_of-at.result (slice_index c.args.thread.now.regs.r c.from.result))
    (λ e x. shared_outcome guest_calls c.args.thread_number e x c.args.instruction.now c.args.instruction.now.op) _ _ _ _ _ (search rules) c.store_byte.ensures.outcome

pub returns-in-Stw-clause-outcome : goal.returns-in-Stw-clause-outcome
unfolding shared_outcome
returns-in-Stw-clause-outcome g c =
    makes_with _ (λ e x. word_outcome e x c.address_of-at.result (slice_index c.args.thread.now.regs.r c.from-in-Stw.result))
    (λ e x. shared_outcome guest_calls c.args.thread_number e x c.args.instruction.now c.args.instruction.now.op) _ _ _ _ _ (search rules) c.store_word.ensures.outcome
