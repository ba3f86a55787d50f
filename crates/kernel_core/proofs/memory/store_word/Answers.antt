use Rattle.std.proofs.Common.{rules}
use Rattle.kernel_core.proofs.Makes.{makes_as}
use Rattle.kernel_core.specs.Step.{store_outcome, word_outcome}
use Rattle.kernel_core.proofs.memory.store_word.Goals as goal

pub returns-clause-outcome : goal.returns-clause-outcome
returns-clause-outcome g c =
    makes_as _ (λ e x. store_outcome e x (record { at = c.args.at; bytes = c.to_le_bytes.result })) (λ e x. word_outcome e x c.args.at c.args.value) _ _ _ _
    (λ io. search rules) c.store_bytes.ensures.outcome
