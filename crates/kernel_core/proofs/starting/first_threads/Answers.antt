use Rattle.std.proofs.Common.{◌∙◌, ◌++◌, ◌∷◌, [], List, ap, arith, sym, take}
use Rattle.kernel_core.proofs.Started.{one_thread_more}
use Rattle.kernel_core.proofs.starting.first_threads.Goals as goal
use Rattle.kernel_core.specs.Start.{first_threads}
use Rattle.kernel_core.specs.declared.thread.Thread.{Thread}

pub entries-init : goal.entries-init
unfolding first_threads
entries-init c = c.new-threads.ensures.items

pub entries-preserved : goal.entries-preserved
entries-preserved c =
    c.in_ok-push.ensures.items
    ∙ ap (λ (l : List Thread). l ++ c.first_thread.result ∷ []) c.entries.invariant
    ∙ ap (λ (x : Thread). first_threads c.args.budget (take c.entries.t c.args.entries.now) ++ x ∷ []) c.first_thread.ensures
    ∙ sym (one_thread_more c.args.budget c.entries.t c.args.entries.now (omega arith))
