use Rattle.lwc_text.proofs.Machines.{more_threads}
use Rattle.lwc_text.proofs.reporting.threads_text.Goals as goal

pub threads-preserved : goal.threads-preserved
threads-preserved g c =
    more_threads _ _ _ _ _ c.thread.ensures c.threads.invariant c.in_ok-thread_lines.ensures.ok
