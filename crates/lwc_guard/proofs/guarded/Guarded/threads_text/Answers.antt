use Rattle.std.proofs.Common.{◌∙◌, Some, ap, arith, sym}
use Rattle.lwc_text.proofs.Machines.{more_threads}
use Rattle.lwc_guard.proofs.Steadying.{as_seen, few, viewed}
use Rattle.lwc_guard.proofs.guarded.Guarded.threads_text.Goals as goal

pub overflow_cast-t : goal.overflow_cast-t
overflow_cast-t g c =
    let most = few _ _ _ _ _ _ _ _ (as_seen _ _ _ _ c.self.view_is c.self.invariant.1) in omega (arith, most, c.threads-test.true, c.len-t-end.ensures)

pub threads-preserved : goal.threads-preserved
threads-preserved g c =
    more_threads _ _ _ _ _ (viewed _ _ _ _ _ _ _ _ (as_seen _ _ _ _ c.self.view_is c.self.invariant.1) c.threads.t _ (omega (arith, c.threads-test.true, c.len-t-end.ensures)) c.index.ensures ∙ ap Some (sym c.view.ensures)) c.threads.invariant c.in_ok-thread_lines.ensures.ok
