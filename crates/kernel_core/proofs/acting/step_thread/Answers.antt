use Rattle.kernel_core.proofs.Settling.{home_lives, job_begun, next_known, replies_known}
use Rattle.kernel_core.proofs.acting.step_thread.Goals as goal

pub settle-requires-clause-home : goal.settle-requires-clause-home
settle-requires-clause-home g c κs within =
    home_lives _ _ _ _ _ _ _ _ _ c.in-Running.is c.requires.ready c.requires.files c.in_ok-change-in-Running.ensures.outcome c.requires.serve c.requires.worker

pub settle-requires-clause-begun : goal.settle-requires-clause-begun
settle-requires-clause-begun g c κs within =
    job_begun _ _ _ _ _ _ _ _ _ c.in-Running.is c.requires.ready c.requires.files c.in_ok-change-in-Running.ensures.outcome c.requires.serve c.requires.worker

pub settle-requires-clause-known : goal.settle-requires-clause-known
settle-requires-clause-known g c κs within =
    next_known _ _ _ _ _ _ _ _ _ c.in-Running.is c.requires.ready c.requires.files c.in_ok-change-in-Running.ensures.outcome c.requires.serve c.requires.worker

pub settle-requires-clause-replies : goal.settle-requires-clause-replies
settle-requires-clause-replies g c κs within =
    replies_known _ _ _ _ _ _ _ _ _ c.in-Running.is c.requires.ready c.requires.files c.in_ok-change-in-Running.ensures.outcome c.requires.serve c.requires.worker
