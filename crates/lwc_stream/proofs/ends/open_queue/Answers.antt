use Rattle.std.proofs.Common.{ap}
use Rattle.lwc_stream.proofs.QueueSteps.{begins, forks}
use Rattle.lwc_stream.proofs.ends.open_queue.Goals as goal

pub ruled-requires-clause-rule : goal.ruled-requires-clause-rule
ruled-requires-clause-rule c = begins

pub another-taking-requires-clause-rule : goal.another-taking-requires-clause-rule
another-taking-requires-clause-rule c =
    let first = c.in_ok-queue.ensures.3 in
    forks _ _ (ap (λ v. v.puts) first) (ap (λ v. v.takes) first)
