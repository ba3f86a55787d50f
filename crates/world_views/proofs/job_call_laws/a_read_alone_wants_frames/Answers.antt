use Rattle.world_views.proofs.Frames.{plain-reason, syscall-reason}
use Rattle.world_views.proofs.job_call_laws.a_read_alone_wants_frames.Goals as goal

pub returns-clause-plain : goal.returns-clause-plain
returns-clause-plain c w io three job call args = plain-reason w io three job call args

pub returns-clause-syscall : goal.returns-clause-syscall
returns-clause-syscall c = syscall-reason
