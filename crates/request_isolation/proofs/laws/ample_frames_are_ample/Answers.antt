use Rattle.request_isolation.proofs.Isolated.{ample_same, never_short}
use Rattle.request_isolation.proofs.laws.ample_frames_are_ample.Goals as goal

pub returns-clause-reply : goal.returns-clause-reply
returns-clause-reply c inputs workers frames r can serve low enough = ample_same inputs workers can serve frames r low enough

pub returns-clause-never_short : goal.returns-clause-never_short
returns-clause-never_short c inputs workers frames r steps can serve low enough few short = never_short inputs workers can serve frames r steps low enough few short
