use Rattle.std.proofs.Common.{[]}
use Rattle.pool_base.proofs.PairedLemmas.{paired-replicate}
use Rattle.lwc_base.specs.Replies.{seen_reply}
use Rattle.lwc_base.proofs.replies.Replies.open.Goals as goal

pub returns : goal.returns
returns c = rw (c.in_ok-open.ensures, c.in_ok-open-2.ensures) (paired-replicate seen_reply c.args.count [] [])
