use Rattle.lwc_stream.proofs.Recorded.{shows_each_reply}
use Rattle.lwc_stream.proofs.laws.a_stream_shows_each_recorded_reply.Goals as goal

pub returns : goal.returns
returns c = shows_each_reply
