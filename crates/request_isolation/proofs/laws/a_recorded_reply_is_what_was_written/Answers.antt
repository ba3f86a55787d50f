use Rattle.request_isolation.proofs.Isolated.{recorded_written}
use Rattle.request_isolation.proofs.laws.a_recorded_reply_is_what_was_written.Goals as goal

pub returns : goal.returns
returns c = record {
  request = λ inputs steps r told can is. (recorded_written inputs can steps r told is).0;
  bytes = λ inputs steps r told can is. (recorded_written inputs can steps r told is).1;
}
