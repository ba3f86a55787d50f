use Rattle.request_isolation.proofs.Finishing.{finished_by_thread, recorded_at_end, request_below}
use Rattle.request_isolation.proofs.laws.what_is_finished_is_recorded.Goals as goal

pub returns : goal.returns
returns c = record {
  request = λ inputs steps workers t told can serve has. request_below inputs workers can serve steps t told has;
  recorded = λ inputs steps workers t told can serve has. recorded_at_end inputs workers can serve steps t told has;
  finished = λ inputs steps workers r told can serve is. finished_by_thread inputs workers can serve steps r told is;
}
