use Rattle.request_isolation.proofs.Homes.{home_for}
use Rattle.request_isolation.proofs.Isolated.{gone, kept_apart}
use Rattle.request_isolation.proofs.laws.requests_are_apart.Goals as goal

pub returns : goal.returns
returns c = record {
  own = λ inputs steps workers can serve. (home_for inputs.image, kept_apart inputs workers can serve steps);
  gone = λ inputs steps workers r told d can serve is live. gone inputs workers can serve r steps told d is live;
}
