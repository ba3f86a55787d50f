use Rattle.guest_call.proofs.Changes.{putting}
use Rattle.guest_call.proofs.laws.a_put_leaves_the_rest.Goals as goal

pub returns : goal.returns
returns c = putting
