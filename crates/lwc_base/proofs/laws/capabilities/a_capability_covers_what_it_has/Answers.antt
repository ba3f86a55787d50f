use Rattle.lwc_base.proofs.Caps.{covers-all}
use Rattle.lwc_base.proofs.laws.capabilities.a_capability_covers_what_it_has.Goals as goal

pub returns : goal.returns
returns c = covers-all
