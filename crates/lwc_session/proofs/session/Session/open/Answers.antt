use Rattle.std.proofs.Common.{refl}
use Rattle.lwc_session.specs.Sessions.{lines_of}
use Rattle.lwc_session.proofs.session.Session.open.Goals as goal

pub returns : goal.returns
unfolding lines_of
returns c = record { image = refl; replies = c.new.ensures.items; served = refl; steps = refl; peak = refl }
