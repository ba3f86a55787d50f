use Rattle.lwc_overlay.proofs.Accepted.{taken}
use Rattle.lwc_overlay.proofs.laws.an_accepted_overlay_takes_what_is_covered.Goals as goal

pub returns : goal.returns
returns c = λ w v d job regs after whole live is. taken w d regs job whole live v after is
