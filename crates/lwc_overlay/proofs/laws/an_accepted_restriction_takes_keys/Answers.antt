use Rattle.lwc_overlay.proofs.Accepted.{restriction}
use Rattle.lwc_overlay.proofs.laws.an_accepted_restriction_takes_keys.Goals as goal

pub returns : goal.returns
returns c = λ w v d regs after is. restriction w d regs v after is
