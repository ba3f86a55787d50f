use Rattle.lwc_base.proofs.Caps.{restricted-has, restricted-twice}
use Rattle.lwc_base.proofs.laws.capabilities.a_restriction_adds_no_key.Goals as goal

pub returns-clause-has : goal.returns-clause-has
returns-clause-has c = restricted-has

pub returns-clause-twice : goal.returns-clause-twice
returns-clause-twice c = restricted-twice
