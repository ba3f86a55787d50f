use Rattle.lwc_base.proofs.Caps.{cap_of-has, cap_of-valid, same_keys}
use Rattle.lwc_base.proofs.laws.capabilities.capabilities_are_sets_of_keys.Goals as goal

pub returns-clause-has : goal.returns-clause-has
returns-clause-has c = cap_of-has

pub returns-clause-valid : goal.returns-clause-valid
returns-clause-valid c = cap_of-valid

pub returns-clause-equal : goal.returns-clause-equal
returns-clause-equal c = same_keys
