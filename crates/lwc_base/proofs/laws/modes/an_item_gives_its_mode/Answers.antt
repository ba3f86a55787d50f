use Rattle.lwc_base.proofs.ItemModes.{mode-named, mode-none}
use Rattle.lwc_base.proofs.laws.modes.an_item_gives_its_mode.Goals as goal

pub returns-clause-named : goal.returns-clause-named
returns-clause-named c = mode-named

pub returns-clause-not_named : goal.returns-clause-not_named
returns-clause-not_named c = mode-none
