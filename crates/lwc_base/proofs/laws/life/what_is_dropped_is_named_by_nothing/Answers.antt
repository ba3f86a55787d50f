use Rattle.lwc_base.proofs.Reaped.{dropped-unnamed, group-named}
use Rattle.lwc_base.proofs.laws.life.what_is_dropped_is_named_by_nothing.Goals as goal

pub returns-clause-context : goal.returns-clause-context
returns-clause-context c w roots e d was gone live = dropped-unnamed w roots d e was gone live

pub returns-clause-group : goal.returns-clause-group
returns-clause-group c = group-named
