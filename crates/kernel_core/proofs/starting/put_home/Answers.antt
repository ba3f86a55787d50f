use Rattle.kernel_core.proofs.HomeMade.{can_here, few_here, group_here, home_step, live_copy, live_emptied}
use Rattle.std.proofs.Common.{rules}
use Rattle.kernel_core.proofs.starting.put_home.Goals as goal

pub clone_context-requires-clause-live : goal.clone_context-requires-clause-live
clone_context-requires-clause-live g c = (can_here _ c.requires.image _ c.requires.few _ c.requires.before).live

pub clone_context-requires-clause-may : goal.clone_context-requires-clause-may
clone_context-requires-clause-may g c = (can_here _ c.requires.image _ c.requires.few _ c.requires.before).may

pub clone_context-requires-clause-place : goal.clone_context-requires-clause-place
clone_context-requires-clause-place g c = (can_here _ c.requires.image _ c.requires.few _ c.requires.before).place

pub clone_context-requires-clause-group : goal.clone_context-requires-clause-group
clone_context-requires-clause-group g c = group_here _ c.requires.image _ c.requires.few _ c.requires.before _ c.empty.ensures _

pub clone_context-requires-clause-few : goal.clone_context-requires-clause-few
clone_context-requires-clause-few g c = few_here _ c.requires.image _ c.requires.few _ c.requires.before _ c.empty.ensures

pub set_slot-requires-clause-live : goal.set_slot-requires-clause-live
set_slot-requires-clause-live g c =
    live_copy _ c.requires.image _ c.requires.few _ c.requires.before _ c.empty.ensures _ _ _ c.in_ok-home.ensures.name c.in_ok-home.ensures.cloned

pub set_slot-requires-2-clause-live : goal.set_slot-requires-2-clause-live
set_slot-requires-2-clause-live g c =
    live_emptied _ c.requires.image _ c.requires.few _ c.requires.before _ c.empty.ensures _ _ _ c.in_ok-home.ensures.name c.in_ok-home.ensures.cloned _ c.set_slot.ensures.put

pub returns : goal.returns
returns g c =
    home_step _ c.requires.image _ c.requires.few _ c.requires.before _ c.empty.ensures _ _ _ c.in_ok-home.ensures.name c.in_ok-home.ensures.cloned _ c.set_slot.ensures.put
    _ c.set_slot-2.ensures.put (search rules)
