use Rattle.std.proofs.Common.{◌≡◌, ◌<◌, ℕ, false}
use Rattle.lwc_base.specs.World.{context}
use Rattle.lwc_types.specs.declared.key.Key.TheVariants.{Slot}
use Rattle.lwc_monitor.proofs.trapping.has_common_slot.Given as goal
use Rattle.lwc_monitor.specs.Traps.{is_common}

abbrev pub invariant-slots : goal.invariant-slots
invariant-slots g l = (k : ℕ) → k < l.n → is_common ((context (g.W.World.seen l.world) l.target).cell (Slot k)) ≡ false
