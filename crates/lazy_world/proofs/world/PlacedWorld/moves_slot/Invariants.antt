use Rattle.std.proofs.Common.{◌≡◌, ◌<◌, ℕ, false}
use Rattle.lwc_types.specs.declared.key.Key.TheVariants.{Slot}
use Rattle.lazy_world.specs.Transfers.{moves}
use Rattle.lazy_world.specs.Seen.{rows}
use Rattle.lazy_world.proofs.world.PlacedWorld.moves_slot.Given as goal

abbrev pub invariant-loop-n : goal.invariant-loop-n
invariant-loop-n l = (m : ℕ) → m < l.n → moves l.spec (Slot m) (rows l.self.places l.place) ≡ false
