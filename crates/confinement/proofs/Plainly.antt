-- The world that a plain call comes to.
use Rattle.std.proofs.Common.{◌≡◌, ℕ, true, ◌<◌}
use Rattle.lwc_base.specs.declared.descriptor.Cap.{Cap}
use Rattle.lwc_base.specs.declared.descriptor.Descriptor.{Descriptor}
use Rattle.lwc_base.specs.declared.descriptor.Descriptor.TheVariants.{Ctx}
use Rattle.lwc_base.specs.Cells.{slot_at}
use Rattle.lwc_base.specs.Channels.{Channels}
use Rattle.lwc_base.specs.Modes.{IsKey}
use Rattle.lwc_base.specs.Sound.{HasItsGroups}
use Rattle.lwc_base.specs.World.{World, is_live}
use Rattle.lwc_types.specs.declared.key.TheConstants.{SLOTS}
use Rattle.lwc_types.specs.declared.key.Key.{Key}
use Rattle.lwc_types.specs.declared.key.Key.TheVariants.{Page, Slot, Cred}
use Rattle.lwc_types.specs.declared.name.Name.{Name}
use Rattle.lwc_syscall.specs.Changes.{IsKnown, IsPlainChange, Mapped, Nothing, Read, SlotPut, UidPut, Written, holder}
use Rattle.lwc_syscall.specs.declared.calls.CallContexts.{CallContexts}
use Rattle.confinement.proofs.Stages.{Confines, Allowance, mapped_on, none, put_on, store_on}

-- what may be changed of three contexts, each of which is live
pub record OfCallContexts (r : Allowance) (w : World) (targets : CallContexts) : Type 0 where
  pub memory : is_live w targets.memory ≡ true
  pub slots : is_live w targets.slots ≡ true
  pub cred : is_live w targets.cred ≡ true
  pub each : (k : Key) → IsKey w.size.pages k → r.change (holder targets k) k
  pub had : (d : Name) (n : ℕ) (cap : Cap) → n < SLOTS → slot_at w targets.slots n ≡ Ctx d cap → r.capability d cap

module _ (r : Allowance) (w : World) (groups : HasItsGroups w) (io : Channels) (targets : CallContexts) (job : ℕ) (of : OfCallContexts r w targets) where
  -- a descriptor that is put stood in a slot
  known_from : (value : Descriptor) → IsKnown w io targets.slots value → (d : Name) (cap : Cap) → value ≡ Ctx d cap → r.capability d cap
  known_from value known d cap is = let stood = known.stood d cap is in of.had d stood.0 cap stood.1 stood.2

  pub plain_on : (v : World) (after : Channels) → IsPlainChange w io targets job v after → Confines r w v
  plain_on v after Nothing = (none r w groups).confines
  plain_on v after (SlotPut n value within known) = (put_on r w groups w (none r w groups) targets.slots (Slot n) value of.slots (of.each (Slot n)) (known_from value known)).confines
  plain_on v after (UidPut uid) = (put_on r w groups w (none r w groups) targets.cred Cred uid of.cred (of.each Cred) tt).confines
  plain_on v after (Mapped from to present few) = mapped_on r w groups (none r w groups) targets.memory from to present of.memory (λ p. of.each (Page p))
  plain_on v after (Read u piece n value short is within known) =
      (put_on r w groups u (store_on r w groups targets.memory job piece u (none r w groups) of.memory (λ p. of.each (Page p)) is) targets.slots (Slot n) value of.slots (of.each (Slot n)) (known_from value known)).confines
  plain_on v after (Written value bytes) = (none r w groups).confines
