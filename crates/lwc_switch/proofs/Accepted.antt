-- A switch that is not refused.
use Rattle.std.proofs.Common.{◌≡◌, ◌∙◌, ℕ, true, Option, Some, None, ap, arith, refl, subst, sym}
use Rattle.std.specs.Prelude.{slice_index}
use Rattle.guest_call.specs.Guest.{descriptor_for, link_of, slot_refusals}
use Rattle.lwc_base.specs.declared.descriptor.Cap.{Cap}
use Rattle.lwc_base.specs.declared.descriptor.Descriptor.TheVariants.{Ctx}
use Rattle.lwc_base.specs.Refusals.{first_refusal}
use Rattle.lwc_base.specs.declared.answer.Moved.{Moved}
use Rattle.lwc_base.specs.declared.answer.Moved.TheVariants.{To, Refused}
use Rattle.lwc_base.specs.Life.{HasItsContexts, links}
use Rattle.lwc_base.specs.Slots.{lowest_empty}
use Rattle.lwc_base.specs.World.{World, is_live}
use Rattle.lwc_types.specs.declared.refusal.Refusal.{Refusal}
use Rattle.lwc_types.specs.declared.name.Name.{Name}
use Rattle.lwc_types.specs.declared.regs.Regs.{Regs}
use Rattle.lwc_switch.specs.Switch.{IsSwitch, going_on, refusals, switch, switched, target}
use Rattle.guest_call.proofs.Targets.{in_slot, target_links}
use Rattle.lwc_base.proofs.Slots.{lowest_is_empty_slot}

-- where no row holds, the slot has a descriptor of the target, and a slot there is empty
passed : (w : World) (c : Name) (regs : Regs) → first_refusal (refusals w c regs) ≡ None →
    (link : Name × Cap) × (slot : ℕ) × (link_of (descriptor_for w c (slice_index regs.r 1)) ≡ Some link) × (target w c regs ≡ link.0) × (lowest_empty w (target w c regs) ≡ Some slot)
unfolding refusals slot_refusals target
passed w c regs none = grind arith

module _ (w : World) (c : Name) (t : ℕ) (regs : Regs) (whole : HasItsContexts w) (live : is_live w c ≡ true) where
  -- where no row holds, the thread goes to the target
  goes : first_refusal (refusals w c regs) ≡ None → (slot : ℕ) → lowest_empty w (target w c regs) ≡ Some slot →
      switch w c t regs ≡ (To (target w c regs) (going_on w c t regs (target w c regs) slot), switched w c t regs (target w c regs) slot)
  unfolding switch
  goes none slot lowest = rw (none, lowest) refl

  -- where one does, it is refused
  stays : (refusal : Refusal) → first_refusal (refusals w c regs) ≡ Some refusal → switch w c t regs ≡ (Refused refusal, w)
  unfolding switch
  stays refusal some = rw some refl

  -- an answer is what a switch to a context is
  abbrev Is : Moved → World → Type 0
  Is (To d arrived) v = IsSwitch w v c d t regs arrived
  Is (Refused refusal) v = Unit {0}

  -- the answer is so, by the first row that holds
  answered : (first : Option Refusal) → first_refusal (refusals w c regs) ≡ first → Is (switch w c t regs).0 (switch w c t regs).1
  answered (Some refusal) some = rw (stays refusal some) tt
  answered None none =
      let p = passed w c regs none in
      let slot = p.1 in
      let lowest = p.4 in
      let link : links w c (target w c regs) ≡ true = rw p.3 (target_links w c (slice_index regs.r 1) p.0 p.2) in
      rw (goes none slot lowest) (record {
        cap = p.0.1;
        slot = slot;
        had = (in_slot w c (slice_index regs.r 1) p.0 p.2).1 ∙ ap (λ (n : Name). Ctx n p.0.1) (sym p.3);
        linked = link;
        live = whole.live c (target w c regs) live link;
        within = (lowest_is_empty_slot w (target w c regs) slot lowest).0;
        lowest = lowest;
        empty = (lowest_is_empty_slot w (target w c regs) slot lowest).1;
        made = refl;
        goes_on = refl;
      })

  -- an accepted switch
  pub accepted : (v : World) (d : Name) (arrived : Regs) → switch w c t regs ≡ (To d arrived, v) → IsSwitch w v c d t regs arrived
  accepted v d arrived is = subst (λ (a : Moved × World). Is a.0 a.1) is (answered _ refl)
