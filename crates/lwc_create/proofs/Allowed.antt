-- A call that makes a context and that no row refuses.
use Rattle.std.proofs.Common.{◌≡◌, ◌<◌, ℕ, None, arith, false, true}
use Rattle.std.specs.Prelude.{is_none, slice_index}
use Rattle.lwc_base.specs.Modes.{IsSpec}
use Rattle.lwc_base.specs.Refusals.{first_refusal}
use Rattle.lwc_base.specs.Sharing.{needs_group}
use Rattle.lwc_base.specs.Slots.{lowest_empty}
use Rattle.lwc_base.specs.World.{World, groups_of, live_of}
use Rattle.lwc_types.specs.declared.limits.TheConstants.{MOST_CONTEXTS_OF_JOB, MOST_GROUPS_OF_JOB}
use Rattle.lwc_types.specs.declared.name.Name.{Name}
use Rattle.lwc_types.specs.declared.regs.Regs.{Regs}
use Rattle.res_spec.specs.declared.items.SpecCall.TheVariants.{Create}
use Rattle.lwc_create.specs.Create.{items_of, refusals, room_refusals}
use Rattle.guest_call.proofs.NotRefused.{rest_clear, spec_asked}

module _ (w : World) (c : Name) (job : ℕ) (regs : Regs) (none : first_refusal (refusals w c job regs) ≡ None) where
  -- its items are a specifier
  pub spec_allowed : IsSpec w.size.pages (items_of w c regs)
  unfolding refusals
  spec_allowed = spec_asked w c Create (slice_index regs.r 1) (slice_index regs.r 2) (room_refusals w c job (items_of w c regs)) none

  room_clear : first_refusal (room_refusals w c job (items_of w c regs)) ≡ None
  unfolding refusals
  room_clear = rest_clear w c Create (slice_index regs.r 1) (slice_index regs.r 2) (room_refusals w c job (items_of w c regs)) none

  -- the job may have one more context
  pub fewer_contexts : live_of w job < MOST_CONTEXTS_OF_JOB
  unfolding room_refusals
  fewer_contexts = grind (arith, room_clear)

  -- and one more group, if the items need one
  pub fewer_groups : needs_group w c (items_of w c regs) ≡ true → groups_of w job < MOST_GROUPS_OF_JOB
  unfolding room_refusals
  fewer_groups needs = grind (arith, room_clear)

  -- and a slot is empty
  pub slot_there : is_none (lowest_empty w c) ≡ false
  unfolding room_refusals
  slot_there = grind (arith, room_clear)
