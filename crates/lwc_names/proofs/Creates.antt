-- The call that makes a context, under other numbers.
use Rattle.std.proofs.Common.{◌≡◌, ℕ, ◌*◌, refl, ap, ◌∙◌, ◌&&◌, leb, ltb, not, Option, Some, None, List, [], ◌∷◌, ◌++◌}
use Rattle.std.specs.Prelude.{is_none, slice_index, unwrap_or}
use Rattle.guest_call.specs.Asked as asked
use Rattle.guest_call.specs.Asked.{item_bytes, item_refusals}
use Rattle.guest_call.specs.Guest.{are_too_many}
use Rattle.lwc_base.specs.Capabilities.{full_cap}
use Rattle.lwc_base.specs.Cells.{put_slot}
use Rattle.lwc_base.specs.Refusals.{first_refusal}
use Rattle.lwc_base.specs.Sharing.{clone_context}
use Rattle.lwc_base.specs.Slots.{lowest_empty}
use Rattle.lwc_base.specs.World.{World, next_context}
use Rattle.lwc_base.specs.declared.answer.Answer.TheVariants.{Done}
use Rattle.lwc_base.specs.declared.descriptor.Descriptor.TheVariants.{Ctx}
use Rattle.lwc_base.specs.declared.item.Item.{Item}
use Rattle.lwc_types.specs.declared.limits.TheConstants.{MOST_CONTEXTS_OF_JOB, MOST_GROUPS_OF_JOB, MOST_ITEMS}
use Rattle.lwc_types.specs.declared.name.Name.{Name}
use Rattle.lwc_types.specs.declared.refusal.Refusal.{Refusal}
use Rattle.lwc_types.specs.declared.refusal.Refusal.TheVariants.{TooManyItems, BadAddress, BadMode, BadRange, Overlap, TooManyContexts, NoSlot, TooManyGroups, TooManyRanges}
use Rattle.lwc_types.specs.declared.regs.Regs.{Regs}
use Rattle.lwc_create.specs.Create.{after_call, create, created, ended, items_of, no_caller, refusals, room_refusals}
use Rattle.lwc_names.proofs.Asks.{after_clone-shifted, bytes_for-shifted, groups_of-shifted, live_of-shifted, lowest-shifted}
use Rattle.lwc_names.proofs.Clones.{clone-shifted, needs-shifted}
use Rattle.lwc_names.proofs.Puts.{put_slot-shifted}
use Rattle.lwc_names.proofs.Worlds.{next_context-shifted}
use Rattle.lwc_names.specs.Shifts.{shifted_job, shifted_name, shifted_world}
use Rattle.res_spec.specs.Items.{all_taken, all_within, has_overlap, items_in}
use Rattle.res_spec.specs.declared.items.SpecCall.{SpecCall}
use Rattle.res_spec.specs.declared.items.SpecCall.TheVariants.{Create}
use Rattle.res_spec.specs.declared.items.TheConstants.{ITEM_BYTES}

module _ (r : ℕ) (w : World) (c : Name) where
  pub item_bytes-shifted : (at count : ℕ) → item_bytes (shifted_world r w) (shifted_name r c) at count ≡ item_bytes w c at count
  unfolding item_bytes
  item_bytes-shifted at count = bytes_for-shifted r w c at (count * ITEM_BYTES)

  pub items_of-shifted : (call : SpecCall) (at count : ℕ) → asked.items_of (shifted_world r w) (shifted_name r c) call at count ≡ asked.items_of w c call at count
  unfolding asked.items_of
  items_of-shifted call at count = ap (λ o. items_in call (unwrap_or o [])) (item_bytes-shifted at count)

  pub item_refusals-shifted : (call : SpecCall) (at count : ℕ) → item_refusals (shifted_world r w) (shifted_name r c) call at count ≡ item_refusals w c call at count
  unfolding item_refusals shifted_world
  item_refusals-shifted call at count =
      λ i. (ltb MOST_ITEMS count, TooManyItems) ∷ (is_none (item_bytes-shifted at count i), BadAddress) ∷ (not (all_taken call (unwrap_or (item_bytes-shifted at count i) [])), BadMode)
      ∷ (not (all_within w.size.pages (items_of-shifted call at count i)), BadRange) ∷ (has_overlap (items_of-shifted call at count i), Overlap) ∷ []

  module _ (job : ℕ) (regs : Regs) where
    asked-shifted : items_of (shifted_world r w) (shifted_name r c) regs ≡ items_of w c regs
    asked-shifted = items_of-shifted Create (slice_index regs.r 1) (slice_index regs.r 2)

    room-shifted : (items : List Item) → room_refusals (shifted_world r w) (shifted_name r c) (shifted_job r job) items ≡ room_refusals w c job items
    unfolding room_refusals
    room-shifted items =
        λ i. (leb MOST_CONTEXTS_OF_JOB (live_of-shifted r w job i), TooManyContexts) ∷ (is_none (lowest-shifted r w c i), NoSlot)
        ∷ (needs-shifted r w c items i && leb MOST_GROUPS_OF_JOB (groups_of-shifted r w job i), TooManyGroups) ∷ (are_too_many (after_clone-shifted r w c job items i), TooManyRanges) ∷ []

    refusals-shifted : refusals (shifted_world r w) (shifted_name r c) (shifted_job r job) regs ≡ refusals w c job regs
    unfolding refusals
    refusals-shifted =
        (λ i. item_refusals-shifted Create (slice_index regs.r 1) (slice_index regs.r 2) i ++ room_refusals (shifted_world r w) (shifted_name r c) (shifted_job r job) (asked-shifted i))
        ∙ ap (λ l. item_refusals w c Create (slice_index regs.r 1) (slice_index regs.r 2) ++ l) (room-shifted (items_of w c regs))

    size-shifted : (shifted_world r w).size ≡ w.size
    unfolding shifted_world
    size-shifted = refl

    created-shifted : (slot : ℕ) → created (shifted_world r w) (shifted_name r c) (shifted_job r job) regs slot ≡ shifted_world r (created w c job regs slot)
    created-shifted slot =
        let regs' = after_call regs no_caller in
        (λ i. put_slot (clone_context (shifted_world r w) (shifted_name r c) (shifted_job r job) (asked-shifted i) regs') (shifted_name r c) slot (Ctx (next_context-shifted r w job i) (full_cap ((size-shifted i).pages))))
        ∙ ap (λ (v : World). put_slot v (shifted_name r c) slot (Ctx (shifted_name r (next_context w job)) (full_cap w.size.pages))) (clone-shifted r w c job (items_of w c regs) regs')
        ∙ put_slot-shifted r (clone_context w c job (items_of w c regs) regs') c slot (Ctx (next_context w job) (full_cap w.size.pages))

    ended-shifted : (slot : ℕ) (why : Option Refusal) → ended (shifted_world r w) (shifted_name r c) (shifted_job r job) regs slot why ≡ ((ended w c job regs slot why).0, shifted_world r (ended w c job regs slot why).1)
    ended-shifted slot (Some refusal) = refl
    ended-shifted slot None = λ i. (Done (after_call regs slot), created-shifted slot i)

    pub create-shifted : create (shifted_world r w) (shifted_name r c) (shifted_job r job) regs ≡ ((create w c job regs).0, shifted_world r (create w c job regs).1)
    unfolding create
    create-shifted =
        (λ i. ended (shifted_world r w) (shifted_name r c) (shifted_job r job) regs (unwrap_or (lowest-shifted r w c i) 0) (first_refusal (refusals-shifted i)))
        ∙ ended-shifted (unwrap_or (lowest_empty w c) 0) (first_refusal (refusals w c job regs))
