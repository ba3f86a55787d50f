-- The calls that make, enter and overlay contexts do the same where there are more pages.
use Rattle.std.proofs.Common.{◌≡◌, ◌≢◌, ◌∙◌, ◌⊎◌, inr, ◌≤◌, refl, sym, ap, ℕ, Bool, true, false, cond, not, ◌&&◌, Option, Some, None, List, [], ◌∷◌, ◌++◌}
use Rattle.std.specs.Prelude.{is_none, nat_le, nat_lt, slice_index, unwrap_or}
use Rattle.std.specs.Option.{option_map}
use Rattle.guest_call.specs.Asked.{item_refusals}
use Rattle.guest_call.specs.Guest.{are_too_many, descriptor_for, link_of, slot_refusals, with_answer}
use Rattle.kernel_core.specs.Refused.{refusal_in}
use Rattle.lwc_base.specs.Capabilities.{empty_cap, full_cap}
use Rattle.lwc_base.specs.Cells.{put_slot, slot_at}
use Rattle.lwc_base.specs.Holders.{Keeps}
use Rattle.lwc_base.specs.Overlay as base
use Rattle.lwc_base.specs.Refusals.{first_refusal}
use Rattle.lwc_base.specs.Saved.{entered}
use Rattle.lwc_base.specs.Sharing.{clone_context}
use Rattle.lwc_base.specs.Slots.{lowest_empty}
use Rattle.lwc_base.specs.World.{World, context, is_live, next_context}
use Rattle.lwc_base.specs.declared.answer.Answer.TheVariants.{Done}
use Rattle.lwc_base.specs.declared.answer.Moved.TheVariants as moved
use Rattle.lwc_base.specs.declared.descriptor.Cap.{Cap}
use Rattle.lwc_base.specs.declared.descriptor.Descriptor.{Descriptor}
use Rattle.lwc_base.specs.declared.descriptor.Descriptor.TheVariants.{Empty, Console, File, Request, Reply, Ctx}
use Rattle.lwc_base.specs.declared.item.Item.{Item}
use Rattle.lwc_types.specs.declared.key.TheConstants.{SLOTS}
use Rattle.lwc_types.specs.declared.limits.TheConstants.{MOST_CONTEXTS_OF_JOB, MOST_GROUPS_OF_JOB, MOST_PAGES}
use Rattle.lwc_types.specs.declared.name.Name.{Name}
use Rattle.lwc_types.specs.declared.refusal.Refusal.{Refusal}
use Rattle.lwc_types.specs.declared.refusal.Refusal.TheVariants.{BadRange, NoSlot, NoSlotThere, NotCovered, TooManyContexts, TooManyGroups, TooManyRanges}
use Rattle.lwc_types.specs.declared.regs.Regs.{Regs}
use Rattle.lwc_create.specs.Create as creating
use Rattle.lwc_overlay.specs.Named as naming
use Rattle.lwc_overlay.specs.OverlayCall as overlaying
use Rattle.lwc_overlay.specs.RestrictCall as restricting
use Rattle.lwc_switch.specs.Switch as switching
use Rattle.res_spec.specs.Items.{all_within}
use Rattle.res_spec.specs.declared.items.SpecCall.{SpecCall}
use Rattle.res_spec.specs.declared.items.SpecCall.TheVariants as spec_call
use Rattle.lift_law.proofs.Changes.{clone-wide, overlay-wide, put_slot-wide, ranges_cloned-wide, ranges_overlaid-wide, save-wide}
use Rattle.lift_law.proofs.Counts.{needs-wide}
use Rattle.lift_law.proofs.Ends.{ends-cloned, ends-overlay, ends-share}
use Rattle.lift_law.proofs.Named.{covers-wide, first_items-wide, items-wide, link-wide, links-wide, slot_refusals-wide, wide_link}
use Rattle.lift_law.proofs.Pages.{HasNoMore}
use Rattle.lift_law.proofs.Rows.{first-after, first-append}
use Rattle.lift_law.proofs.Whole.{IsWhole, empty-wide_cap, full-wide, whole, whole-at}
use Rattle.lift_law.proofs.Wide.{enters-wide, groups_of-wide, live_of-wide, lowest-wide, wide}

-- an end with a world that has more pages
abbrev pub wide_end : {A : Type 0} → A × World → A × World
wide_end r = (r.0, wide r.1)

-- a world of a run in which no capability was narrowed, and a live context of it
pub record MayAct (w : World) (c : Name) : Type 0 where
  pub ends : HasNoMore w
  pub keeps : Keeps (whole w.size.pages) w
  pub live : is_live w c ≡ true
  pub some : 1 ≤ w.size.pages

-- the capability that a slot of the context has is full or empty
pub whole_link : (w : World) (c : Name) → MayAct w c → (n : ℕ) → let l = unwrap_or (link_of (descriptor_for w c n)) (c, empty_cap) in (l.1 ≡ full_cap w.size.pages) ⊎ (l.1 ≡ empty_cap)
unfolding descriptor_for
whole_link w c may n = by (nat_lt n SLOTS) (slot_at w c n) (whole-at w.size.pages w may.keeps c n may.live)
  where
    by : (b : Bool) (d : Descriptor) → IsWhole w.size.pages d →
        ((unwrap_or (link_of (cond b d Empty)) (c, empty_cap)).1 ≡ full_cap w.size.pages) ⊎ ((unwrap_or (link_of (cond b d Empty)) (c, empty_cap)).1 ≡ empty_cap)
    by false d is = inr refl
    by true Empty is = inr refl
    by true Console is = inr refl
    by true (File file at) is = inr refl
    by true (Request r at) is = inr refl
    by true (Reply r) is = inr refl
    by true (Ctx name cap) is = is

module _ (c : Name) (job : ℕ) (w : World) (may : MayAct w c) (regs : Regs) where
  -- a context is made
  abbrev items : List Item
  items = creating.items_of w c regs

  room-wide : creating.room_refusals (wide w) c job items ≡ creating.room_refusals w c job items
  unfolding creating.room_refusals
  room-wide = λ i.
      (nat_le MOST_CONTEXTS_OF_JOB (live_of-wide w job i), TooManyContexts)
      ∷ (is_none (lowest-wide w c i), NoSlot)
      ∷ (needs-wide w may.ends c items i && nat_le MOST_GROUPS_OF_JOB (groups_of-wide w job i), TooManyGroups)
      ∷ (are_too_many (ranges_cloned-wide w may.ends c job items (ends-share w may.ends c job items) (ends-cloned _ (ends-share w may.ends c job items) c items) i), TooManyRanges)
      ∷ []

  created-wide : (slot : ℕ) → creating.created (wide w) c job regs slot ≡ wide (creating.created w c job regs slot)
  created-wide slot =
      let entry = creating.after_call regs creating.no_caller in
      ap (λ list. put_slot (clone_context (wide w) c job list entry) c slot (Ctx (next_context w job) (full_cap MOST_PAGES)))
      (items-wide w may.ends c spec_call.Create (slice_index regs.r 1) (slice_index regs.r 2))
      ∙ ap (λ u. put_slot u c slot (Ctx (next_context w job) (full_cap MOST_PAGES))) (clone-wide w may.ends c job items entry)
      ∙ ap (λ cap. put_slot (wide (clone_context w c job items entry)) c slot (Ctx (next_context w job) cap)) (sym (full-wide w.size.pages))
      ∙ put_slot-wide (clone_context w c job items entry) c slot (Ctx (next_context w job) (full_cap w.size.pages))

  create_ends : (slot : ℕ) (first : Option Refusal) → creating.ended (wide w) c job regs slot first ≡ wide_end (creating.ended w c job regs slot first)
  create_ends slot (Some refusal) = refl
  create_ends slot None = λ i. (Done (creating.after_call regs slot), created-wide slot i)

  -- the first refusal of a call is why it is refused
  create_refused : (slot : ℕ) (first : Option Refusal) → refusal_in (creating.ended w c job regs slot first).0 ≡ first
  create_refused slot (Some refusal) = refl
  create_refused slot None = refl

  pub create-wide : refusal_in (creating.create w c job regs).0 ≢ Some BadRange → creating.create (wide w) c job regs ≡ wide_end (creating.create w c job regs)
  unfolding creating.create creating.refusals
  create-wide free =
      let same_items = items-wide w may.ends c spec_call.Create (slice_index regs.r 1) (slice_index regs.r 2) in
      (λ i. creating.ended (wide w) c job regs (unwrap_or (lowest-wide w c i) 0) (first_refusal (creating.refusals (wide w) c job regs)))
      ∙ ap (creating.ended (wide w) c job regs (unwrap_or (lowest_empty w c) 0))
      (ap (λ list. first_refusal (item_refusals (wide w) c spec_call.Create (slice_index regs.r 1) (slice_index regs.r 2) ++ creating.room_refusals (wide w) c job list)) same_items
      ∙ first_items-wide w may.ends c spec_call.Create (slice_index regs.r 1) (slice_index regs.r 2) (creating.room_refusals w c job items) (creating.room_refusals (wide w) c job items)
      (λ inside. ap first_refusal room-wide) (λ bad. free (create_refused (unwrap_or (lowest_empty w c) 0) (first_refusal (creating.refusals w c job regs)) ∙ bad)))
      ∙ create_ends (unwrap_or (lowest_empty w c) 0) (first_refusal (creating.refusals w c job regs))

  -- a context is entered
  module _ (t : ℕ) where
    abbrev aim : Name
    aim = switching.target w c regs

    named_or : (o : Option (Name × Cap)) → unwrap_or (option_map (λ (link : Name × Cap). link.0) (option_map wide_link o)) c ≡ unwrap_or (option_map (λ (link : Name × Cap). link.0) o) c
    named_or None = refl
    named_or (Some l) = refl

    aims : switching.target (wide w) c regs ≡ aim
    unfolding switching.target
    aims = ap (λ o. unwrap_or (option_map (λ (link : Name × Cap). link.0) o) c) (links-wide w c (slice_index regs.r 1)) ∙ named_or (link_of (descriptor_for w c (slice_index regs.r 1)))

    switch_refusals-wide : switching.refusals (wide w) c regs ≡ switching.refusals w c regs
    unfolding switching.refusals
    switch_refusals-wide =
        (λ i. slot_refusals-wide w c (slice_index regs.r 1) i ++ (is_none (lowest_empty (wide w) (aims i)), NoSlotThere) ∷ [])
        ∙ (λ i. slot_refusals w c (slice_index regs.r 1) ++ (is_none (lowest-wide w aim i), NoSlotThere) ∷ [])

    abbrev left : World
    left = switching.left w c t regs

    switch_ends : (slot : ℕ) (first : Option Refusal) → switching.ended (wide w) c t regs aim slot first ≡ wide_end (switching.ended w c t regs aim slot first)
    switch_ends slot (Some refusal) = refl
    switch_ends slot None =
        ap (λ u. (moved.To aim (switching.arriving (entered (context u aim) t) slot (slice_index regs.r 2)), put_slot u aim slot (Ctx c empty_cap))) (save-wide w c t (with_answer regs 0))
        ∙ (λ i. (
          moved.To aim (switching.arriving (enters-wide left aim t i) slot (slice_index regs.r 2)),
          (ap (λ cap. put_slot (wide left) aim slot (Ctx c cap)) (sym empty-wide_cap) ∙ put_slot-wide left aim slot (Ctx c empty_cap)) i,
        ))

    pub switch-wide : switching.switch (wide w) c t regs ≡ wide_end (switching.switch w c t regs)
    unfolding switching.switch
    switch-wide =
        (λ i. switching.ended (wide w) c t regs (aims i) (unwrap_or (lowest_empty (wide w) (aims i)) 0) (first_refusal (switch_refusals-wide i)))
        ∙ (λ i. switching.ended (wide w) c t regs aim (unwrap_or (lowest-wide w aim i) 0) (first_refusal (switching.refusals w c regs)))
        ∙ switch_ends (unwrap_or (lowest_empty w aim) 0) (first_refusal (switching.refusals w c regs))

  -- what both calls name that take a slot and items
  abbrev l : Name × Cap
  l = naming.link w c regs

  link_is : naming.link (wide w) c regs ≡ wide_link l
  unfolding naming.link
  link_is = link-wide w c (slice_index regs.r 1)

  abbrev asked_items : World → List Item
  asked_items u = naming.items_of u c spec_call.Overlay regs

  asked-wide : asked_items (wide w) ≡ asked_items w
  asked-wide = items-wide w may.ends c spec_call.Overlay (slice_index regs.r 2) (slice_index regs.r 3)

  -- the rows of the slot are the same, and so are those after them
  before-wide : (spec : SpecCall) (rows others : List (Bool × Refusal)) →
      (all_within w.size.pages (naming.items_of w c spec regs) ≡ true → first_refusal others ≡ first_refusal rows) →
      first_refusal (naming.refusals_before w c spec regs rows) ≢ Some BadRange →
      first_refusal (naming.refusals_before (wide w) c spec regs others) ≡ first_refusal (naming.refusals_before w c spec regs rows)
  before-wide spec rows others same free =
      let slot : List (Bool × Refusal) = slot_refusals w c (slice_index regs.r 1) in
      ap (λ front. first_refusal (front ++ (item_refusals (wide w) c spec (slice_index regs.r 2) (slice_index regs.r 3) ++ others))) (slot_refusals-wide w c (slice_index regs.r 1))
      ∙ first-append slot (item_refusals (wide w) c spec (slice_index regs.r 2) (slice_index regs.r 3) ++ others) (item_refusals w c spec (slice_index regs.r 2) (slice_index regs.r 3) ++ rows)
      (λ none. first_items-wide w may.ends c spec (slice_index regs.r 2) (slice_index regs.r 3) rows others same
      (λ bad. free (first-after slot (item_refusals w c spec (slice_index regs.r 2) (slice_index regs.r 3) ++ rows) none ∙ bad)))

  -- a restriction that is refused
  restrict_refused : (first : Option Refusal) → refusal_in (restricting.ended w c regs first).0 ≡ first
  restrict_refused (Some refusal) = refl
  restrict_refused None = refl

  restrict_ends : (first : Option Refusal) → first ≢ None → restricting.ended (wide w) c regs first ≡ wide_end (restricting.ended w c regs first)
  restrict_ends (Some refusal) some = refl
  restrict_ends None some = absurd (some refl)

  pub restrict-wide : refusal_in (restricting.restrict w c regs).0 ≢ Some BadRange → refusal_in (restricting.restrict w c regs).0 ≢ None →
      restricting.restrict (wide w) c regs ≡ wide_end (restricting.restrict w c regs)
  unfolding restricting.restrict restricting.refusals
  restrict-wide free refused =
      ap (restricting.ended (wide w) c regs) (before-wide spec_call.Restrict [] [] (λ inside. refl) (λ bad. free (restrict_refused (first_refusal (restricting.refusals w c regs)) ∙ bad)))
      ∙ restrict_ends (first_refusal (restricting.refusals w c regs)) (λ none. refused (restrict_refused (first_refusal (restricting.refusals w c regs)) ∙ none))

  -- values are taken over
  giver-wide : all_within w.size.pages (asked_items w) ≡ true → overlaying.giver_refusals (wide w) c job (naming.link (wide w) c regs) (asked_items (wide w)) ≡ overlaying.giver_refusals w c job l (asked_items w)
  unfolding overlaying.giver_refusals naming.link
  giver-wide inside =
      ap (overlaying.giver_refusals (wide w) c job (naming.link (wide w) c regs)) asked-wide
      ∙ ap (λ link. overlaying.giver_refusals (wide w) c job link (asked_items w)) link_is
      ∙ (λ i.
      (not (covers-wide w.size.pages may.ends.few l.1 (whole_link w c may (slice_index regs.r 1)) (asked_items w) inside i), NotCovered)
      ∷ (needs-wide w may.ends l.0 (asked_items w) i && nat_le MOST_GROUPS_OF_JOB (groups_of-wide w job i), TooManyGroups)
      ∷ (are_too_many (ranges_overlaid-wide w may.ends l.0 job (asked_items w) c (ends-overlay w may.ends c l.0 job (asked_items w)) i), TooManyRanges)
      ∷ [])

  overlay_refused : (first : Option Refusal) → refusal_in (overlaying.ended w c job regs first).0 ≡ first
  overlay_refused (Some refusal) = refl
  overlay_refused None = refl

  overlay_ends : (first : Option Refusal) → overlaying.ended (wide w) c job regs first ≡ wide_end (overlaying.ended w c job regs first)
  overlay_ends (Some refusal) = refl
  overlay_ends None =
      (λ i. (Done (with_answer regs 0), base.overlay (wide w) c (link_is i).0 job (asked-wide i)))
      ∙ (λ i. (Done (with_answer regs 0), overlay-wide w may.ends l.0 job (asked_items w) c i))

  pub overlay_call-wide : refusal_in (overlaying.overlay w c job regs).0 ≢ Some BadRange → overlaying.overlay (wide w) c job regs ≡ wide_end (overlaying.overlay w c job regs)
  unfolding overlaying.overlay overlaying.refusals
  overlay_call-wide free =
      ap (overlaying.ended (wide w) c job regs)
      (before-wide spec_call.Overlay (overlaying.giver_refusals w c job l (asked_items w)) (overlaying.giver_refusals (wide w) c job (naming.link (wide w) c regs) (asked_items (wide w)))
      (λ inside. ap first_refusal (giver-wide inside)) (λ bad. free (overlay_refused (first_refusal (overlaying.refusals w c job regs)) ∙ bad)))
      ∙ overlay_ends (first_refusal (overlaying.refusals w c job regs))
