-- The calls that make, enter, restrict and overlay contexts end alike in two worlds that look alike to their job.
use Rattle.std.proofs.Common.{◌≡◌, ℕ, refl, sym, ap, subst, ◌∙◌, Bool, ◌&&◌, Option, Some, None, List, [], ◌∷◌, ◌++◌}
use Rattle.std.specs.Prelude.{is_none, nat_le, not, slice_index, unwrap_or}
use Rattle.std.specs.Option.{option_map}
use Rattle.guest_call.specs.Guest.{are_too_many, descriptor_for, link_of, with_answer}
use Rattle.lwc_base.specs.Capabilities.{covers, empty_cap, full_cap, restricted}
use Rattle.lwc_base.specs.Cells.{put_slot}
use Rattle.lwc_base.specs.Overlay as base
use Rattle.lwc_base.specs.Overlay.{ranges_after_overlay}
use Rattle.lwc_base.specs.Refusals.{first_refusal}
use Rattle.lwc_base.specs.Sharing.{clone_context}
use Rattle.lwc_base.specs.Slots.{lowest_empty}
use Rattle.lwc_base.specs.World.{World, next_context}
use Rattle.lwc_base.specs.declared.answer.Moved.TheVariants.{To}
use Rattle.lwc_base.specs.declared.descriptor.Descriptor.{Descriptor}
use Rattle.lwc_base.specs.declared.descriptor.Descriptor.TheVariants.{Empty, Console, File, Request, Reply, Ctx}
use Rattle.lwc_base.specs.declared.item.Item.{Item}
use Rattle.lwc_types.specs.declared.key.Key.TheVariants.{Slot}
use Rattle.lwc_types.specs.declared.limits.TheConstants.{MOST_CONTEXTS_OF_JOB, MOST_GROUPS_OF_JOB}
use Rattle.lwc_types.specs.declared.name.Name.{Name}
use Rattle.lwc_types.specs.declared.refusal.Refusal.{Refusal}
use Rattle.lwc_types.specs.declared.refusal.Refusal.TheVariants.{NoSlot, NoSlotThere, NotCovered, TooManyContexts, TooManyGroups, TooManyRanges}
use Rattle.lwc_types.specs.declared.regs.Regs.{Regs}
use Rattle.lwc_create.specs.Create as creating
use Rattle.lwc_overlay.specs.Named.{link, refusals_before}
use Rattle.lwc_overlay.specs.Named as named
use Rattle.lwc_overlay.specs.OverlayCall as overlaying
use Rattle.lwc_overlay.specs.RestrictCall as restricting
use Rattle.lwc_switch.specs.Switch as switching
use Rattle.res_spec.specs.declared.items.SpecCall.{SpecCall}
use Rattle.res_spec.specs.declared.items.SpecCall.TheVariants as spec_call
use Rattle.world_views.proofs.Seen.{descriptor-alike, descriptor_fits, item_refusals-alike, items-alike, link_job, link_or, slot_refusals-alike}
use Rattle.world_views.proofs.Together.{answers-alike, changes-alike}
use Rattle.world_views.specs.ByJob.{Home, IsSlotOf, LooksAlike}
use Rattle.world_views.specs.Ends.{EndsAlike}
use Rattle.world_views.specs.JobFacts.{AnswersAlike}

-- the context that a descriptor names, and else another one
abbrev pub target_or : Name → Descriptor → Name
target_or c d = unwrap_or (option_map (λ link. link.0) (link_of d)) c

pub target_job : (job : ℕ) (c : Name) (d : Descriptor) → c.job ≡ job → IsSlotOf job d → (target_or c d).job ≡ job
target_job job c Empty own is = own
target_job job c Console own is = own
target_job job c (File file at) own is = own
target_job job c (Request r at) own is = own
target_job job c (Reply r) own is = own
target_job job c (Ctx name cap) own is = is

module _ (home : Home) (t s : ℕ) (c : Name) (w v : World) (regs : Regs) (alike : LooksAlike home c.job t s w v) where
  abbrev answers : AnswersAlike t s c w v
  answers = answers-alike home t s c w v alike

  -- a context is made
  module _ where
    abbrev items : World → List Item
    items u = creating.items_of u c regs

    same_items : items w ≡ items v
    same_items = items-alike home t s c w v alike spec_call.Create (slice_index regs.r 1) (slice_index regs.r 2)

    room-alike : creating.room_refusals w c c.job (items w) ≡ creating.room_refusals v c c.job (items v)
    unfolding creating.room_refusals
    room-alike =
        (λ i.
        (nat_le MOST_CONTEXTS_OF_JOB (answers.contexts i), TooManyContexts)
        ∷ (is_none (answers.lowest i), NoSlot)
        ∷ (answers.needs (items w) i && nat_le MOST_GROUPS_OF_JOB (answers.groups i), TooManyGroups)
        ∷ (are_too_many (answers.cloned (items w) i), TooManyRanges)
        ∷ [])
        ∙ ap (creating.room_refusals v c c.job) same_items

    create_refusals-alike : creating.refusals w c c.job regs ≡ creating.refusals v c c.job regs
    unfolding creating.refusals
    create_refusals-alike = λ i. item_refusals-alike home t s c w v alike spec_call.Create (slice_index regs.r 1) (slice_index regs.r 2) i ++ room-alike i

    created-alike : (slot : ℕ) → LooksAlike home c.job t s (creating.created w c c.job regs slot) (creating.created v c c.job regs slot)
    created-alike slot =
        let entry = creating.after_call regs creating.no_caller in
        let clones : LooksAlike home c.job t s (clone_context w c c.job (items w) entry) (clone_context v c c.job (items v) entry) =
        subst (λ list. LooksAlike home c.job t s (clone_context w c c.job (items w) entry) (clone_context v c c.job list entry)) same_items
        ((changes-alike home t s c w v alike).clone (items w) entry) in
        let value : Ctx (next_context w c.job) (full_cap w.size.pages) ≡ Ctx (next_context v c.job) (full_cap v.size.pages) =
        (λ i. Ctx (record { job = c.job; k = (answers.next i).contexts }) (full_cap (answers.pages i))) in
        subst (λ d. LooksAlike home c.job t s (creating.created w c c.job regs slot) (put_slot (clone_context v c c.job (items v) entry) c slot d)) value
        ((changes-alike home t s c _ _ clones).put (Slot slot) (Ctx (next_context w c.job) (full_cap w.size.pages)) refl)

    create_ends : (slot : ℕ) (first : Option Refusal) → EndsAlike home c.job t s (creating.ended w c c.job regs slot first) (creating.ended v c c.job regs slot first)
    create_ends slot (Some refusal) = record { answer = refl; worlds = alike }
    create_ends slot None = record { answer = refl; worlds = created-alike slot }

    pub create-alike : EndsAlike home c.job t s (creating.create w c c.job regs) (creating.create v c c.job regs)
    unfolding creating.create
    create-alike =
        subst (λ e. EndsAlike home c.job t s (creating.create w c c.job regs) e)
        (λ i. creating.ended v c c.job regs (unwrap_or (answers.lowest i) 0) (first_refusal (create_refusals-alike i)))
        (create_ends (unwrap_or (lowest_empty w c) 0) (first_refusal (creating.refusals w c c.job regs)))

  -- a context is entered
  module _ where
    abbrev aim : World → Name
    aim u = switching.target u c regs

    aims : aim w ≡ aim v
    unfolding switching.target
    aims = ap (target_or c) (descriptor-alike home t s c w v alike (slice_index regs.r 1))

    aim_job : (aim w).job ≡ c.job
    unfolding switching.target
    aim_job = target_job c.job c (descriptor_for w c (slice_index regs.r 1)) refl (descriptor_fits home c w alike.first.kept (slice_index regs.r 1))

    there : LooksAlike home (aim w).job t s w v
    there = subst (λ j. LooksAlike home j t s w v) (sym aim_job) alike

    aim_lowest : lowest_empty w (aim w) ≡ lowest_empty v (aim v)
    aim_lowest = (answers-alike home t s (aim w) w v there).lowest ∙ ap (lowest_empty v) aims

    switch_refusals-alike : switching.refusals w c regs ≡ switching.refusals v c regs
    unfolding switching.refusals
    switch_refusals-alike = λ i. slot_refusals-alike home t s c w v alike (slice_index regs.r 1) i ++ (is_none (aim_lowest i), NoSlotThere) ∷ []

    lefts : LooksAlike home c.job t s (switching.left w c t regs) (switching.left v c s regs)
    lefts = (changes-alike home t s c w v alike).save (with_answer regs 0)

    lefts_there : LooksAlike home (aim w).job t s (switching.left w c t regs) (switching.left v c s regs)
    lefts_there = subst (λ j. LooksAlike home j t s (switching.left w c t regs) (switching.left v c s regs)) (sym aim_job) lefts

    switch_ends : (slot : ℕ) (first : Option Refusal) → EndsAlike home c.job t s (switching.ended w c t regs (aim w) slot first) (switching.ended v c s regs (aim w) slot first)
    switch_ends slot (Some refusal) = record { answer = refl; worlds = alike }
    switch_ends slot None = record {
      answer = ap (λ r. To (aim w) (switching.arriving r slot (slice_index regs.r 2))) (answers-alike home t s (aim w) _ _ lefts_there).enters;
      worlds = subst (λ j. LooksAlike home j t s (switching.switched w c t regs (aim w) slot) (switching.switched v c s regs (aim w) slot)) aim_job
          ((changes-alike home t s (aim w) _ _ lefts_there).put (Slot slot) (Ctx c empty_cap) (sym aim_job));
    }

    pub switch-alike : EndsAlike home c.job t s (switching.switch w c t regs) (switching.switch v c s regs)
    unfolding switching.switch
    switch-alike =
        subst (λ e. EndsAlike home c.job t s (switching.switch w c t regs) e)
        (λ i. switching.ended v c s regs (aims i) (unwrap_or (aim_lowest i) 0) (first_refusal (switch_refusals-alike i)))
        (switch_ends (unwrap_or (lowest_empty w (aim w)) 0) (first_refusal (switching.refusals w c regs)))

  -- what both calls name that take a slot and items
  module _ where
    links : link w c regs ≡ link v c regs
    unfolding link
    links = ap (link_or c) (descriptor-alike home t s c w v alike (slice_index regs.r 1))

    link_own : (link w c regs).0.job ≡ c.job
    unfolding link
    link_own = link_job c.job c (descriptor_for w c (slice_index regs.r 1)) refl (descriptor_fits home c w alike.first.kept (slice_index regs.r 1))

    before-alike : (call : SpecCall) (rows others : List (Bool × Refusal)) → rows ≡ others → refusals_before w c call regs rows ≡ refusals_before v c call regs others
    before-alike call rows others same =
        λ i. slot_refusals-alike home t s c w v alike (slice_index regs.r 1) i
        ++ (item_refusals-alike home t s c w v alike call (slice_index regs.r 2) (slice_index regs.r 3) i ++ same i)

    asked_items : (call : SpecCall) → named.items_of w c call regs ≡ named.items_of v c call regs
    asked_items call = items-alike home t s c w v alike call (slice_index regs.r 2) (slice_index regs.r 3)

  -- a capability is restricted
  module _ where
    restrict_refusals-alike : restricting.refusals w c regs ≡ restricting.refusals v c regs
    unfolding restricting.refusals
    restrict_refusals-alike = before-alike spec_call.Restrict [] [] refl

    narrowed-alike : LooksAlike home c.job t s (restricting.narrowed w c regs) (restricting.narrowed v c regs)
    narrowed-alike =
        subst (λ d. LooksAlike home c.job t s (restricting.narrowed w c regs) (put_slot v c (slice_index regs.r 1) d))
        (λ i. Ctx (links i).0 (restricted (links i).1 (asked_items spec_call.Restrict i)))
        ((changes-alike home t s c w v alike).put (Slot (slice_index regs.r 1)) (Ctx (link w c regs).0 (restricted (link w c regs).1 (named.items_of w c spec_call.Restrict regs))) link_own)

    restrict_ends : (first : Option Refusal) → EndsAlike home c.job t s (restricting.ended w c regs first) (restricting.ended v c regs first)
    restrict_ends (Some refusal) = record { answer = refl; worlds = alike }
    restrict_ends None = record { answer = refl; worlds = narrowed-alike }

    pub restrict-alike : EndsAlike home c.job t s (restricting.restrict w c regs) (restricting.restrict v c regs)
    unfolding restricting.restrict
    restrict-alike =
        subst (λ e. EndsAlike home c.job t s (restricting.restrict w c regs) e) (λ i. restricting.ended v c regs (first_refusal (restrict_refusals-alike i)))
        (restrict_ends (first_refusal (restricting.refusals w c regs)))

  -- values are taken over
  module _ where
    abbrev from : Name
    from = (link w c regs).0

    abbrev list : List Item
    list = named.items_of w c spec_call.Overlay regs

    givers : LooksAlike home from.job t s w v
    givers = subst (λ j. LooksAlike home j t s w v) (sym link_own) alike

    giver-alike : overlaying.giver_refusals w c c.job (link w c regs) list ≡ overlaying.giver_refusals v c c.job (link v c regs) (named.items_of v c spec_call.Overlay regs)
    unfolding overlaying.giver_refusals
    giver-alike =
        (λ i.
        (not (covers (answers.pages i) (link w c regs).1 list), NotCovered)
        ∷ ((answers-alike home t s from w v givers).needs list i && nat_le MOST_GROUPS_OF_JOB (answers.groups i), TooManyGroups)
        ∷ (are_too_many (answers.overlaid from list link_own i), TooManyRanges)
        ∷ [])
        ∙ (λ i. overlaying.giver_refusals v c c.job (links i) (asked_items spec_call.Overlay i))

    overlay_refusals-alike : overlaying.refusals w c c.job regs ≡ overlaying.refusals v c c.job regs
    unfolding overlaying.refusals
    overlay_refusals-alike = before-alike spec_call.Overlay _ _ giver-alike

    overlay_ends : (first : Option Refusal) → EndsAlike home c.job t s (overlaying.ended w c c.job regs first) (overlaying.ended v c c.job regs first)
    overlay_ends (Some refusal) = record { answer = refl; worlds = alike }
    overlay_ends None = record {
      answer = refl;
      worlds = subst (λ u. LooksAlike home c.job t s (base.overlay w c from c.job list) u) (λ i. base.overlay v c (links i).0 c.job (asked_items spec_call.Overlay i))
          ((changes-alike home t s c w v alike).overlay from list link_own);
    }

    pub overlay-alike : EndsAlike home c.job t s (overlaying.overlay w c c.job regs) (overlaying.overlay v c c.job regs)
    unfolding overlaying.overlay
    overlay-alike =
        subst (λ e. EndsAlike home c.job t s (overlaying.overlay w c c.job regs) e) (λ i. overlaying.ended v c c.job regs (first_refusal (overlay_refusals-alike i)))
        (overlay_ends (first_refusal (overlaying.refusals w c c.job regs)))
