-- The calls that make, enter, restrict and overlay contexts do the same where one context is blank.
use Rattle.std.proofs.Common.{◌≢◌, ◌≡◌, inl, inr, ℕ, refl, sym, ap, ◌∙◌, Bool, true, false, cond, ◌&&◌, Option, Some, None, List, [], ◌∷◌, ◌++◌}
use Rattle.std.proofs.lemmas.List.{append-nil}
use Rattle.std.specs.Prelude.{is_none, nat_le, not, slice_index, unwrap_or}
use Rattle.std.specs.Option.{option_map}
use Rattle.guest_call.specs.Asked.{item_refusals}
use Rattle.guest_call.specs.Guest.{are_too_many, descriptor_for, link_of, slot_refusals, with_answer}
use Rattle.lwc_base.specs.Capabilities.{covers, empty_cap, full_cap, restricted}
use Rattle.lwc_base.specs.Cells.{put_slot}
use Rattle.lwc_base.specs.Overlay as base
use Rattle.lwc_base.specs.Refusals.{first_refusal}
use Rattle.lwc_base.specs.Saved.{entered}
use Rattle.lwc_base.specs.Sharing.{clone_context, needs_group}
use Rattle.lwc_base.specs.Slots.{lowest_empty}
use Rattle.lwc_base.specs.World.{World, context, groups_of, next_context}
use Rattle.lwc_base.specs.declared.answer.Answer.TheVariants.{Done}
use Rattle.lwc_base.specs.declared.answer.Moved.TheVariants.{To}
use Rattle.lwc_base.specs.declared.descriptor.Cap.{Cap}
use Rattle.lwc_base.specs.declared.descriptor.Descriptor.{Descriptor}
use Rattle.lwc_base.specs.declared.descriptor.Descriptor.TheVariants.{Empty, Console, File, Request, Reply, Ctx}
use Rattle.lwc_base.specs.declared.item.Item.{Item}
use Rattle.lwc_types.specs.Registers.{fresh_registers}
use Rattle.lwc_types.specs.declared.key.Key.TheVariants.{Slot}
use Rattle.lwc_types.specs.declared.limits.TheConstants.{MOST_CONTEXTS_OF_JOB, MOST_GROUPS_OF_JOB}
use Rattle.lwc_types.specs.declared.name.Name.{Name}
use Rattle.lwc_types.specs.declared.refusal.Refusal.{Refusal}
use Rattle.lwc_types.specs.declared.refusal.Refusal.TheVariants.{NoSlot, NoSlotThere, NotCovered, TooManyContexts, TooManyGroups, TooManyRanges}
use Rattle.lwc_types.specs.declared.regs.Regs.{Regs}
use Rattle.lwc_types.specs.declared.size.WorldSize.{WorldSize}
use Rattle.lwc_create.specs.Create as creating
use Rattle.lwc_overlay.specs.Named.{link}
use Rattle.lwc_overlay.specs.Named as named
use Rattle.lwc_overlay.specs.OverlayCall as overlaying
use Rattle.lwc_overlay.specs.RestrictCall as restricting
use Rattle.lwc_switch.specs.Switch as switching
use Rattle.res_spec.specs.declared.items.SpecCall.{SpecCall}
use Rattle.res_spec.specs.declared.items.SpecCall.TheVariants as spec_call
use Rattle.guest_call.proofs.NotRefused.{spec_asked}
use Rattle.lwc_types.proofs.Orders.{cases_name}
use Rattle.world_views.proofs.BlankChanges.{asks-alike, blanks-alike, changes-alike}
use Rattle.world_views.proofs.BlankNamed.{descriptor-blank, first-append, item_refusals-blank, items-blank, link_or, none-append, nothing-covered, slot_refusals-blank}
use Rattle.world_views.specs.Outside.{IsOutside, LacksKeys, blank_end, covered, covered_end}
use Rattle.world_views.specs.Blank.{blank, tells_registers}
use Rattle.world_views.specs.BlankFacts.{TakesNothingOf}

-- the context that a descriptor names, and else another one
abbrev target_or : Name → Descriptor → Name
target_or c d = unwrap_or (option_map (λ link. link.0) (link_of d)) c

-- a descriptor of the blank context has no key, if it is in a slot of another one
pub link-shut : (v c : Name) (d : Descriptor) → c ≢ v → ((cap : Cap) → d ≡ Ctx v cap → LacksKeys cap) → (link_or c d).0 ≡ v → LacksKeys (link_or c d).1
link-shut v c Empty other shut is = absurd (other is)
link-shut v c Console other shut is = absurd (other is)
link-shut v c (File file at) other shut is = absurd (other is)
link-shut v c (Request r at) other shut is = absurd (other is)
link-shut v c (Reply r) other shut is = absurd (other is)
link-shut v c (Ctx name cap) other shut is = shut cap (ap (λ n. Ctx n cap) is)

module _ (keep : Bool) (v c : Name) (job : ℕ) (w : World) (outside : IsOutside v c job w) (regs : Regs) where
  -- a context is made
  module _ where
    abbrev items : World → List Item
    items u = creating.items_of u c regs

    same_items : items (blank keep v w) ≡ items w
    same_items = items-blank keep v w c outside.context spec_call.Create (slice_index regs.r 1) (slice_index regs.r 2)

    room-blank : creating.room_refusals (blank keep v w) c job (items (blank keep v w)) ≡ creating.room_refusals w c job (items w)
    unfolding creating.room_refusals
    room-blank =
        ap (creating.room_refusals (blank keep v w) c job) same_items
        ∙ (λ i.
        (nat_le MOST_CONTEXTS_OF_JOB ((blanks-alike keep v w).contexts job i), TooManyContexts)
        ∷ (is_none ((blanks-alike keep v w).lowest c i), NoSlot)
        ∷ ((blanks-alike keep v w).needs c (items w) i && nat_le MOST_GROUPS_OF_JOB ((blanks-alike keep v w).groups job i), TooManyGroups)
        ∷ (are_too_many ((asks-alike keep v w c outside.context).cloned job (items w) i), TooManyRanges)
        ∷ [])

    create_refusals-blank : creating.refusals (blank keep v w) c job regs ≡ creating.refusals w c job regs
    unfolding creating.refusals
    create_refusals-blank = λ i. item_refusals-blank keep v w c outside.context spec_call.Create (slice_index regs.r 1) (slice_index regs.r 2) i ++ room-blank i

    created-blank : (slot : ℕ) → creating.created (blank keep v w) c job regs slot ≡ blank keep v (creating.created w c job regs slot)
    created-blank slot =
        let entry = creating.after_call regs creating.no_caller in
        ap (λ list. put_slot (clone_context (blank keep v w) c job list entry) c slot (Ctx (next_context w job) (full_cap w.size.pages))) same_items
        ∙ ap (λ u. put_slot u c slot (Ctx (next_context w job) (full_cap w.size.pages))) ((changes-alike keep v w c outside.context).clone job (items w) entry outside.new)
        ∙ (changes-alike keep v (clone_context w c job (items w) entry) c outside.context).put (Slot slot) (Ctx (next_context w job) (full_cap w.size.pages))

    create_ends : (slot : ℕ) (first : Option Refusal) → creating.ended (blank keep v w) c job regs slot first ≡ blank_end keep v (creating.ended w c job regs slot first)
    create_ends slot (Some refusal) = refl
    create_ends slot None = λ i. (Done (creating.after_call regs slot), created-blank slot i)

    pub create-blank : creating.create (blank keep v w) c job regs ≡ blank_end keep v (creating.create w c job regs)
    unfolding creating.create
    create-blank =
        (λ i. creating.ended (blank keep v w) c job regs (unwrap_or ((blanks-alike keep v w).lowest c i) 0) (first_refusal (create_refusals-blank i)))
        ∙ create_ends (unwrap_or (lowest_empty w c) 0) (first_refusal (creating.refusals w c job regs))

  -- a context is entered
  module _ (t : ℕ) where
    abbrev aim : Name
    aim = switching.target w c regs

    aims : switching.target (blank keep v w) c regs ≡ aim
    unfolding switching.target
    aims = ap (target_or c) (descriptor-blank keep v w c (slice_index regs.r 1))

    switch_refusals-blank : switching.refusals (blank keep v w) c regs ≡ switching.refusals w c regs
    unfolding switching.refusals
    switch_refusals-blank =
        (λ i. slot_refusals-blank keep v w c (slice_index regs.r 1) i ++ (is_none (lowest_empty (blank keep v w) (aims i)), NoSlotThere) ∷ [])
        ∙ (λ i. slot_refusals w c (slice_index regs.r 1) ++ (is_none ((blanks-alike keep v w).lowest aim i), NoSlotThere) ∷ [])

    abbrev left : World
    left = switching.left w c t regs

    lefts : switching.left (blank keep v w) c t regs ≡ blank keep v left
    lefts = (changes-alike keep v w c outside.context).save t (with_answer regs 0)

    abbrev argument : ℕ
    argument = slice_index regs.r 2

    -- who enters the blank context arrives there with other registers, where it keeps none
    arrives : (slot : ℕ) → covered keep v (To aim (switching.arriving (entered (context (blank keep v left) aim) t) slot argument))
        ≡ covered keep v (To aim (switching.arriving (entered (context left aim) t) slot argument))
    arrives slot = by (tells_registers keep v aim) refl
      where
        by : (b : Bool) → tells_registers keep v aim ≡ b → To aim (cond b (switching.arriving (entered (context (blank keep v left) aim) t) slot argument) (fresh_registers 0))
            ≡ To aim (cond b (switching.arriving (entered (context left aim) t) slot argument) (fresh_registers 0))
        by true is = ap (λ r. To aim (switching.arriving r slot argument)) ((blanks-alike keep v left).enters aim t is)
        by false is = refl

    switch_ends : (slot : ℕ) (first : Option Refusal) → covered_end keep v (switching.ended (blank keep v w) c t regs aim slot first)
        ≡ blank_end keep v (covered_end keep v (switching.ended w c t regs aim slot first))
    switch_ends slot (Some refusal) = refl
    switch_ends slot None =
        ap (λ u. (covered keep v (To aim (switching.arriving (entered (context u aim) t) slot argument)), put_slot u aim slot (Ctx c empty_cap))) lefts
        ∙ (λ i. (arrives slot i, (blanks-alike keep v left).put_slot aim slot (Ctx c empty_cap) i))

    pub switch-blank : covered_end keep v (switching.switch (blank keep v w) c t regs) ≡ blank_end keep v (covered_end keep v (switching.switch w c t regs))
    unfolding switching.switch
    switch-blank =
        (λ i. covered_end keep v (switching.ended (blank keep v w) c t regs (aims i) (unwrap_or (lowest_empty (blank keep v w) (aims i)) 0) (first_refusal (switch_refusals-blank i))))
        ∙ (λ i. covered_end keep v (switching.ended (blank keep v w) c t regs aim (unwrap_or ((blanks-alike keep v w).lowest aim i) 0) (first_refusal (switching.refusals w c regs))))
        ∙ switch_ends (unwrap_or (lowest_empty w aim) 0) (first_refusal (switching.refusals w c regs))

  -- what both calls name that take a slot and items
  module _ where
    links : link (blank keep v w) c regs ≡ link w c regs
    unfolding link
    links = ap (link_or c) (descriptor-blank keep v w c (slice_index regs.r 1))

    asked_items : (call : SpecCall) → named.items_of (blank keep v w) c call regs ≡ named.items_of w c call regs
    asked_items call = items-blank keep v w c outside.context call (slice_index regs.r 2) (slice_index regs.r 3)

    abbrev slot_rows : List (Bool × Refusal)
    slot_rows = slot_refusals w c (slice_index regs.r 1)

    abbrev item_rows : SpecCall → List (Bool × Refusal)
    item_rows call = item_refusals w c call (slice_index regs.r 2) (slice_index regs.r 3)

    before-blank : (call : SpecCall) (rows others : List (Bool × Refusal)) → rows ≡ others → named.refusals_before (blank keep v w) c call regs rows ≡ named.refusals_before w c call regs others
    before-blank call rows others same =
        λ i. slot_refusals-blank keep v w c (slice_index regs.r 1) i
        ++ (item_refusals-blank keep v w c outside.context call (slice_index regs.r 2) (slice_index regs.r 3) i ++ same i)

  -- a capability is restricted
  module _ where
    restrict_refusals-blank : restricting.refusals (blank keep v w) c regs ≡ restricting.refusals w c regs
    unfolding restricting.refusals
    restrict_refusals-blank = before-blank spec_call.Restrict [] [] refl

    narrowed-blank : restricting.narrowed (blank keep v w) c regs ≡ blank keep v (restricting.narrowed w c regs)
    narrowed-blank =
        (λ i. put_slot (blank keep v w) c (slice_index regs.r 1) (Ctx (links i).0 (restricted (links i).1 (asked_items spec_call.Restrict i))))
        ∙ (changes-alike keep v w c outside.context).put (Slot (slice_index regs.r 1)) (Ctx (link w c regs).0 (restricted (link w c regs).1 (named.items_of w c spec_call.Restrict regs)))

    restrict_ends : (first : Option Refusal) → restricting.ended (blank keep v w) c regs first ≡ blank_end keep v (restricting.ended w c regs first)
    restrict_ends (Some refusal) = refl
    restrict_ends None = λ i. (Done (with_answer regs 0), narrowed-blank i)

    pub restrict-blank : restricting.restrict (blank keep v w) c regs ≡ blank_end keep v (restricting.restrict w c regs)
    unfolding restricting.restrict
    restrict-blank = (λ i. restricting.ended (blank keep v w) c regs (first_refusal (restrict_refusals-blank i))) ∙ restrict_ends (first_refusal (restricting.refusals w c regs))

  -- values are taken over
  module _ where
    abbrev l : Name × Cap
    l = link w c regs

    abbrev list : List Item
    list = named.items_of w c spec_call.Overlay regs

    abbrev giver_rows : World → List (Bool × Refusal)
    giver_rows u = overlaying.giver_refusals u c job l list

    shut : l.0 ≡ v → LacksKeys l.1
    unfolding link
    shut is = link-shut v c (descriptor_for w c (slice_index regs.r 1)) outside.context (outside.shut (slice_index regs.r 1)) is

    -- where items are covered, they are taken from elsewhere, or there are none
    may_take : first_refusal (item_rows spec_call.Overlay) ≡ None → covers w.size.pages l.1 list ≡ true → TakesNothingOf v l.0 list
    may_take none covered = cases_name l.0 v
        (λ is. inr (nothing-covered w.size.pages l.1 list outside.pages.1 (shut is)
        (spec_asked w c spec_call.Overlay (slice_index regs.r 2) (slice_index regs.r 3) [] (ap first_refusal (append-nil (item_rows spec_call.Overlay)) ∙ none)) covered))
        (λ other. inl other)

    giver-blank : TakesNothingOf v l.0 list → giver_rows (blank keep v w) ≡ giver_rows w
    unfolding overlaying.giver_refusals
    giver-blank may = λ i.
        (not (covers w.size.pages l.1 list), NotCovered)
        ∷ ((blanks-alike keep v w).needs l.0 list i && nat_le MOST_GROUPS_OF_JOB ((blanks-alike keep v w).groups job i), TooManyGroups)
        ∷ (are_too_many ((asks-alike keep v w c outside.context).overlaid l.0 job list may i), TooManyRanges)
        ∷ []

    -- the rows after that of the capability
    abbrev later_rows : World → List (Bool × Refusal)
    later_rows u =
        (needs_group u l.0 list && nat_le MOST_GROUPS_OF_JOB (groups_of u job), TooManyGroups)
        ∷ (are_too_many (base.ranges_after_overlay u c l.0 job list), TooManyRanges)
        ∷ []

    not_covered : (u : World) → u.size ≡ w.size → covers w.size.pages l.1 list ≡ false → first_refusal (giver_rows u) ≡ Some NotCovered
    unfolding overlaying.giver_refusals
    not_covered u size is =
        ap (λ (s : WorldSize). cond (not (covers s.pages l.1 list)) (Some NotCovered) (first_refusal (later_rows u))) size
        ∙ ap (λ b. cond (not b) (Some NotCovered) (first_refusal (later_rows u))) is

    first_giver : first_refusal (item_rows spec_call.Overlay) ≡ None → first_refusal (giver_rows (blank keep v w)) ≡ first_refusal (giver_rows w)
    first_giver none = by (covers w.size.pages l.1 list) refl
      where
        by : (b : Bool) → covers w.size.pages l.1 list ≡ b → first_refusal (giver_rows (blank keep v w)) ≡ first_refusal (giver_rows w)
        by true is = ap first_refusal (giver-blank (may_take none is))
        by false is = not_covered (blank keep v w) refl is ∙ sym (not_covered w refl is)

    first_overlay : first_refusal (overlaying.refusals (blank keep v w) c job regs) ≡ first_refusal (overlaying.refusals w c job regs)
    unfolding overlaying.refusals
    first_overlay =
        ap first_refusal (before-blank spec_call.Overlay _ _ (λ i. overlaying.giver_refusals (blank keep v w) c job (links i) (asked_items spec_call.Overlay i)))
        ∙ first-append slot_rows (item_rows spec_call.Overlay ++ giver_rows (blank keep v w)) (item_rows spec_call.Overlay ++ giver_rows w)
        (λ _. first-append (item_rows spec_call.Overlay) (giver_rows (blank keep v w)) (giver_rows w) first_giver)

    rows_none : first_refusal (overlaying.refusals w c job regs) ≡ None → TakesNothingOf v l.0 list
    unfolding overlaying.refusals
    rows_none none =
        let after = (none-append slot_rows (item_rows spec_call.Overlay ++ giver_rows w) none).1 in
        let both = none-append (item_rows spec_call.Overlay) (giver_rows w) after in
        may_take both.0 (by (covers w.size.pages l.1 list) refl both.1)
      where
        by : (b : Bool) → covers w.size.pages l.1 list ≡ b → first_refusal (giver_rows w) ≡ None → covers w.size.pages l.1 list ≡ true
        by true is rows = is
        by false is rows = let full = not_covered w refl is in cc

    overlay_ends : (first : Option Refusal) → first_refusal (overlaying.refusals w c job regs) ≡ first → overlaying.ended (blank keep v w) c job regs first ≡ blank_end keep v (overlaying.ended w c job regs first)
    overlay_ends (Some refusal) is = refl
    overlay_ends None is =
        (λ i. (Done (with_answer regs 0), base.overlay (blank keep v w) c (links i).0 job (asked_items spec_call.Overlay i)))
        ∙ (λ i. (Done (with_answer regs 0), (changes-alike keep v w c outside.context).overlay l.0 job list (rows_none is) i))

    pub overlay-blank : overlaying.overlay (blank keep v w) c job regs ≡ blank_end keep v (overlaying.overlay w c job regs)
    unfolding overlaying.overlay
    overlay-blank = ap (overlaying.ended (blank keep v w) c job regs) first_overlay ∙ overlay_ends (first_refusal (overlaying.refusals w c job regs)) refl
