-- The calls that take a context by a slot, under other numbers: switches, restrictions and overlays; and how a request begins.
use Rattle.std.proofs.Common.{◌≡◌, ℕ, suc, ◌+◌, refl, ap, ◌∙◌, Bool, ◌&&◌, cond, eqb, leb, ltb, not, Option, Some, None, List, [], ◌∷◌, ◌++◌, arith}
use Rattle.std.specs.Prelude.{is_none, slice_index, unwrap_or}
use Rattle.std.specs.Option.{option_map}
use Rattle.guest_call.specs.Guest.{are_too_many, descriptor_for, link_of, slot_refusals, with_answer}
use Rattle.lwc_base.specs.Capabilities.{covers, empty_cap, restricted}
use Rattle.lwc_base.specs.Cells.{put_slot, slot_at}
use Rattle.lwc_base.specs.Overlay as base
use Rattle.lwc_base.specs.Overlay.{ranges_after_overlay}
use Rattle.lwc_base.specs.Ranges.{ranges_of}
use Rattle.lwc_base.specs.Refusals.{first_refusal}
use Rattle.lwc_base.specs.Saved.{entered, save, with_saved}
use Rattle.lwc_base.specs.Slots.{lowest_empty}
use Rattle.lwc_base.specs.Summaries.{is_empty}
use Rattle.lwc_base.specs.World.{World, Context, add_context, context}
use Rattle.lwc_base.specs.declared.answer.Answer.TheVariants as answer
use Rattle.lwc_base.specs.declared.answer.Moved.TheVariants as moved
use Rattle.lwc_base.specs.declared.cell.Cell.TheVariants.{Own}
use Rattle.lwc_base.specs.declared.descriptor.Cap.{Cap}
use Rattle.lwc_base.specs.declared.descriptor.Descriptor.{Descriptor}
use Rattle.lwc_base.specs.declared.descriptor.Descriptor.TheVariants.{Empty, Console, File, Request, Reply, Ctx}
use Rattle.lwc_base.specs.declared.item.Item.{Item}
use Rattle.lwc_types.specs.declared.key.TheConstants.{SLOTS}
use Rattle.lwc_types.specs.declared.key.Key.{Key}
use Rattle.lwc_types.specs.declared.key.Key.TheVariants.{Page, Slot, Cred}
use Rattle.lwc_types.specs.declared.limits.TheConstants.{MOST_GROUPS_OF_JOB}
use Rattle.lwc_types.specs.declared.name.Name.{Name}
use Rattle.lwc_types.specs.declared.refusal.Refusal.{Refusal}
use Rattle.lwc_types.specs.declared.refusal.Refusal.TheVariants.{BadFd, WrongKind, NoSlotThere, NotCovered, TooManyGroups, TooManyRanges}
use Rattle.lwc_types.specs.declared.regs.Regs.{Regs}
use Rattle.lwc_names.proofs.Answers.{shifted_moved}
use Rattle.lwc_names.proofs.Asks.{empty-shifted, groups_of-shifted, lowest-shifted, ranges_of-shifted}
use Rattle.lwc_names.proofs.Clones.{needs-shifted, overlay-shifted}
use Rattle.lwc_names.proofs.Creates.{item_refusals-shifted, items_of-shifted}
use Rattle.lwc_names.proofs.Puts.{branch, put_slot-shifted}
use Rattle.lwc_names.proofs.Worlds.{add_context-shifted, change_context-shifted, context-shifted, value_at-shifted}
use Rattle.lwc_names.specs.Shifts.{shifted_context, shifted_descriptor, shifted_job, shifted_name, shifted_value, shifted_world}
use Rattle.lwc_overlay.specs.Named as named
use Rattle.lwc_overlay.specs.OverlayCall as over
use Rattle.lwc_overlay.specs.RestrictCall as restricts
use Rattle.lwc_switch.specs.Switch as switches
use Rattle.res_spec.specs.declared.items.SpecCall.{SpecCall}
use Rattle.res_spec.specs.declared.items.SpecCall.TheVariants as call
use Rattle.snapshot_host.specs.Begin.{begin, begun_context, begun_value}

module _ (r : ℕ) where
  abbrev shifted_pair : Name × Cap → Name × Cap
  shifted_pair l = (shifted_name r l.0, l.1)

  pub link_of-shifted : (d : Descriptor) → link_of (shifted_descriptor r d) ≡ option_map shifted_pair (link_of d)
  link_of-shifted Empty = refl
  link_of-shifted Console = refl
  link_of-shifted (File file at) = refl
  link_of-shifted (Request q at) = refl
  link_of-shifted (Reply q) = refl
  link_of-shifted (Ctx name cap) = refl

  none-shifted : (o : Option (Name × Cap)) → is_none (option_map shifted_pair o) ≡ is_none o
  none-shifted None = refl
  none-shifted (Some l) = refl

  pub or-shifted : (o : Option (Name × Cap)) (l : Name × Cap) → unwrap_or (option_map shifted_pair o) (shifted_pair l) ≡ shifted_pair (unwrap_or o l)
  or-shifted None l = refl
  or-shifted (Some x) l = refl

  or_name-shifted : (o : Option (Name × Cap)) (c : Name) → unwrap_or (option_map (λ l. l.0) (option_map shifted_pair o)) (shifted_name r c) ≡ shifted_name r (unwrap_or (option_map (λ l. l.0) o) c)
  or_name-shifted None c = refl
  or_name-shifted (Some x) c = refl

  module _ (w : World) where
    pub descriptor-shifted : (c : Name) (n : ℕ) → descriptor_for (shifted_world r w) (shifted_name r c) n ≡ shifted_descriptor r (descriptor_for w c n)
    unfolding descriptor_for
    descriptor-shifted c n = (λ i. cond (ltb n SLOTS) (value_at-shifted r w c (Slot n) i) Empty) ∙ branch (shifted_descriptor r) (ltb n SLOTS) (slot_at w c n) Empty

    pub slot_refusals-shifted : (c : Name) (n : ℕ) → slot_refusals (shifted_world r w) (shifted_name r c) n ≡ slot_refusals w c n
    unfolding slot_refusals
    slot_refusals-shifted c n =
        let d = descriptor_for w c n in
        (λ i. (is_empty (descriptor-shifted c n i), BadFd) ∷ (is_none (link_of (descriptor-shifted c n i)), WrongKind) ∷ [])
        ∙ (λ i. (empty-shifted r d i, BadFd) ∷ (is_none (link_of-shifted d i), WrongKind) ∷ [])
        ∙ (λ i. (is_empty d, BadFd) ∷ (none-shifted (link_of d) i, WrongKind) ∷ [])

    module _ (c : Name) (regs : Regs) where
      pub link-shifted : named.link (shifted_world r w) (shifted_name r c) regs ≡ shifted_pair (named.link w c regs)
      unfolding named.link
      link-shifted =
          let d = descriptor_for w c (slice_index regs.r 1) in
          ap (λ e. unwrap_or (link_of e) (shifted_name r c, empty_cap)) (descriptor-shifted c (slice_index regs.r 1))
          ∙ ap (λ o. unwrap_or o (shifted_name r c, empty_cap)) (link_of-shifted d) ∙ or-shifted (link_of d) (c, empty_cap)

      named-shifted : (kind : SpecCall) → named.items_of (shifted_world r w) (shifted_name r c) kind regs ≡ named.items_of w c kind regs
      named-shifted kind = items_of-shifted r w c kind (slice_index regs.r 2) (slice_index regs.r 3)

      before-shifted : (kind : SpecCall) (rows : List (Bool × Refusal)) → named.refusals_before (shifted_world r w) (shifted_name r c) kind regs rows ≡ named.refusals_before w c kind regs rows
      before-shifted kind rows = λ i. slot_refusals-shifted c (slice_index regs.r 1) i ++ (item_refusals-shifted r w c kind (slice_index regs.r 2) (slice_index regs.r 3) i ++ rows)

      -- keys are taken from a capability
      narrowed-shifted : restricts.narrowed (shifted_world r w) (shifted_name r c) regs ≡ shifted_world r (restricts.narrowed w c regs)
      narrowed-shifted =
          (λ i. put_slot (shifted_world r w) (shifted_name r c) (slice_index regs.r 1) (Ctx ((link-shifted i).0) (restricted ((link-shifted i).1) (named-shifted call.Restrict i))))
          ∙ put_slot-shifted r w c (slice_index regs.r 1) (Ctx (named.link w c regs).0 (restricted (named.link w c regs).1 (named.items_of w c call.Restrict regs)))

      restricted-shifted : (why : Option Refusal) → restricts.ended (shifted_world r w) (shifted_name r c) regs why ≡ ((restricts.ended w c regs why).0, shifted_world r (restricts.ended w c regs why).1)
      restricted-shifted (Some refusal) = refl
      restricted-shifted None = λ i. (answer.Done (with_answer regs 0), narrowed-shifted i)

      pub restrict-shifted : restricts.restrict (shifted_world r w) (shifted_name r c) regs ≡ ((restricts.restrict w c regs).0, shifted_world r (restricts.restrict w c regs).1)
      unfolding restricts.restrict restricts.refusals
      restrict-shifted =
          ap (λ rows. restricts.ended (shifted_world r w) (shifted_name r c) regs (first_refusal rows)) (before-shifted call.Restrict [])
          ∙ restricted-shifted (first_refusal (restricts.refusals w c regs))

      -- values are taken over from another context
      after_overlay-shifted : (job : ℕ) (d : Name) (items : List Item) → ranges_after_overlay (shifted_world r w) (shifted_name r c) (shifted_name r d) (shifted_job r job) items ≡ ranges_after_overlay w c d job items
      unfolding ranges_after_overlay
      after_overlay-shifted job d items =
          let v = base.overlay w c d job items in
          ap (λ (u : World). (ranges_of u (shifted_name r d), ranges_of u (shifted_name r c))) (overlay-shifted r w c d job items)
          ∙ (λ i. (ranges_of-shifted r v d i, ranges_of-shifted r v c i))

      giver-shifted : (job : ℕ) (l : Name × Cap) (items : List Item) → over.giver_refusals (shifted_world r w) (shifted_name r c) (shifted_job r job) (shifted_pair l) items ≡ over.giver_refusals w c job l items
      unfolding over.giver_refusals shifted_world
      giver-shifted job l items =
          λ i. (not (covers w.size.pages l.1 items), NotCovered) ∷ (needs-shifted r w l.0 items i && leb MOST_GROUPS_OF_JOB (groups_of-shifted r w job i), TooManyGroups)
          ∷ (are_too_many (after_overlay-shifted job l.0 items i), TooManyRanges) ∷ []

      refusals-shifted : (job : ℕ) → over.refusals (shifted_world r w) (shifted_name r c) (shifted_job r job) regs ≡ over.refusals w c job regs
      unfolding over.refusals
      refusals-shifted job =
          (λ i. named.refusals_before (shifted_world r w) (shifted_name r c) call.Overlay regs (over.giver_refusals (shifted_world r w) (shifted_name r c) (shifted_job r job) (link-shifted i) (named-shifted call.Overlay i)))
          ∙ ap (named.refusals_before (shifted_world r w) (shifted_name r c) call.Overlay regs) (giver-shifted job (named.link w c regs) (named.items_of w c call.Overlay regs))
          ∙ before-shifted call.Overlay (over.giver_refusals w c job (named.link w c regs) (named.items_of w c call.Overlay regs))

      taken-shifted : (job : ℕ) → base.overlay (shifted_world r w) (shifted_name r c) (named.link (shifted_world r w) (shifted_name r c) regs).0 (shifted_job r job) (named.items_of (shifted_world r w) (shifted_name r c) call.Overlay regs)
          ≡ shifted_world r (base.overlay w c (named.link w c regs).0 job (named.items_of w c call.Overlay regs))
      taken-shifted job =
          (λ i. base.overlay (shifted_world r w) (shifted_name r c) ((link-shifted i).0) (shifted_job r job) (named-shifted call.Overlay i))
          ∙ overlay-shifted r w c (named.link w c regs).0 job (named.items_of w c call.Overlay regs)

      overlaid-shifted : (job : ℕ) (why : Option Refusal) → over.ended (shifted_world r w) (shifted_name r c) (shifted_job r job) regs why ≡ ((over.ended w c job regs why).0, shifted_world r (over.ended w c job regs why).1)
      overlaid-shifted job (Some refusal) = refl
      overlaid-shifted job None = λ i. (answer.Done (with_answer regs 0), taken-shifted job i)

      pub overlay_call-shifted : (job : ℕ) → over.overlay (shifted_world r w) (shifted_name r c) (shifted_job r job) regs ≡ ((over.overlay w c job regs).0, shifted_world r (over.overlay w c job regs).1)
      unfolding over.overlay
      overlay_call-shifted job =
          ap (λ rows. over.ended (shifted_world r w) (shifted_name r c) (shifted_job r job) regs (first_refusal rows)) (refusals-shifted job)
          ∙ overlaid-shifted job (first_refusal (over.refusals w c job regs))

      -- a thread goes to another context
      target-shifted : switches.target (shifted_world r w) (shifted_name r c) regs ≡ shifted_name r (switches.target w c regs)
      unfolding switches.target
      target-shifted =
          let d = descriptor_for w c (slice_index regs.r 1) in
          ap (λ e. unwrap_or (option_map (λ (l : Name × Cap). l.0) (link_of e)) (shifted_name r c)) (descriptor-shifted c (slice_index regs.r 1))
          ∙ ap (λ o. unwrap_or (option_map (λ (l : Name × Cap). l.0) o) (shifted_name r c)) (link_of-shifted d) ∙ or_name-shifted (link_of d) c

      switch_refusals-shifted : switches.refusals (shifted_world r w) (shifted_name r c) regs ≡ switches.refusals w c regs
      unfolding switches.refusals
      switch_refusals-shifted =
          (λ i. slot_refusals-shifted c (slice_index regs.r 1) i ++ (is_none (lowest_empty (shifted_world r w) (target-shifted i)), NoSlotThere) ∷ [])
          ∙ (λ i. slot_refusals w c (slice_index regs.r 1) ++ (is_none (lowest-shifted r w (switches.target w c regs) i), NoSlotThere) ∷ [])

      save-shifted : (t : ℕ) (kept : Regs) → save (shifted_world r w) (shifted_name r c) t kept ≡ shifted_world r (save w c t kept)
      unfolding save
      save-shifted t kept = change_context-shifted r w c (with_saved t kept) (with_saved t kept) (λ x. refl)

      module _ (t : ℕ) (d : Name) (slot : ℕ) where
        going-shifted : switches.going_on (shifted_world r w) (shifted_name r c) t regs (shifted_name r d) slot ≡ switches.going_on w c t regs d slot
        going-shifted =
            let left = switches.left w c t regs in
            ap (λ (v : World). switches.arriving (entered (context v (shifted_name r d)) t) slot (slice_index regs.r 2)) (save-shifted t (with_answer regs 0))
            ∙ ap (λ (x : Context). switches.arriving (entered x t) slot (slice_index regs.r 2)) (context-shifted r left d)

        switched-shifted : switches.switched (shifted_world r w) (shifted_name r c) t regs (shifted_name r d) slot ≡ shifted_world r (switches.switched w c t regs d slot)
        switched-shifted =
            ap (λ (v : World). put_slot v (shifted_name r d) slot (Ctx (shifted_name r c) empty_cap)) (save-shifted t (with_answer regs 0))
            ∙ put_slot-shifted r (switches.left w c t regs) d slot (Ctx c empty_cap)

        moved-shifted : (why : Option Refusal) → switches.ended (shifted_world r w) (shifted_name r c) t regs (shifted_name r d) slot why ≡ (shifted_moved r (switches.ended w c t regs d slot why).0, shifted_world r (switches.ended w c t regs d slot why).1)
        moved-shifted (Some refusal) = refl
        moved-shifted None = λ i. (moved.To (shifted_name r d) (going-shifted i), switched-shifted i)

      pub switch-shifted : (t : ℕ) → switches.switch (shifted_world r w) (shifted_name r c) t regs ≡ (shifted_moved r (switches.switch w c t regs).0, shifted_world r (switches.switch w c t regs).1)
      unfolding switches.switch
      switch-shifted t =
          let d = switches.target w c regs in
          (λ i. switches.ended (shifted_world r w) (shifted_name r c) t regs (target-shifted i) (unwrap_or (lowest_empty (shifted_world r w) (target-shifted i)) 0) (first_refusal (switch_refusals-shifted i)))
          ∙ (λ i. switches.ended (shifted_world r w) (shifted_name r c) t regs (shifted_name r d) (unwrap_or (lowest-shifted r w d i) 0) (first_refusal (switches.refusals w c regs)))
          ∙ moved-shifted t d (unwrap_or (lowest_empty w d) 0) (first_refusal (switches.refusals w c regs))

    -- a request begins
    module _ (home : Name) (q : ℕ) where
      begun_value-shifted : (k : Key) → begun_value (shifted_world r w) (shifted_name r home) (q + r) k ≡ shifted_value r k (begun_value w home q k)
      begun_value-shifted (Page p) = value_at-shifted r w home (Page p)
      begun_value-shifted (Slot n) =
          (λ i. cond (eqb n 0) (Request (q + r) 0) (cond (eqb n 1) (Reply (q + r)) (value_at-shifted r w home (Slot n) i)))
          ∙ ap (cond (eqb n 0) (Request (q + r) 0)) (branch (shifted_descriptor r) (eqb n 1) (Reply q) (slot_at w home n))
          ∙ branch (shifted_descriptor r) (eqb n 0) (Request q 0) (cond (eqb n 1) (Reply q) (slot_at w home n))
      begun_value-shifted Cred = value_at-shifted r w home Cred

      begun_context-shifted : begun_context (shifted_world r w) (shifted_name r home) (q + r) ≡ shifted_context r (begun_context w home q)
      unfolding begun_context
      begun_context-shifted = λ i. record { cell = λ k. Own (begun_value-shifted k i); right = (context-shifted r w home i).right; entry = (context-shifted r w home i).entry; saved = λ t. None }

      job-shifted : (q + r) + 1 ≡ shifted_job r (q + 1)
      job-shifted = let sum : (q + r) + 1 ≡ suc q + r = omega arith in let one : suc q ≡ q + 1 = omega arith in sum ∙ ap (shifted_job r) one

      pub begin-shifted : begin (shifted_world r w) (shifted_name r home) (q + r) ≡ shifted_world r (begin w home q)
      unfolding begin
      begin-shifted = (λ i. add_context (shifted_world r w) (job-shifted i) (begun_context-shifted i)) ∙ add_context-shifted r w (q + 1) (begun_context w home q)
