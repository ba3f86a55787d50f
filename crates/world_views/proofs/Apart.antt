-- Calls of a job leave each job what is its own, and are hidden from other jobs.
use Rattle.std.proofs.Common.{◌≡◌, ◌≢◌, ℕ, ◌+◌, refl, sym, ap, subst, ◌∙◌, Bool, Option, Some, None, List, ◌++◌, length}
use Rattle.std.specs.Prelude.{slice_get, slice_index}
use Rattle.guest_call.specs.Guest.{descriptor_for, with_answer}
use Rattle.lwc_base.specs.Capabilities.{empty_cap, full_cap}
use Rattle.lwc_base.specs.Cells.{put_slot, put_uid}
use Rattle.lwc_base.specs.Channels.{Channels, bytes_in}
use Rattle.lwc_base.specs.Mapping.{mapped_or_not}
use Rattle.lwc_base.specs.Refusals.{first_refusal}
use Rattle.lwc_base.specs.Sharing.{clone_context}
use Rattle.lwc_base.specs.Store.{Piece, after_store}
use Rattle.lwc_base.specs.World.{World, next_context}
use Rattle.lwc_base.specs.declared.answer.Moved.TheVariants.{To}
use Rattle.lwc_base.specs.declared.answer.Moved.TheVariants as moved
use Rattle.lwc_base.specs.declared.answer.Moved.{Moved}
use Rattle.lwc_base.specs.declared.descriptor.Descriptor.{Descriptor}
use Rattle.lwc_base.specs.declared.descriptor.Descriptor.TheVariants.{Empty, Console, File, Request, Reply, Ctx}
use Rattle.lwc_types.specs.declared.key.Key.TheVariants.{Cred, Slot}
use Rattle.lwc_types.specs.declared.name.Name.{Name}
use Rattle.lwc_types.specs.declared.refusal.Refusal.{Refusal}
use Rattle.lwc_types.specs.declared.regs.Regs.{Regs}
use Rattle.lwc_create.specs.Create as creating
use Rattle.lwc_overlay.specs.Named as named
use Rattle.lwc_overlay.specs.Named.{link}
use Rattle.lwc_overlay.specs.OverlayCall as overlaying
use Rattle.lwc_overlay.specs.RestrictCall as restricting
use Rattle.lwc_switch.specs.Switch as switching
use Rattle.lwc_syscall.specs.Plain.{Outcome, answering, placed, plain, read_on, store_at, world_after, written}
use Rattle.lwc_syscall.specs.Plain as calls
use Rattle.lwc_syscall.specs.Syscall as syscalls
use Rattle.lwc_syscall.specs.declared.answer.CallAnswer.{CallAnswer}
use Rattle.lwc_syscall.specs.declared.calls.CallContexts.{CallContexts}
use Rattle.lwc_syscall.specs.declared.plain_call.PlainCall.{PlainCall}
use Rattle.res_spec.specs.declared.items.SpecCall.TheVariants as spec_call
use Rattle.world_views.proofs.Calling.{target_job}
use Rattle.world_views.proofs.JobPlainly.{all_calls, by_refusal, slice_get-other, store_at_cases}
use Rattle.world_views.proofs.Keeping.{changes-hidden, changes-keep}
use Rattle.world_views.proofs.Seen.{descriptor_fits, link_job, read_fits, three_own}
use Rattle.world_views.specs.ByJob.{Home, IsSlotOf, KeepsJobs}
use Rattle.world_views.specs.Ends.{AreOf}
use Rattle.world_views.specs.JobFacts.{ChangesHidden, ChangesKeepJobs}
use Rattle.world_views.specs.Views.{channel_view, view}

-- a change by a job leaves each job what is its own, and no other job sees it
pub record LeavesOthers (home : Home) (own : ℕ) (w v : World) : Type 0 where
  pub kept : KeepsJobs home v
  pub hidden : (job t : ℕ) → own ≢ job → view job t v ≡ view job t w

module _ (home : Home) where
  leaves_then : (own : ℕ) (u v w : World) → LeavesOthers home own u v → LeavesOthers home own v w → LeavesOthers home own u w
  leaves_then own u v w first second = record { kept = second.kept; hidden = λ job t other. second.hidden job t other ∙ first.hidden job t other }

  module _ (c : Name) (w : World) (some : c.job ≢ 0) (keeps : KeepsJobs home w) where
    abbrev kept : ChangesKeepJobs home c w
    kept = changes-keep home c w some keeps

    abbrev hidden : (job t : ℕ) → c.job ≢ job → ChangesHidden job t c w
    hidden job t other = changes-hidden home c w keeps.kept job t other

    leaves_same : LeavesOthers home c.job w w
    leaves_same = record { kept = keeps; hidden = λ job t other. refl }

    leaves_slot : (n : ℕ) (value : Descriptor) → IsSlotOf c.job value → LeavesOthers home c.job w (put_slot w c n value)
    leaves_slot n value fits = record { kept = kept.put (Slot n) value fits; hidden = λ job t other. (hidden job t other).put (Slot n) value }

    leaves_uid : (uid : ℕ) → LeavesOthers home c.job w (put_uid w c uid)
    leaves_uid uid = record { kept = kept.put Cred uid tt; hidden = λ job t other. (hidden job t other).put Cred uid }

    leaves_mapped : (from to : ℕ) (present : Bool) → LeavesOthers home c.job w (mapped_or_not w c from to present)
    leaves_mapped from to present = record { kept = kept.map from to present; hidden = λ job t other. (hidden job t other).map from to present }

    pub leaves_stored : (piece : Piece) → LeavesOthers home c.job w (after_store w c c.job piece)
    leaves_stored piece = record { kept = kept.store piece; hidden = λ job t other. (hidden job t other).store piece }

    -- what a slot has is of the job
    slot_fits : (n : ℕ) → IsSlotOf c.job (descriptor_for w c n)
    slot_fits = descriptor_fits home c w keeps.kept

  module _ (c : Name) (w : World) (some : c.job ≢ 0) (keeps : KeepsJobs home w) (regs : Regs) where
    created_leaves : (slot : ℕ) (first : Option Refusal) → LeavesOthers home c.job w (creating.ended w c c.job regs slot first).1
    created_leaves slot (Some refusal) = leaves_same c w some keeps
    created_leaves slot None =
        let items = creating.items_of w c regs in
        let entry = creating.after_call regs creating.no_caller in
        let clone : LeavesOthers home c.job w (clone_context w c c.job items entry) =
        record { kept = (changes-keep home c w some keeps).clone items entry; hidden = λ job t other. (changes-hidden home c w keeps.kept job t other).clone items entry } in
        leaves_then c.job _ _ _ clone (leaves_slot c _ some clone.kept slot (Ctx (next_context w c.job) (full_cap w.size.pages)) refl)

    pub create-leaves : LeavesOthers home c.job w (creating.create w c c.job regs).1
    unfolding creating.create
    create-leaves = created_leaves _ _

    abbrev aim : Name
    aim = switching.target w c regs

    aim_job : aim.job ≡ c.job
    unfolding switching.target
    aim_job = target_job c.job c (descriptor_for w c (slice_index regs.r 1)) refl (slot_fits c w some keeps (slice_index regs.r 1))

    switched_leaves : (t slot : ℕ) (first : Option Refusal) → LeavesOthers home c.job w (switching.ended w c t regs aim slot first).1
    switched_leaves t slot (Some refusal) = leaves_same c w some keeps
    switched_leaves t slot None =
        let saved : LeavesOthers home c.job w (switching.left w c t regs) =
        record { kept = (changes-keep home c w some keeps).save t (with_answer regs 0); hidden = λ job s other. (changes-hidden home c w keeps.kept job s other).save t (with_answer regs 0) } in
        leaves_then c.job _ _ _ saved
        (subst (λ j. LeavesOthers home j (switching.left w c t regs) (switching.switched w c t regs aim slot)) aim_job
        (leaves_slot aim _ (λ none. some (sym aim_job ∙ none)) saved.kept slot (Ctx c empty_cap) (sym aim_job)))

    pub switch-leaves : (t : ℕ) → LeavesOthers home c.job w (switching.switch w c t regs).1
    unfolding switching.switch
    switch-leaves t = switched_leaves t _ _

    link_own : (link w c regs).0.job ≡ c.job
    unfolding link
    link_own = link_job c.job c (descriptor_for w c (slice_index regs.r 1)) refl (slot_fits c w some keeps (slice_index regs.r 1))

    restricted_leaves : (first : Option Refusal) → LeavesOthers home c.job w (restricting.ended w c regs first).1
    restricted_leaves (Some refusal) = leaves_same c w some keeps
    restricted_leaves None = leaves_slot c w some keeps (slice_index regs.r 1) _ link_own

    pub restrict-leaves : LeavesOthers home c.job w (restricting.restrict w c regs).1
    unfolding restricting.restrict
    restrict-leaves = restricted_leaves _

    overlaid_leaves : (first : Option Refusal) → LeavesOthers home c.job w (overlaying.ended w c c.job regs first).1
    overlaid_leaves (Some refusal) = leaves_same c w some keeps
    overlaid_leaves None =
        let items = named.items_of w c spec_call.Overlay regs in
        record {
          kept = (changes-keep home c w some keeps).overlay (link w c regs).0 items link_own;
          hidden = λ job t other. (changes-hidden home c w keeps.kept job t other).overlay (link w c regs).0 items link_own;
        }

    pub overlay-leaves : LeavesOthers home c.job w (overlaying.overlay w c c.job regs).1
    unfolding overlaying.overlay
    overlay-leaves = overlaid_leaves _

  -- a switch stays in the job
  pub switch-target : (c d : Name) (t : ℕ) (w : World) (regs arrived : Regs) → KeepsJobs home w → (switching.switch w c t regs).0 ≡ To d arrived → d.job ≡ c.job
  unfolding switching.switch switching.target
  switch-target c d t w regs arrived keeps is =
      goes_to (switching.target w c regs) (target_job c.job c (descriptor_for w c (slice_index regs.r 1)) refl (descriptor_fits home c w keeps.kept (slice_index regs.r 1))) _ _ is
    where
      to_name : Moved → Name
      to_name (moved.To e r) = e
      to_name (moved.Refused refusal) = c

      goes_to : (e : Name) → e.job ≡ c.job → (slot : ℕ) (first : Option Refusal) → (switching.ended w c t regs e slot first).0 ≡ To d arrived → d.job ≡ c.job
      goes_to e own slot (Some refusal) to = cc
      goes_to e own slot None to = sym (ap (λ m. (to_name m).job) to) ∙ own

  -- plain calls
  module _ (own : ℕ) (targets : CallContexts) (w : World) (io : Channels) (some : own ≢ 0) (of : AreOf own targets) (keeps : KeepsJobs home w) where
    -- a change of one of the three contexts
    of_job : (c : Name) → c.job ≡ own → (v : World) → (c.job ≢ 0 → LeavesOthers home c.job w v) → LeavesOthers home own w v
    of_job c same v leaves = subst (λ j. LeavesOthers home j w v) same (leaves (λ none. some (sym same ∙ none)))

    Leaves : Outcome → Type 0
    Leaves outcome = LeavesOthers home own w outcome.world

    end_leaves : (first : Option Refusal) (done : Outcome) → Leaves done → Leaves (calls.refused_or w io done first)
    unfolding Leaves
    end_leaves first done leaves = by_refusal Leaves w io done first (λ refusal is. record { kept = keeps; hidden = λ job t other. refl }) (λ is. leaves)

    slot_of : (n : ℕ) → IsSlotOf targets.slots.job (descriptor_for w targets.slots n)
    slot_of = descriptor_fits home targets.slots w keeps.kept

    placed_leaves : (value : Descriptor) → IsSlotOf targets.slots.job value → Leaves (placed w io targets.slots value)
    unfolding Leaves
    placed_leaves value fits = of_job targets.slots of.slots _ (λ here. leaves_slot targets.slots w here keeps _ value fits)

    store_leaves : (piece : Piece) → LeavesOthers home own w (after_store w targets.memory own piece)
    store_leaves piece =
        of_job targets.memory of.memory _ (λ here. subst (λ j. LeavesOthers home targets.memory.job w (after_store w targets.memory j piece)) of.memory
        (leaves_stored targets.memory w here keeps piece))

    read_leaves : (n at : ℕ) (bytes : List ℕ) → LeavesOthers home own w (world_after w (store_at w targets.memory own at bytes))
    read_leaves n at bytes =
        let same : LeavesOthers home own w w = record { kept = keeps; hidden = λ job t other. refl } in
        store_at_cases (λ stored. LeavesOthers home own w (world_after w stored)) w targets.memory own at bytes same same same same (store_leaves (record { at = at; bytes = bytes }))

    reading_leaves : (n at count : ℕ) → Leaves (calls.reading w io targets own n at count)
    unfolding Leaves calls.reading
    reading_leaves n at count =
        let value = descriptor_for w targets.slots n in
        let bytes = calls.moved io value count in
        let stored = read_leaves n at bytes in
        end_leaves _ _ (leaves_then own _ _ _ stored
        (subst (λ j. LeavesOthers home j (world_after w (store_at w targets.memory own at bytes)) (put_slot (world_after w (store_at w targets.memory own at bytes)) targets.slots n (read_on (length bytes) value))) of.slots
        (leaves_slot targets.slots _ (λ none. some (sym of.slots ∙ none)) stored.kept n (read_on (length bytes) value) (read_fits targets.slots.job (length bytes) value (slot_of n)))))

    pub plain-leaves : (call : Option PlainCall) (args : List ℕ) → LeavesOthers home own w (plain w io targets own call args).world
    unfolding Leaves calls.writing
    plain-leaves call args =
        let same : LeavesOthers home own w w = record { kept = keeps; hidden = λ job t other. refl } in
        all_calls (λ a b. Leaves a) w w io io targets own call args (record {
          opens = end_leaves _ _ (placed_leaves (File (slice_index args 0) 0) tt);
          closes = end_leaves _ _ (of_job targets.slots of.slots _ (λ here. leaves_slot targets.slots w here keeps (slice_index args 0) Empty tt));
          copies = end_leaves _ _ (placed_leaves _ (slot_of (slice_index args 0)));
          reads = λ is. reading_leaves (slice_index args 0) (slice_index args 1) (slice_index args 2);
          writes = end_leaves _ _ same;
          maps = λ present. end_leaves _ _ (of_job targets.memory of.memory _ (λ here. leaves_mapped targets.memory w here keeps (slice_index args 0) (slice_index args 1) present));
          tells = same;
          becomes = end_leaves _ _ (of_job targets.cred of.cred _ (λ here. leaves_uid targets.cred w here keeps (slice_index args 0)));
          exits = same;
          refuses = same;
        })

  -- nor do other requests see what a plain call writes
  module _ (own r : ℕ) (targets : CallContexts) (w : World) (io : Channels) (other : own ≢ r + 1) (of : AreOf own targets) (keeps : KeepsJobs home w) where
    Same : Outcome → Type 0
    Same outcome = channel_view r outcome.io ≡ channel_view r io

    end_same : (first : Option Refusal) (done : Outcome) → Same done → Same (calls.refused_or w io done first)
    unfolding Same
    end_same first done same = by_refusal Same w io done first (λ refusal is. refl) (λ is. same)

    written_same : (value : Descriptor) (bytes : List ℕ) → IsSlotOf own value → channel_view r (written io value bytes) ≡ channel_view r io
    unfolding channel_view
    written_same Console bytes fits = absurd fits
    written_same (Reply q) bytes fits =
        λ i. record { files = io.files; request = slice_get io.requests r; reply = slice_get-other io.replies q r (bytes_in io.replies q ++ bytes) (λ same. other (sym fits ∙ ap (λ n. n + 1) same)) i }
    written_same Empty bytes fits = refl
    written_same (File file at) bytes fits = refl
    written_same (Request q at) bytes fits = refl
    written_same (Ctx name cap) bytes fits = refl

    keeps_io : (answer : CallAnswer) (v : World) → Same (record { answer = answer; world = v; io = io })
    unfolding Same
    keeps_io answer v = refl

    writes_io : (answer : CallAnswer) (v : World) (value : Descriptor) (bytes : List ℕ) → IsSlotOf own value → Same (record { answer = answer; world = v; io = written io value bytes })
    unfolding Same
    writes_io answer v value bytes fits = written_same value bytes fits

    plain_same : (call : Option PlainCall) (args : List ℕ) → Same (plain w io targets own call args)
    unfolding calls.reading calls.writing
    plain_same call args =
        let fits : IsSlotOf own (descriptor_for w targets.slots (slice_index args 0)) =
        subst (λ j. IsSlotOf j (descriptor_for w targets.slots (slice_index args 0))) of.slots (descriptor_fits home targets.slots w keeps.kept (slice_index args 0)) in
        all_calls (λ a b. Same a) w w io io targets own call args (record {
          opens = search (end_same, keeps_io);
          closes = search (end_same, keeps_io);
          copies = search (end_same, keeps_io);
          reads = λ is. search (end_same, keeps_io);
          writes = search (end_same, writes_io);
          maps = λ present. search (end_same, keeps_io);
          tells = search keeps_io;
          becomes = search (end_same, keeps_io);
          exits = search keeps_io;
          refuses = search keeps_io;
        })

    pub plain-same : (call : Option PlainCall) (args : List ℕ) → channel_view r (plain w io targets own call args).io ≡ channel_view r io
    unfolding Same
    plain-same call args = plain_same call args

  -- the call over contexts that a mask chooses
  module _ (c : Name) (w : World) (io : Channels) (regs : Regs) (keeps : KeepsJobs home w) where
    own_three : AreOf c.job (syscalls.targets_of w c regs)
    own_three = three_own home c w regs keeps.kept

    pub syscall-leaves : c.job ≢ 0 → LeavesOthers home c.job w (syscalls.lw_syscall w io c c.job regs).world
    unfolding syscalls.lw_syscall
    syscall-leaves some =
        by_refusal (λ outcome. LeavesOthers home c.job w outcome.world) w io _ (first_refusal (syscalls.refusals w c regs))
        (λ refusal is. record { kept = keeps; hidden = λ job t other. refl })
        (λ is. plain-leaves c.job (syscalls.targets_of w c regs) w io some own_three keeps (syscalls.inner_call regs) (syscalls.inner_args regs))

    pub syscall-same : (r : ℕ) → c.job ≢ r + 1 → channel_view r (syscalls.lw_syscall w io c c.job regs).io ≡ channel_view r io
    unfolding syscalls.lw_syscall
    syscall-same r other =
        by_refusal (λ outcome. channel_view r outcome.io ≡ channel_view r io) w io _ (first_refusal (syscalls.refusals w c regs)) (λ refusal is. refl)
        (λ is. plain-same c.job r (syscalls.targets_of w c regs) w io other own_three keeps (syscalls.inner_call regs) (syscalls.inner_args regs))
