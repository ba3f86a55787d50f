-- Descriptors that can be written, and what is written, in the worlds that acts come to.
use Rattle.std.proofs.Common.{◌≡◌, ◌⊎◌, inl, inr, ℕ, ◌<◌, Bool, true, false, cond, ltb, Option, None, Some, List, [], length, refl, ap, sym, subst, ◌∙◌}
use Rattle.std.proofs.lemmas.Bool.{ltb-true}
use Rattle.std.specs.Prelude.{slice_index, unwrap_or}
use Rattle.guest_call.specs.Guest.{descriptor_for}
use Rattle.lwc_base.specs.declared.descriptor.Descriptor.{Descriptor}
use Rattle.lwc_base.specs.declared.descriptor.Descriptor.TheVariants.{Console, Ctx, Empty, File, Reply, Request}
use Rattle.lwc_base.specs.declared.item.Item.{Item}
use Rattle.lwc_base.specs.declared.item.Mode.{Mode}
use Rattle.lwc_base.specs.Memory.{bytes_for}
use Rattle.lwc_base.specs.Cells.{put_slot, put_uid, slot_at}
use Rattle.lwc_base.specs.Channels.{Channels}
use Rattle.lwc_base.specs.Facts.{ChangesContext}
use Rattle.lwc_base.specs.Fresh.{IsFresh}
use Rattle.lwc_base.specs.Mapping.{mapped_or_not, with_pages}
use Rattle.lwc_base.specs.Modes.{mode}
use Rattle.lwc_base.specs.Overlay.{IsOverlay, overlay}
use Rattle.lwc_base.specs.Saved.{save}
use Rattle.lwc_base.specs.Sharing.{clone_context, share}
use Rattle.lwc_base.specs.Slots.{lowest_empty}
use Rattle.lwc_base.specs.Sound.{HasItsGroups}
use Rattle.lwc_base.specs.Store as stores
use Rattle.lwc_base.specs.Store.{Piece, Stored, store}
use Rattle.lwc_base.specs.World.{World, Context, context, is_live, next_context}
use Rattle.lwc_types.specs.declared.key.TheConstants.{SLOTS}
use Rattle.lwc_types.specs.declared.key.Key.TheVariants.{Slot, Cred}
use Rattle.lwc_types.specs.declared.name.Name.{Name}
use Rattle.lwc_types.specs.declared.page.PageValue.{PageValue}
use Rattle.lwc_types.specs.declared.regs.Regs.{Regs}
use Rattle.lwc_syscall.specs.Plain as calls
use Rattle.lwc_syscall.specs.Plain.{Outcome, answering, is_written, moved, placed, plain, read_on, store_at, world_after, written}
use Rattle.lwc_syscall.specs.declared.calls.CallContexts.{CallContexts}
use Rattle.lwc_syscall.specs.declared.plain_call.PlainCall.{PlainCall}
use Rattle.lwc_syscall.specs.declared.plain_call.PlainCall.TheVariants as call
use Rattle.lwc_syscall.proofs.Does.{ended-cases, stored-cases}
use Rattle.confinement.proofs.Decide.{name_or_not, value_same}
use Rattle.guest_call.proofs.Changes.{saving}
use Rattle.lwc_base.proofs.Common.{put-other_key}
use Rattle.lwc_base.proofs.Facts.{changes}
use Rattle.lwc_base.proofs.Overlays.{overlay-others, overlay-unnamed}
use Rattle.lwc_base.proofs.Slots.{put_slot-reads, slot_at-after_store, slot_at-clone, slot_at-new, slot_at-overlay}
use Rattle.lwc_base.proofs.Stored.{is_done}

-- a slot that may be copied has a descriptor that can be written
abbrev pub Source : (Name → ℕ → Type 0) → World → Type 0
Source copies w = (a : Name) × (i : ℕ) × copies a i × (i < SLOTS) × (is_written (slot_at w a i) ≡ true)

-- a slot has had a descriptor that can be written, or one that may be copied has one
abbrev pub Had : (Name → ℕ → Type 0) → World → Name → ℕ → Type 0
Had copies w e n = (is_written (slot_at w e n) ≡ true) ⊎ Source copies w

-- each slot that has a descriptor that can be written had one, or one that may be copied
abbrev pub Voices : (Name → ℕ → Type 0) → World → World → Type 0
Voices copies w v = (e : Name) (n : ℕ) → is_live v e ≡ true → n < SLOTS → is_written (slot_at v e n) ≡ true → Had copies w e n

no_voice : {P : Type 0} (value : Descriptor) → is_written value ≡ false → is_written value ≡ true → P
no_voice value silent speaks = absurd (let no : true ≡ false = sym speaks ∙ silent in cc)

-- what is read under a slot is the same in a world
abbrev pub SameSlots : World → World → Type 0
SameSlots w v = (e : Name) (n : ℕ) → is_live v e ≡ true → slot_at v e n ≡ slot_at w e n

pub same_stored : (w v : World) (c : Name) (job : ℕ) (piece : Piece) → store w c job piece ≡ stores.Done v → SameSlots w v
same_stored w v c job piece is e n live = ap (λ (u : World). slot_at u e n) (is_done w c job piece v is).after ∙ slot_at-after_store w c job piece e n

pub same_saved : (w : World) (c : Name) (t : ℕ) (regs : Regs) → SameSlots w (save w c t regs)
same_saved w c t regs e n live = (saving w c t regs).values e (Slot n)

same_pages : (w : World) (c : Name) (from to : ℕ) (value : Option PageValue) (v : World) → ChangesContext w c (with_pages from to value) v → SameSlots w v
same_pages w c from to value v changed e n live = value_same w v e (Slot n) cell changed.groups
  where
    cell : (context v e).cell (Slot n) ≡ (context w e).cell (Slot n)
    cell = elim (name_or_not e c) [
      | inl same ↦
          let here : is_live w c ≡ true = sym (changed.names.live c) ∙ subst (λ (d : Name). is_live v d ≡ true) same live in
          subst (λ (d : Name). (context v d).cell (Slot n) ≡ (context w d).cell (Slot n)) (sym same) (ap (λ (x : Context). x.cell (Slot n)) (changed.changed here))
      | inr other ↦ ap (λ (x : Context). x.cell (Slot n)) (changed.others e other)
    ]

same_mapped : (w : World) (c : Name) (from to : ℕ) (present : Bool) → SameSlots w (mapped_or_not w c from to present)
same_mapped w c from to true = same_pages w c from to _ _ (changes.mapped w c from to)
same_mapped w c from to false = same_pages w c from to _ _ (changes.unmapped w c from to)

module _ (copies : Name → ℕ → Type 0) (w : World) where
  pub voices_same : (v : World) → SameSlots w v → Voices copies w v
  voices_same v same e n live slot speaks = inl (ap is_written (sym (same e n live)) ∙ speaks)

  -- a slot is put in a world whose slots are the same
  pub voices_put : (u : World) → SameSlots w u → (c : Name) (i : ℕ) (value : Descriptor) → ((e : Name) → is_live (put_slot u c i value) e ≡ true → is_live u e ≡ true) →
      (is_written value ≡ true → Source copies w) → Voices copies w (put_slot u c i value)
  voices_put u same c i value lives source e n live slot speaks = elim (put_slot-reads u c i value e n) [
    | inl old ↦ inl (ap is_written (sym (same e n (lives e live))) ∙ (ap is_written (sym old) ∙ speaks))
    | inr new ↦ inr (source (ap is_written (sym new.0) ∙ speaks))
  ]

  -- and one that nothing can be written through
  pub voices_put_on : (u : World) → Voices copies w u → (c : Name) (i : ℕ) (value : Descriptor) → is_written value ≡ false → Voices copies w (put_slot u c i value)
  voices_put_on u was c i value silent e n live slot speaks = elim (put_slot-reads u c i value e n) [
    | inl old ↦ was e n (sym ((changes.put u c (Slot i) value).live e) ∙ live) slot (ap is_written (sym old) ∙ speaks)
    | inr new ↦ no_voice value silent (ap is_written (sym new.0) ∙ speaks)
  ]

  pub voices_cloned : (fresh : IsFresh w) (c : Name) (job : ℕ) (items : List Item) (entry : Regs) → ((n : ℕ) → copies c n) → Voices copies w (clone_context w c job items entry)
  voices_cloned fresh c job items entry own e n live slot speaks = elim (name_or_not e (next_context (share w c job items) job)) [
    | inr other ↦ inl (ap is_written (sym (slot_at-clone w c job items fresh entry e n other)) ∙ speaks)
    | inl same ↦
        let there : is_written (slot_at (clone_context w c job items entry) (next_context (share w c job items) job) n) ≡ true = subst (λ (d : Name). is_written (slot_at (clone_context w c job items entry) d n) ≡ true) same speaks in
        elim (slot_at-new w c job items fresh entry n) [
          | inl empty ↦ no_voice Empty refl (ap is_written (sym empty) ∙ there)
          | inr had ↦ inr (c, n, own n, slot, ap is_written (sym had) ∙ there)
        ]
  ]

  pub voices_overlaid : (fresh : IsFresh w) (groups : HasItsGroups w) (to d : Name) (job : ℕ) (items : List Item) → is_live w to ≡ true → is_live w d ≡ true → ((n : ℕ) (m : Mode) → n < SLOTS → mode items (Slot n) ≡ Some m → copies d n) →
      Voices copies w (overlay w to d job items)
  voices_overlaid fresh groups to d job items live_to live_d given e n live slot speaks = elim (name_or_not e to) [
    | inr other ↦ inl (ap is_written (sym (overlay-others w (overlay w to d job items) to d items made e (Slot n) was other)) ∙ speaks)
    | inl same ↦ subst (λ (a : Name). Had copies w a n) (sym same) (by_item (mode items (Slot n)) refl (subst (λ (a : Name). is_written (slot_at (overlay w to d job items) a n) ≡ true) same speaks))
  ]
    where
      made : IsOverlay w (overlay w to d job items) to d items
      made = record { job = job; fresh = fresh; groups = groups; taker = live_to; giver = live_d; made = refl }

      was : is_live w e ≡ true
      was = sym ((changes.shared w d job items).live e) ∙ (sym ((changes.overlaid w to d job items).names.live e) ∙ live)

      by_item : (o : Option Mode) → mode items (Slot n) ≡ o → is_written (slot_at (overlay w to d job items) to n) ≡ true → Had copies w to n
      by_item None is there = inl (ap is_written (sym (overlay-unnamed w (overlay w to d job items) to d items made (Slot n) is)) ∙ there)
      by_item (Some m) is there = elim (slot_at-overlay w to d job items fresh live_to to n) [
        | inl old ↦ inl (ap is_written (sym old) ∙ there)
        | inr rest ↦ elim rest [
          | inl empty ↦ no_voice Empty refl (ap is_written (sym empty) ∙ there)
          | inr had ↦ inr (d, n, given n m slot is, slot, ap is_written (sym had) ∙ there)
        ]
      ]

  -- what is found under a number
  found_voice : (s : Name) (n : ℕ) → is_written (descriptor_for w s n) ≡ true → (n < SLOTS) × (is_written (slot_at w s n) ≡ true)
  unfolding descriptor_for
  found_voice s n speaks = by_test (ltb n SLOTS) refl speaks
    where
      by_test : (b : Bool) → ltb n SLOTS ≡ b → is_written (cond b (slot_at w s n) Empty) ≡ true → (n < SLOTS) × (is_written (slot_at w s n) ≡ true)
      by_test true is speaks = (ltb-true n SLOTS is, speaks)
      by_test false is speaks = no_voice Empty refl speaks

  module _ (io : Channels) (targets : CallContexts) (job : ℕ) (own : (n : ℕ) → n < SLOTS → copies targets.slots n) where
    abbrev V : Outcome → Type 0
    V o = Voices copies w o.world

    none : Voices copies w w
    none = voices_same w (λ e n live. refl)

    from_slot : (n : ℕ) → is_written (descriptor_for w targets.slots n) ≡ true → Source copies w
    from_slot n speaks = let found = found_voice targets.slots n speaks in (targets.slots, n, own n found.0, found.0, found.1)

    put_here : (n : ℕ) (value : Descriptor) → (is_written value ≡ true → Source copies w) → Voices copies w (put_slot w targets.slots n value)
    put_here n value = voices_put w (λ e i live. refl) targets.slots n value (λ e live. sym ((changes.put w targets.slots (Slot n) value).live e) ∙ live)

    read_voice : (count : ℕ) (value : Descriptor) → is_written (read_on count value) ≡ is_written value
    read_voice count Empty = refl
    read_voice count Console = refl
    read_voice count (File a b) = refl
    read_voice count (Request a b) = refl
    read_voice count (Reply a) = refl
    read_voice count (Ctx a b) = refl

    stored_same : (piece : Piece) (s : Stored) → (s ≡ stores.Done w) ⊎ ((s ≡ stores.Absent) ⊎ (s ≡ store w targets.memory job piece)) → SameSlots w (world_after w s)
    stored_same piece (stores.Done v) (inl same) e n live = let is : v ≡ w = cc in ap (λ (u : World). slot_at u e n) is
    stored_same piece (stores.Done v) (inr (inl same)) e n live = absurd cc
    stored_same piece (stores.Done v) (inr (inr is)) e n live = same_stored w v targets.memory job piece (sym is) e n live
    stored_same piece stores.Absent how e n live = refl
    stored_same piece stores.ReadOnly how e n live = refl
    stored_same piece stores.Full how e n live = refl

    reading_voices : (n at count : ℕ) → V (calls.reading w io targets job n at count)
    unfolding calls.reading
    reading_voices n at count =
        let value = descriptor_for w targets.slots n in
        let bytes = moved io value count in
        let stored = store_at w targets.memory job at bytes in
        let same = stored_same (record { at = at; bytes = bytes }) stored (stored-cases w targets.memory job at bytes) in
        ended-cases V w io (calls.read_refusals io value count stored) (answering (length bytes) (put_slot (world_after w stored) targets.slots n (read_on (length bytes) value)) io) (λ _. none)
        (λ _. voices_put (world_after w stored) same targets.slots n (read_on (length bytes) value) (λ e live. sym ((changes.put (world_after w stored) targets.slots (Slot n) (read_on (length bytes) value)).live e) ∙ live)
        (λ speaks. from_slot n (sym (read_voice (length bytes) value) ∙ speaks)))

    writing_voices : (n at count : ℕ) → V (calls.writing w io targets n at count)
    unfolding calls.writing
    writing_voices n at count = ended-cases V w io (calls.write_refusals io (descriptor_for w targets.slots n) count (bytes_for w targets.memory at count)) (answering count w (written io (descriptor_for w targets.slots n) (unwrap_or (bytes_for w targets.memory at count) []))) (λ _. none) (λ _. none)

    becoming_voices : (uid : ℕ) → V (calls.becoming w io targets.cred uid)
    becoming_voices uid = ended-cases V w io (calls.uid_refusals w targets.cred uid) (answering 0 (put_uid w targets.cred uid) io) (λ _. none) (λ _. voices_same (put_uid w targets.cred uid) (λ e n live. put-other_key w targets.cred Cred uid e (Slot n) (λ is. absurd cc)))

    mapping_voices : (from to : ℕ) (present : Bool) → V (calls.mapping w io targets.memory from to present)
    mapping_voices from to present = ended-cases V w io (calls.map_refusals w targets.memory from to present) (answering 0 (mapped_or_not w targets.memory from to present) io) (λ _. none) (λ _. voices_same (mapped_or_not w targets.memory from to present) (same_mapped w targets.memory from to present))

    pub plain_voices : (call : Option PlainCall) (args : List ℕ) → V (plain w io targets job call args)
    unfolding plain
    plain_voices None args = none
    plain_voices (Some call.Open) args = ended-cases V w io (calls.open_refusals w io targets (slice_index args 0)) (placed w io targets.slots (File (slice_index args 0) 0)) (λ _. none) (λ _. put_here (unwrap_or (lowest_empty w targets.slots) 0) (File (slice_index args 0) 0) (λ speaks. no_voice (File (slice_index args 0) 0) refl speaks))
    plain_voices (Some call.Close) args = ended-cases V w io (calls.close_refusals w targets.slots (slice_index args 0)) (answering 0 (put_slot w targets.slots (slice_index args 0) Empty) io) (λ _. none) (λ _. put_here (slice_index args 0) Empty (λ speaks. no_voice Empty refl speaks))
    plain_voices (Some call.Dup) args = ended-cases V w io (calls.copy_refusals w targets.slots (slice_index args 0)) (placed w io targets.slots (descriptor_for w targets.slots (slice_index args 0))) (λ _. none) (λ _. put_here (unwrap_or (lowest_empty w targets.slots) 0) (descriptor_for w targets.slots (slice_index args 0)) (from_slot (slice_index args 0)))
    plain_voices (Some call.Read) args = reading_voices (slice_index args 0) (slice_index args 1) (slice_index args 2)
    plain_voices (Some call.Write) args = writing_voices (slice_index args 0) (slice_index args 1) (slice_index args 2)
    plain_voices (Some call.Map) args = mapping_voices (slice_index args 0) (slice_index args 1) true
    plain_voices (Some call.Unmap) args = mapping_voices (slice_index args 0) (slice_index args 1) false
    plain_voices (Some call.GetUid) args = none
    plain_voices (Some call.SetUid) args = becoming_voices (slice_index args 0)
    plain_voices (Some call.Exit) args = none

    -- nothing is written but through a slot whose descriptor can be written
    abbrev Speaks : Outcome → Type 0
    Speaks o = (o.io ≡ io) ⊎ Source copies w

    mute : (value : Descriptor) (bytes : List ℕ) → is_written value ≡ false → written io value bytes ≡ io
    mute Empty bytes is = refl
    mute Console bytes is = absurd cc
    mute (File a b) bytes is = refl
    mute (Request a b) bytes is = refl
    mute (Reply a) bytes is = absurd cc
    mute (Ctx a b) bytes is = refl

    writing_speaks : (n at count : ℕ) → Speaks (calls.writing w io targets n at count)
    unfolding calls.writing
    writing_speaks n at count = ended-cases Speaks w io (calls.write_refusals io (descriptor_for w targets.slots n) count (bytes_for w targets.memory at count)) (answering count w (written io (descriptor_for w targets.slots n) (unwrap_or (bytes_for w targets.memory at count) []))) (λ _. inl refl) (λ _. by_value (is_written (descriptor_for w targets.slots n)) refl (unwrap_or (bytes_for w targets.memory at count) []))
      where
        by_value : (b : Bool) → is_written (descriptor_for w targets.slots n) ≡ b → (bytes : List ℕ) → (written io (descriptor_for w targets.slots n) bytes ≡ io) ⊎ Source copies w
        by_value true speaks bytes = inr (from_slot n speaks)
        by_value false silent bytes = inl (mute (descriptor_for w targets.slots n) bytes silent)

    reading_speaks : (n at count : ℕ) → Speaks (calls.reading w io targets job n at count)
    unfolding calls.reading
    reading_speaks n at count =
        let value = descriptor_for w targets.slots n in
        let bytes = moved io value count in
        let stored = store_at w targets.memory job at bytes in
        ended-cases Speaks w io (calls.read_refusals io value count stored) (answering (length bytes) (put_slot (world_after w stored) targets.slots n (read_on (length bytes) value)) io) (λ _. inl refl) (λ _. inl refl)

    mapping_speaks : (from to : ℕ) (present : Bool) → Speaks (calls.mapping w io targets.memory from to present)
    mapping_speaks from to present = ended-cases Speaks w io (calls.map_refusals w targets.memory from to present) (answering 0 (mapped_or_not w targets.memory from to present) io) (λ _. inl refl) (λ _. inl refl)

    becoming_speaks : (uid : ℕ) → Speaks (calls.becoming w io targets.cred uid)
    becoming_speaks uid = ended-cases Speaks w io (calls.uid_refusals w targets.cred uid) (answering 0 (put_uid w targets.cred uid) io) (λ _. inl refl) (λ _. inl refl)

    pub plain_speaks : (call : Option PlainCall) (args : List ℕ) → Speaks (plain w io targets job call args)
    unfolding plain
    plain_speaks None args = inl refl
    plain_speaks (Some call.Open) args = ended-cases Speaks w io (calls.open_refusals w io targets (slice_index args 0)) (placed w io targets.slots (File (slice_index args 0) 0)) (λ _. inl refl) (λ _. inl refl)
    plain_speaks (Some call.Close) args = ended-cases Speaks w io (calls.close_refusals w targets.slots (slice_index args 0)) (answering 0 (put_slot w targets.slots (slice_index args 0) Empty) io) (λ _. inl refl) (λ _. inl refl)
    plain_speaks (Some call.Dup) args = ended-cases Speaks w io (calls.copy_refusals w targets.slots (slice_index args 0)) (placed w io targets.slots (descriptor_for w targets.slots (slice_index args 0))) (λ _. inl refl) (λ _. inl refl)
    plain_speaks (Some call.Read) args = reading_speaks (slice_index args 0) (slice_index args 1) (slice_index args 2)
    plain_speaks (Some call.Write) args = writing_speaks (slice_index args 0) (slice_index args 1) (slice_index args 2)
    plain_speaks (Some call.Map) args = mapping_speaks (slice_index args 0) (slice_index args 1) true
    plain_speaks (Some call.Unmap) args = mapping_speaks (slice_index args 0) (slice_index args 1) false
    plain_speaks (Some call.GetUid) args = inl refl
    plain_speaks (Some call.SetUid) args = becoming_speaks (slice_index args 0)
    plain_speaks (Some call.Exit) args = inl refl
