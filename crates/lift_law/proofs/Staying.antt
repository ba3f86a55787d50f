-- Capabilities stay full or empty in each call but a restriction that is accepted.
use Rattle.std.proofs.Common.{◌≡◌, ◌≢◌, inl, inr, ◌+◌, ◌*◌, refl, ℕ, Bool, true, false, cond, not, eqb, Option, Some, None, List, length}
use Rattle.std.specs.Prelude.{nat_le, nat_lt, slice_index, unwrap_or}
use Rattle.access_cap.specs.Kinds.{is_chosen}
use Rattle.guest_call.specs.Guest.{descriptor_for, link_of, with_answer}
use Rattle.guest_call.proofs.Targets.{target_links}
use Rattle.kernel_core.specs.Refused.{refusal_in}
use Rattle.lwc_base.specs.Capabilities.{empty_cap, full_cap}
use Rattle.lwc_base.specs.Cells.{slot_at}
use Rattle.lwc_base.specs.Channels.{Channels}
use Rattle.lwc_base.specs.Holders.{Keeps}
use Rattle.lwc_base.specs.Life.{HasItsContexts}
use Rattle.lwc_base.specs.Memory.{is_present}
use Rattle.lwc_base.specs.Rights.{is_writable}
use Rattle.lwc_base.specs.Slots.{lowest_empty}
use Rattle.lwc_base.specs.Store.{Absent, Done, Full, Piece, ReadOnly, after_store, store}
use Rattle.lwc_base.specs.World.{World, is_live, next_context}
use Rattle.lwc_base.specs.declared.descriptor.Cap.{Cap}
use Rattle.lwc_base.specs.declared.descriptor.Descriptor.{Descriptor}
use Rattle.lwc_base.specs.declared.descriptor.Descriptor.TheVariants.{Empty, Console, File, Request, Reply, Ctx}
use Rattle.lwc_types.specs.declared.key.TheConstants.{SLOTS}
use Rattle.lwc_types.specs.declared.key.Kind.TheVariants as kinds
use Rattle.lwc_types.specs.declared.name.Name.{Name}
use Rattle.lwc_types.specs.declared.page.TheConstants.{PAGE_BYTES}
use Rattle.lwc_types.specs.declared.refusal.Refusal.{Refusal}
use Rattle.lwc_types.specs.declared.regs.Regs.{Regs}
use Rattle.lwc_create.specs.Create as creating
use Rattle.lwc_overlay.specs.Named as named
use Rattle.lwc_overlay.specs.Named.{link}
use Rattle.lwc_overlay.specs.OverlayCall as overlaying
use Rattle.lwc_overlay.specs.RestrictCall as restricting
use Rattle.lwc_switch.specs.Switch as switching
use Rattle.lwc_syscall.specs.Plain as calls
use Rattle.lwc_syscall.specs.Plain.{Outcome, moved, placed, plain, read_on, refused_or, store_at, world_after}
use Rattle.lwc_syscall.specs.Syscall as syscalls
use Rattle.lwc_syscall.specs.declared.calls.CallContexts.{CallContexts}
use Rattle.lwc_syscall.specs.declared.plain_call.PlainCall.{PlainCall}
use Rattle.lwc_syscall.specs.declared.plain_call.PlainCall.TheVariants as plain_calls
use Rattle.res_spec.specs.declared.items.SpecCall.TheVariants as spec_call
use Rattle.lift_law.proofs.Whole.{IsWhole, whole, whole-at, whole-clone, whole-map, whole-overlay, whole-save, whole-slot, whole-store, whole-uid}

module _ (pages : ℕ) where
  read_on-whole : (count : ℕ) (d : Descriptor) → IsWhole pages d → IsWhole pages (read_on count d)
  read_on-whole count Empty is = tt
  read_on-whole count Console is = tt
  read_on-whole count (File file at) is = tt
  read_on-whole count (Request r at) is = tt
  read_on-whole count (Reply r) is = tt
  read_on-whole count (Ctx name cap) is = is

  abbrev pub KeepsWhole : World → Type 0
  KeepsWhole w = Keeps (whole pages) w

  module _ (w : World) (keeps : KeepsWhole w) where
    descriptor-whole : (c : Name) (n : ℕ) → is_live w c ≡ true → IsWhole pages (descriptor_for w c n)
    unfolding descriptor_for
    descriptor-whole c n live = by (nat_lt n SLOTS)
      where
        by : (b : Bool) → IsWhole pages (cond b (slot_at w c n) Empty)
        by true = whole-at pages w keeps c n live
        by false = tt

    pub stored-whole : (m : Name) (job : ℕ) (piece : Piece) → KeepsWhole (world_after w (store w m job piece))
    unfolding store
    stored-whole m job piece = by (is_present w m piece.at (length piece.bytes)) (is_writable w m piece.at (length piece.bytes)) _
      where
        by : (a b d : Bool) → KeepsWhole (world_after w (cond (not a) Absent (cond (not b) ReadOnly (cond d Full (Done (after_store w m job piece))))))
        by false b d = keeps
        by true false d = keeps
        by true true true = keeps
        by true true false = whole-store pages w keeps m job piece

    -- a plain call
    module _ (io : Channels) (job : ℕ) (targets : CallContexts) (live : is_live w targets.slots ≡ true) where
      ends : (first : Option Refusal) (done : Outcome) → KeepsWhole done.world → KeepsWhole (refused_or w io done first).world
      ends None done is = is
      ends (Some refusal) done is = keeps

      placed-whole : (value : Descriptor) → IsWhole pages value → KeepsWhole (placed w io targets.slots value).world
      placed-whole value is = whole-slot pages w keeps targets.slots (unwrap_or (lowest_empty w targets.slots) 0) value is

      store_at-whole : (from : ℕ) (bytes : List ℕ) → KeepsWhole (world_after w (store_at w targets.memory job from bytes))
      unfolding store_at
      store_at-whole from bytes = by (eqb (length bytes) 0) (nat_le (from + length bytes) (w.size.pages * PAGE_BYTES))
        where
          by : (a b : Bool) → KeepsWhole (world_after w (cond a (Done w) (cond b (store w targets.memory job (record { at = from; bytes = bytes })) Absent)))
          by true b = keeps
          by false true = stored-whole targets.memory job (record { at = from; bytes = bytes })
          by false false = keeps

      reading-whole : (n from count : ℕ) → KeepsWhole (calls.reading w io targets job n from count).world
      unfolding calls.reading
      reading-whole n from count =
          let value = descriptor_for w targets.slots n in
          let bytes = moved io value count in
          ends _ _ (whole-slot pages _ (store_at-whole from bytes) targets.slots n (read_on (length bytes) value) (read_on-whole (length bytes) value (descriptor-whole targets.slots n live)))

      writing-whole : (n from count : ℕ) → KeepsWhole (calls.writing w io targets n from count).world
      unfolding calls.writing
      writing-whole n from count = ends _ _ keeps

      pub plain-whole : (call : Option PlainCall) (args : List ℕ) → KeepsWhole (plain w io targets job call args).world
      unfolding plain
      plain-whole None args = keeps
      plain-whole (Some plain_calls.Open) args = ends _ _ (placed-whole (File (slice_index args 0) 0) tt)
      plain-whole (Some plain_calls.Close) args = ends _ _ (whole-slot pages w keeps targets.slots (slice_index args 0) Empty tt)
      plain-whole (Some plain_calls.Dup) args = ends _ _ (placed-whole _ (descriptor-whole targets.slots (slice_index args 0) live))
      plain-whole (Some plain_calls.Read) args = reading-whole (slice_index args 0) (slice_index args 1) (slice_index args 2)
      plain-whole (Some plain_calls.Write) args = writing-whole (slice_index args 0) (slice_index args 1) (slice_index args 2)
      plain-whole (Some plain_calls.Map) args = ends _ _ (whole-map pages w keeps targets.memory (slice_index args 0) (slice_index args 1) true)
      plain-whole (Some plain_calls.Unmap) args = ends _ _ (whole-map pages w keeps targets.memory (slice_index args 0) (slice_index args 1) false)
      plain-whole (Some plain_calls.GetUid) args = keeps
      plain-whole (Some plain_calls.SetUid) args = ends _ _ (whole-uid pages w keeps targets.cred (slice_index args 0))
      plain-whole (Some plain_calls.Exit) args = keeps

-- the context that a descriptor names, and else another one
abbrev link_or : Name → Descriptor → Name × Cap
link_or c d = unwrap_or (link_of d) (c, empty_cap)

module _ (c : Name) (job t : ℕ) (w : World) (io : Channels) (keeps : KeepsWhole w.size.pages w) (live : is_live w c ≡ true) (named_live : HasItsContexts w) (regs : Regs) where
  abbrev pages : ℕ
  pages = w.size.pages

  abbrev d : Descriptor
  d = descriptor_for w c (slice_index regs.r 1)

  -- the context that the slot names lives
  link-live : is_live w (link_or c d).0 ≡ true
  link-live = by (link_of d) refl
    where
      by : (o : Option (Name × Cap)) → link_of d ≡ o → is_live w (unwrap_or o (c, empty_cap)).0 ≡ true
      by None is = live
      by (Some l) is = named_live.live c l.0 live (target_links w c (slice_index regs.r 1) l is)

  created-whole : (slot : ℕ) (first : Option Refusal) → KeepsWhole pages (creating.ended w c job regs slot first).1
  created-whole slot (Some refusal) = keeps
  created-whole slot None =
      whole-slot pages _ (whole-clone pages w keeps c job (creating.items_of w c regs) (creating.after_call regs creating.no_caller) live) c slot (Ctx (next_context w job) (full_cap pages)) (inl refl)

  pub create-whole : KeepsWhole pages (creating.create w c job regs).1
  unfolding creating.create
  create-whole = created-whole _ _

  switched-whole : (slot : ℕ) (first : Option Refusal) → KeepsWhole pages (switching.ended w c t regs (switching.target w c regs) slot first).1
  switched-whole slot (Some refusal) = keeps
  switched-whole slot None = whole-slot pages _ (whole-save pages w keeps c t (with_answer regs 0)) (switching.target w c regs) slot (Ctx c empty_cap) (inr refl)

  pub switch-whole : KeepsWhole pages (switching.switch w c t regs).1
  unfolding switching.switch
  switch-whole = switched-whole _ _

  refused_restriction : (first : Option Refusal) → refusal_in (restricting.ended w c regs first).0 ≢ None → KeepsWhole pages (restricting.ended w c regs first).1
  refused_restriction (Some refusal) refused = keeps
  refused_restriction None refused = absurd (refused refl)

  pub restrict-whole : refusal_in (restricting.restrict w c regs).0 ≢ None → KeepsWhole pages (restricting.restrict w c regs).1
  unfolding restricting.restrict
  restrict-whole refused = refused_restriction _ refused

  overlaid-whole : (first : Option Refusal) → KeepsWhole pages (overlaying.ended w c job regs first).1
  unfolding link
  overlaid-whole (Some refusal) = keeps
  overlaid-whole None = whole-overlay pages w keeps c (link_or c d).0 job (named.items_of w c spec_call.Overlay regs) link-live

  pub overlay-whole : KeepsWhole pages (overlaying.overlay w c job regs).1
  unfolding overlaying.overlay
  overlay-whole = overlaid-whole _

  slots-live : is_live w (syscalls.targets_of w c regs).slots ≡ true
  slots-live = by (is_chosen (syscalls.mask_in regs) kinds.Slot)
    where
      by : (b : Bool) → is_live w (cond b (link_or c d).0 c) ≡ true
      by true = link-live
      by false = live

  pub syscall-whole : KeepsWhole pages (syscalls.lw_syscall w io c job regs).world
  unfolding syscalls.lw_syscall
  syscall-whole = ends pages w keeps io job (syscalls.targets_of w c regs) slots-live _ _
      (plain-whole pages w keeps io job (syscalls.targets_of w c regs) slots-live (syscalls.inner_call regs) (syscalls.inner_args regs))
