-- The plain calls, and the call that makes one over chosen contexts, under other numbers.
use Rattle.std.proofs.Common.{◌≡◌, ℕ, zero, suc, ◌+◌, ◌*◌, ◌^◌, refl, sym, ap, ◌∙◌, Bool, true, false, ◌||◌, ◌&&◌, cond, eqb, leb, ltb, not, Option, Some, None, List, [], ◌∷◌, ◌++◌, length, arith}
use Rattle.std.specs.Prelude.{drop, is_none, replicate, slice_get, slice_index, slice_set, take, unwrap_or}
use Rattle.std.specs.Option.{option_map_or}
use Rattle.access_cap.specs.Kinds.{has_kinds, is_chosen}
use Rattle.guest_call.specs.Guest.{descriptor_for, link_of}
use Rattle.lwc_base.specs.Capabilities.{empty_cap}
use Rattle.lwc_base.specs.Cells.{put_slot, put_uid, uid_at}
use Rattle.lwc_base.specs.Channels.{Channels, bytes_in, may_open, may_set}
use Rattle.lwc_base.specs.Keys.{ValueOf}
use Rattle.lwc_base.specs.Mapping.{map_pages, mapped_or_not, on_pages, unmap_pages, with_zeros, without_pages, writable_in}
use Rattle.lwc_base.specs.Memory.{bytes_for}
use Rattle.lwc_base.specs.Ranges.{ranges_of}
use Rattle.lwc_base.specs.Refusals.{first_refusal}
use Rattle.lwc_base.specs.Slots.{lowest_empty}
use Rattle.lwc_base.specs.Store.{Stored, Absent, ReadOnly, Full, Done, store}
use Rattle.lwc_base.specs.Summaries.{is_empty}
use Rattle.lwc_base.specs.World.{World}
use Rattle.lwc_base.specs.declared.cell.Cell.{Cell}
use Rattle.lwc_base.specs.declared.cell.Cell.TheVariants.{Own}
use Rattle.lwc_base.specs.declared.descriptor.Descriptor.{Descriptor}
use Rattle.lwc_base.specs.declared.descriptor.Descriptor.TheVariants.{Empty, Console, File, Request, Reply, Ctx}
use Rattle.lwc_types.specs.declared.key.Key.{Key}
use Rattle.lwc_types.specs.declared.key.Key.TheVariants.{Page, Slot, Cred}
use Rattle.lwc_types.specs.declared.key.Kind.{Kind}
use Rattle.lwc_types.specs.declared.key.Kind.TheVariants as kinds
use Rattle.lwc_types.specs.declared.limits.TheConstants.{MOST_BYTES_OF_CALL, MOST_RANGES, MOST_REPLY_BYTES}
use Rattle.lwc_types.specs.declared.name.Name.{Name}
use Rattle.lwc_types.specs.declared.page.PageValue.{PageValue}
use Rattle.lwc_types.specs.declared.page.PageValue.TheVariants.{Zero}
use Rattle.lwc_types.specs.declared.page.TheConstants.{PAGE_BYTES}
use Rattle.lwc_types.specs.declared.refusal.Refusal.{Refusal}
use Rattle.lwc_types.specs.declared.refusal.Refusal.TheVariants as refusal
use Rattle.lwc_types.specs.declared.refusal.Refusal.TheVariants.{BadCall, BadFd, BadMode, WrongKind, BadAddress, BadRange, NoSlot, NoFrame, NotCovered, NotPermitted, NoFile, TooManyRanges, ReplyFull, TooLong}
use Rattle.lwc_types.specs.declared.regs.Regs.{Regs}
use Rattle.lwc_names.proofs.Answers.{shifted_end, shifted_stored, shifted_targets}
use Rattle.lwc_names.proofs.Asks.{bytes_for-shifted, empty-shifted, lowest-shifted, ranges_of-shifted}
use Rattle.lwc_names.proofs.Links.{descriptor-shifted, link_of-shifted, or-shifted, slot_refusals-shifted}
use Rattle.lwc_names.proofs.Puts.{branch, put_slot-shifted, put_uid-shifted}
use Rattle.lwc_names.proofs.Stores.{store-shifted}
use Rattle.lwc_names.proofs.Worlds.{change_context-shifted, value_at-shifted}
use Rattle.lwc_names.specs.Shifts.{shifted_cell, shifted_channels, shifted_context, shifted_descriptor, shifted_job, shifted_name, shifted_world}
use Rattle.lwc_syscall.specs.Plain as calls
use Rattle.lwc_syscall.specs.Plain.{Outcome}
use Rattle.lwc_syscall.specs.Syscall as chosen
use Rattle.lwc_syscall.specs.declared.calls.CallContexts.{CallContexts}
use Rattle.lwc_syscall.specs.declared.plain_call.PlainCall.{PlainCall}
use Rattle.lwc_syscall.specs.declared.plain_call.PlainCall.TheVariants as plain_calls

-- lists behind so many empty ones
pub past : (r q : ℕ) (lists : List (List ℕ)) → bytes_in (replicate r [] ++ lists) (q + r) ≡ bytes_in lists q
past zero q lists = let none : q + 0 ≡ q = omega arith in ap (bytes_in lists) none
past (suc r) q lists = let one : q + suc r ≡ suc (q + r) = omega arith in ap (bytes_in ([] ∷ (replicate r [] ++ lists))) one ∙ past r q lists

set_past : (r q : ℕ) (lists : List (List ℕ)) (x : List ℕ) → slice_set (replicate r [] ++ lists) (q + r) x ≡ replicate r [] ++ slice_set lists q x
set_past zero q lists x = let none : q + 0 ≡ q = omega arith in ap (λ i. slice_set lists i x) none
set_past (suc r) q lists x = let one : q + suc r ≡ suc (q + r) = omega arith in ap (λ i. slice_set ([] ∷ (replicate r [] ++ lists)) i x) one ∙ ap (λ l. [] ∷ l) (set_past r q lists x)

-- one of two, each under other numbers
pub pick : {A B : Type 0} (f : A → B) (b : Bool) (x y : A) (v w : B) → v ≡ f x → w ≡ f y → cond b v w ≡ f (cond b x y)
pick f b x y v w p q = (λ i. cond b (p i) (q i)) ∙ branch f b x y

module _ (r : ℕ) where
  read_on-shifted : (n : ℕ) (d : Descriptor) → calls.read_on n (shifted_descriptor r d) ≡ shifted_descriptor r (calls.read_on n d)
  read_on-shifted n Empty = refl
  read_on-shifted n Console = refl
  read_on-shifted n (File file at) = refl
  read_on-shifted n (Request q at) = refl
  read_on-shifted n (Reply q) = refl
  read_on-shifted n (Ctx name cap) = refl

  is_written-shifted : (d : Descriptor) → calls.is_written (shifted_descriptor r d) ≡ calls.is_written d
  is_written-shifted Empty = refl
  is_written-shifted Console = refl
  is_written-shifted (File file at) = refl
  is_written-shifted (Request q at) = refl
  is_written-shifted (Reply q) = refl
  is_written-shifted (Ctx name cap) = refl

  is_absent-shifted : (s : Stored) → calls.is_absent (shifted_stored r s) ≡ calls.is_absent s
  is_absent-shifted Absent = refl
  is_absent-shifted ReadOnly = refl
  is_absent-shifted Full = refl
  is_absent-shifted (Done v) = refl

  is_read_only-shifted : (s : Stored) → calls.is_read_only (shifted_stored r s) ≡ calls.is_read_only s
  is_read_only-shifted Absent = refl
  is_read_only-shifted ReadOnly = refl
  is_read_only-shifted Full = refl
  is_read_only-shifted (Done v) = refl

  is_full-shifted : (s : Stored) → calls.is_full (shifted_stored r s) ≡ calls.is_full s
  is_full-shifted Absent = refl
  is_full-shifted ReadOnly = refl
  is_full-shifted Full = refl
  is_full-shifted (Done v) = refl

  world_after-shifted : (w : World) (s : Stored) → calls.world_after (shifted_world r w) (shifted_stored r s) ≡ shifted_world r (calls.world_after w s)
  world_after-shifted w Absent = refl
  world_after-shifted w ReadOnly = refl
  world_after-shifted w Full = refl
  world_after-shifted w (Done v) = refl

  module _ (io : Channels) where
    left-shifted : (d : Descriptor) → calls.left (shifted_channels r io) (shifted_descriptor r d) ≡ calls.left io d
    unfolding shifted_channels
    left-shifted Empty = refl
    left-shifted Console = refl
    left-shifted (File file at) = refl
    left-shifted (Request q at) = ap (λ bytes. Some (drop at bytes)) (past r q io.requests)
    left-shifted (Reply q) = refl
    left-shifted (Ctx name cap) = refl

    moved-shifted : (d : Descriptor) (count : ℕ) → calls.moved (shifted_channels r io) (shifted_descriptor r d) count ≡ calls.moved io d count
    moved-shifted d count = ap (λ o. take count (unwrap_or o [])) (left-shifted d)

    limit-shifted : (d : Descriptor) (count : ℕ) → calls.passes_limit (shifted_channels r io) (shifted_descriptor r d) count ≡ calls.passes_limit io d count
    unfolding shifted_channels
    limit-shifted Empty count = refl
    limit-shifted Console count = refl
    limit-shifted (File file at) count = refl
    limit-shifted (Request q at) count = refl
    limit-shifted (Reply q) count = ap (λ bytes. ltb MOST_REPLY_BYTES (length bytes + count)) (past r q io.replies)
    limit-shifted (Ctx name cap) count = refl

    written-shifted : (d : Descriptor) (bytes : List ℕ) → calls.written (shifted_channels r io) (shifted_descriptor r d) bytes ≡ shifted_channels r (calls.written io d bytes)
    unfolding shifted_channels
    written-shifted Empty bytes = refl
    written-shifted Console bytes = refl
    written-shifted (File file at) bytes = refl
    written-shifted (Request q at) bytes = refl
    written-shifted (Reply q) bytes =
        λ i. record (shifted_channels r io) { replies = (ap (λ old. slice_set (replicate r [] ++ io.replies) (q + r) (old ++ bytes)) (past r q io.replies) ∙ set_past r q io.replies (bytes_in io.replies q ++ bytes)) i }
    written-shifted (Ctx name cap) bytes = refl

    files-shifted : (shifted_channels r io).files ≡ io.files
    unfolding shifted_channels
    files-shifted = refl

    module _ (w : World) where
      or-refused : (done other : Outcome) → other ≡ shifted_end r done → (why : Option Refusal) → calls.refused_or (shifted_world r w) (shifted_channels r io) other why ≡ shifted_end r (calls.refused_or w io done why)
      or-refused done other same None = same
      or-refused done other same (Some refusal) = refl

      ended-shifted : (rows others : List (Bool × Refusal)) (done other : Outcome) → others ≡ rows → other ≡ shifted_end r done → calls.ended (shifted_world r w) (shifted_channels r io) others other ≡ shifted_end r (calls.ended w io rows done)
      ended-shifted rows others done other same is =
          ap (λ l. calls.refused_or (shifted_world r w) (shifted_channels r io) other (first_refusal l)) same ∙ or-refused done other is (first_refusal rows)

      size-shifted : (shifted_world r w).size ≡ w.size
      unfolding shifted_world
      size-shifted = refl

      place-shifted : (s : Name) → calls.place_refusals (shifted_world r w) (shifted_name r s) ≡ calls.place_refusals w s
      place-shifted s = λ i. (is_none (lowest-shifted r w s i), NoSlot) ∷ []

      store_at-shifted : (m : Name) (job at : ℕ) (bytes : List ℕ) → calls.store_at (shifted_world r w) (shifted_name r m) (shifted_job r job) at bytes ≡ shifted_stored r (calls.store_at w m job at bytes)
      unfolding calls.store_at
      store_at-shifted m job at bytes =
          pick (shifted_stored r) (eqb (length bytes) 0) (Done w) (cond (leb (at + length bytes) (w.size.pages * PAGE_BYTES)) (store w m job (record { at = at; bytes = bytes })) Absent) _ _ refl
          ((λ i. cond (leb (at + length bytes) ((size-shifted i).pages * PAGE_BYTES)) (store (shifted_world r w) (shifted_name r m) (shifted_job r job) (record { at = at; bytes = bytes })) Absent)
          ∙ pick (shifted_stored r) (leb (at + length bytes) (w.size.pages * PAGE_BYTES)) (store w m job (record { at = at; bytes = bytes })) Absent _ _ (store-shifted r m w job (record { at = at; bytes = bytes })) refl)

      answering-shifted : (value : ℕ) (v u : World) → u ≡ shifted_world r v → calls.answering value u (shifted_channels r io) ≡ shifted_end r (calls.answering value v io)
      answering-shifted value v u same = ap (λ (x : World). calls.answering value x (shifted_channels r io)) same

      placed-shifted : (s : Name) (d : Descriptor) → calls.placed (shifted_world r w) (shifted_channels r io) (shifted_name r s) (shifted_descriptor r d) ≡ shifted_end r (calls.placed w io s d)
      placed-shifted s d =
          (λ i. calls.answering (unwrap_or (lowest-shifted r w s i) 0) (put_slot (shifted_world r w) (shifted_name r s) (unwrap_or (lowest-shifted r w s i) 0) (shifted_descriptor r d)) (shifted_channels r io))
          ∙ answering-shifted (unwrap_or (lowest_empty w s) 0) (put_slot w s (unwrap_or (lowest_empty w s) 0) d) _ (put_slot-shifted r w s (unwrap_or (lowest_empty w s) 0) d)

      uid-shifted : (c : Name) → uid_at (shifted_world r w) (shifted_name r c) ≡ uid_at w c
      uid-shifted c = value_at-shifted r w c Cred

      opening-shifted : (targets : CallContexts) (file : ℕ) → calls.opening (shifted_world r w) (shifted_channels r io) (shifted_targets r targets) file ≡ shifted_end r (calls.opening w io targets file)
      opening-shifted targets file =
          ended-shifted (calls.open_refusals w io targets file) _ (calls.placed w io targets.slots (File file 0)) _
          (λ i. (leb (length (files-shifted i)) file, NoFile) ∷ (not (option_map_or (λ found. may_open (uid-shifted targets.cred i) found.owner found.public) (slice_get (files-shifted i) file) false), NotPermitted) ∷ place-shifted targets.slots i)
          (placed-shifted targets.slots (File file 0))

      is_empty-shifted : (s : Name) (n : ℕ) → is_empty (descriptor_for (shifted_world r w) (shifted_name r s) n) ≡ is_empty (descriptor_for w s n)
      is_empty-shifted s n = ap is_empty (descriptor-shifted r w s n) ∙ empty-shifted r (descriptor_for w s n)

      closing-shifted : (s : Name) (n : ℕ) → calls.closing (shifted_world r w) (shifted_channels r io) (shifted_name r s) n ≡ shifted_end r (calls.closing w io s n)
      closing-shifted s n =
          ended-shifted (calls.close_refusals w s n) _ (calls.answering 0 (put_slot w s n Empty) io) _
          (λ i. (is_empty-shifted s n i, BadFd) ∷ [])
          (answering-shifted 0 (put_slot w s n Empty) _ (put_slot-shifted r w s n Empty))

      copying-shifted : (s : Name) (n : ℕ) → calls.copying (shifted_world r w) (shifted_channels r io) (shifted_name r s) n ≡ shifted_end r (calls.copying w io s n)
      copying-shifted s n =
          ended-shifted (calls.copy_refusals w s n) _ (calls.placed w io s (descriptor_for w s n)) _
          (λ i. (is_empty-shifted s n i, BadFd) ∷ place-shifted s i)
          (ap (calls.placed (shifted_world r w) (shifted_channels r io) (shifted_name r s)) (descriptor-shifted r w s n) ∙ placed-shifted s (descriptor_for w s n))

      -- a read, by what is in the slot
      module _ (targets : CallContexts) (job n at count : ℕ) (d : Descriptor) where
        abbrev bytes : List ℕ
        bytes = calls.moved io d count

        abbrev stored : Stored
        stored = calls.store_at w targets.memory job at bytes

        rows-shifted : calls.read_refusals (shifted_channels r io) (shifted_descriptor r d) count (shifted_stored r stored) ≡ calls.read_refusals io d count stored
        rows-shifted = λ i. (empty-shifted r d i, BadFd) ∷ (is_none (left-shifted d i), WrongKind) ∷ (ltb MOST_BYTES_OF_CALL count, TooLong) ∷ (is_absent-shifted stored i, BadAddress) ∷ (is_read_only-shifted stored i, refusal.ReadOnly) ∷ (is_full-shifted stored i, NoFrame) ∷ []

        done-shifted : put_slot (calls.world_after (shifted_world r w) (shifted_stored r stored)) (shifted_name r targets.slots) n (calls.read_on (length bytes) (shifted_descriptor r d))
            ≡ shifted_world r (put_slot (calls.world_after w stored) targets.slots n (calls.read_on (length bytes) d))
        done-shifted =
            (λ i. put_slot (world_after-shifted w stored i) (shifted_name r targets.slots) n (read_on-shifted (length bytes) d i))
            ∙ put_slot-shifted r (calls.world_after w stored) targets.slots n (calls.read_on (length bytes) d)

        abbrev read_by : Descriptor → List ℕ → Stored → Outcome
        read_by value moved kept =
            calls.ended (shifted_world r w) (shifted_channels r io) (calls.read_refusals (shifted_channels r io) value count kept)
            (calls.answering (length moved) (put_slot (calls.world_after (shifted_world r w) kept) (shifted_name r targets.slots) n (calls.read_on (length moved) value)) (shifted_channels r io))

        read-shifted : read_by (shifted_descriptor r d) (calls.moved (shifted_channels r io) (shifted_descriptor r d) count) (calls.store_at (shifted_world r w) (shifted_name r targets.memory) (shifted_job r job) at (calls.moved (shifted_channels r io) (shifted_descriptor r d) count))
            ≡ shifted_end r (calls.ended w io (calls.read_refusals io d count stored) (calls.answering (length bytes) (put_slot (calls.world_after w stored) targets.slots n (calls.read_on (length bytes) d)) io))
        read-shifted =
            (λ i. read_by (shifted_descriptor r d) (moved-shifted d count i) (calls.store_at (shifted_world r w) (shifted_name r targets.memory) (shifted_job r job) at (moved-shifted d count i)))
            ∙ ap (read_by (shifted_descriptor r d) bytes) (store_at-shifted targets.memory job at bytes)
            ∙ ended-shifted (calls.read_refusals io d count stored) _ (calls.answering (length bytes) (put_slot (calls.world_after w stored) targets.slots n (calls.read_on (length bytes) d)) io) _
            rows-shifted (answering-shifted (length bytes) (put_slot (calls.world_after w stored) targets.slots n (calls.read_on (length bytes) d)) _ done-shifted)

      reading-shifted : (targets : CallContexts) (job n at count : ℕ) → calls.reading (shifted_world r w) (shifted_channels r io) (shifted_targets r targets) (shifted_job r job) n at count ≡ shifted_end r (calls.reading w io targets job n at count)
      unfolding calls.reading
      reading-shifted targets job n at count =
          ap (λ value. read_by targets job n at count (descriptor_for w targets.slots n) value (calls.moved (shifted_channels r io) value count) (calls.store_at (shifted_world r w) (shifted_name r targets.memory) (shifted_job r job) at (calls.moved (shifted_channels r io) value count)))
          (descriptor-shifted r w targets.slots n)
          ∙ read-shifted targets job n at count (descriptor_for w targets.slots n)

      writing-shifted : (targets : CallContexts) (n at count : ℕ) → calls.writing (shifted_world r w) (shifted_channels r io) (shifted_targets r targets) n at count ≡ shifted_end r (calls.writing w io targets n at count)
      unfolding calls.writing
      writing-shifted targets n at count =
          let d = descriptor_for w targets.slots n in
          let bytes = bytes_for w targets.memory at count in
          (λ i. calls.ended (shifted_world r w) (shifted_channels r io) (calls.write_refusals (shifted_channels r io) (descriptor-shifted r w targets.slots n i) count (bytes_for-shifted r w targets.memory at count i))
          (calls.answering count (shifted_world r w) (calls.written (shifted_channels r io) (descriptor-shifted r w targets.slots n i) (unwrap_or (bytes_for-shifted r w targets.memory at count i) []))))
          ∙ ended-shifted (calls.write_refusals io d count bytes) _ (calls.answering count w (calls.written io d (unwrap_or bytes []))) _
          (λ i. (empty-shifted r d i, BadFd) ∷ (not (is_written-shifted d i), WrongKind) ∷ (ltb MOST_BYTES_OF_CALL count, TooLong) ∷ (is_none bytes, BadAddress) ∷ (limit-shifted d count i, ReplyFull) ∷ [])
          (λ i. calls.answering count (shifted_world r w) (written-shifted d (unwrap_or bytes []) i))

      pages-shifted : (from to : ℕ) (cell : Cell (Option PageValue)) (old : (k : Key) → Cell (ValueOf k)) → shifted_cell r (Page 0) cell ≡ cell → (k : Key) → on_pages from to cell (λ q. shifted_cell r q (old q)) k ≡ shifted_cell r k (on_pages from to cell old k)
      pages-shifted from to cell old same (Page p) =
          ap (λ (x : Cell (Option PageValue)). cond (leb from p && ltb p to) x (shifted_cell r (Page p) (old (Page p)))) (sym same)
          ∙ branch (shifted_cell r (Page p)) (leb from p && ltb p to) cell (old (Page p))
      pages-shifted from to cell old same (Slot n) = refl
      pages-shifted from to cell old same Cred = refl

      mapped-shifted : (m : Name) (from to : ℕ) (present : Bool) → mapped_or_not (shifted_world r w) (shifted_name r m) from to present ≡ shifted_world r (mapped_or_not w m from to present)
      unfolding map_pages unmap_pages
      mapped-shifted m from to true = change_context-shifted r w m (with_zeros from to) (with_zeros from to) (λ x i. record (shifted_context r x) { cell = λ k. pages-shifted from to (Own (Some Zero)) x.cell refl k i; right = writable_in from to x.right })
      mapped-shifted m from to false = change_context-shifted r w m (without_pages from to) (without_pages from to) (λ x i. record (shifted_context r x) { cell = λ k. pages-shifted from to (Own None) x.cell refl k i; right = writable_in from to x.right })

      mapping-shifted : (m : Name) (from to : ℕ) (present : Bool) → calls.mapping (shifted_world r w) (shifted_channels r io) (shifted_name r m) from to present ≡ shifted_end r (calls.mapping w io m from to present)
      mapping-shifted m from to present =
          let v = mapped_or_not w m from to present in
          ended-shifted (calls.map_refusals w m from to present) _ (calls.answering 0 v io) _
          (λ i. (leb to from || ltb ((size-shifted i).pages) to, BadRange) ∷ (ltb MOST_RANGES ((ap (λ (u : World). ranges_of u (shifted_name r m)) (mapped-shifted m from to present) ∙ ranges_of-shifted r v m) i), TooManyRanges) ∷ [])
          (answering-shifted 0 v _ (mapped-shifted m from to present))

      becoming-shifted : (c : Name) (uid : ℕ) → calls.becoming (shifted_world r w) (shifted_channels r io) (shifted_name r c) uid ≡ shifted_end r (calls.becoming w io c uid)
      becoming-shifted c uid =
          ended-shifted (calls.uid_refusals w c uid) _ (calls.answering 0 (put_uid w c uid) io) _
          (λ i. (leb (2 ^ 32) uid, BadRange) ∷ (not (may_set (uid-shifted c i) uid), NotPermitted) ∷ [])
          (answering-shifted 0 (put_uid w c uid) _ (put_uid-shifted r w c uid))

      pub plain-shifted : (targets : CallContexts) (job : ℕ) (call : Option PlainCall) (args : List ℕ) →
          calls.plain (shifted_world r w) (shifted_channels r io) (shifted_targets r targets) (shifted_job r job) call args ≡ shifted_end r (calls.plain w io targets job call args)
      unfolding calls.plain
      plain-shifted targets job None args = refl
      plain-shifted targets job (Some plain_calls.Open) args = opening-shifted targets (slice_index args 0)
      plain-shifted targets job (Some plain_calls.Close) args = closing-shifted targets.slots (slice_index args 0)
      plain-shifted targets job (Some plain_calls.Dup) args = copying-shifted targets.slots (slice_index args 0)
      plain-shifted targets job (Some plain_calls.Read) args = reading-shifted targets job (slice_index args 0) (slice_index args 1) (slice_index args 2)
      plain-shifted targets job (Some plain_calls.Write) args = writing-shifted targets (slice_index args 0) (slice_index args 1) (slice_index args 2)
      plain-shifted targets job (Some plain_calls.Map) args = mapping-shifted targets.memory (slice_index args 0) (slice_index args 1) true
      plain-shifted targets job (Some plain_calls.Unmap) args = mapping-shifted targets.memory (slice_index args 0) (slice_index args 1) false
      plain-shifted targets job (Some plain_calls.GetUid) args = λ i. calls.answering (uid-shifted targets.cred i) (shifted_world r w) (shifted_channels r io)
      plain-shifted targets job (Some plain_calls.SetUid) args = becoming-shifted targets.cred (slice_index args 0)
      plain-shifted targets job (Some plain_calls.Exit) args = refl

      -- over chosen contexts
      module _ (c : Name) (regs : Regs) where
        chosen-shifted : chosen.link (shifted_world r w) (shifted_name r c) regs ≡ (shifted_name r (chosen.link w c regs).0, (chosen.link w c regs).1)
        chosen-shifted =
            let d = descriptor_for w c (slice_index regs.r 1) in
            ap (λ e. unwrap_or (link_of e) (shifted_name r c, empty_cap)) (descriptor-shifted r w c (slice_index regs.r 1))
            ∙ ap (λ o. unwrap_or o (shifted_name r c, empty_cap)) (link_of-shifted r d) ∙ or-shifted r (link_of d) (c, empty_cap)

        from-shifted : (kind : Kind) → chosen.taken_from (shifted_world r w) (shifted_name r c) regs kind ≡ shifted_name r (chosen.taken_from w c regs kind)
        from-shifted kind = (λ i. cond (is_chosen (chosen.mask_in regs) kind) ((chosen-shifted i).0) (shifted_name r c)) ∙ branch (shifted_name r) (is_chosen (chosen.mask_in regs) kind) (chosen.link w c regs).0 c

        targets-shifted : chosen.targets_of (shifted_world r w) (shifted_name r c) regs ≡ shifted_targets r (chosen.targets_of w c regs)
        targets-shifted = λ i. record { memory = from-shifted kinds.Page i; slots = from-shifted kinds.Slot i; cred = from-shifted kinds.Cred i }

        chosen_refusals-shifted : chosen.refusals (shifted_world r w) (shifted_name r c) regs ≡ chosen.refusals w c regs
        unfolding chosen.refusals
        chosen_refusals-shifted =
            λ i. slot_refusals-shifted r w c (slice_index regs.r 1) i
            ++ ((ltb 7 (chosen.mask_in regs), BadMode) ∷ (not (has_kinds ((size-shifted i).pages) ((chosen-shifted i).1) (chosen.mask_in regs)), NotCovered)
            ∷ (ltb (chosen.inner_number regs) 1 || ltb 9 (chosen.inner_number regs), BadCall) ∷ [])

        pub syscall-shifted : (job : ℕ) → chosen.lw_syscall (shifted_world r w) (shifted_channels r io) (shifted_name r c) (shifted_job r job) regs ≡ shifted_end r (chosen.lw_syscall w io c job regs)
        unfolding chosen.lw_syscall
        syscall-shifted job =
            ended-shifted (chosen.refusals w c regs) _ (calls.plain w io (chosen.targets_of w c regs) job (chosen.inner_call regs) (chosen.inner_args regs)) _ chosen_refusals-shifted
            (ap (λ (targets : CallContexts). calls.plain (shifted_world r w) (shifted_channels r io) targets (shifted_job r job) (chosen.inner_call regs) (chosen.inner_args regs)) targets-shifted
            ∙ plain-shifted (chosen.targets_of w c regs) job (chosen.inner_call regs) (chosen.inner_args regs))
