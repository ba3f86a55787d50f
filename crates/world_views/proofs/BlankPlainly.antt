-- Plain calls, and those over contexts that a mask chooses, do the same where one context is blank.
use Rattle.std.proofs.Common.{◌≡◌, ◌≢◌, ℕ, ◌+◌, ◌*◌, refl, sym, ap, ◌∙◌, Bool, true, false, cond, eqb, ◌&&◌, ◌||◌, Option, Some, None, List, [], ◌∷◌, ◌++◌, length, arith}
use Rattle.std.proofs.lemmas.Bool.{false≢true}
use Rattle.std.specs.Prelude.{◌^◌, is_none, nat_le, nat_lt, not, slice_get, slice_index, unwrap_or}
use Rattle.std.specs.Option.{option_map_or}
use Rattle.access_cap.specs.Kinds.{has_kinds, is_chosen}
use Rattle.guest_call.specs.Guest.{descriptor_for, slot_refusals}
use Rattle.lwc_base.specs.Capabilities.{has_key}
use Rattle.lwc_base.specs.declared.descriptor.Cap.{Cap}
use Rattle.lwc_base.specs.Cells.{put_slot, uid_at}
use Rattle.lwc_base.specs.Channels.{Channels, may_open, may_set}
use Rattle.lwc_base.specs.Mapping.{mapped_or_not}
use Rattle.lwc_base.specs.Modes.{IsKey, kind_of}
use Rattle.lwc_base.specs.Ranges.{ranges_of}
use Rattle.lwc_base.specs.Refusals.{first_refusal}
use Rattle.lwc_base.specs.Slots.{lowest_empty}
use Rattle.lwc_base.specs.Store.{Absent, Done, Full, ReadOnly, Stored, store}
use Rattle.lwc_base.specs.Summaries.{is_empty}
use Rattle.lwc_base.specs.World.{World}
use Rattle.lwc_base.specs.declared.descriptor.Descriptor.{Descriptor}
use Rattle.lwc_base.specs.declared.descriptor.Descriptor.TheVariants.{Empty, File}
use Rattle.lwc_types.specs.declared.key.Key.{Key}
use Rattle.lwc_types.specs.declared.key.Key.TheVariants.{Page, Slot, Cred}
use Rattle.lwc_types.specs.declared.key.Kind.{Kind}
use Rattle.lwc_types.specs.declared.key.Kind.TheVariants as kinds
use Rattle.lwc_types.specs.declared.limits.TheConstants.{MOST_BYTES_OF_CALL, MOST_RANGES}
use Rattle.lwc_types.specs.declared.name.Name.{Name}
use Rattle.lwc_types.specs.declared.page.TheConstants.{PAGE_BYTES}
use Rattle.lwc_types.specs.declared.refusal.Refusal.{Refusal}
use Rattle.lwc_types.specs.declared.refusal.Refusal.TheVariants.{BadAddress, BadCall, BadFd, BadMode, BadRange, NoFile, NoFrame, NoSlot, NotCovered, NotPermitted, TooLong, TooManyRanges, WrongKind}
use Rattle.lwc_types.specs.declared.refusal.Refusal.TheVariants as refusal
use Rattle.lwc_types.specs.declared.regs.Regs.{Regs}
use Rattle.lwc_syscall.specs.Plain as calls
use Rattle.lwc_syscall.specs.Plain.{Outcome, answering, ended, is_absent, is_full, is_read_only, left, moved, placed, plain, read_on, refused_or, store_at, world_after, written}
use Rattle.lwc_syscall.specs.Syscall as syscalls
use Rattle.lwc_syscall.specs.declared.calls.CallContexts.{CallContexts}
use Rattle.lwc_syscall.specs.declared.plain_call.PlainCall.{PlainCall}
use Rattle.lwc_syscall.specs.declared.plain_call.PlainCall.TheVariants as plain_calls
use Rattle.world_views.proofs.BlankCalls.{link-shut}
use Rattle.access_cap.proofs.Keys.{within_most}
use Rattle.lwc_base.proofs.Needs.{any_key-some}
use Rattle.world_views.proofs.BlankChanges.{asks-alike, blanks-alike, changes-alike}
use Rattle.world_views.proofs.BlankNamed.{descriptor-blank, link_or, none-append, slot_refusals-blank}
use Rattle.world_views.specs.Outside.{AreOutside, IsOutside, LacksKeys, blank_outcome}
use Rattle.world_views.specs.Blank.{blank, blank_stored}

-- a call ends the same where its rows are the same and what it does is
ended-blank : (keep : Bool) (v : Name) (w : World) (io : Channels) (rows others : List (Bool × Refusal)) (done original : Outcome) → rows ≡ others → done ≡ blank_outcome keep v original →
    ended (blank keep v w) io rows done ≡ blank_outcome keep v (ended w io others original)
ended-blank keep v w io rows others done original same is = ap (λ r. refused_or (blank keep v w) io done (first_refusal r)) same ∙ by (first_refusal others)
  where
    by : (first : Option Refusal) → refused_or (blank keep v w) io done first ≡ blank_outcome keep v (refused_or w io original first)
    by None = is
    by (Some refusal) = refl

absent-blank : (keep : Bool) (v : Name) (s : Stored) → is_absent (blank_stored keep v s) ≡ is_absent s
absent-blank keep v Absent = refl
absent-blank keep v ReadOnly = refl
absent-blank keep v Full = refl
absent-blank keep v (Done w) = refl

read_only-blank : (keep : Bool) (v : Name) (s : Stored) → is_read_only (blank_stored keep v s) ≡ is_read_only s
read_only-blank keep v Absent = refl
read_only-blank keep v ReadOnly = refl
read_only-blank keep v Full = refl
read_only-blank keep v (Done w) = refl

full-blank : (keep : Bool) (v : Name) (s : Stored) → is_full (blank_stored keep v s) ≡ is_full s
full-blank keep v Absent = refl
full-blank keep v ReadOnly = refl
full-blank keep v Full = refl
full-blank keep v (Done w) = refl

after-blank : (keep : Bool) (v : Name) (w : World) (s : Stored) → world_after (blank keep v w) (blank_stored keep v s) ≡ blank keep v (world_after w s)
after-blank keep v w Absent = refl
after-blank keep v w ReadOnly = refl
after-blank keep v w Full = refl
after-blank keep v w (Done u) = refl

-- calls over slots, the uid and the kinds of pages, of the blank context too
module _ (keep : Bool) (v : Name) (w : World) (io : Channels) (targets : CallContexts) where
  value-blank : (n : ℕ) → descriptor_for (blank keep v w) targets.slots n ≡ descriptor_for w targets.slots n
  value-blank n = descriptor-blank keep v w targets.slots n

  lowest-blank : lowest_empty (blank keep v w) targets.slots ≡ lowest_empty w targets.slots
  lowest-blank = (blanks-alike keep v w).lowest targets.slots

  uid-blank : uid_at (blank keep v w) targets.cred ≡ uid_at w targets.cred
  uid-blank = (blanks-alike keep v w).uid targets.cred

  put-blank : (u : World) (n : ℕ) (value : Descriptor) → put_slot (blank keep v u) targets.slots n value ≡ blank keep v (put_slot u targets.slots n value)
  put-blank u n value = (blanks-alike keep v u).put_slot targets.slots n value

  placed-blank : (value : Descriptor) → placed (blank keep v w) io targets.slots value ≡ blank_outcome keep v (placed w io targets.slots value)
  placed-blank value =
      ap (λ o. answering (unwrap_or o 0) (put_slot (blank keep v w) targets.slots (unwrap_or o 0) value) io) lowest-blank
      ∙ ap (λ u. answering (unwrap_or (lowest_empty w targets.slots) 0) u io) (put-blank w (unwrap_or (lowest_empty w targets.slots) 0) value)

  pub opening-blank : (file : ℕ) → calls.opening (blank keep v w) io targets file ≡ blank_outcome keep v (calls.opening w io targets file)
  opening-blank file =
      ended-blank keep v w io _ _ _ _
      (λ i. (nat_le (length io.files) file, NoFile) ∷ (not (option_map_or (λ found. may_open (uid-blank i) found.owner found.public) (slice_get io.files file) false), NotPermitted) ∷ (is_none (lowest-blank i), NoSlot) ∷ [])
      (placed-blank (File file 0))

  pub closing-blank : (n : ℕ) → calls.closing (blank keep v w) io targets.slots n ≡ blank_outcome keep v (calls.closing w io targets.slots n)
  closing-blank n = ended-blank keep v w io _ _ _ _ (λ i. (is_empty (value-blank n i), BadFd) ∷ []) (ap (λ u. answering 0 u io) (put-blank w n Empty))

  pub copying-blank : (n : ℕ) → calls.copying (blank keep v w) io targets.slots n ≡ blank_outcome keep v (calls.copying w io targets.slots n)
  copying-blank n =
      ended-blank keep v w io _ _ _ _ (λ i. (is_empty (value-blank n i), BadFd) ∷ (is_none (lowest-blank i), NoSlot) ∷ [])
      (ap (placed (blank keep v w) io targets.slots) (value-blank n) ∙ placed-blank (descriptor_for w targets.slots n))

  mapped-blank : (from to : ℕ) (present : Bool) → mapped_or_not (blank keep v w) targets.memory from to present ≡ blank keep v (mapped_or_not w targets.memory from to present)
  mapped-blank = (blanks-alike keep v w).map targets.memory

  pub mapping-blank : (from to : ℕ) (present : Bool) → calls.mapping (blank keep v w) io targets.memory from to present ≡ blank_outcome keep v (calls.mapping w io targets.memory from to present)
  mapping-blank from to present =
      ended-blank keep v w io _ _ _ _
      (λ i. (nat_le to from || nat_lt w.size.pages to, BadRange)
      ∷ (nat_lt MOST_RANGES ((ap (λ u. ranges_of u targets.memory) (mapped-blank from to present) ∙ (blanks-alike keep v (mapped_or_not w targets.memory from to present)).ranges targets.memory) i), TooManyRanges) ∷ [])
      (ap (λ u. answering 0 u io) (mapped-blank from to present))

  pub becoming-blank : (uid : ℕ) → calls.becoming (blank keep v w) io targets.cred uid ≡ blank_outcome keep v (calls.becoming w io targets.cred uid)
  becoming-blank uid =
      ended-blank keep v w io _ _ _ _
      (λ i. (nat_le (2 ^ 32) uid, BadRange) ∷ (not (may_set (uid-blank i) uid), NotPermitted) ∷ [])
      (ap (λ u. answering 0 u io) ((blanks-alike keep v w).put_uid targets.cred uid))

  telling-blank : answering (uid_at (blank keep v w) targets.cred) (blank keep v w) io ≡ blank_outcome keep v (answering (uid_at w targets.cred) w io)
  telling-blank = ap (λ n. answering n (blank keep v w) io) uid-blank

-- and those over the bytes of other contexts
module _ (keep : Bool) (v : Name) (w : World) (io : Channels) (job : ℕ) (targets : CallContexts) (outside : AreOutside v targets) where
  store_at-blank : (from : ℕ) (bytes : List ℕ) → store_at (blank keep v w) targets.memory job from bytes ≡ blank_stored keep v (store_at w targets.memory job from bytes)
  unfolding store_at
  store_at-blank from bytes = by (eqb (length bytes) 0) (nat_le (from + length bytes) (w.size.pages * PAGE_BYTES))
    where
      by : (a b : Bool) → cond a (Done (blank keep v w)) (cond b (store (blank keep v w) targets.memory job (record { at = from; bytes = bytes })) Absent)
          ≡ blank_stored keep v (cond a (Done w) (cond b (store w targets.memory job (record { at = from; bytes = bytes })) Absent))
      by true b = refl
      by false true = (changes-alike keep v w targets.memory outside.memory).store job (record { at = from; bytes = bytes })
      by false false = refl

  reading-blank : (n from count : ℕ) → calls.reading (blank keep v w) io targets job n from count ≡ blank_outcome keep v (calls.reading w io targets job n from count)
  unfolding calls.reading
  reading-blank n from count =
      let value = descriptor_for w targets.slots n in
      let bytes = moved io value count in
      let stored = store_at w targets.memory job from bytes in
      ap (λ d. ended (blank keep v w) io (calls.read_refusals io d count (store_at (blank keep v w) targets.memory job from (moved io d count)))
      (answering (length (moved io d count)) (put_slot (world_after (blank keep v w) (store_at (blank keep v w) targets.memory job from (moved io d count))) targets.slots n (read_on (length (moved io d count)) d)) io))
      (value-blank keep v w io targets n)
      ∙ ap (λ s. ended (blank keep v w) io (calls.read_refusals io value count s) (answering (length bytes) (put_slot (world_after (blank keep v w) s) targets.slots n (read_on (length bytes) value)) io))
      (store_at-blank from bytes)
      ∙ ended-blank keep v w io _ _ _ _
      (λ i. (is_empty value, BadFd) ∷ (is_none (left io value), WrongKind) ∷ (nat_lt MOST_BYTES_OF_CALL count, TooLong) ∷ (absent-blank keep v stored i, BadAddress) ∷ (read_only-blank keep v stored i, refusal.ReadOnly) ∷ (full-blank keep v stored i, NoFrame) ∷ [])
      (ap (λ u. answering (length bytes) (put_slot u targets.slots n (read_on (length bytes) value)) io) (after-blank keep v w stored)
      ∙ ap (λ u. answering (length bytes) u io) (put-blank keep v w io targets (world_after w stored) n (read_on (length bytes) value)))

  writing-blank : (n from count : ℕ) → calls.writing (blank keep v w) io targets n from count ≡ blank_outcome keep v (calls.writing w io targets n from count)
  unfolding calls.writing
  writing-blank n from count =
      let bytes = (asks-alike keep v w targets.memory outside.memory).bytes from count in
      ended-blank keep v w io _ _ _ _
      (λ i. calls.write_refusals io (value-blank keep v w io targets n i) count (bytes i))
      (λ i. answering count (blank keep v w) (written io (value-blank keep v w io targets n i) (unwrap_or (bytes i) [])))

  pub plain-blank : (call : Option PlainCall) (args : List ℕ) → plain (blank keep v w) io targets job call args ≡ blank_outcome keep v (plain w io targets job call args)
  unfolding plain
  plain-blank None args = refl
  plain-blank (Some plain_calls.Open) args = opening-blank keep v w io targets (slice_index args 0)
  plain-blank (Some plain_calls.Close) args = closing-blank keep v w io targets (slice_index args 0)
  plain-blank (Some plain_calls.Dup) args = copying-blank keep v w io targets (slice_index args 0)
  plain-blank (Some plain_calls.Read) args = reading-blank (slice_index args 0) (slice_index args 1) (slice_index args 2)
  plain-blank (Some plain_calls.Write) args = writing-blank (slice_index args 0) (slice_index args 1) (slice_index args 2)
  plain-blank (Some plain_calls.Map) args = mapping-blank keep v w io targets (slice_index args 0) (slice_index args 1) true
  plain-blank (Some plain_calls.Unmap) args = mapping-blank keep v w io targets (slice_index args 0) (slice_index args 1) false
  plain-blank (Some plain_calls.GetUid) args = telling-blank keep v w io targets
  plain-blank (Some plain_calls.SetUid) args = becoming-blank keep v w io targets (slice_index args 0)
  plain-blank (Some plain_calls.Exit) args = refl

module _ (keep : Bool) (v c : Name) (job : ℕ) (w : World) (io : Channels) (outside : IsOutside v c job w) (regs : Regs) where
  links : syscalls.link (blank keep v w) c regs ≡ syscalls.link w c regs
  links = ap (link_or c) (descriptor-blank keep v w c (slice_index regs.r 1))

  threes : syscalls.targets_of (blank keep v w) c regs ≡ syscalls.targets_of w c regs
  threes = λ i. record {
    memory = cond (is_chosen (syscalls.mask_in regs) kinds.Page) (links i).0 c;
    slots = cond (is_chosen (syscalls.mask_in regs) kinds.Slot) (links i).0 c;
    cred = cond (is_chosen (syscalls.mask_in regs) kinds.Cred) (links i).0 c;
  }

  refusals-blank : syscalls.refusals (blank keep v w) c regs ≡ syscalls.refusals w c regs
  unfolding syscalls.refusals
  refusals-blank = λ i.
      slot_refusals-blank keep v w c (slice_index regs.r 1) i
      ++ ((nat_lt 7 (syscalls.mask_in regs), BadMode)
      ∷ (not (has_kinds w.size.pages (links i).1 (syscalls.mask_in regs)), NotCovered)
      ∷ (nat_lt (syscalls.inner_number regs) 1 || nat_lt 9 (syscalls.inner_number regs), BadCall) ∷ [])

  missing : (cap : Cap) → LacksKeys cap → (k : Key) → IsKey w.size.pages k → is_chosen (syscalls.mask_in regs) (kind_of k) ≡ true → has_kinds w.size.pages cap (syscalls.mask_in regs) ≡ false
  unfolding has_kinds
  missing cap lacks k key chosen =
      ap not (any_key-some w.size.pages (λ l. is_chosen (syscalls.mask_in regs) (kind_of l) && not (has_key cap l)) k key
      (λ i. chosen i && not (lacks k (within_most w.size.pages outside.pages.1 k key) i)))

  -- a capability without keys has no kind that is chosen
  lacks_kind : (cap : Cap) → LacksKeys cap → (kind : Kind) → is_chosen (syscalls.mask_in regs) kind ≡ true → has_kinds w.size.pages cap (syscalls.mask_in regs) ≡ false
  lacks_kind cap lacks kinds.Page chosen = missing cap lacks (Page 0) outside.pages.0 chosen
  lacks_kind cap lacks kinds.Slot chosen = missing cap lacks (Slot 0) (omega arith) chosen
  lacks_kind cap lacks kinds.Cred chosen = missing cap lacks Cred (omega arith) chosen

  has_kinds-then : first_refusal (syscalls.refusals w c regs) ≡ None → has_kinds w.size.pages (syscalls.link w c regs).1 (syscalls.mask_in regs) ≡ true
  unfolding syscalls.refusals
  has_kinds-then none =
      let rows = (none-append (slot_refusals w c (slice_index regs.r 1)) ((nat_lt 7 (syscalls.mask_in regs), BadMode)
      ∷ (not (has_kinds w.size.pages (syscalls.link w c regs).1 (syscalls.mask_in regs)), NotCovered)
      ∷ (nat_lt (syscalls.inner_number regs) 1 || nat_lt 9 (syscalls.inner_number regs), BadCall) ∷ []) none).1 in
      by (nat_lt 7 (syscalls.mask_in regs)) (has_kinds w.size.pages (syscalls.link w c regs).1 (syscalls.mask_in regs)) _ rows
    where
      by : (a b : Bool) (rest : Option Refusal) → cond a (Some BadMode) (cond (not b) (Some NotCovered) rest) ≡ None → b ≡ true
      by true b rest is = cc
      by false true rest is = refl
      by false false rest is = cc

  -- a mask that is not refused takes nothing from the blank context
  taken-outside : first_refusal (syscalls.refusals w c regs) ≡ None → (kind : Kind) → syscalls.taken_from w c regs kind ≢ v
  taken-outside none kind = by (is_chosen (syscalls.mask_in regs) kind) refl
    where
      by : (b : Bool) → is_chosen (syscalls.mask_in regs) kind ≡ b → cond b (syscalls.link w c regs).0 c ≢ v
      by false is same = outside.context same
      by true is same =
          let shut = link-shut v c (descriptor_for w c (slice_index regs.r 1)) outside.context (outside.shut (slice_index regs.r 1)) same in
          false≢true (sym (lacks_kind (syscalls.link w c regs).1 shut kind is) ∙ has_kinds-then none)

  pub syscall-blank : syscalls.lw_syscall (blank keep v w) io c job regs ≡ blank_outcome keep v (syscalls.lw_syscall w io c job regs)
  unfolding syscalls.lw_syscall
  syscall-blank =
      (λ i. refused_or (blank keep v w) io (plain (blank keep v w) io (threes i) job (syscalls.inner_call regs) (syscalls.inner_args regs)) (first_refusal (refusals-blank i)))
      ∙ by (first_refusal (syscalls.refusals w c regs)) refl
    where
      by : (first : Option Refusal) → first_refusal (syscalls.refusals w c regs) ≡ first →
          refused_or (blank keep v w) io (plain (blank keep v w) io (syscalls.targets_of w c regs) job (syscalls.inner_call regs) (syscalls.inner_args regs)) first
          ≡ blank_outcome keep v (refused_or w io (plain w io (syscalls.targets_of w c regs) job (syscalls.inner_call regs) (syscalls.inner_args regs)) first)
      by (Some refusal) is = refl
      by None is =
          let taken = taken-outside is in
          plain-blank keep v w io job (syscalls.targets_of w c regs) (record { memory = taken kinds.Page; slots = taken kinds.Slot; cred = taken kinds.Cred })
          (syscalls.inner_call regs) (syscalls.inner_args regs)
