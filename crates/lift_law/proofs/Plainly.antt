-- Plain calls, and those over contexts that a mask chooses, do the same where there are more pages.
use Rattle.std.proofs.Common.{◌≡◌, ◌≢◌, ◌∙◌, ◌+◌, ◌*◌, ◌^◌, ◌≤◌, refl, ap, ℕ, Bool, true, false, cond, not, eqb, ◌||◌, Option, Some, None, List, [], ◌∷◌, ◌++◌, length, arith}
use Rattle.std.proofs.lemmas.Bool.Decides.{nat_tests}
use Rattle.std.specs.Prelude.{is_none, nat_le, nat_lt, slice_get, slice_index, take, unwrap_or}
use Rattle.std.specs.Option.{option_map_or}
use Rattle.access_cap.specs.Kinds.{has_kinds, is_chosen}
use Rattle.guest_call.specs.Guest.{descriptor_for, slot_refusals}
use Rattle.kernel_core.specs.Refused.{refusal_at_end}
use Rattle.lwc_base.specs.Cells.{put_slot, put_uid, uid_at}
use Rattle.lwc_base.specs.Channels.{Channels, may_open, may_set}
use Rattle.lwc_base.specs.Mapping.{mapped_or_not}
use Rattle.lwc_base.specs.Memory.{bytes_for}
use Rattle.lwc_base.specs.Ranges.{ranges_of}
use Rattle.lwc_base.specs.Refusals.{first_refusal}
use Rattle.lwc_base.specs.Slots.{lowest_empty}
use Rattle.lwc_base.specs.Store.{Piece, Stored, store}
use Rattle.lwc_base.specs.Store as stores
use Rattle.lwc_base.specs.Summaries.{is_empty}
use Rattle.lwc_base.specs.World.{World}
use Rattle.lwc_base.specs.declared.descriptor.Cap.{Cap}
use Rattle.lwc_base.specs.declared.descriptor.Descriptor.{Descriptor}
use Rattle.lwc_base.specs.declared.descriptor.Descriptor.TheVariants.{Empty, Console, File, Request, Reply, Ctx}
use Rattle.lwc_types.specs.declared.key.Kind.TheVariants.{Page, Slot, Cred}
use Rattle.lwc_types.specs.declared.limits.TheConstants.{MOST_BYTES_OF_CALL, MOST_PAGES, MOST_RANGES}
use Rattle.lwc_types.specs.declared.name.Name.{Name}
use Rattle.lwc_types.specs.declared.page.TheConstants.{PAGE_BYTES}
use Rattle.lwc_types.specs.declared.refusal.Refusal.{Refusal}
use Rattle.lwc_types.specs.declared.refusal.Refusal.TheVariants.{BadAddress, BadCall, BadFd, BadMode, BadRange, NoFile, NoFrame, NoSlot, NotCovered, NotPermitted, ReadOnly, ReplyFull, TooLong, TooManyRanges, WrongKind}
use Rattle.lwc_types.specs.declared.regs.Regs.{Regs}
use Rattle.lwc_syscall.specs.Plain.{Outcome, answering, becoming, close_refusals, closing, copy_refusals, copying, ended, is_absent, is_full, is_read_only, is_written, left, map_refusals, mapping, moved, open_refusals, opening, passes_limit, place_refusals, placed, plain, read_on, read_refusals, reading, refused_or, store_at, uid_refusals, world_after, write_refusals, writing, written}
use Rattle.lwc_syscall.specs.Syscall.{inner_args, inner_call, inner_number, link, lw_syscall, mask_in, refusals, targets_of}
use Rattle.lwc_syscall.specs.declared.answer.CallAnswer.TheVariants.{Exit, Refused}
use Rattle.lwc_syscall.specs.declared.calls.CallContexts.{CallContexts}
use Rattle.lwc_syscall.specs.declared.plain_call.PlainCall.{PlainCall}
use Rattle.lwc_syscall.specs.declared.plain_call.PlainCall.TheVariants as plain_calls
use Rattle.lift_law.proofs.Calls.{MayAct, whole_link}
use Rattle.lift_law.proofs.Changes.{map-wide, put_slot-wide, put_uid-wide, store-wide, wide_stored}
use Rattle.lift_law.proofs.Counts.{ranges-wide}
use Rattle.lift_law.proofs.Ends.{bytes-wide, ends-map, store-past}
use Rattle.lift_law.proofs.Named.{descriptor-wide, empty_slot-wide, kinds-wide, link-wide, slot_refusals-wide, wide_link}
use Rattle.lift_law.proofs.Pages.{HasNoMore}
use Rattle.lift_law.proofs.Rows.{first-past}
use Rattle.lift_law.proofs.Wide.{lowest-wide, uid-wide, wide, wide_descriptor}

-- the end of a plain call with a world that has more pages
abbrev pub wide_outcome : Outcome → Outcome
wide_outcome o = record o { world = wide o.world }

-- a call that is not refused for a range is followed by the call in the world with more pages
abbrev pub Follows : Outcome → Outcome → Type 0
Follows o wider = refusal_at_end o.answer ≢ Some BadRange → wider ≡ wide_outcome o

module _ (w : World) (io : Channels) where
  -- a call ends the same where its first refusal is the same and what it does is
  ended_by : (first : Option Refusal) (done original : Outcome) → (first ≡ None → done ≡ wide_outcome original) → refused_or (wide w) io done first ≡ wide_outcome (refused_or w io original first)
  ended_by None done original is = is refl
  ended_by (Some refusal) done original is = refl

  pub ended-wide : (rows others : List (Bool × Refusal)) (done original : Outcome) → first_refusal others ≡ first_refusal rows → (first_refusal rows ≡ None → done ≡ wide_outcome original) →
      ended (wide w) io others done ≡ wide_outcome (ended w io rows original)
  ended-wide rows others done original same is = ap (refused_or (wide w) io done) same ∙ ended_by (first_refusal rows) done original is

  -- the first row that holds is why a call is refused, where what it does is no refusal
  refused_first : (first : Option Refusal) (done : Outcome) → refusal_at_end done.answer ≡ None → refusal_at_end (refused_or w io done first).answer ≡ first
  refused_first None done is = is
  refused_first (Some refusal) done is = refl

  placed-wide : (s : Name) (value : Descriptor) → placed (wide w) io s (wide_descriptor value) ≡ wide_outcome (placed w io s value)
  placed-wide s value =
      ap (λ o. answering (unwrap_or o 0) (put_slot (wide w) s (unwrap_or o 0) (wide_descriptor value)) io) (lowest-wide w s)
      ∙ ap (λ u. answering (unwrap_or (lowest_empty w s) 0) u io) (put_slot-wide w s (unwrap_or (lowest_empty w s) 0) value)

  place-wide : (s : Name) → place_refusals (wide w) s ≡ place_refusals w s
  place-wide s = λ i. (is_none (lowest-wide w s i), NoSlot) ∷ []

  opening-wide : (targets : CallContexts) (file : ℕ) → opening (wide w) io targets file ≡ wide_outcome (opening w io targets file)
  opening-wide targets file =
      ended-wide (open_refusals w io targets file) (open_refusals (wide w) io targets file) (placed (wide w) io targets.slots (File file 0)) (placed w io targets.slots (File file 0))
      (λ i. first_refusal ((nat_le (length io.files) file, NoFile)
      ∷ (not (option_map_or (λ found. may_open (uid-wide w targets.cred i) found.owner found.public) (slice_get io.files file) false), NotPermitted) ∷ place-wide targets.slots i))
      (λ none. placed-wide targets.slots (File file 0))

  closing-wide : (s : Name) (n : ℕ) → closing (wide w) io s n ≡ wide_outcome (closing w io s n)
  closing-wide s n =
      ended-wide (close_refusals w s n) (close_refusals (wide w) s n) (answering 0 (put_slot (wide w) s n Empty) io) (answering 0 (put_slot w s n Empty) io)
      (λ i. first_refusal ((empty_slot-wide w s n i, BadFd) ∷ []))
      (λ none. ap (λ u. answering 0 u io) (put_slot-wide w s n Empty))

  copying-wide : (s : Name) (n : ℕ) → copying (wide w) io s n ≡ wide_outcome (copying w io s n)
  copying-wide s n =
      ended-wide (copy_refusals w s n) (copy_refusals (wide w) s n) (placed (wide w) io s (descriptor_for (wide w) s n)) (placed w io s (descriptor_for w s n))
      (λ i. first_refusal ((empty_slot-wide w s n i, BadFd) ∷ place-wide s i))
      (λ none. ap (placed (wide w) io s) (descriptor-wide w s n) ∙ placed-wide s (descriptor_for w s n))

  -- what is read and written through a descriptor
  left-wide : (d : Descriptor) → left io (wide_descriptor d) ≡ left io d
  left-wide Empty = refl
  left-wide Console = refl
  left-wide (File file at) = refl
  left-wide (Request r at) = refl
  left-wide (Reply r) = refl
  left-wide (Ctx name cap) = refl

  is_written-wide : (d : Descriptor) → is_written (wide_descriptor d) ≡ is_written d
  is_written-wide Empty = refl
  is_written-wide Console = refl
  is_written-wide (File file at) = refl
  is_written-wide (Request r at) = refl
  is_written-wide (Reply r) = refl
  is_written-wide (Ctx name cap) = refl

  read_on-wide : (count : ℕ) (d : Descriptor) → read_on count (wide_descriptor d) ≡ wide_descriptor (read_on count d)
  read_on-wide count Empty = refl
  read_on-wide count Console = refl
  read_on-wide count (File file at) = refl
  read_on-wide count (Request r at) = refl
  read_on-wide count (Reply r) = refl
  read_on-wide count (Ctx name cap) = refl

  passes-wide : (d : Descriptor) (count : ℕ) → passes_limit io (wide_descriptor d) count ≡ passes_limit io d count
  passes-wide Empty count = refl
  passes-wide Console count = refl
  passes-wide (File file at) count = refl
  passes-wide (Request r at) count = refl
  passes-wide (Reply r) count = refl
  passes-wide (Ctx name cap) count = refl

  written-wide : (d : Descriptor) (bytes : List ℕ) → written io (wide_descriptor d) bytes ≡ written io d bytes
  written-wide Empty bytes = refl
  written-wide Console bytes = refl
  written-wide (File file at) bytes = refl
  written-wide (Request r at) bytes = refl
  written-wide (Reply r) bytes = refl
  written-wide (Ctx name cap) bytes = refl

  empty_descriptor : (d : Descriptor) → is_empty (wide_descriptor d) ≡ is_empty d
  empty_descriptor Empty = refl
  empty_descriptor Console = refl
  empty_descriptor (File file at) = refl
  empty_descriptor (Request r at) = refl
  empty_descriptor (Reply r) = refl
  empty_descriptor (Ctx name cap) = refl

  absent-wide : (s : Stored) → is_absent (wide_stored s) ≡ is_absent s
  absent-wide stores.Absent = refl
  absent-wide stores.ReadOnly = refl
  absent-wide stores.Full = refl
  absent-wide (stores.Done v) = refl

  read_only-wide : (s : Stored) → is_read_only (wide_stored s) ≡ is_read_only s
  read_only-wide stores.Absent = refl
  read_only-wide stores.ReadOnly = refl
  read_only-wide stores.Full = refl
  read_only-wide (stores.Done v) = refl

  full-wide : (s : Stored) → is_full (wide_stored s) ≡ is_full s
  full-wide stores.Absent = refl
  full-wide stores.ReadOnly = refl
  full-wide stores.Full = refl
  full-wide (stores.Done v) = refl

  world_after-wide : (s : Stored) → world_after (wide w) (wide_stored s) ≡ wide (world_after w s)
  world_after-wide stores.Absent = refl
  world_after-wide stores.ReadOnly = refl
  world_after-wide stores.Full = refl
  world_after-wide (stores.Done v) = refl

module _ (w : World) (ends : HasNoMore w) (io : Channels) where
  writing-wide : (targets : CallContexts) (n at count : ℕ) → writing (wide w) io targets n at count ≡ wide_outcome (writing w io targets n at count)
  unfolding writing
  writing-wide targets n at count =
      let d : Descriptor = descriptor_for w targets.slots n in
      let bytes = bytes-wide w ends targets.memory at count in
      (λ i. ended (wide w) io (write_refusals io (descriptor-wide w targets.slots n i) count (bytes i))
      (answering count (wide w) (written io (descriptor-wide w targets.slots n i) (unwrap_or (bytes i) []))))
      ∙ ended-wide w io (write_refusals io d count (bytes_for w targets.memory at count)) (write_refusals io (wide_descriptor d) count (bytes_for w targets.memory at count))
      (answering count (wide w) (written io (wide_descriptor d) (unwrap_or (bytes_for w targets.memory at count) []))) (answering count w (written io d (unwrap_or (bytes_for w targets.memory at count) [])))
      (λ i. first_refusal ((empty_descriptor w io d i, BadFd) ∷ (not (is_written-wide w io d i), WrongKind) ∷ (nat_lt MOST_BYTES_OF_CALL count, TooLong)
      ∷ (is_none (bytes_for w targets.memory at count), BadAddress) ∷ (passes-wide w io d count i, ReplyFull) ∷ []))
      (λ none. ap (answering count (wide w)) (written-wide w io d (unwrap_or (bytes_for w targets.memory at count) [])))

  -- a store at a guest's address: past the last page it finds no page in either world
  store_at-wide : (m : Name) (job at : ℕ) (bytes : List ℕ) → store_at (wide w) m job at bytes ≡ wide_stored (store_at w m job at bytes)
  unfolding store_at
  store_at-wide m job at bytes =
      ap (λ s. cond (eqb (length bytes) 0) (stores.Done (wide w)) (cond (nat_le (at + length bytes) (MOST_PAGES * PAGE_BYTES)) s stores.Absent)) (store-wide w ends m job (record { at = at; bytes = bytes }))
      ∙ by (eqb (length bytes) 0) refl (nat_le (at + length bytes) (w.size.pages * PAGE_BYTES)) refl (nat_le (at + length bytes) (MOST_PAGES * PAGE_BYTES)) refl
    where
      by : (a : Bool) → eqb (length bytes) 0 ≡ a → (b : Bool) → nat_le (at + length bytes) (w.size.pages * PAGE_BYTES) ≡ b → (d : Bool) → nat_le (at + length bytes) (MOST_PAGES * PAGE_BYTES) ≡ d →
          cond a (stores.Done (wide w)) (cond d (wide_stored (store w m job (record { at = at; bytes = bytes }))) stores.Absent)
          ≡ wide_stored (cond a (stores.Done w) (cond b (store w m job (record { at = at; bytes = bytes })) stores.Absent))
      by true none b inside d most = refl
      by false some true inside true most = refl
      by false some true inside false most = let few = ends.few in absurd (grind (arith, nat_tests))
      by false some false past true most = ap wide_stored (store-past w ends m job (record { at = at; bytes = bytes }) (grind (arith, nat_tests)) (grind (arith, nat_tests)))
      by false some false past false most = refl

  reading-wide : (targets : CallContexts) (job n at count : ℕ) → reading (wide w) io targets job n at count ≡ wide_outcome (reading w io targets job n at count)
  unfolding reading
  reading-wide targets job n at count =
      let d : Descriptor = descriptor_for w targets.slots n in
      let bytes : List ℕ = moved io d count in
      let stored : Stored = store_at w targets.memory job at bytes in
      let same_bytes : moved io (descriptor_for (wide w) targets.slots n) count ≡ bytes = ap (λ o. take count (unwrap_or o [])) (ap (left io) (descriptor-wide w targets.slots n) ∙ left-wide w io d) in
      let stores_same : store_at (wide w) targets.memory job at (moved io (descriptor_for (wide w) targets.slots n) count) ≡ wide_stored stored =
      ap (store_at (wide w) targets.memory job at) same_bytes ∙ store_at-wide targets.memory job at bytes in
      (λ i. ended (wide w) io (read_refusals io (descriptor-wide w targets.slots n i) count (stores_same i))
      (answering (length (same_bytes i)) (put_slot (world_after (wide w) (stores_same i)) targets.slots n (read_on (length (same_bytes i)) (descriptor-wide w targets.slots n i))) io))
      ∙ ended-wide w io (read_refusals io d count stored) (read_refusals io (wide_descriptor d) count (wide_stored stored))
      (answering (length bytes) (put_slot (world_after (wide w) (wide_stored stored)) targets.slots n (read_on (length bytes) (wide_descriptor d))) io)
      (answering (length bytes) (put_slot (world_after w stored) targets.slots n (read_on (length bytes) d)) io)
      (λ i. first_refusal ((empty_descriptor w io d i, BadFd) ∷ (is_none (left-wide w io d i), WrongKind) ∷ (nat_lt MOST_BYTES_OF_CALL count, TooLong)
      ∷ (absent-wide w io stored i, BadAddress) ∷ (read_only-wide w io stored i, ReadOnly) ∷ (full-wide w io stored i, NoFrame) ∷ []))
      (λ none. ap (λ u. answering (length bytes) u io)
      ((λ i. put_slot (world_after-wide w io stored i) targets.slots n (read_on-wide w io (length bytes) d i)) ∙ put_slot-wide (world_after w stored) targets.slots n (read_on (length bytes) d)))

  mapping-wide : (m : Name) (from to : ℕ) (present : Bool) → refusal_at_end (mapping w io m from to present).answer ≢ Some BadRange →
      mapping (wide w) io m from to present ≡ wide_outcome (mapping w io m from to present)
  mapping-wide m from to present free =
      ended-wide w io (map_refusals w m from to present) (map_refusals (wide w) m from to present) (answering 0 (mapped_or_not (wide w) m from to present) io) (answering 0 (mapped_or_not w m from to present) io)
      (first-past [] (nat_le to from || nat_lt w.size.pages to) (nat_le to from || nat_lt MOST_PAGES to)
      ((nat_lt MOST_RANGES (ranges_of (mapped_or_not w m from to present) m), TooManyRanges) ∷ [])
      ((nat_lt MOST_RANGES (ranges_of (mapped_or_not (wide w) m from to present) m), TooManyRanges) ∷ [])
      (λ inside. fewer (nat_le to from) inside)
      (λ inside. ap (λ n. first_refusal ((nat_lt MOST_RANGES n, TooManyRanges) ∷ []))
      (ap (λ u. ranges_of u m) (map-wide w m from to present) ∙ ranges-wide (mapped_or_not w m from to present) (ends-map w ends m from to present (low (nat_le to from) inside)) m))
      (λ bad. free (refused_first w io (first_refusal (map_refusals w m from to present)) (answering 0 (mapped_or_not w m from to present) io) refl ∙ bad)))
      (λ none. ap (λ u. answering 0 u io) (map-wide w m from to present))
    where
      fewer : (a : Bool) → (a || nat_lt w.size.pages to) ≡ false → (a || nat_lt MOST_PAGES to) ≡ false
      fewer true is = is
      fewer false is = let few = ends.few in grind (arith, nat_tests)

      low : (a : Bool) → (a || nat_lt w.size.pages to) ≡ false → to ≤ w.size.pages
      low true is = cc
      low false is = grind (arith, nat_tests)

  becoming-wide : (c : Name) (uid : ℕ) → becoming (wide w) io c uid ≡ wide_outcome (becoming w io c uid)
  becoming-wide c uid =
      ended-wide w io (uid_refusals w c uid) (uid_refusals (wide w) c uid) (answering 0 (put_uid (wide w) c uid) io) (answering 0 (put_uid w c uid) io)
      (λ i. first_refusal ((nat_le (2 ^ 32) uid, BadRange) ∷ (not (may_set (uid-wide w c i) uid), NotPermitted) ∷ []))
      (λ none. ap (λ u. answering 0 u io) (put_uid-wide w c uid))

  pub plain-wide : (targets : CallContexts) (job : ℕ) (call : Option PlainCall) (args : List ℕ) → Follows (plain w io targets job call args) (plain (wide w) io targets job call args)
  unfolding plain
  plain-wide targets job None args = λ free. refl
  plain-wide targets job (Some plain_calls.Open) args = λ free. opening-wide w io targets (slice_index args 0)
  plain-wide targets job (Some plain_calls.Close) args = λ free. closing-wide w io targets.slots (slice_index args 0)
  plain-wide targets job (Some plain_calls.Dup) args = λ free. copying-wide w io targets.slots (slice_index args 0)
  plain-wide targets job (Some plain_calls.Read) args = λ free. reading-wide targets job (slice_index args 0) (slice_index args 1) (slice_index args 2)
  plain-wide targets job (Some plain_calls.Write) args = λ free. writing-wide targets (slice_index args 0) (slice_index args 1) (slice_index args 2)
  plain-wide targets job (Some plain_calls.Map) args = mapping-wide targets.memory (slice_index args 0) (slice_index args 1) true
  plain-wide targets job (Some plain_calls.Unmap) args = mapping-wide targets.memory (slice_index args 0) (slice_index args 1) false
  plain-wide targets job (Some plain_calls.GetUid) args = λ free. ap (λ n. answering n (wide w) io) (uid-wide w targets.cred)
  plain-wide targets job (Some plain_calls.SetUid) args = λ free. becoming-wide targets.cred (slice_index args 0)
  plain-wide targets job (Some plain_calls.Exit) args = λ free. refl

-- a call over chosen contexts
module _ (w : World) (io : Channels) (c : Name) (may : MayAct w c) (job : ℕ) (regs : Regs) where
  abbrev l : Name × Cap
  l = link w c regs

  link_is : link (wide w) c regs ≡ wide_link l
  link_is = link-wide w c (slice_index regs.r 1)

  three_is : targets_of (wide w) c regs ≡ targets_of w c regs
  three_is = λ i. record {
    memory = cond (is_chosen (mask_in regs) Page) (link_is i).0 c;
    slots = cond (is_chosen (mask_in regs) Slot) (link_is i).0 c;
    cred = cond (is_chosen (mask_in regs) Cred) (link_is i).0 c;
  }

  refusals-wide : refusals (wide w) c regs ≡ refusals w c regs
  unfolding refusals
  refusals-wide =
      ap (λ link. slot_refusals (wide w) c (slice_index regs.r 1)
      ++ ((nat_lt 7 (mask_in regs), BadMode) ∷ (not (has_kinds MOST_PAGES link.1 (mask_in regs)), NotCovered) ∷ (nat_lt (inner_number regs) 1 || nat_lt 9 (inner_number regs), BadCall) ∷ [])) link_is
      ∙ (λ i. slot_refusals-wide w c (slice_index regs.r 1) i
      ++ ((nat_lt 7 (mask_in regs), BadMode)
      ∷ (not (kinds-wide w.size.pages may.ends.few may.some l.1 (whole_link w c may (slice_index regs.r 1)) (mask_in regs) i), NotCovered)
      ∷ (nat_lt (inner_number regs) 1 || nat_lt 9 (inner_number regs), BadCall) ∷ []))

  pub syscall-wide : refusal_at_end (lw_syscall w io c job regs).answer ≢ Some BadRange → lw_syscall (wide w) io c job regs ≡ wide_outcome (lw_syscall w io c job regs)
  unfolding lw_syscall
  syscall-wide free =
      ap (λ targets. ended (wide w) io (refusals (wide w) c regs) (plain (wide w) io targets job (inner_call regs) (inner_args regs))) three_is
      ∙ ended-wide w io (refusals w c regs) (refusals (wide w) c regs) (plain (wide w) io (targets_of w c regs) job (inner_call regs) (inner_args regs))
      (plain w io (targets_of w c regs) job (inner_call regs) (inner_args regs)) (ap first_refusal refusals-wide)
      (λ none. plain-wide w may.ends io (targets_of w c regs) job (inner_call regs) (inner_args regs)
      (λ bad. free (ap (λ first. refusal_at_end (refused_or w io (plain w io (targets_of w c regs) job (inner_call regs) (inner_args regs)) first).answer) none ∙ bad)))
