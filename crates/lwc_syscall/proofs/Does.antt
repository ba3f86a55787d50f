-- What each plain call does.
use Rattle.std.proofs.Common.{◌≡◌, ◌⊎◌, inl, inr, ◌<◌, ◌≤◌, ℕ, Bool, true, false, List, [], None, Some, refl, length, length-drop, sym, subst, arith, Option}
use Rattle.std.proofs.lemmas.Bool.Decides.{nat_tests}
use Rattle.std.proofs.lemmas.List.{length-map, length-take}
use Rattle.std.specs.Prelude.{◌==◌, if◌then◌else◌, slice_index, is_none, unwrap_or}
use Rattle.guest_call.specs.Guest.{descriptor_for}
use Rattle.lwc_base.specs.Cells.{put_slot, put_uid, slot_at, uid_at}
use Rattle.lwc_base.specs.Channels.{Channels, HasItsFiles, bytes_in, contents}
use Rattle.lwc_base.specs.Mapping.{mapped_or_not}
use Rattle.lwc_base.specs.Memory.{bytes_for}
use Rattle.lwc_base.specs.Refusals.{first_refusal}
use Rattle.lwc_base.specs.Slots.{lowest_empty}
use Rattle.lwc_base.specs.Store.{Piece, Stored, store}
use Rattle.lwc_base.specs.Store as stores
use Rattle.lwc_base.specs.Summaries.{is_empty}
use Rattle.lwc_base.specs.World.{World, is_live}
use Rattle.lwc_base.specs.declared.descriptor.Descriptor.{Descriptor}
use Rattle.lwc_base.specs.declared.descriptor.Descriptor.TheVariants.{Empty, Console, File, Request, Reply, Ctx}
use Rattle.lwc_types.specs.declared.key.TheConstants.{SLOTS}
use Rattle.lwc_types.specs.declared.limits.TheConstants.{MOST_BYTES_OF_CALL}
use Rattle.lwc_types.specs.declared.name.Name.{Name}
use Rattle.lwc_types.specs.declared.refusal.Refusal.{Refusal}
use Rattle.lwc_types.specs.declared.refusal.Refusal.TheVariants.{BadCall}
use Rattle.lwc_syscall.specs.Changes.{IsKnown, IsPlainChange, Mapped, Nothing, Read, SlotPut, UidPut, Written}
use Rattle.lwc_syscall.specs.Plain.{Outcome, answering, becoming, close_refusals, closing, copy_refusals, copying, ended, is_absent, is_read_only, is_full, left, map_refusals, mapping, moved, open_refusals, opening, placed, plain, read_on, read_refusals, reading, refused_or, store_at, uid_refusals, world_after, write_refusals, writing, written}
use Rattle.lwc_syscall.specs.declared.answer.CallAnswer.TheVariants.{Exit, Refused}
use Rattle.lwc_syscall.specs.declared.calls.CallContexts.{CallContexts}
use Rattle.lwc_syscall.specs.declared.plain_call.PlainCall.{PlainCall}
use Rattle.lwc_syscall.specs.declared.plain_call.PlainCall.TheVariants as calls
use Rattle.lwc_base.proofs.InRange.{files-slot_at}
use Rattle.lwc_base.proofs.Jobs.{jobs-slot_at}
use Rattle.lwc_base.proofs.NamedContexts.{named-live}
use Rattle.lwc_base.proofs.Slots.{lowest_is_empty_slot}
use Rattle.lwc_base.specs.Life.{HasItsContexts}

-- a call ends as it does where it is refused, or as it is done where no row of its table holds
pub ended-cases : (P : Outcome → Type 0) (w : World) (io : Channels) (rows : List (Bool × Refusal)) (done : Outcome) →
    ((refusal : Refusal) → P (record { answer = Refused refusal; world = w; io = io })) → (first_refusal rows ≡ None → P done) → P (ended w io rows done)
ended-cases P w io rows done refused all =
    elim (first_refusal rows) as (λ r. first_refusal rows ≡ r → P (refused_or w io done r)) [
      | Some refusal ↦ λ _. refused refusal
      | None ↦ all
    ] refl

-- bytes are stored at a guest's address if there are some
pub stored-cases : (w : World) (m : Name) (job at : ℕ) (bytes : List ℕ) → (store_at w m job at bytes ≡ stores.Done w) ⊎ ((store_at w m job at bytes ≡ stores.Absent)
    ⊎ (store_at w m job at bytes ≡ store w m job (record { at = at; bytes = bytes })))
unfolding store_at
stored-cases w m job at bytes = grind arith

-- what is so of the slots of the three contexts
pub record Ready (w : World) (io : Channels) (targets : CallContexts) : Type 0 where
  pub live : is_live w targets.slots ≡ true
  pub known : (n : ℕ) → n < SLOTS → IsKnown w io targets.slots (slot_at w targets.slots n)
  pub lowest : (n : ℕ) → lowest_empty w targets.slots ≡ Some n → n < SLOTS

-- what a call does by its outcome
abbrev Does : World → Channels → CallContexts → ℕ → Outcome → Type 0
Does w io targets job outcome = IsPlainChange w io targets job outcome.world outcome.io

module _ (w : World) (io : Channels) (targets : CallContexts) (job : ℕ) (ready : Ready w io targets) where
  -- what is found under a number is known
  found-known : (n : ℕ) → IsKnown w io targets.slots (descriptor_for w targets.slots n)
  unfolding descriptor_for
  found-known n = let known = ready.known n in grind (arith, nat_tests)

  -- and where something is found, the number is a slot's
  found-slot : (n : ℕ) → is_empty (descriptor_for w targets.slots n) ≡ false → n < SLOTS
  unfolding descriptor_for
  found-slot n filled = grind (arith, nat_tests)

  closing-does : (n : ℕ) → Does w io targets job (closing w io targets.slots n)
  closing-does n =
      ended-cases (Does w io targets job) w io (close_refusals w targets.slots n) (answering 0 (put_slot w targets.slots n Empty) io) (λ _. Nothing)
      (λ passed. SlotPut n Empty (found-slot n (grind arith)) (record { in_range = tt; named = λ d is. grind arith; own = λ keeps. tt; stood = λ d cap is. absurd (grind arith) }))

  placed-does : (value : Descriptor) (rows : List (Bool × Refusal)) → (first_refusal rows ≡ None → is_none (lowest_empty w targets.slots) ≡ false) →
      (first_refusal rows ≡ None → IsKnown w io targets.slots value) → Does w io targets job (ended w io rows (placed w io targets.slots value))
  placed-does value rows some known =
      ended-cases (Does w io targets job) w io rows (placed w io targets.slots value) (λ _. Nothing)
      (λ passed. SlotPut (unwrap_or (lowest_empty w targets.slots) 0) value (let lowest = ready.lowest in let there = some passed in grind arith) (known passed))

  copying-does : (n : ℕ) → Does w io targets job (copying w io targets.slots n)
  copying-does n = placed-does (descriptor_for w targets.slots n) (copy_refusals w targets.slots n) (λ passed. grind arith) (λ passed. found-known n)

  -- a file that is there is in range at its beginning
  file-known : (file : ℕ) → file < length io.files → IsKnown w io targets.slots (File file 0)
  file-known file there = record { in_range = record { there = simp length-map there; within = omega arith }; named = λ d is. grind arith; own = λ keeps. tt; stood = λ d cap is. absurd (grind arith) }

  opening-does : (file : ℕ) → Does w io targets job (opening w io targets file)
  opening-does file = placed-does (File file 0) (open_refusals w io targets file) (λ passed. grind arith) (λ passed. file-known file (grind (arith, nat_tests)))

  mapping-does : (from to : ℕ) (present : Bool) → Does w io targets job (mapping w io targets.memory from to present)
  mapping-does from to present =
      ended-cases (Does w io targets job) w io (map_refusals w targets.memory from to present) (answering 0 (mapped_or_not w targets.memory from to present) io) (λ _. Nothing)
      (λ passed. Mapped from to present (grind (arith, nat_tests)))

  becoming-does : (uid : ℕ) → Does w io targets job (becoming w io targets.cred uid)
  becoming-does uid =
      ended-cases (Does w io targets job) w io (uid_refusals w targets.cred uid) (answering 0 (put_uid w targets.cred uid) io) (λ _. Nothing) (λ passed. UidPut uid)

  writing-does : (n at count : ℕ) → Does w io targets job (writing w io targets n at count)
  unfolding writing
  writing-does n at count =
      let value = descriptor_for w targets.slots n in
      let bytes = bytes_for w targets.memory at count in
      ended-cases (Does w io targets job) w io (write_refusals io value count bytes) (answering count w (written io value (unwrap_or bytes []))) (λ _. Nothing)
      (λ passed. Written value (unwrap_or bytes []))

  -- a descriptor that has been read on, at most as far as bytes are left, is known
  on-known : (value : Descriptor) (count : ℕ) → count ≤ length (unwrap_or (left io value) []) → IsKnown w io targets.slots value → IsKnown w io targets.slots (read_on count value)
  on-known (File file at) count few known =
      let range = known.in_range in
      record {
        in_range = record { there = range.there; within = let within = range.within in omega (arith, length-drop at (bytes_in (contents io.files) file)) };
        named = λ d is. grind arith;
        own = λ keeps. tt;
        stood = λ d cap is. absurd (grind arith);
      }
  on-known (Request r at) count few known =
      let range = known.in_range in
      record {
        in_range = record { there = range.there; within = let within = range.within in omega (arith, length-drop at (bytes_in io.requests r)) };
        named = λ d is. grind arith;
        own = λ keeps. tt;
        stood = λ d cap is. absurd (grind arith);
      }
  on-known Empty count few known = known
  on-known Console count few known = known
  on-known (Reply r) count few known = known
  on-known (Ctx name cap) count few known = known

  -- what a read does once its bytes are stored
  done-does : (stored : Stored) (piece : Piece) (n : ℕ) (value : Descriptor) → is_absent stored ≡ false → is_read_only stored ≡ false → is_full stored ≡ false →
      (stored ≡ stores.Done w) ⊎ ((stored ≡ stores.Absent) ⊎ (stored ≡ store w targets.memory job piece)) → length piece.bytes ≤ MOST_BYTES_OF_CALL → n < SLOTS → IsKnown w io targets.slots value →
      IsPlainChange w io targets job (put_slot (world_after w stored) targets.slots n value) io
  done-does stores.Absent piece n value there writable room by short within known = absurd (grind arith)
  done-does stores.ReadOnly piece n value there writable room by short within known = absurd (grind arith)
  done-does stores.Full piece n value there writable room by short within known = absurd (grind arith)
  done-does (stores.Done v) piece n value there writable room (inl same) short within known =
      let is : w ≡ v = grind arith in subst (λ (u : World). IsPlainChange w io targets job (put_slot u targets.slots n value) io) is (SlotPut n value within known)
  done-does (stores.Done v) piece n value there writable room (inr (inl same)) short within known = absurd (grind arith)
  done-does (stores.Done v) piece n value there writable room (inr (inr is)) short within known = Read v piece n value short (sym is) within known

  reading-does : (n at count : ℕ) → Does w io targets job (reading w io targets job n at count)
  unfolding reading
  reading-does n at count =
      let value = descriptor_for w targets.slots n in
      let bytes = moved io value count in
      let stored = store_at w targets.memory job at bytes in
      ended-cases (Does w io targets job) w io (read_refusals io value count stored)
      (answering (length bytes) (put_slot (world_after w stored) targets.slots n (read_on (length bytes) value)) io) (λ _. Nothing)
      (λ passed.
      let few : length bytes ≤ count = omega (arith, length-take count (unwrap_or (left io value) [])) in
      let within : length bytes ≤ length (unwrap_or (left io value) []) = omega (arith, length-take count (unwrap_or (left io value) [])) in
      let short : count ≤ MOST_BYTES_OF_CALL = grind (arith, nat_tests) in
      done-does stored (record { at = at; bytes = bytes }) n (read_on (length bytes) value) (grind arith) (grind arith) (grind arith) (stored-cases w targets.memory job at bytes) (omega arith) (found-slot n (grind arith))
      (on-known value (length bytes) within (found-known n)))

  pub plain-does : (call : Option PlainCall) (args : List ℕ) → Does w io targets job (plain w io targets job call args)
  unfolding plain
  plain-does None args = Nothing
  plain-does (Some calls.Open) args = opening-does (slice_index args 0)
  plain-does (Some calls.Close) args = closing-does (slice_index args 0)
  plain-does (Some calls.Dup) args = copying-does (slice_index args 0)
  plain-does (Some calls.Read) args = reading-does (slice_index args 0) (slice_index args 1) (slice_index args 2)
  plain-does (Some calls.Write) args = writing-does (slice_index args 0) (slice_index args 1) (slice_index args 2)
  plain-does (Some calls.Map) args = mapping-does (slice_index args 0) (slice_index args 1) true
  plain-does (Some calls.Unmap) args = mapping-does (slice_index args 0) (slice_index args 1) false
  plain-does (Some calls.GetUid) args = Nothing
  plain-does (Some calls.SetUid) args = becoming-does (slice_index args 0)
  plain-does (Some calls.Exit) args = Nothing

-- where the contexts and the files that slots name are there, so are those of the caller's slots
pub does-one_thing : (w : World) (io : Channels) (targets : CallContexts) (job : ℕ) (call : Option PlainCall) (args : List ℕ) → HasItsContexts w → HasItsFiles io w → is_live w targets.slots ≡ true →
    IsPlainChange w io targets job (plain w io targets job call args).world (plain w io targets job call args).io
does-one_thing w io targets job call args named files live =
    plain-does w io targets job (record {
      live = live;
      known = λ n within. record {
        in_range = files-slot_at io w targets.slots n live files;
        named = λ d is. named-live w targets.slots d n named live within is;
        own = jobs-slot_at w targets.slots n live;
        stood = λ d cap is. (n, within, is);
      };
      lowest = λ n is. (lowest_is_empty_slot w targets.slots n is).0;
    }) call args
