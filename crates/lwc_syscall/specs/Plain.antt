-- The plain calls over a context for the memory, one for the slots and one for the credential.
use Rattle.std.specs.Prelude.{ℕ, ◌+◌, ◌*◌, ◌==◌, ◌||◌, ◌^◌, if◌then◌else◌, Bool, true, false, not, List, [], ◌∷◌}
use Rattle.std.specs.Prelude.{◌++◌, Option, None, Some, drop, is_none, length, nat_le, nat_lt, slice_get}
use Rattle.std.specs.Prelude.{slice_index, slice_set, take, unwrap_or}
use Rattle.std.specs.Option.{option_map_or}
use Rattle.guest_call.specs.Guest.{descriptor_for}
use Rattle.lwc_base.specs.Cells.{put_slot, put_uid, uid_at}
use Rattle.lwc_base.specs.Channels.{Channels, bytes_in, contents, may_open, may_set}
use Rattle.lwc_base.specs.Mapping.{mapped_or_not}
use Rattle.lwc_base.specs.Memory.{bytes_for}
use Rattle.lwc_base.specs.Ranges.{ranges_of}
use Rattle.lwc_base.specs.Refusals.{first_refusal}
use Rattle.lwc_base.specs.Slots.{lowest_empty}
use Rattle.lwc_base.specs.Store.{Piece, Stored, store}
use Rattle.lwc_base.specs.Store as stores
use Rattle.lwc_base.specs.Summaries.{is_empty}
use Rattle.lwc_base.specs.World.{World}
use Rattle.lwc_base.specs.declared.descriptor.Descriptor.{Descriptor}
use Rattle.lwc_base.specs.declared.descriptor.Descriptor.TheVariants.{Empty, Console, File, Request, Reply}
use Rattle.lwc_types.specs.declared.limits.TheConstants.{MOST_BYTES_OF_CALL, MOST_CONSOLE_BYTES, MOST_RANGES}
use Rattle.lwc_types.specs.declared.limits.TheConstants.{MOST_REPLY_BYTES}
use Rattle.lwc_types.specs.declared.name.Name.{Name}
use Rattle.lwc_types.specs.declared.page.TheConstants.{PAGE_BYTES}
use Rattle.lwc_types.specs.declared.refusal.Refusal.{Refusal}
use Rattle.lwc_types.specs.declared.refusal.Refusal.TheVariants.{BadCall, BadFd, WrongKind, BadAddress, BadRange}
use Rattle.lwc_types.specs.declared.refusal.Refusal.TheVariants.{NoSlot, NoFrame, NotPermitted, NoFile, TooManyRanges}
use Rattle.lwc_types.specs.declared.refusal.Refusal.TheVariants.{ReplyFull, TooLong, ReadOnly}
use Rattle.lwc_syscall.specs.declared.answer.CallAnswer.{CallAnswer}
use Rattle.lwc_syscall.specs.declared.answer.CallAnswer.TheVariants.{Value, Exit, Refused}
use Rattle.lwc_syscall.specs.declared.calls.CallContexts.{CallContexts}
use Rattle.lwc_syscall.specs.declared.plain_call.PlainCall.{PlainCall}
use Rattle.lwc_syscall.specs.declared.plain_call.PlainCall.TheVariants as calls

-- how a call ends: its answer, and the world and the channels afterwards
pub record Outcome : Type 0 where
  pub answer : CallAnswer
  pub world : World
  pub io : Channels

-- an outcome with this value
abbrev pub answering : ℕ → World → Channels → Outcome
answering value w io = record { answer = Value value; world = w; io = io }

-- the outcome by the first refusal that holds, which changes nothing; else the call is done
abbrev pub refused_or : World → Channels → Outcome → Option Refusal → Outcome
refused_or w io done None = done
refused_or w io done (Some refusal) = record { answer = Refused refusal; world = w; io = io }

-- the outcome of a call by its table of refusals, and by what it does
abbrev pub ended : World → Channels → List (Bool × Refusal) → Outcome → Outcome
ended w io rows done = refused_or w io done (first_refusal rows)

-- the lowest empty slot gets a descriptor, and its number is the answer
abbrev pub placed : World → Channels → Name → Descriptor → Outcome
placed w io s value =
    let n = unwrap_or (lowest_empty w s) 0 in answering n (put_slot w s n value) io

-- why no descriptor can be placed
abbrev pub place_refusals : World → Name → List (Bool × Refusal)
place_refusals w s = (is_none (lowest_empty w s), NoSlot) ∷ []

-- why a file is not opened
abbrev pub open_refusals : World → Channels → CallContexts → ℕ → List (Bool × Refusal)
open_refusals w io targets file =
    (nat_le (length io.files) file, NoFile)
    ∷ (
      not (option_map_or (λ found. may_open (uid_at w targets.cred) found.owner found.public)
          (slice_get io.files file) false),
      NotPermitted,
    )
    ∷ place_refusals w targets.slots

-- call 1: the lowest empty slot becomes a descriptor of a file, at its beginning
abbrev pub opening : World → Channels → CallContexts → ℕ → Outcome
opening w io targets file =
    ended w io (open_refusals w io targets file) (placed w io targets.slots (File file 0))

-- why a slot is not closed
abbrev pub close_refusals : World → Name → ℕ → List (Bool × Refusal)
close_refusals w s n = (is_empty (descriptor_for w s n), BadFd) ∷ []

-- call 2: a slot becomes empty
abbrev pub closing : World → Channels → Name → ℕ → Outcome
closing w io s n = ended w io (close_refusals w s n) (answering 0 (put_slot w s n Empty) io)

-- why a slot is not copied
abbrev pub copy_refusals : World → Name → ℕ → List (Bool × Refusal)
copy_refusals w s n = (is_empty (descriptor_for w s n), BadFd) ∷ place_refusals w s

-- call 3: the lowest empty slot gets the value of a slot
abbrev pub copying : World → Channels → Name → ℕ → Outcome
copying w io s n = ended w io (copy_refusals w s n) (placed w io s (descriptor_for w s n))

-- the bytes that are left to read through a descriptor, if it can be read; the console has none
abbrev pub left : Channels → Descriptor → Option (List ℕ)
left io Console = Some []
left io (File file at) = Some (drop at (bytes_in (contents io.files) file))
left io (Request r at) = Some (drop at (bytes_in io.requests r))
left io _ = None

-- a descriptor once more bytes have been read through it
abbrev pub read_on : ℕ → Descriptor → Descriptor
read_on count (File file at) = File file (at + count)
read_on count (Request r at) = Request r (at + count)
read_on count value = value

-- how far a descriptor has been read
abbrev pub offset_of : Descriptor → ℕ
offset_of (File file at) = at
offset_of (Request r at) = at
offset_of _ = 0

-- the bytes that a read moves: as many as are asked for, if that many are left
abbrev pub moved : Channels → Descriptor → ℕ → List ℕ
moved io value count = take count (unwrap_or (left io value) [])

-- the store of bytes at a guest's address; no bytes need no address
unfoldable pub store_at : World → Name → ℕ → ℕ → List ℕ → Stored
store_at w m job at bytes =
    if length bytes == 0 then stores.Done w
    else (if nat_le (at + length bytes) (w.size.pages * PAGE_BYTES)
    then store w m job (record { at = at; bytes = bytes }) else stores.Absent)

-- whether a store finds a page absent
abbrev pub is_absent : Stored → Bool
is_absent stores.Absent = true
is_absent _ = false

-- whether a store finds a page that has the right Read
abbrev pub is_read_only : Stored → Bool
is_read_only stores.ReadOnly = true
is_read_only _ = false

-- whether a store finds too few frames
abbrev pub is_full : Stored → Bool
is_full stores.Full = true
is_full _ = false

-- the world that a store leaves
abbrev pub world_after : World → Stored → World
world_after w (stores.Done v) = v
world_after w _ = w

-- why a read is refused, by what is in the slot, how many bytes are asked for, and how their store ends
abbrev pub read_refusals : Channels → Descriptor → ℕ → Stored → List (Bool × Refusal)
read_refusals io value count stored =
    (is_empty value, BadFd)
    ∷ (is_none (left io value), WrongKind)
    ∷ (nat_lt MOST_BYTES_OF_CALL count, TooLong)
    ∷ (is_absent stored, BadAddress)
    ∷ (is_read_only stored, ReadOnly)
    ∷ (is_full stored, NoFrame)
    ∷ []

-- call 4: bytes that are left go to the memory, and the slot's descriptor moves on by as many
unfoldable pub reading : World → Channels → CallContexts → ℕ → ℕ → ℕ → ℕ → Outcome
reading w io targets job n at count =
    let value = descriptor_for w targets.slots n in
    let bytes = moved io value count in
    let stored = store_at w targets.memory job at bytes in
    ended w io (read_refusals io value count stored)
    (answering (length bytes)
    (put_slot (world_after w stored) targets.slots n (read_on (length bytes) value)) io)

-- whether a descriptor can be written
abbrev pub is_written : Descriptor → Bool
is_written Console = true
is_written (Reply r) = true
is_written _ = false

-- whether the console or the reply that a descriptor writes would pass its limit by this number of bytes more
abbrev pub passes_limit : Channels → Descriptor → ℕ → Bool
passes_limit io Console count = nat_lt MOST_CONSOLE_BYTES (length io.console + count)
passes_limit io (Reply r) count = nat_lt MOST_REPLY_BYTES (length (bytes_in io.replies r) + count)
passes_limit io _ count = false

-- the channels once bytes have been written through a descriptor
abbrev pub written : Channels → Descriptor → List ℕ → Channels
written io Console bytes = record io { console = io.console ++ bytes }
written io (Reply r) bytes = record io { replies = slice_set io.replies r (bytes_in io.replies r ++ bytes) }
written io _ bytes = io

-- why a write is refused, by what is in the slot, how many bytes are asked for, and the bytes in memory
abbrev pub write_refusals : Channels → Descriptor → ℕ → Option (List ℕ) → List (Bool × Refusal)
write_refusals io value count bytes =
    (is_empty value, BadFd)
    ∷ (not (is_written value), WrongKind)
    ∷ (nat_lt MOST_BYTES_OF_CALL count, TooLong)
    ∷ (is_none bytes, BadAddress)
    ∷ (passes_limit io value count, ReplyFull)
    ∷ []

-- call 5: bytes of the memory are appended to the console or to a reply
unfoldable pub writing : World → Channels → CallContexts → ℕ → ℕ → ℕ → Outcome
writing w io targets n at count =
    let value = descriptor_for w targets.slots n in
    let bytes = bytes_for w targets.memory at count in
    ended w io (write_refusals io value count bytes)
    (answering count w (written io value (unwrap_or bytes [])))

-- why pages are not mapped or unmapped
abbrev pub map_refusals : World → Name → ℕ → ℕ → Bool → List (Bool × Refusal)
map_refusals w m from to present =
    (nat_le to from || nat_lt w.size.pages to, BadRange)
    ∷ (nat_lt MOST_RANGES (ranges_of (mapped_or_not w m from to present) m), TooManyRanges) ∷ []

-- calls 6 and 7: each page of a range becomes zeros, or absent, whatever it was
abbrev pub mapping : World → Channels → Name → ℕ → ℕ → Bool → Outcome
mapping w io m from to present =
    ended w io (map_refusals w m from to present) (answering 0 (mapped_or_not w m from to present) io)

-- why the uid does not become another one
abbrev pub uid_refusals : World → Name → ℕ → List (Bool × Refusal)
uid_refusals w c uid = (nat_le (2 ^ 32) uid, BadRange) ∷ (not (may_set (uid_at w c) uid), NotPermitted) ∷ []

-- call 9: the uid becomes another one
abbrev pub becoming : World → Channels → Name → ℕ → Outcome
becoming w io c uid = ended w io (uid_refusals w c uid) (answering 0 (put_uid w c uid) io)

-- the plain call of a number, if one has it
abbrev pub plain_call : ℕ → Option PlainCall
plain_call number =
    if number == 1 then Some calls.Open
    else (if number == 2 then Some calls.Close
    else (if number == 3 then Some calls.Dup
    else (if number == 4 then Some calls.Read
    else (if number == 5 then Some calls.Write
    else (if number == 6 then Some calls.Map
    else (if number == 7 then Some calls.Unmap
    else (if number == 8 then Some calls.GetUid
    else (if number == 9 then Some calls.SetUid
    else (if number == 10 then Some calls.Exit
    else None)))))))))

-- a plain call with its arguments: a getuid answers with the uid, an exit with the thread's code; where there is no
-- call, that is refused
unfoldable pub plain : World → Channels → CallContexts → ℕ → Option PlainCall → List ℕ → Outcome
plain w io targets job None args = record { answer = Refused BadCall; world = w; io = io }
plain w io targets job (Some calls.Open) args = opening w io targets (slice_index args 0)
plain w io targets job (Some calls.Close) args = closing w io targets.slots (slice_index args 0)
plain w io targets job (Some calls.Dup) args = copying w io targets.slots (slice_index args 0)
plain w io targets job (Some calls.Read) args =
    reading w io targets job (slice_index args 0) (slice_index args 1) (slice_index args 2)
plain w io targets job (Some calls.Write) args =
    writing w io targets (slice_index args 0) (slice_index args 1) (slice_index args 2)
plain w io targets job (Some calls.Map) args =
    mapping w io targets.memory (slice_index args 0) (slice_index args 1) true
plain w io targets job (Some calls.Unmap) args =
    mapping w io targets.memory (slice_index args 0) (slice_index args 1) false
plain w io targets job (Some calls.GetUid) args = answering (uid_at w targets.cred) w io
plain w io targets job (Some calls.SetUid) args = becoming w io targets.cred (slice_index args 0)
plain w io targets job (Some calls.Exit) args = record { answer = Exit (slice_index args 0); world = w; io = io }
