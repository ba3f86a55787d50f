-- A call that is refused changes nothing.
use Rattle.std.proofs.Common.{ℕ, true, false, Bool, List, [], length, refl, arith, Option, Some, None}
use Rattle.std.specs.Prelude.{slice_index, unwrap_or}
use Rattle.guest_call.specs.Guest.{descriptor_for}
use Rattle.lwc_base.specs.Cells.{put_slot, put_uid, uid_at}
use Rattle.lwc_base.specs.Channels.{Channels}
use Rattle.lwc_base.specs.Mapping.{mapped_or_not}
use Rattle.lwc_base.specs.Memory.{bytes_for}
use Rattle.lwc_base.specs.Slots.{lowest_empty}
use Rattle.lwc_base.specs.World.{World}
use Rattle.lwc_base.specs.declared.descriptor.Descriptor.{Descriptor}
use Rattle.lwc_base.specs.declared.descriptor.Descriptor.TheVariants.{Empty, File}
use Rattle.lwc_types.specs.declared.name.Name.{Name}
use Rattle.lwc_types.specs.declared.refusal.Refusal.{Refusal}
use Rattle.lwc_types.specs.declared.refusal.Refusal.TheVariants.{BadCall}
use Rattle.lwc_types.specs.declared.regs.Regs.{Regs}
use Rattle.lwc_syscall.specs.Changes.{ChangesIfDone}
use Rattle.lwc_syscall.specs.Plain.{answering, becoming, close_refusals, closing, copy_refusals, copying, ended, map_refusals, mapping, moved, open_refusals, opening, placed, plain, read_on, read_refusals, reading, store_at, uid_refusals, world_after, write_refusals, writing, written}
use Rattle.lwc_syscall.specs.Syscall.{inner_args, inner_call, lw_syscall, refusals, targets_of}
use Rattle.lwc_syscall.specs.declared.answer.CallAnswer.TheVariants.{Exit, Refused}
use Rattle.lwc_syscall.specs.declared.calls.CallContexts.{CallContexts}
use Rattle.lwc_syscall.specs.declared.plain_call.PlainCall.{PlainCall}
use Rattle.lwc_syscall.specs.declared.plain_call.PlainCall.TheVariants as calls
use Rattle.lwc_syscall.proofs.Does.{ended-cases}

-- an outcome that answers with a value is not refused
value-done : (w v : World) (io j : Channels) (value : ℕ) → ChangesIfDone w io (answering value v j)
value-done w v io j value = λ refusal is. absurd (grind arith)

-- a call that ends by its table changes nothing where it is refused
ended-done : (w v : World) (io j : Channels) (rows : List (Bool × Refusal)) (value : ℕ) → ChangesIfDone w io (ended w io rows (answering value v j))
ended-done w v io j rows value = ended-cases (ChangesIfDone w io) w io rows (answering value v j) (λ _ _ _. (refl, refl)) (λ _. value-done w v io j value)

module _ (w : World) (io : Channels) (targets : CallContexts) (job : ℕ) where
  reading-done : (n at count : ℕ) → ChangesIfDone w io (reading w io targets job n at count)
  unfolding reading
  reading-done n at count =
      let value = descriptor_for w targets.slots n in
      let bytes = moved io value count in
      let stored = store_at w targets.memory job at bytes in
      ended-done w (put_slot (world_after w stored) targets.slots n (read_on (length bytes) value)) io io (read_refusals io value count stored) (length bytes)

  writing-done : (n at count : ℕ) → ChangesIfDone w io (writing w io targets n at count)
  unfolding writing
  writing-done n at count =
      let value = descriptor_for w targets.slots n in
      let bytes = bytes_for w targets.memory at count in
      ended-done w w io (written io value (unwrap_or bytes [])) (write_refusals io value count bytes) count

  placed-done : (value : Descriptor) (rows : List (Bool × Refusal)) → ChangesIfDone w io (ended w io rows (placed w io targets.slots value))
  placed-done value rows = let n = unwrap_or (lowest_empty w targets.slots) 0 in ended-done w (put_slot w targets.slots n value) io io rows n

  mapping-done : (from to : ℕ) (present : Bool) → ChangesIfDone w io (mapping w io targets.memory from to present)
  mapping-done from to present = ended-done w (mapped_or_not w targets.memory from to present) io io (map_refusals w targets.memory from to present) 0

  pub plain-done : (call : Option PlainCall) (args : List ℕ) → ChangesIfDone w io (plain w io targets job call args)
  unfolding plain
  plain-done None args = λ _ _. (refl, refl)
  plain-done (Some calls.Open) args = placed-done (File (slice_index args 0) 0) (open_refusals w io targets (slice_index args 0))
  plain-done (Some calls.Close) args =
      ended-done w (put_slot w targets.slots (slice_index args 0) Empty) io io (close_refusals w targets.slots (slice_index args 0)) 0
  plain-done (Some calls.Dup) args = placed-done (descriptor_for w targets.slots (slice_index args 0)) (copy_refusals w targets.slots (slice_index args 0))
  plain-done (Some calls.Read) args = reading-done (slice_index args 0) (slice_index args 1) (slice_index args 2)
  plain-done (Some calls.Write) args = writing-done (slice_index args 0) (slice_index args 1) (slice_index args 2)
  plain-done (Some calls.Map) args = mapping-done (slice_index args 0) (slice_index args 1) true
  plain-done (Some calls.Unmap) args = mapping-done (slice_index args 0) (slice_index args 1) false
  plain-done (Some calls.GetUid) args = value-done w w io io (uid_at w targets.cred)
  plain-done (Some calls.SetUid) args = ended-done w (put_uid w targets.cred (slice_index args 0)) io io (uid_refusals w targets.cred (slice_index args 0)) 0
  plain-done (Some calls.Exit) args = λ refusal is. absurd cc

pub syscall-done : (w : World) (io : Channels) (c : Name) (job : ℕ) (regs : Regs) → ChangesIfDone w io (lw_syscall w io c job regs)
unfolding lw_syscall
syscall-done w io c job regs =
    ended-cases (ChangesIfDone w io) w io (refusals w c regs) (plain w io (targets_of w c regs) job (inner_call regs) (inner_args regs)) (λ _ _ _. (refl, refl))
    (λ _. plain-done w io (targets_of w c regs) job (inner_call regs) (inner_args regs))
