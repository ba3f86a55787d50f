-- Which calls cut no link.
use Rattle.std.proofs.Common.{◌≡◌, ◌⊎◌, inl, inr, ◌∙◌, ℕ, Bool, true, false, List, [], None, Option, Some, ap, refl, length, subst, sym, arith}
use Rattle.std.proofs.lemmas.Bool.Decides.{nat_tests}
use Rattle.std.specs.Prelude.{◌==◌, if◌then◌else◌, is_none, slice_index, unwrap_or}
use Rattle.guest_call.specs.Guest.{descriptor_for}
use Rattle.lwc_base.specs.Cells.{put_slot, slot_at, uid_at}
use Rattle.lwc_base.specs.Channels.{Channels}
use Rattle.lwc_base.specs.Life.{is_of}
use Rattle.lwc_base.specs.Memory.{bytes_for}
use Rattle.lwc_base.specs.Refusals.{first_refusal}
use Rattle.lwc_base.specs.Slots.{lowest_empty}
use Rattle.lwc_base.specs.Store.{Piece, Stored, after_store, store}
use Rattle.lwc_base.specs.Store as stores
use Rattle.lwc_base.specs.Summaries.{is_empty}
use Rattle.lwc_base.specs.World.{World}
use Rattle.lwc_base.specs.declared.descriptor.Descriptor.{Descriptor}
use Rattle.lwc_base.specs.declared.descriptor.Descriptor.TheVariants.{Empty, Console, File, Request, Reply, Ctx}
use Rattle.lwc_types.specs.declared.name.Name.{Name}
use Rattle.lwc_types.specs.declared.refusal.Refusal.{Refusal}
use Rattle.lwc_types.specs.declared.refusal.Refusal.TheVariants.{BadCall}
use Rattle.lwc_types.specs.declared.regs.Regs.{Regs}
use Rattle.lwc_syscall.proofs.Does.{ended-cases, stored-cases}
use Rattle.lwc_syscall.specs.Changes.{CutsNone, LosesNone, Put, Same, StoredPut, cuts_none, leaves_world}
use Rattle.lwc_syscall.specs.Plain.{Outcome, answering, becoming, closing, copy_refusals, copying, ended, is_absent, is_read_only, is_full, left, mapping, moved, open_refusals, opening, placed, plain, read_on, read_refusals, reading, store_at, world_after, write_refusals, writing, written}
use Rattle.lwc_syscall.specs.Syscall.{inner_args, inner_call, lw_syscall, refusals, targets_of}
use Rattle.lwc_syscall.specs.declared.answer.CallAnswer.TheVariants.{Exit, Refused}
use Rattle.lwc_syscall.specs.declared.calls.CallContexts.{CallContexts}
use Rattle.lwc_syscall.specs.declared.plain_call.PlainCall.{PlainCall}
use Rattle.lwc_syscall.specs.declared.plain_call.PlainCall.TheVariants as calls
use Rattle.lwc_base.proofs.Slots.{lowest_is_empty_slot, slot_at-after_store}

-- an empty slot is of no context, and what can be read is of none
empty-of-none : (d : Name) (value : Descriptor) → is_empty value ≡ true → is_of d value ≡ false
empty-of-none d Empty is = refl
empty-of-none d Console is = refl
empty-of-none d (File file at) is = refl
empty-of-none d (Request r at) is = refl
empty-of-none d (Reply r) is = refl
empty-of-none d (Ctx name cap) is = cc

read-of-none : (io : Channels) (d : Name) (value : Descriptor) → is_none (left io value) ≡ false → is_of d value ≡ false
read-of-none io d Empty is = refl
read-of-none io d Console is = refl
read-of-none io d (File file at) is = refl
read-of-none io d (Request r at) is = refl
read-of-none io d (Reply r) is = refl
read-of-none io d (Ctx name cap) is = cc

loses-none : (old new : Descriptor) → ((d : Name) → is_of d old ≡ false) → LosesNone old new
loses-none old new none d is = absurd (cc (none d, is))

-- a store leaves slots
done-leaves : (w v : World) (c : Name) (job : ℕ) (piece : Piece) (d : Name) (n : ℕ) → store w c job piece ≡ stores.Done v → slot_at v d n ≡ slot_at w d n
unfolding store
done-leaves w v c job piece d n is = let done : v ≡ after_store w c job piece = grind arith in ap (λ u. slot_at u d n) done ∙ slot_at-after_store w c job piece d n

module _ (w : World) (io : Channels) (targets : CallContexts) (job : ℕ) where
  lowest-of-none : (lowest : Option ℕ) → lowest_empty w targets.slots ≡ lowest → is_none lowest ≡ false → (d : Name) → is_of d (slot_at w targets.slots (unwrap_or lowest 0)) ≡ false
  lowest-of-none None is some d = cc
  lowest-of-none (Some n) is some d = empty-of-none d _ (lowest_is_empty_slot w targets.slots n is).1

  placed-cuts : (value : Descriptor) (rows : List (Bool × Refusal)) → (first_refusal rows ≡ None → is_none (lowest_empty w targets.slots) ≡ false) →
      CutsNone w targets job (ended w io rows (placed w io targets.slots value)).world
  placed-cuts value rows some =
      ended-cases (λ o. CutsNone w targets job o.world) w io rows (placed w io targets.slots value) (λ _. Same)
      (λ passed. Put (unwrap_or (lowest_empty w targets.slots) 0) value (loses-none _ _ (lowest-of-none (lowest_empty w targets.slots) refl (some passed))))

  done-cuts : (stored : Stored) (piece : Piece) (n : ℕ) (value : Descriptor) → is_absent stored ≡ false → is_read_only stored ≡ false → is_full stored ≡ false →
      (stored ≡ stores.Done w) ⊎ ((stored ≡ stores.Absent) ⊎ (stored ≡ store w targets.memory job piece)) → ((d : Name) → is_of d (slot_at w targets.slots n) ≡ false) →
      CutsNone w targets job (put_slot (world_after w stored) targets.slots n value)
  done-cuts stores.Absent piece n value there writable room by none = absurd (grind arith)
  done-cuts stores.ReadOnly piece n value there writable room by none = absurd (grind arith)
  done-cuts stores.Full piece n value there writable room by none = absurd (grind arith)
  done-cuts (stores.Done v) piece n value there writable room (inl same) none =
      let is : w ≡ v = grind arith in subst (λ (u : World). CutsNone w targets job (put_slot u targets.slots n value)) is (Put n value (loses-none _ _ none))
  done-cuts (stores.Done v) piece n value there writable room (inr (inl same)) none = absurd (grind arith)
  done-cuts (stores.Done v) piece n value there writable room (inr (inr is)) none =
      StoredPut v piece n value (sym is) (loses-none _ _ (λ d. ap (is_of d) (done-leaves w v targets.memory job piece targets.slots n (sym is)) ∙ none d))

  -- what is found under a number is of no context where the slot is of none
  found-of-none : (n : ℕ) (d : Name) → is_empty (descriptor_for w targets.slots n) ≡ false → is_of d (descriptor_for w targets.slots n) ≡ false → is_of d (slot_at w targets.slots n) ≡ false
  unfolding descriptor_for
  found-of-none n d filled is = grind (arith, nat_tests)

  reading-cuts : (n at count : ℕ) → CutsNone w targets job (reading w io targets job n at count).world
  unfolding reading
  reading-cuts n at count =
      let value = descriptor_for w targets.slots n in
      let bytes = moved io value count in
      let stored = store_at w targets.memory job at bytes in
      ended-cases (λ o. CutsNone w targets job o.world) w io (read_refusals io value count stored)
      (answering (length bytes) (put_slot (world_after w stored) targets.slots n (read_on (length bytes) value)) io) (λ _. Same)
      (λ passed. done-cuts stored (record { at = at; bytes = bytes }) n (read_on (length bytes) value) (grind arith) (grind arith) (grind arith) (stored-cases w targets.memory job at bytes)
      (λ d. found-of-none n d (grind arith) (read-of-none io d value (grind arith))))

  writing-leaves : (n at count : ℕ) → (writing w io targets n at count).world ≡ w
  unfolding writing
  writing-leaves n at count =
      let value = descriptor_for w targets.slots n in
      let bytes = bytes_for w targets.memory at count in
      ended-cases (λ o. o.world ≡ w) w io (write_refusals io value count bytes) (answering count w (written io value (unwrap_or bytes []))) (λ _. refl) (λ _. refl)

  pub plain-cuts : (call : Option PlainCall) (args : List ℕ) → cuts_none call ≡ true → CutsNone w targets job (plain w io targets job call args).world
  unfolding plain
  plain-cuts None args is = absurd cc
  plain-cuts (Some calls.Open) args is = placed-cuts (File (slice_index args 0) 0) (open_refusals w io targets (slice_index args 0)) (λ passed. grind arith)
  plain-cuts (Some calls.Close) args is = absurd cc
  plain-cuts (Some calls.Dup) args is = placed-cuts (descriptor_for w targets.slots (slice_index args 0)) (copy_refusals w targets.slots (slice_index args 0)) (λ passed. grind arith)
  plain-cuts (Some calls.Read) args is = reading-cuts (slice_index args 0) (slice_index args 1) (slice_index args 2)
  plain-cuts (Some calls.Write) args is = absurd cc
  plain-cuts (Some calls.Map) args is = absurd cc
  plain-cuts (Some calls.Unmap) args is = absurd cc
  plain-cuts (Some calls.GetUid) args is = absurd cc
  plain-cuts (Some calls.SetUid) args is = absurd cc
  plain-cuts (Some calls.Exit) args is = absurd cc

  pub plain-leaves : (call : Option PlainCall) (args : List ℕ) → leaves_world call ≡ true → (plain w io targets job call args).world ≡ w
  unfolding plain
  plain-leaves None args is = absurd cc
  plain-leaves (Some calls.Open) args is = absurd cc
  plain-leaves (Some calls.Close) args is = absurd cc
  plain-leaves (Some calls.Dup) args is = absurd cc
  plain-leaves (Some calls.Read) args is = absurd cc
  plain-leaves (Some calls.Write) args is = writing-leaves (slice_index args 0) (slice_index args 1) (slice_index args 2)
  plain-leaves (Some calls.Map) args is = absurd cc
  plain-leaves (Some calls.Unmap) args is = absurd cc
  plain-leaves (Some calls.GetUid) args is = refl
  plain-leaves (Some calls.SetUid) args is = absurd cc
  plain-leaves (Some calls.Exit) args is = refl

-- and so over the contexts that a mask chooses
pub syscall-cuts : (w : World) (io : Channels) (c : Name) (job : ℕ) (regs : Regs) → cuts_none (inner_call regs) ≡ true → CutsNone w (targets_of w c regs) job (lw_syscall w io c job regs).world
unfolding lw_syscall
syscall-cuts w io c job regs is =
    ended-cases (λ o. CutsNone w (targets_of w c regs) job o.world) w io (refusals w c regs) (plain w io (targets_of w c regs) job (inner_call regs) (inner_args regs)) (λ _. Same)
    (λ _. plain-cuts w io (targets_of w c regs) job (inner_call regs) (inner_args regs) is)

pub syscall-leaves : (w : World) (io : Channels) (c : Name) (job : ℕ) (regs : Regs) → leaves_world (inner_call regs) ≡ true → (lw_syscall w io c job regs).world ≡ w
unfolding lw_syscall
syscall-leaves w io c job regs is =
    ended-cases (λ o. o.world ≡ w) w io (refusals w c regs) (plain w io (targets_of w c regs) job (inner_call regs) (inner_args regs)) (λ _. refl)
    (λ _. plain-leaves w io (targets_of w c regs) job (inner_call regs) (inner_args regs) is)
