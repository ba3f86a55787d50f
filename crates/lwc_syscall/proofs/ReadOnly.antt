-- Plain calls leave pages of a context's own that have the right Read.
use Rattle.std.proofs.Common.{◌≡◌, ◌≢◌, ◌⊎◌, inl, inr, ◌∙◌, ℕ, true, false, List, ap, refl, length, subst, sym, arith, Option, Some, None}
use Rattle.std.proofs.lemmas.Bool.Decides.{nat_tests}
use Rattle.std.specs.Prelude.{◌==◌, slice_index}
use Rattle.guest_call.specs.Guest.{descriptor_for}
use Rattle.lwc_base.specs.declared.descriptor.Descriptor.{Descriptor}
use Rattle.lwc_base.specs.Cells.{put_slot}
use Rattle.lwc_base.specs.Channels.{Channels}
use Rattle.lwc_base.specs.Clones.{AreApart}
use Rattle.lwc_base.specs.Store.{Piece, Stored, store}
use Rattle.lwc_base.specs.Store as stores
use Rattle.lwc_base.specs.World.{World}
use Rattle.lwc_types.specs.declared.key.Key.TheVariants.{Page, Slot}
use Rattle.lwc_types.specs.declared.name.Name.{Name}
use Rattle.lwc_types.specs.declared.regs.Regs.{Regs}
use Rattle.lwc_syscall.specs.Changes.{IsMapped, KeepsReadOnly, maps_page, may_change}
use Rattle.lwc_syscall.specs.Plain.{answering, is_absent, is_full, is_read_only, moved, plain, read_on, read_refusals, reading, store_at, world_after}
use Rattle.lwc_syscall.specs.Syscall.{inner_args, inner_call, lw_syscall, refusals, targets_of}
use Rattle.lwc_syscall.specs.declared.calls.CallContexts.{CallContexts}
use Rattle.lwc_syscall.specs.declared.plain_call.PlainCall.{PlainCall}
use Rattle.lwc_syscall.specs.declared.plain_call.PlainCall.TheVariants as calls
use Rattle.lwc_base.proofs.Common.{put-other_cell}
use Rattle.lwc_base.proofs.Rights.{rights-put_at, store-kept, store-right}
use Rattle.lwc_syscall.proofs.Does.{ended-cases, stored-cases}
use Rattle.lwc_syscall.proofs.Only.{plain_only}

-- nothing has changed
pub none_keeps : (w : World) (Out : Name → ℕ → Type 0) → KeepsReadOnly w w Out
none_keeps w Out e p value out own read = (own, read)

-- a put under a slot leaves all pages
pub slot_keeps : (w v : World) (Out : Name → ℕ → Type 0) (c : Name) (n : ℕ) (value : Descriptor) → KeepsReadOnly w v Out → KeepsReadOnly w (put_slot v c n value) Out
slot_keeps w v Out c n new was e p value out own read =
    let kept = was e p value out own read in
    (put-other_cell v c (Slot n) new e (Page p) (λ _ is. absurd cc) ∙ kept.0, ap (λ f. f p) (rights-put_at v c (Slot n) new e) ∙ kept.1)

module _ (w : World) (io : Channels) (targets : CallContexts) (job : ℕ) where
  done_keeps : (Out : Name → ℕ → Type 0) (stored : Stored) (piece : Piece) (n : ℕ) (value : Descriptor) → is_absent stored ≡ false → is_read_only stored ≡ false → is_full stored ≡ false →
      (stored ≡ stores.Done w) ⊎ ((stored ≡ stores.Absent) ⊎ (stored ≡ store w targets.memory job piece)) → KeepsReadOnly w (put_slot (world_after w stored) targets.slots n value) Out
  done_keeps Out stores.Absent piece n value there writable room by = absurd (grind arith)
  done_keeps Out stores.ReadOnly piece n value there writable room by = absurd (grind arith)
  done_keeps Out stores.Full piece n value there writable room by = absurd (grind arith)
  done_keeps Out (stores.Done v) piece n value there writable room (inl is) =
      let one : w ≡ v = grind arith in subst (λ (u : World). KeepsReadOnly w (put_slot u targets.slots n value) Out) one (slot_keeps w w Out targets.slots n value (none_keeps w Out))
  done_keeps Out (stores.Done v) piece n value there writable room (inr (inl is)) = absurd (grind arith)
  done_keeps Out (stores.Done v) piece n value there writable room (inr (inr is)) =
      slot_keeps w v Out targets.slots n value
      (λ e p old out own read. (store-kept w v targets.memory job piece (sym is) e p old read own, store-right w v targets.memory job piece (sym is) e p ∙ read))

  reading_keeps : (Out : Name → ℕ → Type 0) (n at count : ℕ) → KeepsReadOnly w (reading w io targets job n at count).world Out
  unfolding reading
  reading_keeps Out n at count =
      let value = descriptor_for w targets.slots n in
      let bytes = moved io value count in
      let stored = store_at w targets.memory job at bytes in
      ended-cases (λ o. KeepsReadOnly w o.world Out) w io (read_refusals io value count stored)
      (answering (length bytes) (put_slot (world_after w stored) targets.slots n (read_on (length bytes) value)) io) (λ _. none_keeps w Out)
      (λ passed. done_keeps Out stored (record { at = at; bytes = bytes }) n (read_on (length bytes) value) (grind arith) (grind arith) (grind arith) (stored-cases w targets.memory job at bytes))

  -- a call that changes no page but those that it maps
  other_keeps : (call : Option PlainCall) (args : List ℕ) → ((p : ℕ) → may_change w io targets call args (Page p) ≡ maps_page call args p) →
      KeepsReadOnly w (plain w io targets job call args).world (IsMapped targets call args)
  other_keeps call args mapped e p value out own read =
      let only = plain_only w io targets job args call in
      let elsewhere : may_change w io targets call args (Page p) ≡ true → e ≢ targets.memory = λ may same. out (same, sym (mapped p) ∙ may) in
      let apart : may_change w io targets call args (Page p) ≡ true → AreApart w targets.memory e (Page p) =
      λ may. record { differ = λ same. elsewhere may (sym same); no_group = λ g one two. absurd (cc (own, two)) } in
      (only.cells e (Page p) apart ∙ own, only.rights e p elsewhere ∙ read)

  pub plain_keeps : (call : Option PlainCall) (args : List ℕ) → KeepsReadOnly w (plain w io targets job call args).world (IsMapped targets call args)
  unfolding plain may_change
  plain_keeps None args = other_keeps None args (λ p. refl)
  plain_keeps (Some calls.Open) args = other_keeps (Some calls.Open) args (λ p. refl)
  plain_keeps (Some calls.Close) args = other_keeps (Some calls.Close) args (λ p. refl)
  plain_keeps (Some calls.Dup) args = other_keeps (Some calls.Dup) args (λ p. refl)
  plain_keeps (Some calls.Read) args = reading_keeps (IsMapped targets (Some calls.Read) args) (slice_index args 0) (slice_index args 1) (slice_index args 2)
  plain_keeps (Some calls.Write) args = other_keeps (Some calls.Write) args (λ p. refl)
  plain_keeps (Some calls.Map) args = other_keeps (Some calls.Map) args (λ p. refl)
  plain_keeps (Some calls.Unmap) args = other_keeps (Some calls.Unmap) args (λ p. refl)
  plain_keeps (Some calls.GetUid) args = other_keeps (Some calls.GetUid) args (λ p. refl)
  plain_keeps (Some calls.SetUid) args = other_keeps (Some calls.SetUid) args (λ p. refl)
  plain_keeps (Some calls.Exit) args = other_keeps (Some calls.Exit) args (λ p. refl)

pub syscall_keeps : (w : World) (io : Channels) (c : Name) (job : ℕ) (regs : Regs) →
    KeepsReadOnly w (lw_syscall w io c job regs).world (IsMapped (targets_of w c regs) (inner_call regs) (inner_args regs))
unfolding lw_syscall
syscall_keeps w io c job regs =
    ended-cases (λ o. KeepsReadOnly w o.world (IsMapped (targets_of w c regs) (inner_call regs) (inner_args regs))) w io (refusals w c regs)
    (plain w io (targets_of w c regs) job (inner_call regs) (inner_args regs)) (λ _. none_keeps w _)
    (λ _. plain_keeps w io (targets_of w c regs) job (inner_call regs) (inner_args regs))
