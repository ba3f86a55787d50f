-- Only a read is refused for want of frames, where there are fewer than its bytes need.
use Rattle.std.proofs.Common.{◌≡◌, ◌≢◌, ℕ, ◌+◌, ◌*◌, ◌<◌, refl, ap, ◌∙◌, Bool, true, false, cond, eqb, Some, List, [], ◌∷◌, length, arith, Option}
use Rattle.std.proofs.lemmas.Bool.Decides.{nat_tests}
use Rattle.std.specs.List.{AllByRecursion}
use Rattle.std.specs.Prelude.{nat_le, nat_lt, not, slice_index}
use Rattle.guest_call.specs.Guest.{descriptor_for, slot_refusals}
use Rattle.lwc_base.specs.Channels.{Channels}
use Rattle.lwc_base.specs.Frames.{used}
use Rattle.lwc_base.specs.Memory.{bytes_for, is_present}
use Rattle.lwc_base.specs.Rights.{is_writable}
use Rattle.lwc_base.specs.Refusals.{first_refusal}
use Rattle.lwc_base.specs.Store.{Absent, Done, Full, ReadOnly, Piece, after_store, parting_count, store}
use Rattle.lwc_base.specs.World.{World}
use Rattle.lwc_types.specs.declared.name.Name.{Name}
use Rattle.lwc_types.specs.declared.page.TheConstants.{PAGE_BYTES}
use Rattle.lwc_types.specs.declared.refusal.Refusal.{Refusal}
use Rattle.lwc_types.specs.declared.refusal.Refusal.TheVariants.{BadAddress, BadFd, NoFrame, TooLong, WrongKind}
use Rattle.lwc_types.specs.declared.refusal.Refusal.TheVariants as refusal
use Rattle.lwc_types.specs.declared.regs.Regs.{Regs}
use Rattle.lwc_syscall.specs.Plain.{Outcome, is_full, plain, refused_or, store_at}
use Rattle.lwc_syscall.specs.Plain as calls
use Rattle.lwc_syscall.specs.Syscall as syscalls
use Rattle.lwc_syscall.specs.declared.answer.CallAnswer.TheVariants.{Refused, Value}
use Rattle.lwc_syscall.specs.declared.calls.CallContexts.{CallContexts}
use Rattle.lwc_syscall.specs.declared.plain_call.PlainCall.{PlainCall}
use Rattle.lwc_syscall.specs.declared.plain_call.PlainCall.TheVariants as plain_calls
use Rattle.world_views.proofs.JobPlainly.{all_calls, by_refusal}
use Rattle.world_views.specs.Ends.{read_piece}

-- no row of a table means this refusal
abbrev pub NoneIs : Refusal → List (Bool × Refusal) → Type 0
NoneIs refusal rows = AllByRecursion (λ row. row.1 ≢ refusal) rows

not_first : (refusal : Refusal) (rows : List (Bool × Refusal)) → NoneIs refusal rows → first_refusal rows ≢ Some refusal
not_first refusal [] none = λ is. cc
not_first refusal ((true, one) ∷ rows) none = λ is. none.0 (some_is one is)
  where
    some_is : (one : Refusal) → Some one ≡ Some refusal → one ≡ refusal
    some_is one is = cc
not_first refusal ((false, one) ∷ rows) none = not_first refusal rows none.1

refused_is : (refusal : Refusal) → Refused refusal ≡ Refused NoFrame → refusal ≡ NoFrame
refused_is refusal is = cc

-- the last row of a read's table is the one that holds
last_row : (e f g x y z : Bool) → first_refusal ((e, BadFd) ∷ (f, WrongKind) ∷ (g, TooLong) ∷ (x, BadAddress) ∷ (y, refusal.ReadOnly) ∷ (z, NoFrame) ∷ []) ≡ Some NoFrame →
    z ≡ true
last_row true f g x y z is = cc
last_row false true g x y z is = cc
last_row false false true x y z is = cc
last_row false false false true y z is = cc
last_row false false false false true z is = cc
last_row false false false false false true is = refl
last_row false false false false false false is = cc

module _ (w : World) (m : Name) (job : ℕ) where
  -- a store finds too few frames where more are needed than there are
  store_full : (piece : Piece) → is_full (store w m job piece) ≡ true → w.size.frames < used w + parting_count w m piece
  unfolding store
  store_full piece =
      by_tests (is_present w m piece.at (length piece.bytes)) (is_writable w m piece.at (length piece.bytes)) (nat_lt w.size.frames (used w + parting_count w m piece)) refl
    where
      by_tests : (p r q : Bool) → nat_lt w.size.frames (used w + parting_count w m piece) ≡ q →
          is_full (cond (not p) Absent (cond (not r) ReadOnly (cond q Full (Done (after_store w m job piece))))) ≡ true → w.size.frames < used w + parting_count w m piece
      by_tests true true true few is = grind (arith, nat_tests)
      by_tests true true false enough is = cc
      by_tests true false q few is = cc
      by_tests false r q few is = cc

  store_at_full : (from : ℕ) (bytes : List ℕ) → is_full (store_at w m job from bytes) ≡ true → w.size.frames < used w + parting_count w m (record { at = from; bytes = bytes })
  unfolding store_at
  store_at_full from bytes = by_tests (eqb (length bytes) 0) (nat_le (from + length bytes) (w.size.pages * PAGE_BYTES))
    where
      by_tests : (p q : Bool) → is_full (cond p (Done w) (cond q (store w m job (record { at = from; bytes = bytes })) Absent)) ≡ true →
          w.size.frames < used w + parting_count w m (record { at = from; bytes = bytes })
      by_tests true q is = cc
      by_tests false true is = store_full (record { at = from; bytes = bytes }) is
      by_tests false false is = cc

module _ (w : World) (io : Channels) (targets : CallContexts) (job : ℕ) (call : Option PlainCall) (args : List ℕ) where
  -- an outcome that is no such refusal, or has the reason for it
  HasReason : Outcome → Type 0
  HasReason outcome = outcome.answer ≡ Refused NoFrame → (call ≡ Some plain_calls.Read) × (w.size.frames < used w + parting_count w targets.memory (read_piece w io targets args))

  end_reason : (rows : List (Bool × Refusal)) → NoneIs NoFrame rows → (n : ℕ) (v : World) (after : Channels) → HasReason (refused_or w io (record { answer = Value n; world = v; io = after }) (first_refusal rows))
  unfolding HasReason
  end_reason rows none n v after =
      by_refusal HasReason w io (record { answer = Value n; world = v; io = after }) (first_refusal rows) (λ refusal first is. absurd (not_first NoFrame rows none (first ∙ ap Some (refused_is refusal is)))) (λ first is. cc)

  read_reason : call ≡ Some plain_calls.Read → HasReason (calls.reading w io targets job (slice_index args 0) (slice_index args 1) (slice_index args 2))
  unfolding HasReason calls.reading
  read_reason four =
      let value = descriptor_for w targets.slots (slice_index args 0) in
      let stored = store_at w targets.memory job (slice_index args 1) (calls.moved io value (slice_index args 2)) in
      by_refusal HasReason w io _ (first_refusal (calls.read_refusals io value (slice_index args 2) stored))
      (λ refusal first is. (
        four,
        store_at_full w targets.memory job (slice_index args 1) (calls.moved io value (slice_index args 2))
            (last_row _ _ _ _ _ (is_full stored) (first ∙ ap Some (refused_is refusal is))),
      ))
      (λ first is. cc)

  pub plain-reason : (plain w io targets job call args).answer ≡ Refused NoFrame → (call ≡ Some plain_calls.Read) × (w.size.frames < used w + parting_count w targets.memory (read_piece w io targets args))
  unfolding HasReason calls.writing
  plain-reason =
      let arg = slice_index args in
      all_calls (λ a b. HasReason a) w w io io targets job call args (record {
        opens = end_reason (calls.open_refusals w io targets (arg 0)) ((λ is. cc), ((λ is. cc), ((λ is. cc), tt))) _ _ _;
        closes = end_reason (calls.close_refusals w targets.slots (arg 0)) ((λ is. cc), tt) _ _ _;
        copies = end_reason (calls.copy_refusals w targets.slots (arg 0)) ((λ is. cc), ((λ is. cc), tt)) _ _ _;
        reads = read_reason;
        writes = end_reason (calls.write_refusals io (descriptor_for w targets.slots (arg 0)) (arg 2) (bytes_for w targets.memory (arg 1) (arg 2))) ((λ is. cc), ((λ is. cc), ((λ is. cc), ((λ is. cc), ((λ is. cc), tt))))) _ _ _;
        maps = λ present. end_reason (calls.map_refusals w targets.memory (arg 0) (arg 1) present) ((λ is. cc), ((λ is. cc), tt)) _ _ _;
        tells = λ is. cc;
        becomes = end_reason (calls.uid_refusals w targets.cred (arg 0)) ((λ is. cc), ((λ is. cc), tt)) _ _ _;
        exits = λ is. cc;
        refuses = λ is. cc;
      })

pub syscall-reason : (w : World) (io : Channels) (c : Name) (job : ℕ) (regs : Regs) → (syscalls.lw_syscall w io c job regs).answer ≡ Refused NoFrame →
    (syscalls.inner_call regs ≡ Some plain_calls.Read) × (w.size.frames < used w + parting_count w (syscalls.targets_of w c regs).memory (read_piece w io (syscalls.targets_of w c regs) (syscalls.inner_args regs)))
unfolding syscalls.lw_syscall syscalls.refusals slot_refusals
syscall-reason w io c job regs =
    by_refusal (λ outcome. outcome.answer ≡ Refused NoFrame → (syscalls.inner_call regs ≡ Some plain_calls.Read)
    × (w.size.frames < used w + parting_count w (syscalls.targets_of w c regs).memory (read_piece w io (syscalls.targets_of w c regs) (syscalls.inner_args regs))))
    w io _ (first_refusal (syscalls.refusals w c regs))
    (λ refusal first is. absurd (not_first NoFrame (syscalls.refusals w c regs) ((λ e. cc), ((λ e. cc), ((λ e. cc), ((λ e. cc), ((λ e. cc), tt))))) (first ∙ ap Some (refused_is refusal is))))
    (λ first. plain-reason w io (syscalls.targets_of w c regs) job (syscalls.inner_call regs) (syscalls.inner_args regs))
