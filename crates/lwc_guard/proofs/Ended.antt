-- A step in a trapped context that ends its thread leaves all else as it was.
use Rattle.std.proofs.Common.{◌≡◌, ◌⊎◌, inl, inr, ◌+◌, ◌*◌, ◌%◌, ℕ, refl, sym, ap, subst, ◌∙◌, Bool, true, false, cond, eqb, Option, Some, None, [], ◌∷◌, length}
use Rattle.std.proofs.lemmas.Bool.{eqb-true, false≢true}
use Rattle.std.specs.Int.{w64, to_le_bytes}
use Rattle.std.specs.Prelude.{is_some, nat_le, slice_index}
use Rattle.std.specs.FinMap as fm
use Rattle.guest_isa.specs.declared.instr.Instr.{Instr}
use Rattle.guest_isa.specs.declared.op.Op.{Op}
use Rattle.guest_isa.specs.declared.op.Op.TheVariants.{Halt, Ldb, Ldw, Stb, Stw, Sys}
use Rattle.guest_machine.specs.declared.progress.Next.{Next}
use Rattle.guest_machine.specs.declared.progress.Next.TheVariants as next
use Rattle.kernel_core.specs.Machine.{Environment}
use Rattle.kernel_core.specs.Step.{Outcome, address, byte_for, guest_calls, is_aligned, loaded, next_outcome, shared_outcome, store_outcome, stored_outcome, unchanged, with_status, word_for}
use Rattle.kernel_core.specs.declared.thread.Thread.{Thread}
use Rattle.lwc_base.specs.Slots.{lowest_empty}
use Rattle.lwc_base.specs.Store.{Absent, Done, Full, Piece, ReadOnly, Stored, store}
use Rattle.lwc_base.specs.World.{is_live}
use Rattle.lwc_guard.specs.GivingBack.{cause_of}
use Rattle.lwc_monitor.specs.Calls.{by_monitor, calls_under, trapped_outcome, trapped_to}
use Rattle.lwc_monitor.specs.Traps.{Traps}
use Rattle.lwc_monitor.specs.declared.numbers.TheConstants.{EXIT}
use Rattle.lwc_syscall.specs.Plain.{plain}
use Rattle.lwc_types.specs.declared.fault.ThreadStatus.{ThreadStatus}
use Rattle.lwc_types.specs.declared.fault.ThreadStatus.TheVariants as status
use Rattle.lwc_types.specs.declared.name.Name.{Name}
use Rattle.lwc_types.specs.declared.page.TheConstants.{PAGE_BYTES}

module _ (traps : Traps) (t : ℕ) (e : Environment) (x : Thread) (m : Name) (running : x.status ≡ status.Running) where
  -- the thread runs on, here or in the monitor; or it has ended, and nothing else has changed
  abbrev RunsOn : Outcome → Type 0
  RunsOn o = (o.thread.status ≡ status.Running) × ((o.thread.context ≡ m) ⊎ (o.thread.context ≡ x.context))

  abbrev HasEnded : Outcome → Type 0
  HasEnded o = (o ≡ unchanged e (with_status x o.thread.status)) × ((n : Next) → is_some (cause_of n o.thread.status) ≡ true)

  abbrev Ends : Outcome → Type 0
  Ends o = RunsOn o ⊎ HasEnded o

  either : (b : Bool) (o p : Outcome) → Ends o → Ends p → Ends (cond b o p)
  either true o p first second = first
  either false o p first second = second

  here : (y : Thread) → y.status ≡ x.status → y.context ≡ x.context → (f : Environment) → Ends (unchanged f y)
  here y same place f = inl (same ∙ running, inr place)

  load-ends : (d : ℕ) (found : Option ℕ) → Ends (unchanged e (loaded x d found))
  load-ends d None = inr (refl, λ n. refl)
  load-ends d (Some value) = here (loaded x d (Some value)) refl refl e

  stored-ends : (s : Stored) → Ends (stored_outcome e x s)
  stored-ends Absent = inr (refl, λ n. refl)
  stored-ends ReadOnly = inr (refl, λ n. refl)
  stored-ends Full = inr (refl, λ n. refl)
  stored-ends (Done w) = inl (running, inr refl)

  store-ends : (piece : Piece) → Ends (store_outcome e x piece)
  unfolding store_outcome
  store-ends piece = either (nat_le (piece.at + length piece.bytes) (e.world.size.pages * PAGE_BYTES)) _ _ (stored-ends (store e.world x.context x.job piece)) (inr (refl, λ n. refl))

  exit-ends : Ends (guest_calls EXIT t e x)
  unfolding guest_calls plain
  exit-ends = inr (refl, λ n. refl)

  to-ends : (number : ℕ) (live : Bool) (slot : Option ℕ) → Ends (trapped_to number t e x m live slot)
  to-ends number false slot = inl (running, inr refl)
  to-ends number true None = inl (running, inr refl)
  to-ends number true (Some slot) = inl (running, inl refl)

  call-ends : (number : ℕ) → Ends (by_monitor traps (Some m) number t e x)
  unfolding trapped_outcome
  call-ends number = by (eqb number EXIT) refl
    where
      by : (b : Bool) → eqb number EXIT ≡ b → Ends (cond b (guest_calls number t e x) (trapped_to number t e x m (is_live e.world m) (lowest_empty e.world m)))
      by true is = subst (λ (n : ℕ). Ends (guest_calls n t e x)) (sym (eqb-true number EXIT is)) exit-ends
      by false is = to-ends number _ _

  module _ (trapped : fm.get traps x.context ≡ Some m) where
    under-ends : (number : ℕ) → Ends (calls_under traps number t e x)
    unfolding calls_under
    under-ends number = subst (λ (o : Option Name). Ends (by_monitor traps o number t e x)) (sym trapped) (call-ends number)

    shared-ends : (i : Instr) (op : Op) → Ends (shared_outcome (calls_under traps) t e x i op)
    unfolding shared_outcome
    shared-ends i Ldb = load-ends i.rd (byte_for e.world x.context (address x.regs i))
    shared-ends i Ldw = load-ends i.rd (word_for e.world x.context (address x.regs i))
    shared-ends i Stb = store-ends (record { at = address x.regs i; bytes = slice_index x.regs.r i.rb % 256 ∷ [] })
    shared-ends i Stw = either (is_aligned (address x.regs i)) _ _ (store-ends (record { at = address x.regs i; bytes = to_le_bytes w64 (slice_index x.regs.r i.rb) })) (inr (refl, λ n. refl))
    shared-ends i Sys = under-ends i.imm
    shared-ends i Halt = inr (refl, λ n. refl)
    shared-ends i _ = inl (running, inr refl)

    next-ends : (n : Next) → Ends (next_outcome (calls_under traps) t e x n)
    unfolding next_outcome
    next-ends next.Pause = inl (running, inr refl)
    next-ends next.BadPc = inr (refl, λ n. refl)
    next-ends (next.Shared i) = shared-ends i i.op

    -- a step that is given back has changed nothing but the status
    pub ended : (n : Next) (cause : ℕ) → cause_of n (next_outcome (calls_under traps) t e x n).thread.status ≡ Some cause →
        next_outcome (calls_under traps) t e x n ≡ unchanged e (with_status x (next_outcome (calls_under traps) t e x n).thread.status)
    ended n cause is = elim (next-ends n) [
      | inl goes ↦ (let none : None ≡ Some cause = ap (cause_of n) (sym goes.0) ∙ is in cc)
      | inr same ↦ same.0
    ]

    -- and one that is not leaves the thread running
    pub runs-on : (n : Next) → cause_of n (next_outcome (calls_under traps) t e x n).thread.status ≡ None → RunsOn (next_outcome (calls_under traps) t e x n)
    runs-on n none = elim (next-ends n) [
      | inl goes ↦ goes
      | inr same ↦ absurd (false≢true (sym (ap is_some none) ∙ same.1 n))
    ]
