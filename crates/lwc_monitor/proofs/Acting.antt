-- What calls and steps under traps leave of the slots of trapped contexts.
use Rattle.std.proofs.Common.{◌≡◌, ◌+◌, ◌*◌, ◌%◌, ℕ, refl, sym, ap, subst, Bool, true, false, cond, eqb, ◌&&◌, ◌||◌, Option, Some, None, [], ◌∷◌, length}
use Rattle.std.proofs.lemmas.Bool.{eqb-true, false≢true}
use Rattle.std.specs.Int.{w64, to_le_bytes}
use Rattle.std.specs.Prelude.{is_some, nat_le, nat_lt, not, slice_index}
use Rattle.std.specs.FinMap as fm
use Rattle.guest_isa.specs.declared.instr.Instr.{Instr}
use Rattle.guest_isa.specs.declared.op.Op.{Op}
use Rattle.guest_isa.specs.declared.op.Op.TheVariants.{Stb, Stw, Sys}
use Rattle.guest_machine.specs.declared.progress.Next.{Next}
use Rattle.guest_machine.specs.declared.progress.Next.TheVariants as next
use Rattle.kernel_core.specs.Machine.{Environment}
use Rattle.kernel_core.specs.Step.{Outcome, address, args_of, guest_calls, is_aligned, next_outcome, shared_outcome, store_outcome, stored_outcome}
use Rattle.kernel_core.specs.declared.calling.TheConstants.{LW_CREATE, LW_OVERLAY, LW_RESTRICT, LW_SWITCH, LW_SYSCALL}
use Rattle.kernel_core.specs.declared.thread.Thread.{Thread}
use Rattle.lwc_base.specs.Frames.{used}
use Rattle.lwc_base.specs.Memory.{is_present}
use Rattle.lwc_base.specs.Rights.{is_writable}
use Rattle.lwc_base.specs.Slots.{lowest_empty}
use Rattle.lwc_base.specs.Store.{Absent, Done, Full, Piece, ReadOnly, after_store, parting_count, store}
use Rattle.lwc_base.specs.World.{is_live}
use Rattle.lwc_types.specs.declared.name.Name.{Name}
use Rattle.lwc_types.specs.declared.page.TheConstants.{PAGE_BYTES}
use Rattle.lwc_monitor.proofs.Leaving.{free-leaves, leaves-itself, stored-leaves, trapped-leaves}
use Rattle.lwc_monitor.specs.Calls.{by_monitor, calls_under, is_forbidden, trapped_outcome, trapped_to}
use Rattle.lwc_monitor.specs.Guards.{AreGuarded, LeavesToMonitors}
use Rattle.lwc_monitor.specs.Traps.{Traps, forbids_overlay, is_trapped, names_anothers}
use Rattle.lwc_monitor.specs.declared.numbers.TheConstants.{EXIT, LW_TRAP}
use Rattle.lwc_syscall.specs.Changes.{IsWell}
use Rattle.lwc_syscall.specs.Plain.{plain, plain_call}

first_part : (p q r a b : Bool) → ((p || q) && a || r && b) ≡ false → p ≡ true → a ≡ false
first_part true q r true b none is = cc
first_part true q r false b none is = refl
first_part false q r a b none is = absurd (false≢true is)

second_part : (p q r a b : Bool) → ((p || q) && a || r && b) ≡ false → q ≡ true → a ≡ false
second_part true true r true b none is = cc
second_part false true r true b none is = cc
second_part p true r false b none is = refl
second_part p false r a b none is = absurd (false≢true is)

third_part : (p q r a b : Bool) → ((p || q) && a || r && b) ≡ false → r ≡ true → b ≡ false
third_part true q true true b none is = cc
third_part true q true false b none is = none
third_part false true true true b none is = cc
third_part false true true false b none is = none
third_part false false true a b none is = none
third_part p q false a b none is = absurd (false≢true is)

module _ (traps : Traps) (t : ℕ) (e : Environment) (x : Thread) (guarded : AreGuarded traps e.world) (well : IsWell e.world e.channels) where
  -- what an act of the thread leaves
  abbrev Leaves : Outcome → Type 0
  Leaves o = LeavesToMonitors traps x.context e.world o.environment.world

  itself : LeavesToMonitors traps x.context e.world e.world
  itself = leaves-itself traps e.world guarded x.context

  either : (b : Bool) (o p : Outcome) → (b ≡ true → Leaves o) → (b ≡ false → Leaves p) → Leaves (cond b o p)
  either true o p first second = first refl
  either false o p first second = second refl

  to_monitor : (m : Name) → fm.get traps x.context ≡ Some m → (number : ℕ) (live : Bool) (slot : Option ℕ) → Leaves (trapped_to number t e x m live slot)
  to_monitor m is number false slot = itself
  to_monitor m is number true None = itself
  to_monitor m is number true (Some slot) = trapped-leaves traps e.world guarded x.context m t x.regs slot is

  module _ (free : is_trapped traps x.context ≡ false) (number : ℕ) (forbids : is_forbidden traps number e.world x.context x.regs ≡ false) where
    switch_allowed : eqb number LW_SWITCH ≡ true → names_anothers traps e.world x.context x.regs ≡ false
    unfolding is_forbidden
    switch_allowed is = first_part _ (eqb number LW_SYSCALL) (eqb number LW_OVERLAY) _ _ forbids is

    syscall_allowed : eqb number LW_SYSCALL ≡ true → names_anothers traps e.world x.context x.regs ≡ false
    unfolding is_forbidden
    syscall_allowed is = second_part (eqb number LW_SWITCH) _ (eqb number LW_OVERLAY) _ _ forbids is

    overlay_allowed : eqb number LW_OVERLAY ≡ true → forbids_overlay traps e.world x.context x.regs ≡ false
    unfolding is_forbidden
    overlay_allowed is = third_part (eqb number LW_SWITCH) (eqb number LW_SYSCALL) _ _ _ forbids is

    free_calls : Leaves (guest_calls number t e x)
    unfolding guest_calls
    free_calls =
        let calls = free-leaves traps e.world guarded e.channels x.context x.job t free well in
        either (eqb number LW_CREATE) _ _ (λ _. calls.create x.regs)
        (λ _. either (eqb number LW_SWITCH) _ _ (λ is. calls.switch x.regs (switch_allowed is))
        (λ _. either (eqb number LW_RESTRICT) _ _ (λ _. calls.restrict x.regs)
        (λ _. either (eqb number LW_OVERLAY) _ _ (λ is. calls.overlay x.regs (overlay_allowed is))
        (λ _. either (eqb number LW_SYSCALL) _ _ (λ is. calls.syscall x.regs (syscall_allowed is))
        (λ _. calls.plain (plain_call number) (args_of x.regs))))))

  exits : Leaves (guest_calls EXIT t e x)
  unfolding guest_calls plain
  exits = itself

  by_found : (o : Option Name) → fm.get traps x.context ≡ o → (number : ℕ) → Leaves (by_monitor traps o number t e x)
  unfolding trapped_outcome
  by_found (Some m) is number =
      either (eqb number EXIT) _ _ (λ same. subst (λ n. Leaves (guest_calls n t e x)) (sym (eqb-true number EXIT same)) exits)
      (λ _. to_monitor m is number (is_live e.world m) (lowest_empty e.world m))
  by_found None is number =
      either (eqb number LW_TRAP) _ _ (λ _. itself)
      (λ _. either (is_forbidden traps number e.world x.context x.regs) _ _ (λ _. itself) (λ forbids. free_calls (ap is_some is) number forbids))

  pub calls-leave : (number : ℕ) → Leaves (calls_under traps number t e x)
  unfolding calls_under
  calls-leave number = by_found (fm.get traps x.context) refl number

  store-leaves : (piece : Piece) → Leaves (store_outcome e x piece)
  unfolding store_outcome store
  store-leaves piece =
      either (nat_le (piece.at + length piece.bytes) (e.world.size.pages * PAGE_BYTES)) _ _
      (λ _. by (not (is_present e.world x.context piece.at (length piece.bytes))) (not (is_writable e.world x.context piece.at (length piece.bytes))) (nat_lt e.world.size.frames (used e.world + parting_count e.world x.context piece)))
      (λ _. itself)
    where
      by : (a r b : Bool) → Leaves (stored_outcome e x (cond a Absent (cond r ReadOnly (cond b Full (Done (after_store e.world x.context x.job piece))))))
      by true r b = itself
      by false true b = itself
      by false false true = itself
      by false false false = stored-leaves traps e.world guarded x.context x.job piece

  shared-leaves : (i : Instr) (op : Op) → Leaves (shared_outcome (calls_under traps) t e x i op)
  unfolding shared_outcome
  shared-leaves i Stb = store-leaves (record { at = address x.regs i; bytes = slice_index x.regs.r i.rb % 256 ∷ [] })
  shared-leaves i Stw = either (is_aligned (address x.regs i)) _ _ (λ _. store-leaves (record { at = address x.regs i; bytes = to_le_bytes w64 (slice_index x.regs.r i.rb) })) (λ _. itself)
  shared-leaves i Sys = calls-leave i.imm
  shared-leaves i _ = itself

  pub next-leaves : (n : Next) → Leaves (next_outcome (calls_under traps) t e x n)
  unfolding next_outcome
  next-leaves next.Pause = itself
  next-leaves next.BadPc = itself
  next-leaves (next.Shared i) = shared-leaves i i.op
