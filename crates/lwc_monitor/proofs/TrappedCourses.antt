-- What becomes of a step under traps: it is the kernel's, or stays, or goes to the monitor.
use Rattle.std.proofs.Common.{◌≡◌, ◌∙◌, ◌&&◌, ℕ, ◌+◌, ◌*◌, ◌%◌, Bool, true, false, cond, eqb, List, [], ◌∷◌, length, Option, None, Some, ap, refl, sym, subst}
use Rattle.std.proofs.lemmas.Bool.{eqb-true}
use Rattle.std.specs.Int.{w64, to_le_bytes}
use Rattle.std.specs.Prelude.{is_some, nat_le, not, slice_index}
use Rattle.std.specs.FinMap as fm
use Rattle.guest_isa.specs.declared.instr.Instr.{Instr}
use Rattle.guest_isa.specs.declared.op.Op.{Op}
use Rattle.guest_isa.specs.declared.op.Op.TheVariants.{Halt, Ldb, Ldw, Stb, Stw, Sys}
use Rattle.guest_machine.specs.declared.progress.Next.{Next}
use Rattle.guest_machine.specs.declared.progress.Next.TheVariants as next
use Rattle.kernel_core.specs.Machine.{Environment}
use Rattle.kernel_core.specs.Step.{Outcome, address, guest_calls, is_aligned, loaded, next_outcome, shared_outcome, store_outcome, stored_outcome, unchanged, with_world}
use Rattle.kernel_core.specs.declared.thread.Thread.{Thread}
use Rattle.lwc_base.specs.Refusals.{first_refusal}
use Rattle.lwc_base.specs.Slots.{lowest_empty}
use Rattle.lwc_base.specs.Store.{Absent, Done, Full, Piece, ReadOnly, Stored, store}
use Rattle.lwc_base.specs.World.{World, is_live}
use Rattle.lwc_types.specs.declared.page.TheConstants.{PAGE_BYTES}
use Rattle.lwc_syscall.specs.Plain.{plain}
use Rattle.lwc_types.specs.declared.name.Name.{Name}
use Rattle.lwc_monitor.proofs.Guarding.{fresh-trap}
use Rattle.lwc_overlay.specs.Named.{link}
use Rattle.lwc_monitor.specs.Calls.{by_monitor, calls_under, is_forbidden, refused_by, trapped_by, trapped_outcome, trapped_to, trapping, traps_after_call}
use Rattle.lwc_monitor.specs.Steps.{call_in, call_next}
use Rattle.lwc_monitor.specs.Traps.{Traps, is_trapped, trap_rows}
use Rattle.lwc_monitor.specs.declared.numbers.TheConstants.{EXIT, LW_TRAP, TRAPPED}
use Rattle.lwc_monitor.specs.declared.trapping.TrapRefusal.{TrapRefusal}
use Rattle.lwc_switch.specs.Switch.{switched}

-- what an outcome under traps is, beside the kernel's, and which traps are left
pub data Course (traps : Traps) (t : ℕ) (e : Environment) (x : Thread) (call : Option ℕ) (o k : Outcome) (later : Traps) : Type 0 where
  Kernel : o ≡ k → later ≡ traps → Course traps t e x call o k later
  Stays : o.environment ≡ e → o.thread.context ≡ x.context → later ≡ traps → Course traps t e x call o k later
  OneMore : (d : Name) → call ≡ Some LW_TRAP → first_refusal (trap_rows traps e.world x.context x.regs) ≡ None → d ≡ (link e.world x.context x.regs).0 → o.environment ≡ e → o.thread.context ≡ x.context → is_trapped traps d ≡ false → later ≡ fm.insert traps d x.context → Course traps t e x call o k later
  Goes : (m : Name) (slot : ℕ) → fm.get traps x.context ≡ Some m → is_live e.world m ≡ true → lowest_empty e.world m ≡ Some slot →
      o.environment ≡ with_world e (switched e.world x.context t x.regs m slot) → o.thread.context ≡ m → later ≡ traps → Course traps t e x call o k later

module _ (traps : Traps) (t : ℕ) (e : Environment) (x : Thread) where
  abbrev rows : List (Bool × TrapRefusal)
  rows = trap_rows traps e.world x.context x.regs

  abbrev after_call : Option ℕ → Traps
  after_call call = traps_after_call traps e.world x call

  abbrev Runs : Option ℕ → Outcome → Outcome → Traps → Type 0
  Runs call o k later = Course traps t e x call o k later

  either : (call : Option ℕ) (later : Traps) (b : Bool) (o p k : Outcome) → Runs call o k later → Runs call p k later → Runs call (cond b o p) k later
  either call later true o p k first second = first
  either call later false o p k first second = second

  to_monitor : (m : Name) → fm.get traps x.context ≡ Some m → (number : ℕ) (k : Outcome) (later : Traps) → later ≡ traps → (live : Bool) (slot : Option ℕ) → is_live e.world m ≡ live → lowest_empty e.world m ≡ slot →
      Runs (Some number) (trapped_to number t e x m live slot) k later
  to_monitor m is number k later same false slot live lowest = Stays refl refl same
  to_monitor m is number k later same true None live lowest = Stays refl refl same
  to_monitor m is number k later same true (Some slot) live lowest = Goes m slot is live lowest refl refl same

  -- a trapped context traps none
  none_more : is_trapped traps x.context ≡ true → (number : ℕ) → after_call (Some number) ≡ traps
  none_more trapped number =
      ap (λ f. cond (eqb number LW_TRAP && not f) (trapped_by traps e.world x.context x.regs (first_refusal rows)) traps) trapped ∙ by (eqb number LW_TRAP)
    where
      by : (b : Bool) → cond (b && false) (trapped_by traps e.world x.context x.regs (first_refusal rows)) traps ≡ traps
      by true = refl
      by false = refl

  by_rows : (number : ℕ) (k : Outcome) → number ≡ LW_TRAP → (first : Option TrapRefusal) → first_refusal rows ≡ first →
      Runs (Some number) (unchanged e (trapping x first)) k (trapped_by traps e.world x.context x.regs first)
  by_rows number k same (Some refusal) is = Stays refl refl refl
  by_rows number k same None is = OneMore _ (ap Some same) is refl refl refl (fresh-trap traps e.world x.context x.regs is).new refl

  by_free : (number : ℕ) (b : Bool) → eqb number LW_TRAP ≡ b → is_trapped traps x.context ≡ false →
      Runs (Some number) (cond b (unchanged e (trapping x (first_refusal rows))) (cond (is_forbidden traps number e.world x.context x.regs) (unchanged e (refused_by x TRAPPED)) (guest_calls number t e x))) (guest_calls number t e x)
      (cond (b && not (is_trapped traps x.context)) (trapped_by traps e.world x.context x.regs (first_refusal rows)) traps)
  by_free number true is free =
      subst (λ f. Runs (Some number) (unchanged e (trapping x (first_refusal rows))) (guest_calls number t e x) (cond (not f) (trapped_by traps e.world x.context x.regs (first_refusal rows)) traps)) (sym free)
      (by_rows number (guest_calls number t e x) (eqb-true number LW_TRAP is) (first_refusal rows) refl)
  by_free number false is free = either _ _ (is_forbidden traps number e.world x.context x.regs) _ _ _ (Stays refl refl refl) (Kernel refl refl)

  by_found : (o : Option Name) → fm.get traps x.context ≡ o → (number : ℕ) → Runs (Some number) (by_monitor traps o number t e x) (guest_calls number t e x) (after_call (Some number))
  unfolding trapped_outcome
  by_found (Some m) is number =
      let same = none_more (ap is_some is) number in
      either _ _ (eqb number EXIT) _ _ _ (Kernel refl same) (to_monitor m is number (guest_calls number t e x) (after_call (Some number)) same (is_live e.world m) (lowest_empty e.world m) refl refl)
  by_found None is number = by_free number (eqb number LW_TRAP) refl (ap is_some is)

  calls_course : (number : ℕ) → Runs (Some number) (calls_under traps number t e x) (guest_calls number t e x) (after_call (Some number))
  unfolding calls_under
  calls_course number = by_found (fm.get traps x.context) refl number

  shared_course : (i : Instr) (op : Op) → Runs (call_in op i.imm) (shared_outcome (calls_under traps) t e x i op) (shared_outcome guest_calls t e x i op) (after_call (call_in op i.imm))
  unfolding shared_outcome
  shared_course i Sys = calls_course i.imm
  shared_course i _ = Kernel refl refl

  pub next_course : (n : Next) → Runs (call_next n) (next_outcome (calls_under traps) t e x n) (next_outcome guest_calls t e x n) (after_call (call_next n))
  unfolding next_outcome
  next_course next.Pause = Kernel refl refl
  next_course next.BadPc = Kernel refl refl
  next_course (next.Shared i) = shared_course i i.op

-- what an outcome of a thread in a trapped context is: it stays and the world does, it stores, or it goes to the monitor
pub data TrappedCourse (t : ℕ) (e : Environment) (x : Thread) (m : Name) (o : Outcome) : Type 0 where
  Rests : o.environment ≡ e → o.thread.context ≡ x.context → TrappedCourse t e x m o
  Stores : (piece : Piece) (v : World) → store e.world x.context x.job piece ≡ Done v → o.environment ≡ with_world e v → o.thread.context ≡ x.context → TrappedCourse t e x m o
  Arrives : (slot : ℕ) → is_live e.world m ≡ true → lowest_empty e.world m ≡ Some slot → o.environment ≡ with_world e (switched e.world x.context t x.regs m slot) → o.thread.context ≡ m → TrappedCourse t e x m o

module _ (traps : Traps) (t : ℕ) (e : Environment) (x : Thread) (m : Name) (trapped : fm.get traps x.context ≡ Some m) where
  abbrev Does : Outcome → Type 0
  Does o = TrappedCourse t e x m o

  one_of : (b : Bool) (o p : Outcome) → (b ≡ true → Does o) → (b ≡ false → Does p) → Does (cond b o p)
  one_of true o p first second = first refl
  one_of false o p first second = second refl

  arrives : (number : ℕ) (live : Bool) (slot : Option ℕ) → is_live e.world m ≡ live → lowest_empty e.world m ≡ slot → Does (trapped_to number t e x m live slot)
  arrives number false slot live lowest = Rests refl refl
  arrives number true None live lowest = Rests refl refl
  arrives number true (Some slot) live lowest = Arrives slot live lowest refl refl

  exits : Does (guest_calls EXIT t e x)
  unfolding guest_calls plain
  exits = Rests refl refl

  by_trap : (o : Option Name) → o ≡ Some m → (number : ℕ) → Does (by_monitor traps o number t e x)
  unfolding trapped_outcome
  by_trap None is number = cc
  by_trap (Some n) is number =
      let same : n ≡ m = cc in
      one_of (eqb number EXIT) _ _ (λ exit. subst (λ k. Does (guest_calls k t e x)) (sym (eqb-true number EXIT exit)) exits)
      (λ other. subst (λ k. Does (trapped_to number t e x k (is_live e.world k) (lowest_empty e.world k))) (sym same) (arrives number (is_live e.world m) (lowest_empty e.world m) refl refl))

  trapped_call : (number : ℕ) → Does (calls_under traps number t e x)
  unfolding calls_under
  trapped_call number = by_trap (fm.get traps x.context) trapped number

  stored_course : (piece : Piece) (s : Stored) → store e.world x.context x.job piece ≡ s → Does (stored_outcome e x s)
  stored_course piece Absent is = Rests refl refl
  stored_course piece ReadOnly is = Rests refl refl
  stored_course piece Full is = Rests refl refl
  stored_course piece (Done v) is = Stores piece v is refl refl

  store_course : (piece : Piece) → Does (store_outcome e x piece)
  unfolding store_outcome
  store_course piece = one_of (nat_le (piece.at + length piece.bytes) (e.world.size.pages * PAGE_BYTES)) _ _ (λ _. stored_course piece (store e.world x.context x.job piece) refl) (λ _. Rests refl refl)

  loaded_rests : (d : ℕ) (found : Option ℕ) → Does (unchanged e (loaded x d found))
  loaded_rests d None = Rests refl refl
  loaded_rests d (Some value) = Rests refl refl

  trapped_shared : (i : Instr) (op : Op) → Does (shared_outcome (calls_under traps) t e x i op)
  unfolding shared_outcome
  trapped_shared i Ldb = loaded_rests i.rd _
  trapped_shared i Ldw = loaded_rests i.rd _
  trapped_shared i Stb = store_course (record { at = address x.regs i; bytes = slice_index x.regs.r i.rb % 256 ∷ [] })
  trapped_shared i Stw = one_of (is_aligned (address x.regs i)) _ _ (λ _. store_course (record { at = address x.regs i; bytes = to_le_bytes w64 (slice_index x.regs.r i.rb) })) (λ _. Rests refl refl)
  trapped_shared i Sys = trapped_call i.imm
  trapped_shared i Halt = Rests refl refl
  trapped_shared i _ = Rests refl refl

  pub trapped_course : (n : Next) → Does (next_outcome (calls_under traps) t e x n)
  unfolding next_outcome
  trapped_course next.Pause = Rests refl refl
  trapped_course next.BadPc = Rests refl refl
  trapped_course (next.Shared i) = trapped_shared i i.op
