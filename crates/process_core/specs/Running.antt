-- What contracts see of a process and of its passes.
use Rattle.std.specs.Prelude.{◌≡◌, ◌<◌, ◌≤◌, ◌+◌, ℕ, Bool, if◌then◌else◌, List, All, false, true, Contains, Option}
use Rattle.std.specs.Prelude.{None, Some, length, map, slice_get, slice_index_or, take}
use Rattle.guest_isa.specs.declared.instr.Instr.{Instr}
use Rattle.guest_isa.specs.declared.op.Op.{Op}
use Rattle.guest_isa.specs.declared.op.Op.TheVariants.{Stb, Stw}
use Rattle.guest_machine.specs.Advances.{advanced}
use Rattle.guest_machine.specs.declared.progress.Advance.{Advance}
use Rattle.guest_machine.specs.declared.progress.Next.{Next}
use Rattle.guest_machine.specs.declared.progress.Next.TheVariants.{BadPc, Pause, Shared}
use Rattle.kernel_core.specs.Histories.{GoesOn, IsLegal, turn_after}
use Rattle.kernel_core.specs.Machine.{has_ended}
use Rattle.kernel_core.specs.Start.{Inputs, start, thread_count}
use Rattle.kernel_core.specs.Step.{next_instruction}
use Rattle.kernel_core.specs.declared.thread.Turn.{Turn}
use Rattle.lwc_types.specs.Registers.{fresh_registers}
use Rattle.lwc_types.specs.declared.fault.ThreadStatus.TheVariants.{Idle}
use Rattle.lwc_types.specs.declared.limits.TheConstants.{MOST_STEPS}
use Rattle.lwc_types.specs.declared.regs.Regs.{Regs}
use Rattle.process_core.specs.declared.opened.Opened.{Opened}
use Rattle.turnstile.specs.Passes as gate
use Rattle.turnstile.specs.Passes.{Held, Lock}

-- a pass of a process: the pass of its lock, and the last turn of its thread
pub record Carried : Type 0 where
  pub held : Held Opened
  pub last : Turn

-- the stays of a thread inside the lock: the most turns of each, how many of the present one were made, which is 0
-- where the thread is outside, and the places of proposals, of which this many are of its first turns
pub record Staying : Type 0 where
  pub turns : ℕ
  pub made : ℕ
  pub count : ℕ
  pub places : List Advance

-- the proposal of its next turn, if there is one
abbrev pub offered : Staying → Option Advance
offered s = slice_get (take s.count s.places) s.made

-- a store of a byte or of a word
abbrev pub is_store : Op → Bool
is_store Stb = true
is_store Stw = true
is_store op = false

-- the registers that the step of an advance leaves, where they rest on the text alone: those of a pause, and those
-- behind a store
abbrev pub left_by : Next → Regs → Option Regs
left_by Pause regs = Some regs
left_by (Shared i) regs = if is_store i.op then Some (next_instruction regs) else None
left_by BadPc regs = None

-- of this many proposals each but the first is of the registers that the step of the one before it leaves
abbrev pub AreInRow : ℕ → List Advance → Type 0
AreInRow count places = (i : ℕ) (d : Advance) → i + 1 < count →
    left_by (slice_index_or places i d).next (slice_index_or places i d).after
    ≡ Some (slice_index_or places (i + 1) d).before

-- each is the advance of its registers over the text
abbrev pub AreAdvances : List Instr → List Advance → Type 0
AreAdvances text advances = All (λ a. a ≡ advanced text a.before) advances

-- a turn of a thread that has made no step and has no registers
abbrev pub no_turn : Turn
no_turn = record { regs = fresh_registers 0; status = Idle; finished = None }

-- the history is legal, is not longer than a kernel's, and leaves this turn of the thread
pub record Leaves (inputs : Inputs) (t : ℕ) (seen : List ℕ) (turn : Turn) : Type 0 where
  pub legal : IsLegal (start inputs) seen
  pub few : length seen ≤ MOST_STEPS
  pub turn_is : turn_after inputs seen t ≡ Some turn

-- the process's `open` gave the pass: its number is that of a thread, and its last turn is what the history
-- that it has seen leaves of that thread
pub record IsPassOf (process : Lock Opened) (p : Carried) : Type 0 where
  pub ours : gate.IsPassOf process p.held
  pub within : p.held.number < thread_count process.name.inputs
  pub leaves : Leaves process.name.inputs p.held.number p.held.seen p.last

-- a turn of a pass: none where its last turn had ended its thread, and else one step of its thread after steps of
-- others; it then has what the history that it has seen leaves of the thread
pub record MakesTurn (process : Lock Opened) (old new : Carried) : Type 0 where
  pub ours : IsPassOf process new
  pub number : new.held.number ≡ old.held.number
  pub legal : IsLegal (start process.name.inputs) new.held.seen
  pub turn_is : turn_after process.name.inputs new.held.seen new.held.number ≡ Some new.last
  pub rests : has_ended old.last.status ≡ true → new ≡ old
  pub goes_on : has_ended old.last.status ≡ false → GoesOn old.held.number old.held.seen new.held.seen
  pub later : has_ended old.last.status ≡ false → old.held.noted < length new.held.seen
  pub noted : old.held.noted ≤ new.held.noted

-- a thread stays inside after a turn that left it like this: the turn is counted, the stay may have more, and the turn
-- has neither ended the thread nor finished a request
pub record StaysInside (old new : Staying) (last : Turn) : Type 0 where
  pub counted : new.made ≡ old.made + 1
  pub few : new.made < old.turns
  pub going : has_ended last.status ≡ false
  pub unfinished : last.finished ≡ None

-- a stay after a turn that left the thread like this: its proposals are what they were, and the thread is outside, with
-- no turn made of the next stay, or it stays inside
pub record NotesTurn (old new : Staying) (last : Turn) : Type 0 where
  pub kept : new ≡ record old { made = new.made }
  pub inside : 0 < new.made → StaysInside old new last

-- a pass and what counts its turns, before and after turns that were made one after another: none, or such turns and
-- one more of a thread that had not ended
pub data Carries {T : Type 0} (counts : T → Turn → T → Type 0) (process : Lock Opened) (p : Carried) (x : T) :
    Carried → T → Type 0 where
  Still : Carries counts process p x p x
  More : (q r : Carried) (y z : T) → Carries counts process p x q y → has_ended q.last.status ≡ false →
      MakesTurn process q r → counts y r.last z → Carries counts process p x r z

-- the pass of this thread, as `open` gives it
pub record IsNewPass (process : Lock Opened) (t : ℕ) (p : Carried) : Type 0 where
  pub new : gate.IsNewPass process t p.held
  pub ours : IsPassOf process p

-- the passes are all those that the process's `open` gave, in any order
pub record AreAllOf (process : Lock Opened) (passes : List Carried) : Type 0 where
  pub ours : All (IsPassOf process) passes
  pub every : (t : ℕ) → t < thread_count process.name.inputs → Contains (map (λ p. p.held.number) passes) t
