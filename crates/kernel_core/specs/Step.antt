-- One step of a thread.
use Rattle.std.specs.Prelude.{ℕ, ◌+◌, ◌-◌, ◌*◌, ◌%◌, ◌^◌, ◌==◌, ◌++◌, if◌then◌else◌, Bool, List, [], ◌∷◌, length}
use Rattle.std.specs.Prelude.{map, Option, None, Some, nat_le, nat_lt, slice_get, slice_index, slice_set}
use Rattle.std.specs.Int.{w64, from_le_bytes, to_le_bytes}
use Rattle.std.specs.Option.{option_map}
use Rattle.guest_isa.specs.Instructions.{sx}
use Rattle.guest_isa.specs.declared.instr.Instr.{Instr}
use Rattle.guest_isa.specs.declared.op.Op.{Op}
use Rattle.guest_isa.specs.declared.op.Op.TheVariants.{Ldb, Ldw, Stb, Stw, Sys, Halt}
use Rattle.guest_machine.specs.Advances.{advanced}
use Rattle.guest_machine.specs.declared.progress.Advance.{Advance}
use Rattle.guest_machine.specs.declared.progress.Next.{Next}
use Rattle.guest_machine.specs.declared.progress.Next.TheVariants as next
use Rattle.kernel_core.specs.Machine.{Environment, Machine, Serve, has_ended, home_of, homes}
use Rattle.kernel_core.specs.declared.thread.Thread.{Thread}
use Rattle.kernel_core.specs.declared.calling.TheConstants.{LW_CREATE, LW_OVERLAY, LW_RESTRICT, LW_SWITCH, LW_SYSCALL}
use Rattle.lwc_base.specs.declared.answer.Answer.{Answer}
use Rattle.lwc_base.specs.declared.answer.Answer.TheVariants as answer
use Rattle.lwc_base.specs.declared.answer.Moved.{Moved}
use Rattle.lwc_base.specs.declared.answer.Moved.TheVariants as moved
use Rattle.lwc_base.specs.Channels.{Channels, bytes_in}
use Rattle.lwc_base.specs.Life as life
use Rattle.lwc_base.specs.Memory.{bytes_for}
use Rattle.lwc_base.specs.Store.{Piece, Stored, store}
use Rattle.lwc_base.specs.Store as stores
use Rattle.lwc_base.specs.World.{World, context}
use Rattle.lwc_types.specs.declared.fault.Fault.{Fault}
use Rattle.lwc_types.specs.declared.fault.Fault.TheVariants as fault
use Rattle.lwc_types.specs.declared.fault.ThreadStatus.{ThreadStatus}
use Rattle.lwc_types.specs.declared.fault.ThreadStatus.TheVariants.{Idle, Running, Done, Faulted}
use Rattle.lwc_types.specs.declared.name.Name.{Name}
use Rattle.lwc_types.specs.declared.page.TheConstants.{PAGE_BYTES}
use Rattle.lwc_types.specs.declared.refusal.Refusal.{Refusal}
use Rattle.lwc_types.specs.declared.regs.Regs.{Regs}
use Rattle.lwc_types.specs.Faults.{refusal_number}
use Rattle.lwc_create.specs.Create.{create}
use Rattle.lwc_overlay.specs.OverlayCall.{overlay}
use Rattle.lwc_overlay.specs.RestrictCall.{restrict}
use Rattle.lwc_switch.specs.Switch.{switch}
use Rattle.lwc_syscall.specs.Plain as calls
use Rattle.lwc_syscall.specs.Plain.{plain, plain_call}
use Rattle.lwc_syscall.specs.Syscall.{lw_syscall}
use Rattle.lwc_syscall.specs.declared.answer.CallAnswer.{CallAnswer}
use Rattle.lwc_syscall.specs.declared.answer.CallAnswer.TheVariants as ends
use Rattle.lwc_syscall.specs.declared.calls.CallContexts.{CallContexts}
use Rattle.snapshot_host.specs.Begin.{begin, request_context}
use Rattle.snapshot_host.specs.declared.finishing.Finished.{Finished}

-- what a step of a thread leaves: the thread, and what it has in common with the others
pub record Outcome : Type 0 where
  pub thread : Thread
  pub environment : Environment

-- what each call does, by its number, for the thread of a number
abbrev pub Calls : Type 0
Calls = ℕ → ℕ → Environment → Thread → Outcome

-- what threads have in common, of a world and of channels
abbrev pub beside : World → Channels → Environment
beside w io = record { world = w; channels = io }

-- the environment with another world
abbrev pub with_world : Environment → World → Environment
with_world e w = record e { world = w }

-- the thread has changed, and nothing else
abbrev pub unchanged : Environment → Thread → Outcome
unchanged e x = record { thread = x; environment = e }

-- the registers at the next instruction
abbrev pub next_instruction : Regs → Regs
next_instruction regs = record regs { pc = (regs.pc + 1) % 2 ^ 64 }

-- the registers at the next instruction, with a value in register d
abbrev pub with_result : Regs → ℕ → ℕ → Regs
with_result regs d value = record { r = slice_set regs.r d value; pc = (regs.pc + 1) % 2 ^ 64 }

-- the thread with another status; its registers stay
abbrev pub with_status : Thread → ThreadStatus → Thread
with_status x status = record x { status = status }

-- a fault ends the thread
abbrev pub faulted : Thread → Fault → Thread
faulted x f = with_status x (Faulted f)

-- the thread with other registers
abbrev pub with_regs : Thread → Regs → Thread
with_regs x regs = record x { regs = regs }

-- the thread once a call of it is refused: r0 says why, and the next instruction comes
abbrev pub refused : Thread → Refusal → Thread
refused x refusal = with_regs x (with_result x.regs 0 (2 ^ 64 - refusal_number refusal))

-- the address that an instruction names: register ra and its signed number
abbrev pub address : Regs → Instr → ℕ
address regs i = (slice_index regs.r i.ra + sx i.imm) % 2 ^ 64

-- the byte at an address, if it can be read
abbrev pub byte_for : World → Name → ℕ → Option ℕ
byte_for w c at = option_map (λ bytes. slice_index bytes 0) (bytes_for w c at 1)

-- whether an address is one of a word: a multiple of 8
abbrev pub is_aligned : ℕ → Bool
is_aligned at = at % 8 == 0

-- the word at an address, lowest byte first, if it can be read and the address is one of a word
abbrev pub word_for : World → Name → ℕ → Option ℕ
word_for w c at = if is_aligned at then option_map (from_le_bytes w64) (bytes_for w c at 8) else None

-- the thread after a load: register d has the value, or there is a fault
abbrev pub loaded : Thread → ℕ → Option ℕ → Thread
loaded x d None = faulted x fault.BadLoad
loaded x d (Some value) = with_regs x (with_result x.regs d value)

-- the outcome of a store instruction, by how the store ends
abbrev pub stored_outcome : Environment → Thread → Stored → Outcome
stored_outcome e x stores.Absent = unchanged e (faulted x fault.BadStore)
stored_outcome e x stores.ReadOnly = unchanged e (faulted x fault.ReadOnly)
stored_outcome e x stores.Full = unchanged e (faulted x fault.NoFrame)
stored_outcome e x (stores.Done w) = unchanged (with_world e w) (with_regs x (next_instruction x.regs))

-- the outcome of a store of bytes for the thread's job; it is a fault if one of them is past the last page
unfoldable pub store_outcome : Environment → Thread → Piece → Outcome
store_outcome e x piece =
    if nat_le (piece.at + length piece.bytes) (e.world.size.pages * PAGE_BYTES)
    then stored_outcome e x (store e.world x.context x.job piece)
    else unchanged e (faulted x fault.BadStore)

-- the outcome of a store of a byte: the lowest of a value
abbrev pub byte_outcome : Environment → Thread → ℕ → ℕ → Outcome
byte_outcome e x at value = store_outcome e x (record { at = at; bytes = value % 256 ∷ [] })

-- the outcome of a store of a word, lowest byte first; it is a fault if the address is not one of a word
abbrev pub word_outcome : Environment → Thread → ℕ → ℕ → Outcome
word_outcome e x at value =
    if is_aligned at then store_outcome e x (record { at = at; bytes = to_le_bytes w64 value })
    else unchanged e (faulted x fault.BadStore)

-- the thread after a call, by the call's answer: other registers, or the reason why it was refused
abbrev pub answered : Thread → Answer → Thread
answered x (answer.Done regs) = with_regs x regs
answered x (answer.Refused refusal) = refused x refusal

-- the outcome of a call that gives an answer and a world
abbrev pub call_outcome : Environment → Thread → Answer × World → Outcome
call_outcome e x result = unchanged (with_world e result.1) (answered x result.0)

-- the outcome of the call that makes a context
abbrev pub create_outcome : Environment → Thread → Outcome
create_outcome e x = call_outcome e x (create e.world x.context x.job x.regs)

-- the outcome of the call that takes keys from a capability
abbrev pub restrict_outcome : Environment → Thread → Outcome
restrict_outcome e x = call_outcome e x (restrict e.world x.context x.regs)

-- the outcome of the call that takes over from a context what items name
abbrev pub overlay_outcome : Environment → Thread → Outcome
overlay_outcome e x = call_outcome e x (overlay e.world x.context x.job x.regs)

-- the thread after a switch: it goes on in another context, or the switch was refused
abbrev pub switched : Thread → Moved → Thread
switched x (moved.To context regs) = record x { context = context; regs = regs }
switched x (moved.Refused refusal) = refused x refusal

-- the outcome of the call that takes the thread of a number to another context
abbrev pub switch_outcome : ℕ → Environment → Thread → Outcome
switch_outcome t e x =
    let result = switch e.world x.context t x.regs in unchanged (with_world e result.1) (switched x result.0)

-- the thread after a plain call: a value is in r0, an exit ends it, or r0 says why the call was refused
abbrev pub plainly : Thread → CallAnswer → Thread
plainly x (ends.Value value) = with_regs x (with_result x.regs 0 value)
plainly x (ends.Exit code) = with_status x (Done code)
plainly x (ends.Refused refusal) = refused x refusal

-- the outcome of a plain call by how it ends
abbrev pub ended_outcome : Thread → calls.Outcome → Outcome
ended_outcome x ended = unchanged (beside ended.world ended.io) (plainly x ended.answer)

-- one context for the memory, the slots and the credential
abbrev pub three_times : Name → CallContexts
three_times c = record { memory = c; slots = c; cred = c }

-- the arguments of a plain call, in r1 to r3
abbrev pub args_of : Regs → List ℕ
args_of regs = slice_index regs.r 1 ∷ slice_index regs.r 2 ∷ slice_index regs.r 3 ∷ []

-- the outcome of the plain call of a number over the thread's own context
abbrev pub plain_outcome : ℕ → Environment → Thread → Outcome
plain_outcome number e x =
    ended_outcome x (plain e.world e.channels (three_times x.context) x.job (plain_call number) (args_of x.regs))

-- the outcome of the call that makes a plain one over the contexts that a mask chooses
abbrev pub syscall_outcome : Environment → Thread → Outcome
syscall_outcome e x = ended_outcome x (lw_syscall e.world e.channels x.context x.job x.regs)

-- the calls of guests: one row for each from 16 on, and the plain ones, which refuse any other number
unfoldable pub guest_calls : Calls
guest_calls number t e x =
    if number == LW_CREATE then create_outcome e x
    else (if number == LW_SWITCH then switch_outcome t e x
    else (if number == LW_RESTRICT then restrict_outcome e x
    else (if number == LW_OVERLAY then overlay_outcome e x
    else (if number == LW_SYSCALL then syscall_outcome e x
    else plain_outcome number e x))))

-- the outcome of a shared instruction, by its operation; no other operation comes here
unfoldable pub shared_outcome : Calls → ℕ → Environment → Thread → Instr → Op → Outcome
shared_outcome calls t e x i Ldb = unchanged e (loaded x i.rd (byte_for e.world x.context (address x.regs i)))
shared_outcome calls t e x i Ldw = unchanged e (loaded x i.rd (word_for e.world x.context (address x.regs i)))
shared_outcome calls t e x i Stb = byte_outcome e x (address x.regs i) (slice_index x.regs.r i.rb)
shared_outcome calls t e x i Stw = word_outcome e x (address x.regs i) (slice_index x.regs.r i.rb)
shared_outcome calls t e x i Sys = calls i.imm t e x
shared_outcome calls t e x i Halt = unchanged e (with_status x (Done 0))
shared_outcome calls t e x i _ = unchanged e x

-- the outcome of what comes after the private instructions: nothing, a fault, or a shared instruction
unfoldable pub next_outcome : Calls → ℕ → Environment → Thread → Next → Outcome
next_outcome calls t e x next.Pause = unchanged e x
next_outcome calls t e x next.BadPc = unchanged e (faulted x fault.BadPc)
next_outcome calls t e x (next.Shared i) = shared_outcome calls t e x i i.op

-- the status of a thread with this number of steps left: with none left, a running thread is ended by a fault
abbrev pub status_with : ℕ → ThreadStatus → ThreadStatus
status_with left Running = if left == 0 then Faulted fault.Budget else Running
status_with left Idle = Idle
status_with left (Done code) = Done code
status_with left (Faulted f) = Faulted f

-- the thread with this number of steps left
abbrev pub with_steps : ℕ → Thread → Thread
with_steps left x = record x { budget = left; status = status_with left x.status }

-- an outcome whose thread has this number of steps left
abbrev pub counted : ℕ → Outcome → Outcome
counted left outcome = record outcome { thread = with_steps left outcome.thread }

-- the outcome of a step of a running thread, by how far it advances; it takes one of the thread's steps
unfoldable pub advance_outcome : Calls → ℕ → Environment → Thread → Advance → Outcome
advance_outcome calls t e x advance =
    counted (x.budget - 1) (next_outcome calls t e (with_regs x advance.after) advance.next)

-- what a step leaves: the thread, what it has in common with the others, the serve, and what is finished, if
-- a request is
pub record AfterStep : Type 0 where
  pub thread : Thread
  pub environment : Environment
  pub serve : Option Serve
  pub finished : Option Finished

-- a step that neither begins nor finishes a request leaves its outcome
abbrev pub only : Option Serve → Outcome → AfterStep
only serve outcome =
    record { thread = outcome.thread; environment = outcome.environment; serve = serve; finished = None }

-- a worker that waits in its home, with these registers
abbrev pub waiting : Name → Regs → Thread
waiting home regs = record { status = Idle; context = home; regs = regs; job = 0; budget = 0 }

-- what is recorded of a request whose thread has ended: how, and the bytes that were written by then
abbrev pub finished_by : Thread → Channels → Finished
finished_by x io = record { request = x.job - 1; status = x.status; bytes = bytes_in io.replies (x.job - 1) }

-- the serve with one more record
abbrev pub with_reply : Serve → Finished → Serve
with_reply s finished = record s { replies = slice_set s.replies finished.request (Some finished) }

-- a request is finished: it is recorded, and the worker of a number waits at home again
abbrev pub finish : ℕ → Serve → Outcome → AfterStep
finish t s outcome =
    let finished = finished_by outcome.thread outcome.environment.channels in record {
      thread = waiting (home_of t) (context outcome.environment.world (home_of t)).entry;
      environment = outcome.environment;
      serve = Some (with_reply s finished);
      finished = Some finished;
    }

-- the end of a step of a running thread: in a serve its request is finished once the thread has ended
abbrev pub settled : ℕ → Option Serve → Outcome → AfterStep
settled t None outcome = only None outcome
settled t (Some s) outcome = if has_ended outcome.thread.status then finish t s outcome else only (Some s) outcome

-- a worker that begins a request, with the registers of its home
abbrev pub serving : ℕ → ℕ → Regs → Thread
serving r budget regs =
    record { status = Running; context = request_context r; regs = regs; job = r + 1; budget = budget }

-- the worker of a number begins the next request, in a copy of its home
abbrev pub begin_next : ℕ → Serve → Environment → AfterStep
begin_next t s e = record {
  thread = serving s.next s.budget (context e.world (home_of t)).entry;
  environment = with_world e (begin e.world (home_of t) s.next);
  serve = Some (record s { next = s.next + 1 });
  finished = None;
}

-- a step of an idle thread: it begins the next request, or ends if none is left
abbrev pub woken : ℕ → Option Serve → Environment → Thread → AfterStep
woken t None e x = only None (unchanged e (with_status x (Done 0)))
woken t (Some s) e x =
    if nat_lt s.next (length e.channels.requests) then begin_next t s e
    else only (Some s) (unchanged e (with_status x (Done 0)))

-- what a step leaves, by the thread's status
abbrev pub thread_outcome : Calls → ℕ → Environment → Option Serve → List Instr → Thread → ThreadStatus →
    Option AfterStep
thread_outcome calls t e serve text x Running =
    Some (settled t serve (advance_outcome calls t e x (advanced text x.regs)))
thread_outcome calls t e serve text x Idle = Some (woken t serve e x)
thread_outcome calls t e serve text x (Done code) = None
thread_outcome calls t e serve text x (Faulted f) = None

-- the contexts that threads are in, those of ended threads among them
abbrev pub contexts_of : List Thread → List Name
contexts_of threads = map (λ x. x.context) threads

-- the contexts that nothing else needs to name: those that threads are in, and the homes
abbrev pub roots : List Thread → Option Serve → List Name
roots threads serve = contexts_of threads ++ homes serve

-- the machine without the contexts that are not reached from these, and then without the groups that no cell
-- names
abbrev pub reap : Machine → Machine
reap m =
    record m {
      environment = with_world m.environment (life.reap m.environment.world (roots m.threads m.serve));
    }

-- the machine after a step of the thread of a number, if it made one
abbrev pub after_outcome : Machine → ℕ → Option AfterStep → Machine
after_outcome m t None = m
after_outcome m t (Some after) =
    reap (record m {
      threads = slice_set m.threads t after.thread;
      environment = after.environment;
      serve = after.serve;
    })

-- the machine after a step of the thread that was found, if one was
abbrev pub after_thread : Calls → Machine → ℕ → Option Thread → Machine
after_thread calls m t None = m
after_thread calls m t (Some x) =
    after_outcome m t (thread_outcome calls t m.environment m.serve m.text x x.status)

-- the machine after one step of a thread, with these calls; a step of an ended thread changes nothing
unfoldable pub step_by : Calls → Machine → ℕ → Machine
step_by calls m t = after_thread calls m t (slice_get m.threads t)

-- the machine after one step of the thread of a number
abbrev pub step : Machine → ℕ → Machine
step m t = step_by guest_calls m t

-- what a step has finished, if one was made
abbrev pub finished_in : Option AfterStep → Option Finished
finished_in None = None
finished_in (Some after) = after.finished

-- what a step of the thread that was found finishes
abbrev pub finished_of : Machine → ℕ → Option Thread → Option Finished
finished_of m t None = None
finished_of m t (Some x) =
    finished_in (thread_outcome guest_calls t m.environment m.serve m.text x x.status)

-- what the next step of the thread of a number finishes
unfoldable pub finishes : Machine → ℕ → Option Finished
finishes m t = finished_of m t (slice_get m.threads t)
