-- The frames that requests take by themselves and together, and the want of frames.
use Rattle.std.specs.Prelude.{◌≡◌, ◌⊎◌, ℕ, ◌+◌, ◌-◌, ◌*◌, ◌%◌, ◌==◌, ◌≤◌, if◌then◌else◌, true, List, [], ◌∷◌, Option}
use Rattle.std.specs.Prelude.{None, Some, length, max, nat_le, slice_get, slice_index}
use Rattle.std.specs.Int.{w64, to_le_bytes}
use Rattle.guest_image.specs.declared.image.Image.{Image}
use Rattle.guest_isa.specs.declared.instr.Instr.{Instr}
use Rattle.guest_isa.specs.declared.op.Op.{Op}
use Rattle.guest_isa.specs.declared.op.Op.TheVariants.{Stb, Stw, Sys}
use Rattle.guest_machine.specs.Advances.{advanced}
use Rattle.guest_machine.specs.declared.progress.Next.{Next}
use Rattle.guest_machine.specs.declared.progress.Next.TheVariants.{Shared}
use Rattle.kernel_core.specs.Machine.{Environment, Machine}
use Rattle.kernel_core.specs.Runs.{frames_of, peak}
use Rattle.kernel_core.specs.Start.{Inputs, start}
use Rattle.kernel_core.specs.Step.{AfterStep, address, args_of, guest_calls, is_aligned, step, thread_outcome}
use Rattle.kernel_core.specs.Step.{three_times, with_regs}
use Rattle.kernel_core.specs.declared.calling.TheConstants.{LW_SYSCALL}
use Rattle.kernel_core.specs.declared.settings.Job.{Job}
use Rattle.kernel_core.specs.declared.settings.Job.TheVariants.{Run, Serve}
use Rattle.kernel_core.specs.declared.thread.Thread.{Thread}
use Rattle.guest_call.specs.Guest.{descriptor_for}
use Rattle.lwc_base.specs.Channels.{Channels}
use Rattle.lwc_base.specs.Frames.{used}
use Rattle.lwc_base.specs.Store.{Full, Piece, Stored, store}
use Rattle.lwc_base.specs.World.{World}
use Rattle.lwc_types.specs.declared.fault.ThreadStatus.TheVariants.{Running}
use Rattle.lwc_types.specs.declared.page.TheConstants.{PAGE_BYTES}
use Rattle.lwc_types.specs.declared.regs.Regs.{Regs}
use Rattle.lwc_types.specs.declared.refusal.Refusal.TheVariants.{NoFrame}
use Rattle.lwc_syscall.specs.Plain.{Outcome, moved, plain, store_at, plain_call}
use Rattle.lwc_syscall.specs.Syscall.{inner_call, lw_syscall}
use Rattle.lwc_syscall.specs.declared.answer.CallAnswer.TheVariants.{Refused}
use Rattle.lwc_syscall.specs.declared.calls.CallContexts.{CallContexts}
use Rattle.lwc_syscall.specs.declared.plain_call.PlainCall.TheVariants as plain_calls
use Rattle.request_isolation.specs.Alone.{ample, start_alone, steps_alone}

-- the world directly after what a step does, before anything is dropped
abbrev pub world_left : World → Option AfterStep → World
world_left w None = w
world_left w (Some after) = after.environment.world

-- the same of the thread that was found, if one was
abbrev pub world_by : Machine → ℕ → Option Thread → World
world_by m t None = m.environment.world
world_by m t (Some x) =
    world_left m.environment.world (thread_outcome guest_calls t m.environment m.serve m.text x x.status)

-- the world directly after what the next step of the thread of a number does
unfoldable pub acted_world : Machine → ℕ → World
acted_world m t = world_by m t (slice_get m.threads t)

-- the most frames that were in use: before the first step, directly after what each step does, and after each
abbrev pub most_used : Machine → List ℕ → ℕ
most_used m [] = frames_of m
most_used m (t ∷ ts) = max (frames_of m) (max (used (acted_world m t)) (most_used (step m t) ts))

-- the most frames that the request by itself takes beside the image's pages
unfoldable pub extra : Image → ℕ → ℕ → List ℕ → ℕ
extra image budget r bytes =
    most_used (start_alone image (ample image budget) budget r bytes) (steps_alone budget) - length image.pages

-- the most that one of these requests takes beside the image's pages; the first of them has this number
abbrev pub greatest_extra : Image → ℕ → ℕ → List (List ℕ) → ℕ
greatest_extra image budget r [] = 0
greatest_extra image budget r (bytes ∷ rest) =
    max (extra image budget r bytes) (greatest_extra image budget (r + 1) rest)

-- there are frames for the image's pages, and for as many of the requests at once as there are workers
abbrev pub HasFramesFor : Inputs → Job → Type 0
HasFramesFor inputs Run = Unit {0}
HasFramesFor inputs (Serve workers) =
    length inputs.image.pages
    + workers * greatest_extra inputs.image inputs.settings.budget 0 inputs.requests ≤ inputs.settings.frames

-- there are frames for as many requests at once as there are workers
abbrev pub HasFrames : Inputs → Type 0
HasFrames inputs = HasFramesFor inputs inputs.settings.job

-- a store of a thread's piece, none of it past the last page, finds too few frames
abbrev pub StoreIsFull : Environment → Thread → Piece → Type 0
StoreIsFull e x piece =
    (nat_le (piece.at + length piece.bytes) (e.world.size.pages * PAGE_BYTES) ≡ true)
    × (store e.world x.context x.job piece ≡ Full)

-- how a call ends that may store what it reads: a plain one, in the thread's context or in chosen ones
abbrev pub storing_call : ℕ → Environment → Thread → Outcome
storing_call number e x =
    if number == LW_SYSCALL then lw_syscall e.world e.channels x.context x.job x.regs
    else plain e.world e.channels (three_times x.context) x.job (plain_call number) (args_of x.regs)

-- a call is refused since its store finds too few frames
abbrev pub CallIsFull : ℕ → Environment → Thread → Type 0
CallIsFull number e x = (storing_call number e x).answer ≡ Refused NoFrame

-- a shared instruction makes a store that finds too few frames
abbrev pub IsFull : Environment → Thread → Instr → Op → Type 0
IsFull e x i Stb =
    StoreIsFull e x (record { at = address x.regs i; bytes = slice_index x.regs.r i.rb % 256 ∷ [] })
IsFull e x i Stw =
    (is_aligned (address x.regs i) ≡ true)
    × StoreIsFull e x (record { at = address x.regs i; bytes = to_le_bytes w64 (slice_index x.regs.r i.rb) })
IsFull e x i Sys = CallIsFull i.imm e x
IsFull e x i _ = ⊥

-- what comes after the private instructions makes such a store
abbrev pub WantsFrames : Environment → Thread → Next → Type 0
WantsFrames e x (Shared i) = IsFull e x i i.op
WantsFrames e x _ = ⊥

-- the next step of the thread of a number makes a store that finds too few frames
pub record IsShort (m : Machine) (t : ℕ) : Type 0 where
  pub thread : Thread
  pub found : slice_get m.threads t ≡ Some thread
  pub runs : thread.status ≡ Running
  pub wants : WantsFrames m.environment (with_regs thread (advanced m.text thread.regs).after)
      (advanced m.text thread.regs).next

-- none of these steps that is made for the request of a number finds too few frames
abbrev pub IsSpared : ℕ → Machine → List ℕ → Type 0
IsSpared r m [] = Unit {0}
IsSpared r m (t ∷ ts) =
    ((x : Thread) → slice_get m.threads t ≡ Some x → x.job ≡ r + 1 → IsShort m t → ⊥) × IsSpared r (step m t) ts

-- two frames more than were in use at the start and after each step: as many as a store may take
abbrev pub HadFrames : Inputs → List ℕ → Type 0
HadFrames inputs steps = peak (start inputs) steps + 2 ≤ inputs.settings.frames

-- a call reads, in the thread's context or in chosen ones
abbrev pub Reads : ℕ → Regs → Type 0
Reads number regs =
    (plain_call number ≡ Some plain_calls.Read) ⊎ ((number ≡ LW_SYSCALL) × (inner_call regs ≡ Some plain_calls.Read))

-- a shared instruction stores: it is a store, or a call that reads
abbrev pub Stores : Regs → Instr → Op → Type 0
Stores regs i Stb = Unit {0}
Stores regs i Stw = Unit {0}
Stores regs i Sys = Reads i.imm regs
Stores regs i _ = ⊥

-- what comes after the private instructions stores
abbrev pub StoresNext : Regs → Next → Type 0
StoresNext regs (Shared i) = Stores regs i i.op
StoresNext regs _ = ⊥

-- the next step of the thread of a number stores
pub record IsStoring (m : Machine) (t : ℕ) : Type 0 where
  pub thread : Thread
  pub found : slice_get m.threads t ≡ Some thread
  pub runs : thread.status ≡ Running
  pub stores : StoresNext (advanced m.text thread.regs).after (advanced m.text thread.regs).next

-- the store that a call makes which reads
abbrev pub store_of_read : World → Channels → CallContexts → ℕ → List ℕ → Stored
store_of_read w io targets job args =
    store_at w targets.memory job (slice_index args 1)
    (moved io (descriptor_for w targets.slots (slice_index args 0)) (slice_index args 2))
