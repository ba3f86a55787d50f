-- A request that is served alone: its reply, and the pages that it leaves if it is kept.
use Rattle.std.specs.Prelude.{ℕ, ◌&&◌, ◌||◌, ◌==◌, ◌-◌, Bool, false, true, if◌then◌else◌, List, [], ◌∷◌, Option}
use Rattle.std.specs.Prelude.{None, Some, length, replicate}
use Rattle.std.specs.Option.{option_map, option_map_or, option_or}
use Rattle.guest_image.specs.declared.image.Image.{Image}
use Rattle.guest_image.specs.declared.image.PageImage.{PageImage}
use Rattle.guest_isa.specs.declared.instr.Instr.{Instr}
use Rattle.guest_isa.specs.declared.op.Op.{Op}
use Rattle.guest_isa.specs.declared.op.Op.TheVariants.{Halt, Sys}
use Rattle.guest_machine.specs.Advances.{advanced}
use Rattle.guest_machine.specs.declared.progress.Next.{Next}
use Rattle.guest_machine.specs.declared.progress.Next.TheVariants as next
use Rattle.kernel_core.specs.Kernel.{view_of}
use Rattle.kernel_core.specs.Machine.{Machine, reply_of, work}
use Rattle.kernel_core.specs.Runs.{kept, peak, run}
use Rattle.kernel_core.specs.Start.{Inputs, inputs_of, start}
use Rattle.kernel_core.specs.Step.{step}
use Rattle.kernel_core.specs.declared.calling.TheConstants.{LW_SYSCALL}
use Rattle.kernel_core.specs.declared.settings.Settings.{Settings}
use Rattle.kernel_core.specs.declared.thread.ThreadView.{ThreadView}
use Rattle.lwc_session.specs.Pages.{are_fitting, pages_in}
use Rattle.lwc_session.specs.declared.serving.TheConstants.{EXIT}
use Rattle.lwc_types.specs.declared.fault.ThreadStatus.{ThreadStatus}
use Rattle.lwc_types.specs.declared.fault.ThreadStatus.TheVariants.{Idle, Running, Done, Faulted}
use Rattle.lwc_types.specs.declared.name.Name.{Name}
use Rattle.snapshot_host.specs.Begin.{request_context}
use Rattle.snapshot_host.specs.declared.finishing.Finished.{Finished}

-- whether an instruction may end a thread with code 0: HALT, exit, or the call that makes another one, an exit too
abbrev pub may_end_by : Instr → Op → Bool
may_end_by i Halt = true
may_end_by i Sys = i.imm == EXIT || i.imm == LW_SYSCALL
may_end_by i op = false

-- whether what comes next may end a thread with code 0
abbrev pub may_end_next : Next → Bool
may_end_next (next.Shared i) = may_end_by i i.op
may_end_next next.Pause = false
may_end_next next.BadPc = false

-- whether a thread of this status runs
abbrev pub is_running : ThreadStatus → Bool
is_running Running = true
is_running Idle = false
is_running (Done code) = false
is_running (Faulted fault) = false

-- whether a name is that of the first context of the one request
abbrev pub is_first : Name → Bool
is_first c = (c.job == 1) && (c.k == 0)

-- whether a thread runs in the first context of the one request, and what comes next may end it with code 0
abbrev pub may_end : ThreadView → Next → Bool
may_end x n = is_running x.status && is_first x.context && may_end_next n

-- whether a request has ended with code 0
abbrev pub is_done : Option ThreadStatus → Bool
is_done (Some (Done code)) = code == 0
is_done (Some (Faulted fault)) = false
is_done (Some Idle) = false
is_done (Some Running) = false
is_done None = false

-- the pages that the next step leaves: those of the request's first context as it is then, if the request ends there
-- with code 0 in this step
abbrev pub left_by : Machine → Option (List PageImage)
left_by m =
    if option_map_or (λ x. may_end x (advanced m.text x.regs).next) (view_of m 0) false
    && is_done (option_map (λ f. f.status) (reply_of (step m 0) 0))
    then Some (pages_in m.environment.world (request_context 0)) else None

-- the pages that the last of these steps leaves which leaves some
abbrev pub left_in : Machine → List ℕ → Option (List PageImage) → Option (List PageImage)
left_in m [] before = before
left_in m (t ∷ ts) before = left_in (step m t) ts (option_or (left_by m) before)

-- pages that an image may have, where there are no more of them than frames
abbrev pub those_fitting : ℕ → Option (List PageImage) → Option (List PageImage)
those_fitting frames None = None
those_fitting frames (Some pages) = if are_fitting frames pages then Some pages else None

-- all steps of one worker
abbrev pub history : Inputs → List ℕ
history inputs = kept (start inputs) (replicate (work (start inputs)) 0)

-- what comes of a request that is served alone: its reply, the pages that it leaves if it is kept, the steps for it,
-- and the most frames that were in use
pub record Served : Type 0 where
  pub reply : Option Finished
  pub pages : Option (List PageImage)
  pub steps : ℕ
  pub peak : ℕ

-- what comes of the one request of these inputs; the last step, in which the worker finds no more, is not counted
unfoldable pub served : Inputs → Served
served inputs = let steps = history inputs in record {
  reply = reply_of (run (start inputs) steps) 0;
  pages = those_fitting inputs.settings.frames (left_in (start inputs) steps None);
  steps = length steps - 1;
  peak = peak (start inputs) steps;
}
