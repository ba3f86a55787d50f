-- When a run of an image and a run of the lifted image are the same.
use Rattle.std.specs.Prelude.{◌≡◌, ◌≢◌, ℕ, List, [], ◌∷◌, Option, None, Some, slice_get}
use Rattle.guest_image.specs.Limits.{lifted}
use Rattle.guest_image.specs.declared.image.Image.{Image}
use Rattle.guest_isa.specs.declared.instr.Instr.{Instr}
use Rattle.guest_isa.specs.declared.op.Op.TheVariants.{Sys}
use Rattle.guest_machine.specs.Advances.{advanced}
use Rattle.guest_machine.specs.declared.progress.Next.TheVariants.{Shared}
use Rattle.kernel_core.specs.Histories.{IsLegal}
use Rattle.kernel_core.specs.Kernel.{CanOpen}
use Rattle.kernel_core.specs.Machine.{Machine}
use Rattle.kernel_core.specs.Refused.{advanced_thread, refusal_of}
use Rattle.kernel_core.specs.Start.{Inputs, start}
use Rattle.kernel_core.specs.Step.{step}
use Rattle.kernel_core.specs.declared.calling.TheConstants.{LW_RESTRICT}
use Rattle.kernel_core.specs.declared.thread.Thread.{Thread}
use Rattle.lwc_types.specs.declared.fault.ThreadStatus.TheVariants.{Running}
use Rattle.lwc_types.specs.declared.refusal.Refusal.{Refusal}
use Rattle.lwc_types.specs.declared.refusal.Refusal.TheVariants.{BadRange}
use Rattle.lwc_text.specs.Report.{report_after}

-- what a kernel is opened with, with the image lifted
abbrev pub lifted_inputs : Inputs → Inputs
lifted_inputs inputs = record inputs { image = lifted inputs.image }

-- why the call of a thread is refused that its next step makes, if it is
abbrev pub refusal_at : Machine → ℕ → Thread → Instr → Option Refusal
refusal_at m t x i = refusal_of i.imm t m.environment (advanced_thread m x)

-- the next step of the thread of a number meets no limit of pages: where it makes a call, this is not refused for
-- a range, and is no restriction that is accepted
abbrev pub MeetsNoLimit : Machine → ℕ → Type 0
MeetsNoLimit m t =
    (x : Thread) (i : Instr) → slice_get m.threads t ≡ Some x → x.status ≡ Running →
    (advanced m.text x.regs).next ≡ Shared i → i.op ≡ Sys →
    (refusal_at m t x i ≢ Some BadRange) × (i.imm ≡ LW_RESTRICT → refusal_at m t x i ≢ None)

-- none of these steps does
abbrev pub MeetNoLimit : Machine → List ℕ → Type 0
MeetNoLimit m [] = Unit {0}
MeetNoLimit m (t ∷ ts) = MeetsNoLimit m t × MeetNoLimit (step m t) ts

-- each run without a vault and each serve of an image in which no step meets a limit of pages is one of the lifted
-- image: its list of steps is legal there, and the report is the same
abbrev pub RunsLifted : Image → Type 0
RunsLifted image =
    (inputs : Inputs) (steps : List ℕ) → inputs.image ≡ image → inputs.vault ≡ None → CanOpen inputs →
    MeetNoLimit (start inputs) steps → IsLegal (start inputs) steps → IsLegal (start (lifted_inputs inputs)) steps
    × (report_after (lifted_inputs inputs) steps ≡ report_after inputs steps)
