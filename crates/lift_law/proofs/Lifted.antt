-- A run that meets no limit of pages is the same with the image lifted.
use Rattle.std.proofs.Common.{◌≡◌, ◌∙◌, sym, ap, subst, ℕ, List, None}
use Rattle.guest_image.specs.declared.image.Image.{Image}
use Rattle.kernel_core.specs.Histories.{IsLegal}
use Rattle.kernel_core.specs.Kernel.{CanOpen}
use Rattle.kernel_core.specs.Machine.{Machine}
use Rattle.kernel_core.specs.Runs.{peak, run}
use Rattle.kernel_core.specs.Start.{Inputs, start}
use Rattle.lwc_text.specs.Report.{report_after, report_of}
use Rattle.lift_law.proofs.Starting.{start-fine, start-wide}
use Rattle.lift_law.proofs.Telling.{legal-wide, text-wide}
use Rattle.lift_law.specs.Lifting.{MeetNoLimit, RunsLifted, lifted_inputs}

lifted-legal : (inputs : Inputs) (steps : List ℕ) → inputs.vault ≡ None → CanOpen inputs → MeetNoLimit (start inputs) steps → IsLegal (start inputs) steps → IsLegal (start (lifted_inputs inputs)) steps
lifted-legal inputs steps none can meets legal =
    subst (λ (m : Machine). IsLegal m steps) (sym (start-wide inputs none)) (legal-wide inputs (start inputs) steps (start-fine inputs none can) meets legal)

lifted-text : (inputs : Inputs) (steps : List ℕ) → inputs.vault ≡ None → CanOpen inputs → MeetNoLimit (start inputs) steps → report_after (lifted_inputs inputs) steps ≡ report_after inputs steps
lifted-text inputs steps none can meets =
    ap (λ (m : Machine). report_of (run m steps) (peak m steps) steps) (start-wide inputs none) ∙ text-wide inputs (start inputs) steps (start-fine inputs none can) meets

pub runs_lifted : (image : Image) → RunsLifted image
runs_lifted image inputs steps same none can meets legal = (lifted-legal inputs steps none can meets legal, lifted-text inputs steps none can meets)
