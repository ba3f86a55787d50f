-- Steps outside a context tell the same where that is blank.
use Rattle.std.proofs.Common.{◌≡◌, ℕ, refl, ◌∙◌, true, None, List}
use Rattle.blank_steps.proofs.Running.{ActOutside, peak-blank, run-blank}
use Rattle.blank_steps.specs.Blanks.{blank_in}
use Rattle.kernel_core.specs.Machine.{Machine}
use Rattle.kernel_core.specs.Runs.{peak, run}
use Rattle.lwc_base.specs.World.{World}
use Rattle.lwc_types.specs.declared.name.Name.{Name}
use Rattle.lwc_text.proofs.Told.{TellAlike, report_alike}
use Rattle.lwc_text.specs.Report.{report_of, text_of}
use Rattle.world_views.proofs.BlankChanges.{blanks-alike}
use Rattle.world_views.specs.Blank.{blank}
use Rattle.world_views.specs.BlankFacts.{BlanksAlike}

module _ (v : Name) where
  told_alike : (w : World) → TellAlike w (blank true v w)
  told_alike w =
      let alike : BlanksAlike true v w = blanks-alike true v w in
      record { live = alike.keys; summary = alike.summary; groups = refl; used = alike.used }

  pub text-blank : (m : Machine) (steps : List ℕ) → m.serve ≡ None → ActOutside v m steps → text_of (blank_in v m) steps ≡ text_of m steps
  text-blank m steps none is =
      (λ i. report_of (run-blank v m steps none is i) (peak-blank v m steps none is i) steps)
      ∙ report_alike (run m steps) (blank true v (run m steps).environment.world) (told_alike (run m steps).environment.world) (peak m steps) steps
