-- Steps outside the vault are as legal where the vault is blank, and tell the same: what is so of each context.
use Rattle.std.proofs.Common.{◌≡◌, ℕ, ◌∙◌, refl, sym, Bool, true, None, List}
use Rattle.kernel_core.specs.Histories.{IsLegal}
use Rattle.kernel_core.specs.Machine.{Machine}
use Rattle.kernel_core.specs.Runs.{kept, peak, run}
use Rattle.kernel_core.specs.Start.{vault_name}
pub use Rattle.blank_steps.proofs.Running.{stays_run}
use Rattle.blank_steps.proofs.Running as every
use Rattle.lwc_base.specs.World.{World}
use Rattle.lwc_types.specs.declared.name.Name.{Name}
use Rattle.lwc_text.proofs.Told.{TellAlike, contexts_alike, report_alike}
use Rattle.lwc_text.specs.Report.{contexts_text, report_of, text_of}
use Rattle.lwc_vault.specs.Blanks.{blank_machine}
use Rattle.world_views.proofs.BlankChanges.{blanks-alike}
use Rattle.world_views.specs.Blank.{blank}
use Rattle.world_views.specs.BlankFacts.{BlanksAlike}
use Rattle.world_views.specs.Outside.{IsOutside}

abbrev pub ActOutside : Machine → List ℕ → Type 0
ActOutside m steps = every.ActOutside vault_name m steps

pub outside-blank : (keep : Bool) (w : World) (c : Name) (own : ℕ) → IsOutside vault_name c own w → IsOutside vault_name c own (blank keep vault_name w)
outside-blank keep = every.outside-blank keep vault_name vault_name

pub outside-back : (keep : Bool) (w : World) (c : Name) (own : ℕ) → IsOutside vault_name c own (blank keep vault_name w) → IsOutside vault_name c own w
outside-back keep = every.outside-back keep vault_name vault_name

told_alike : (keep : Bool) (w : World) → TellAlike w (blank keep vault_name w)
told_alike keep w =
    let alike : BlanksAlike keep vault_name w = blanks-alike keep vault_name w in
    record { live = alike.keys; summary = alike.summary; groups = refl; used = alike.used }

pub contexts-blank : (keep : Bool) (w : World) → contexts_text (blank keep vault_name w) ≡ contexts_text w
contexts-blank keep w = contexts_alike w (blank keep vault_name w) (told_alike keep w)

pub act-blank : (m : Machine) (steps : List ℕ) → m.serve ≡ None → ActOutside m steps → ActOutside (blank_machine m) steps
act-blank m steps run is = every.act-blank vault_name vault_name m steps run is is

pub act-back : (m : Machine) (steps : List ℕ) → m.serve ≡ None → ActOutside (blank_machine m) steps → ActOutside m steps
act-back m steps run is = every.act-back vault_name vault_name m steps run is is

pub kept-blank : (m : Machine) (steps : List ℕ) → m.serve ≡ None → ActOutside m steps → kept (blank_machine m) steps ≡ kept m steps
kept-blank = every.kept-blank vault_name

pub text-blank : (m : Machine) (steps : List ℕ) → m.serve ≡ None → ActOutside m steps → text_of (blank_machine m) steps ≡ text_of m steps
text-blank m steps none is =
    (λ i. report_of (every.run-blank vault_name m steps none is i) (every.peak-blank vault_name m steps none is i) steps)
    ∙ report_alike (run m steps) (blank true vault_name (run m steps).environment.world) (told_alike true (run m steps).environment.world) (peak m steps) steps

pub legal-blank : (m : Machine) (steps : List ℕ) → m.serve ≡ None → ActOutside m steps → IsLegal m steps → IsLegal (blank_machine m) steps
legal-blank m steps none is legal = kept-blank m steps none is ∙ legal

pub legal-back : (m : Machine) (steps : List ℕ) → m.serve ≡ None → ActOutside m steps → IsLegal (blank_machine m) steps → IsLegal m steps
legal-back m steps none is legal = sym (kept-blank m steps none is) ∙ legal
