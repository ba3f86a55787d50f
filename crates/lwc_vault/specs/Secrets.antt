-- Runs beside a vault, and what their reports tell of its bytes.
use Rattle.std.specs.Prelude.{◌≡◌, ◌≢◌, All, ℕ, List, [], ◌∷◌, Some, slice_get}
use Rattle.confinement.specs.May.{IsGiven, MakesCall}
use Rattle.guest_image.specs.Limits.{page_numbers}
use Rattle.guest_image.specs.declared.image.Vault.{Vault}
use Rattle.kernel_core.specs.Histories.{IsLegal}
use Rattle.kernel_core.specs.Machine.{Machine}
use Rattle.kernel_core.specs.Runs.{kept, run}
use Rattle.kernel_core.specs.Start.{Inputs, start, vault_name}
use Rattle.kernel_core.specs.Step.{step}
use Rattle.kernel_core.specs.declared.calling.TheConstants.{LW_SWITCH}
use Rattle.kernel_core.specs.declared.thread.Thread.{Thread}
use Rattle.lwc_base.specs.declared.descriptor.Cap.{Cap}
use Rattle.lwc_text.specs.Report.{report_after, report_of_schedule}
use Rattle.lwc_vault.specs.Told.{IsPlain, told_in}

-- the thread of a number, if there is one, does not stand in the vault
abbrev pub StandsOutside : Machine → ℕ → Type 0
StandsOutside m t = (x : Thread) → slice_get m.threads t ≡ Some x → x.context ≢ vault_name

-- so it is of each thread that makes one of these steps, at that moment; a step that enters the vault is made
-- from outside it
abbrev pub StandOutside : Machine → List ℕ → Type 0
StandOutside m [] = Unit {0}
StandOutside m (t ∷ ts) = StandsOutside m t × StandOutside (step m t) ts

-- the next step of the thread of a number is an accepted switch to the vault
abbrev pub Enters : Machine → ℕ → Type 0
Enters m t = (x : Thread) × MakesCall m t x LW_SWITCH × ((cap : Cap) × IsGiven m x vault_name cap)

-- none of these steps is
abbrev pub NoneEnters : Machine → List ℕ → Type 0
NoneEnters m [] = Unit {0}
NoneEnters m (t ∷ ts) = (Enters m t → ⊥) × NoneEnters (step m t) ts

-- two vaults are entered at one instruction, and have pages of the same numbers
pub record HaveOneShape (a b : Vault) : Type 0 where
  pub entry : a.entry ≡ b.entry
  pub pages : page_numbers a.pages ≡ page_numbers b.pages

-- the inputs with this vault
abbrev pub beside : Inputs → Vault → Inputs
beside inputs v = record inputs { vault = Some v }

-- what a report tells of the vault: beside each other one of its shape the same steps are legal, and the report
-- of these steps is the same
abbrev pub TellsNothing : Inputs → List ℕ → Vault → Type 0
TellsNothing inputs steps v =
    (other : Vault) → HaveOneShape v other → IsLegal (start (beside inputs other)) steps
    × (report_after (beside inputs other) steps ≡ report_after (beside inputs v) steps)

-- two vaults hand out the same in these steps, nothing else is done in them, and nobody stands in either at the end
pub record HandOutTheSame (inputs : Inputs) (a b : Vault) (steps : List ℕ) : Type 0 where
  pub same : told_in (start (beside inputs b)) steps ≡ told_in (start (beside inputs a)) steps
  pub plain : All IsPlain (told_in (start (beside inputs a)) steps)
  pub left : (t : ℕ) → StandsOutside (run (start (beside inputs a)) steps) t
  pub left_other : (t : ℕ) → StandsOutside (run (start (beside inputs b)) steps) t

-- beside two vaults the same steps of a schedule are kept, and the whole text is the same
pub record PrintTheSame (inputs : Inputs) (a b : Vault) (schedule : List ℕ) : Type 0 where
  pub steps : kept (start (beside inputs b)) schedule ≡ kept (start (beside inputs a)) schedule
  pub text : report_of_schedule (beside inputs b) schedule ≡ report_of_schedule (beside inputs a) schedule

-- a schedule beside a vault keeps its secret: where no step that is kept is made by a thread that stands in the
-- vault, each other vault of its shape prints the same; and none is made by such a thread, where none is an accepted
-- switch to the vault; and each one of its shape that hands out the same prints the same
pub record KeepsSecret (inputs : Inputs) (v : Vault) (schedule : List ℕ) : Type 0 where
  pub same : StandOutside (start (beside inputs v)) (kept (start (beside inputs v)) schedule) →
      (other : Vault) → HaveOneShape v other → PrintTheSame inputs v other schedule
  pub entered : NoneEnters (start (beside inputs v)) (kept (start (beside inputs v)) schedule) →
      StandOutside (start (beside inputs v)) (kept (start (beside inputs v)) schedule)
  pub handed : (other : Vault) → HaveOneShape v other → HandOutTheSame inputs v other schedule →
      PrintTheSame inputs v other schedule
