-- A schedule beside a vault prints the same beside another one of its shape.
use Rattle.std.proofs.Common.{◌≡◌, ◌+◌, ◌<◌, ◌≤◌, ℕ, Bool, true, false, cond, ltb, Option, None, List, [], ◌∷◌, length, refl, sym, ap, subst, ◌∙◌, arith}
use Rattle.std.proofs.lemmas.Bool.Decides.{nat_tests}
use Rattle.std.specs.Option.{option_map_or}
use Rattle.guest_image.specs.Limits.{IsImage}
use Rattle.guest_image.specs.declared.image.Image.{Image}
use Rattle.guest_image.specs.declared.image.Vault.{Vault}
use Rattle.kernel_core.proofs.Runs.{step_of_ended}
use Rattle.kernel_core.specs.Kernel.{CanKeep, CanOpen, MayHave}
use Rattle.kernel_core.specs.Machine.{Machine, has_ended, is_ended}
use Rattle.kernel_core.specs.Runs.{kept}
use Rattle.kernel_core.specs.Start.{Inputs, start}
use Rattle.kernel_core.specs.Settings.{IsSettings}
use Rattle.kernel_core.specs.Step.{step}
use Rattle.kernel_core.specs.declared.settings.Job.{Job}
use Rattle.kernel_core.specs.declared.settings.Settings.{Settings}
use Rattle.kernel_core.specs.declared.thread.Thread.{Thread}
use Rattle.lwc_text.specs.Report.{report_of_schedule, text_of}
use Rattle.lwc_vault.proofs.Handing.{kept-told, schedule-handed}
use Rattle.lwc_vault.proofs.Never.{outside_by_switches}
use Rattle.lwc_vault.proofs.Shapes.{start-shape, text-shape}
use Rattle.lwc_vault.proofs.Staying.{all-outside, no_serve}
use Rattle.lwc_vault.proofs.Telling.{ActOutside, act-back, act-blank, kept-blank}
use Rattle.lwc_vault.specs.Blanks.{ActsOutside}
use Rattle.lwc_vault.specs.Secrets.{HaveOneShape, KeepsSecret, StandOutside, beside}

-- who has ended makes no step, inside or outside
ended_acts : (m : Machine) (t : ℕ) → is_ended m t ≡ true → ActsOutside m t
unfolding is_ended
ended_acts m t ended x found runs =
    let here : has_ended x.status ≡ true = subst (λ (o : Option Thread). option_map_or (λ (y : Thread). has_ended y.status) o true ≡ true) found ended in
    let not : has_ended x.status ≡ false = ap has_ended runs in
    let no : true ≡ false = sym here ∙ not in absurd cc

-- a schedule of which the kept steps are made from outside is made from outside
act_kept : (m : Machine) (schedule : List ℕ) → ActOutside m (kept m schedule) → ActOutside m schedule
act_kept m [] is = tt
act_kept m (t ∷ ts) is = by (is_ended m t) refl (act_kept m ts) (act_kept (step m t) ts) is
  where
    by : (b : Bool) → is_ended m t ≡ b → (ActOutside m (kept m ts) → ActOutside m ts) → (ActOutside (step m t) (kept (step m t) ts) → ActOutside (step m t) ts) →
        ActOutside m (cond b (kept m ts) (t ∷ kept (step m t) ts)) → ActOutside m (t ∷ ts)
    by true ended here later rest = (ended_acts m t ended, subst (λ n. ActOutside n ts) (sym (step_of_ended m t ended)) (here rest))
    by false ended here later all = (all.0, later all.1)

module _ (a b : Vault) (shape : HaveOneShape a b) (inputs : Inputs) (schedule : List ℕ) (can : CanOpen (beside inputs a)) (stand : StandOutside (start (beside inputs a)) (kept (start (beside inputs a)) schedule)) where
  abbrev here : Machine
  here = start (beside inputs a)

  abbrev other : Machine
  other = start (beside inputs b)

  run_here : here.serve ≡ None
  run_here = no_serve inputs a can

  run_other : other.serve ≡ None
  unfolding start
  run_other = no_serve inputs a can

  outside : ActOutside here schedule
  outside = act_kept here schedule (all-outside inputs a (kept here schedule) can stand)

  there : ActOutside other schedule
  there = act-back other schedule run_other (subst (λ n. ActOutside n schedule) (start-shape a b shape inputs) (act-blank here schedule run_here outside))

  kept-shape : kept other schedule ≡ kept here schedule
  kept-shape =
      sym (kept-blank other schedule run_other there) ∙ ap (λ n. kept n schedule) (sym (start-shape a b shape inputs))
      ∙ kept-blank here schedule run_here outside

  schedule-shape : report_of_schedule (beside inputs b) schedule ≡ report_of_schedule (beside inputs a) schedule
  unfolding report_of_schedule
  schedule-shape = ap (text_of other) kept-shape ∙ text-shape a b shape inputs (kept here schedule) can stand

pub keeps_secret : (inputs : Inputs) (v : Vault) (schedule : List ℕ) → CanOpen (beside inputs v) → KeepsSecret inputs v schedule
keeps_secret inputs v schedule can = record {
  same = λ stand other shape. record {
    steps = kept-shape v other shape inputs schedule can stand;
    text = schedule-shape v other shape inputs schedule can stand;
  };
  entered = outside_by_switches inputs v (kept (start (beside inputs v)) schedule) can;
  handed = λ other shape hand. record {
    steps = kept-told v other shape inputs can schedule hand;
    text = schedule-handed inputs v other schedule can shape hand;
  };
}

-- and where the pages of a run's image and of a vault fit the frames
pub keeps_secret_of : (image : Image) (v : Vault) (settings : Settings) (schedule : List ℕ) → IsImage image → CanKeep image settings.job v → IsSettings settings → (settings.frames < length image.pages + length v.pages → ⊥) →
    KeepsSecret (record { image = image; vault = None; requests = []; settings = settings }) v schedule
keeps_secret_of image v settings schedule is keep limits never =
    keeps_secret (record { image = image; vault = None; requests = []; settings = settings }) v schedule (record {
      image = is;
      vault = keep;
      settings = limits;
      fits = fits_by (ltb settings.frames (length image.pages + length v.pages)) refl;
      requests = subst (λ (job : Job). MayHave job []) (sym keep.run) refl;
    })
  where
    fits_by : (b : Bool) → ltb settings.frames (length image.pages + length v.pages) ≡ b → length image.pages + length v.pages ≤ settings.frames
    fits_by true less = absurd (never (grind (arith, nat_tests)))
    fits_by false low = grind (arith, nat_tests)
