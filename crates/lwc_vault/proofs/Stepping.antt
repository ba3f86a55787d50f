-- A step of a thread outside the vault is the same step where the vault is blank: what is so of each context.
use Rattle.std.proofs.Common.{◌≡◌, ◌≢◌, ℕ, Bool, true, None}
use Rattle.blank_steps.proofs.Stepping as each
use Rattle.guest_machine.specs.declared.progress.Advance.{Advance}
use Rattle.kernel_core.specs.Machine.{Environment, Machine}
use Rattle.kernel_core.specs.Start.{vault_name}
use Rattle.kernel_core.specs.Step.{Outcome, advance_outcome, guest_calls, step}
use Rattle.kernel_core.specs.declared.thread.Thread.{Thread}
use Rattle.lwc_types.specs.declared.name.Name.{Name}
use Rattle.lwc_vault.specs.Blanks.{ActsOutside, blank_machine}
use Rattle.world_views.specs.Blank.{tells_registers}
use Rattle.world_views.specs.Outside.{IsOutside}

abbrev pub blank_env : Bool → Environment → Environment
blank_env keep e = each.blank_env vault_name keep e

-- a thread without the registers that it has in a vault that keeps none
abbrev pub cover : Bool → Thread → Thread
cover keep x = each.cover vault_name keep x

abbrev pub cover_out : Bool → Outcome → Outcome
cover_out keep o = each.cover_out vault_name keep o

abbrev pub blank_out : Bool → Outcome → Outcome
blank_out keep o = each.blank_out vault_name keep o

-- who is not in the vault has its registers
pub tells_outside : (keep : Bool) (c : Name) → c ≢ vault_name → tells_registers keep vault_name c ≡ true
tells_outside = each.tells_outside vault_name

-- a step from outside, where the vault is blank; who enters it is the same but for its registers, where it keeps none
pub advance-blank : (keep : Bool) (t : ℕ) (e : Environment) (x : Thread) → IsOutside vault_name x.context x.job e.world → (advance : Advance) →
    cover_out keep (advance_outcome guest_calls t (blank_env keep e) x advance) ≡ blank_out keep (advance_outcome guest_calls t e x advance)
advance-blank = each.advance-blank vault_name

pub step-blank : (m : Machine) (t : ℕ) → m.serve ≡ None → ActsOutside m t → step (blank_machine m) t ≡ blank_machine (step m t)
step-blank = each.step_blank vault_name
