-- A kernel that goes to a place of the kept steps.
use Rattle.std.proofs.Common.{◌≡◌, ◌+◌, ◌-◌, ◌<◌, ℕ, false, cond, Some, List, [], ◌∷◌, ◌++◌, length, take, get_or, sym, ap, ◌∙◌, arith}
use Rattle.std.proofs.lemmas.List.{take_more}
use Rattle.std.proofs.lemmas.Option.{slice_get-get_or}
use Rattle.kernel_core.specs.Histories.{IsLegal}
use Rattle.kernel_core.specs.Kernel.{History, machine_of, stepped}
use Rattle.kernel_core.specs.Machine.{is_ended}
use Rattle.kernel_core.specs.Runs.{run}
use Rattle.kernel_core.specs.Start.{Inputs, start}
use Rattle.lwc_debug.proofs.Legal.{goes_on}

-- a history with one more step
abbrev one_more : History → ℕ → History
one_more h t = record h { steps = h.steps ++ t ∷ []; room = h.room - 1 }

-- a kernel has made the first i of these steps, and has room for the rest
pub record HasGone (inputs : Inputs) (steps : List ℕ) (i : ℕ) (now : History) : Type 0 where
  pub given : now.inputs ≡ inputs
  pub made : now.steps ≡ take i steps
  pub left : now.room + i ≡ length steps

module _ (inputs : Inputs) (now next : History) (steps : List ℕ) (i t : ℕ) (so_far : HasGone inputs steps i now) (inside : i < length steps) (is : t ≡ get_or steps i 0) where
  gone_by : is_ended (machine_of now) t ≡ false → next ≡ stepped now t → (is_ended (machine_of now) t ≡ false → next.room + 1 ≡ now.room) → HasGone inputs steps (i + 1) next
  unfolding stepped
  gone_by goes moves room =
      let moved : next ≡ one_more now t = moves ∙ ap (λ b. cond b now (one_more now t)) goes in
      record {
        given = ap (λ (h : History). h.inputs) moved ∙ so_far.given;
        made = ap (λ (h : History). h.steps) moved ∙ ap (λ l. l ++ t ∷ []) so_far.made ∙ sym (take_more steps i 0 inside ∙ ap (λ x. take i steps ++ x ∷ []) (sym is));
        left = omega (arith, room goes, so_far.left);
      }

  -- one more step of a legal history has been made
  pub gone_on : IsLegal (start inputs) steps → next ≡ stepped now t → (is_ended (machine_of now) t ≡ false → next.room + 1 ≡ now.room) → HasGone inputs steps (i + 1) next
  unfolding machine_of
  gone_on legal moves room =
      gone_by
      (ap (λ (x : Inputs). is_ended (run (start x) now.steps) t) so_far.given ∙ ap (λ l. is_ended (run (start inputs) l) t) so_far.made
      ∙ goes_on (start inputs) steps i t legal (slice_get-get_or steps i 0 inside ∙ ap Some (sym is))) moves room
