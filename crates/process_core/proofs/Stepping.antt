-- A step of a thread that has not ended.
use Rattle.std.proofs.Common.{◌≡◌, ◌+◌, ◌-◌, ◌<◌, ◌≤◌, ℕ, false, cond, [], ◌∷◌, ◌++◌, length, sym, ap, subst, ◌∙◌, arith, length-append}
use Rattle.kernel_core.specs.Histories.{IsLegal}
use Rattle.kernel_core.specs.Kernel.{CanOpen, History, machine_of, stepped}
use Rattle.kernel_core.specs.Machine.{is_ended, work}
use Rattle.kernel_core.specs.Start.{start}
use Rattle.kernel_core.proofs.Others.{legal_push, some_left}

-- there is room for a step of a thread that has not ended
pub some_room : (h : History) (t : ℕ) → CanOpen h.inputs → is_ended (machine_of h) t ≡ false → work (machine_of h) ≤ h.room → 0 < h.room
unfolding machine_of
some_room h t can going room = omega (arith, some_left h.inputs h.steps can t going)

abbrev longer : History → ℕ → History
longer h t = record h { steps = h.steps ++ t ∷ []; room = h.room - 1 }

module _ (h next : History) (t : ℕ) (going : is_ended (machine_of h) t ≡ false) (is : next ≡ stepped h t) where
  is_longer : next ≡ longer h t
  unfolding stepped
  is_longer = is ∙ ap (λ b. cond b h (longer h t)) going

  pub stepped_inputs : next.inputs ≡ h.inputs
  stepped_inputs = ap (λ (k : History). k.inputs) is_longer

  pub stepped_steps : next.steps ≡ h.steps ++ t ∷ []
  stepped_steps = ap (λ (k : History). k.steps) is_longer

  -- a legal history stays legal
  pub stays_legal : IsLegal (start h.inputs) h.steps → IsLegal (start next.inputs) next.steps
  unfolding machine_of
  stays_legal legal =
      subst (λ (k : History). IsLegal (start k.inputs) k.steps) (sym is_longer) (legal_push (start h.inputs) h.steps t legal going)

  pub stays_whole : (room : ℕ) → 0 < h.room → length h.steps + h.room ≡ room → length next.steps + next.room ≡ room
  stays_whole room some whole =
      let steps : length next.steps ≡ length h.steps + 1 = ap length stepped_steps ∙ length-append h.steps (t ∷ []) in
      let left : next.room ≡ h.room - 1 = ap (λ (k : History). k.room) is_longer in
      omega arith
