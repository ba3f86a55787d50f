-- Proposals of which each is of the registers that the step before it leaves, and one more.
use Rattle.std.proofs.Common.{◌≡◌, ◌+◌, ◌-◌, ◌<◌, ◌≤◌, ℕ, zero, suc, Some, List, [], ◌∷◌, length, get_or, set, refl, arith, slice_get}
use Rattle.std.proofs.lemmas.Bool.Decides.{nat_tests}
use Rattle.std.proofs.lemmas.List.{get_or-set_same, get_or-set_other, get_or_default}
use Rattle.guest_isa.specs.declared.instr.Instr.{Instr}
use Rattle.guest_machine.specs.Advances.{advanced}
use Rattle.guest_machine.specs.declared.progress.Advance.{Advance}
use Rattle.lwc_types.specs.declared.regs.Regs.{Regs}
use Rattle.process_core.specs.Running.{AreInRow, left_by}

begins : (text : List Instr) (regs : Regs) → (advanced text regs).before ≡ regs
unfolding advanced
begins text regs = refl

pub one_more_in_row : (n : ℕ) (places : List Advance) (new e : Advance) (text : List Instr) (left : Regs) → 1 ≤ n → n < length places → AreInRow n places →
    Some left ≡ left_by (get_or places (n - 1) e).next (get_or places (n - 1) e).after → new ≡ advanced text left → AreInRow (n + 1) (set places n new)
one_more_in_row n places new e text left some inside row last is i d below =
    grind (arith, nat_tests, row, last, is, begins text left, get_or-set_same, get_or-set_other, get_or_default)

pub first_stays : (n : ℕ) (places : List Advance) (new : Advance) → 1 ≤ n → slice_get (set places n new) 0 ≡ slice_get places 0
first_stays zero places new some = absurd (omega (arith, some))
first_stays (suc n) [] new some = refl
first_stays (suc n) (first ∷ rest) new some = refl
