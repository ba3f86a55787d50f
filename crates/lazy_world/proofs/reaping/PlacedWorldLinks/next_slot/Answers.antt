use Rattle.std.proofs.Common.{◌≡◌, ◌∙◌, arith, get_or, sym, Some, None}
use Rattle.lazy_world.proofs.LinkLemmas.{if_none, if_some, none_of, unlinked, unlinked-free}
use Rattle.lazy_world.proofs.reaping.PlacedWorldLinks.next_slot.Goals as goal

pub returns-in_err-at-clause-none : goal.returns-in_err-at-clause-none
returns-in_err-at-clause-none c =
    none_of c.from_residual.result (λ slot from low. unlinked-free c.args.self.now c.args.place slot (sym c.at.ensures ∙ c.in_err-at.was))

pub returns-clause-none : goal.returns-clause-none
returns-clause-none c =
    let w = c.args.self.now in
    let at : get_or w.contexts.places c.args.place None ≡ Some c.in_ok-at.field-0 = sym c.at.ensures ∙ c.in_ok-at.was in
    if_none c.lowest_bit.result
    (λ off slot from low. unlinked w c.in_ok-at.field-0 c.args.place slot w.placed at (sym (c.filled.ensures slot low) ∙ off slot from low)) c.lowest_bit.ensures.none

pub returns-clause-after : goal.returns-clause-after
returns-clause-after c = if_some c.lowest_bit.result (λ n lowest. lowest.after) c.lowest_bit.ensures.some

pub returns-clause-slot : goal.returns-clause-slot
returns-clause-slot c = if_some c.lowest_bit.result (λ n lowest. omega (arith, lowest.below)) c.lowest_bit.ensures.some

pub returns-clause-passed : goal.returns-clause-passed
returns-clause-passed c =
    let w = c.args.self.now in
    let at : get_or w.contexts.places c.args.place None ≡ Some c.in_ok-at.field-0 = sym c.at.ensures ∙ c.in_ok-at.was in
    if_some c.lowest_bit.result
    (λ n lowest slot from low. unlinked w c.in_ok-at.field-0 c.args.place slot w.placed at
    (sym (c.filled.ensures slot (omega (arith, low, lowest.below))) ∙ lowest.lowest slot from low)) c.lowest_bit.ensures.some
