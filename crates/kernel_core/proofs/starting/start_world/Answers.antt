use Rattle.std.proofs.Common.{◌∙◌, ℕ, List, ap, arith, rules}
use Rattle.std.specs.Prelude.{slice_index}
use Rattle.kernel_core.proofs.Building.{as_here, first_made, frames_here, from_here, has_first_place, may_name_first, opened_by}
use Rattle.kernel_core.proofs.Started.{all_put}
use Rattle.lwc_types.specs.Registers.{fresh_registers}
use Rattle.kernel_core.proofs.starting.start_world.Goals as goal

pub first-requires-clause-place : goal.first-requires-clause-place
first-requires-clause-place g c = has_first_place _ _ _ (opened_by _ _ _ _ c.pages.ensures c.in_ok-world.ensures.opened)

pub first-requires-clause-may : goal.first-requires-clause-may
first-requires-clause-may g c = may_name_first _ _ _ (opened_by _ _ _ _ c.pages.ensures c.in_ok-world.ensures.opened)

pub put_pages-requires-clause-frames : goal.put_pages-requires-clause-frames
put_pages-requires-clause-frames g c =
    let begun = first_made c.args.image.now _ _ _ _ (opened_by _ _ _ _ c.pages.ensures c.in_ok-world.ensures.opened)
    (c.fresh.ensures ∙ ap fresh_registers (c.from.ensures ∙ ap (λ (l : List ℕ). slice_index l 0) c.as_slice.ensures)) c.in_ok-first.ensures.made in
    omega (arith, frames_here _ _ _ _ _ begun, c.requires.fits)

pub put_pages-requires-clause-before : goal.put_pages-requires-clause-before
put_pages-requires-clause-before g c =
    let begun = first_made c.args.image.now _ _ _ _ (opened_by _ _ _ _ c.pages.ensures c.in_ok-world.ensures.opened)
    (c.fresh.ensures ∙ ap fresh_registers (c.from.ensures ∙ ap (λ (l : List ℕ). slice_index l 0) c.as_slice.ensures)) c.in_ok-first.ensures.made in
    let here = as_here _ _ _ _ _ begun in search rules

pub put_slots-requires-clause-before : goal.put_slots-requires-clause-before
put_slots-requires-clause-before g c = let here = as_here _ _ _ _ _ c.in_ok-put_pages.ensures in search rules

pub returns : goal.returns
returns g c =
    let begun = first_made c.args.image.now _ _ _ _ (opened_by _ _ _ _ c.pages.ensures c.in_ok-world.ensures.opened)
    (c.fresh.ensures ∙ ap fresh_registers (c.from.ensures ∙ ap (λ (l : List ℕ). slice_index l 0) c.as_slice.ensures)) c.in_ok-first.ensures.made in
    from_here _ _ _ _ _ _ _ _ begun (from_here _ _ _ _ _ _ _ _ c.in_ok-put_pages.ensures c.put_slots.ensures) ∙ all_put c.args.image.now c.args.frames
