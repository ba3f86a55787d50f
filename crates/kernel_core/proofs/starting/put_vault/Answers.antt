use Rattle.std.proofs.Common.{◌∙◌, ap, arith, refl}
use Rattle.lwc_types.specs.Registers.{fresh_registers}
use Rattle.kernel_core.proofs.Vaults.{all_there, as_before, begun, by_frames, can_put_here, first_lives, frames_stay, has_place, may_name_vault, name_is, put_here, vault_put}
use Rattle.kernel_core.proofs.starting.put_vault.Goals as goal

pub first-requires-clause-may : goal.first-requires-clause-may
first-requires-clause-may g c = may_name_vault _ c.requires.image _ c.requires.vault _ c.requires.fits c.requires.before

pub first-requires-clause-place : goal.first-requires-clause-place
first-requires-clause-place g c = has_place _ c.requires.image _ c.requires.vault _ c.requires.fits c.requires.before

pub pages-init : goal.pages-init
pages-init g c =
    by_frames _ c.requires.image _ c.requires.vault _ c.requires.fits c.requires.before _ 0 _
    (frames_stay _ c.requires.image _ c.requires.vault _ c.requires.fits c.requires.before _ _ c.in_ok-name.ensures.made)
    (begun _ c.requires.image _ c.requires.vault _ c.requires.fits c.requires.before _ _ (c.fresh.ensures ∙ ap fresh_registers c.from.ensures) c.in_ok-name.ensures.made)

pub put_page-requires-after_bounds : goal.put_page-requires-after_bounds
put_page-requires-after_bounds g c κs within =
    can_put_here _ c.requires.image _ c.requires.vault _ c.requires.fits c.requires.before _ _ c.get.ensures _ _
    (name_is _ c.requires.image _ c.requires.vault _ c.requires.fits c.requires.before _ c.in_ok-name.ensures.name)
    (as_before _ c.requires.image _ c.requires.vault _ c.requires.fits c.requires.before _ _ _
    (frames_stay _ c.requires.image _ c.requires.vault _ c.requires.fits c.requires.before _ _ c.in_ok-name.ensures.made) c.pages.invariant)

pub pages-preserved : goal.pages-preserved
pages-preserved g c =
    by_frames _ c.requires.image _ c.requires.vault _ c.requires.fits c.requires.before _ _ _
    (frames_stay _ c.requires.image _ c.requires.vault _ c.requires.fits c.requires.before _ _ c.in_ok-name.ensures.made)
    (put_here _ c.requires.image _ c.requires.vault _ c.requires.fits c.requires.before _ _ c.get.ensures _ _ _
    (name_is _ c.requires.image _ c.requires.vault _ c.requires.fits c.requires.before _ c.in_ok-name.ensures.name)
    (as_before _ c.requires.image _ c.requires.vault _ c.requires.fits c.requires.before _ _ _
    (frames_stay _ c.requires.image _ c.requires.vault _ c.requires.fits c.requires.before _ _ c.in_ok-name.ensures.made) c.pages.invariant)
    c.in_ok-put_page.ensures)

pub set_slot-requires-clause-live : goal.set_slot-requires-clause-live
set_slot-requires-clause-live g c =
    first_lives _ c.requires.image _ c.requires.vault _ c.requires.fits c.requires.before _
    (all_there _ c.requires.image _ c.requires.vault _ c.requires.fits c.requires.before c.pages.k _ (omega (arith, c.pages-test.false, c.len-k-end.ensures))
    (as_before _ c.requires.image _ c.requires.vault _ c.requires.fits c.requires.before _ _ _
    (frames_stay _ c.requires.image _ c.requires.vault _ c.requires.fits c.requires.before _ _ c.in_ok-name.ensures.made) c.pages.invariant))

pub returns : goal.returns
returns g c =
    vault_put _ c.requires.image _ c.requires.vault _ c.requires.fits c.requires.before _ _ _ _
    (name_is _ c.requires.image _ c.requires.vault _ c.requires.fits c.requires.before _ c.in_ok-name.ensures.name) refl
    (all_there _ c.requires.image _ c.requires.vault _ c.requires.fits c.requires.before c.pages.k _ (omega (arith, c.pages-test.false, c.len-k-end.ensures))
    (as_before _ c.requires.image _ c.requires.vault _ c.requires.fits c.requires.before _ _ _
    (frames_stay _ c.requires.image _ c.requires.vault _ c.requires.fits c.requires.before _ _ c.in_ok-name.ensures.made) c.pages.invariant))
    c.set_slot.ensures.put
