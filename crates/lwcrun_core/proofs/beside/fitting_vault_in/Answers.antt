use Rattle.std.proofs.Common.{◌≡◌, ◌∙◌, ◌≤◌, ◌+◌, List, ℕ, ap₂, length, refl, sym, arith}
use Rattle.guest_image.specs.declared.image.Image.{Image}
use Rattle.lwcrun_inputs.specs.Inputs.{then_tested}
use Rattle.lwcrun_core.specs.Beside.{fitted_beside, fitting_vault_for, vault_for}
use Rattle.lwcrun_inputs.proofs.Readers.{handed_on, passed, rejected}
use Rattle.lwcrun_core.proofs.ReadersBeside.{fits_beside, slot_is_taken, too_large_beside}
use Rattle.lwcrun_core.proofs.beside.fitting_vault_in.Goals as goal

fits_after : (frames : ℕ) (image : Image) (bytes : List ℕ) → fitting_vault_for frames image bytes ≡ then_tested (vault_for image bytes) (fitted_beside frames image)
unfolding fitting_vault_for
fits_after frames image bytes = refl

pub returns-in_err-vault-clause-reads : goal.returns-in_err-vault-clause-reads
returns-in_err-vault-clause-reads g c =
    handed_on (vault_for _) _ (fitting_vault_for _ _) (fits_after _ _) _ _ _ _ _ _ c.from_residual.ensures.0 c.from_residual.ensures.1 c.in_err-vault.ensures.reads

pub returns-then-takes_vault_slot-clause-reads : goal.returns-then-takes_vault_slot-clause-reads
returns-then-takes_vault_slot-clause-reads g c =
    rejected (vault_for _) _ (fitting_vault_for _ _) (fits_after _ _) _ _ _ _ _ c.in_ok-vault.ensures.reads
    (slot_is_taken c.args.frames c.args.image.now _ (sym c.takes_vault_slot.ensures.taken ∙ c.if-takes_vault_slot.true))

pub returns-then-frames-pages-clause-reads : goal.returns-then-frames-pages-clause-reads
returns-then-frames-pages-clause-reads g c =
    let both : c.len.result + c.len-2.result ≡ length c.args.image.now.pages + length c.in_ok-vault.vault.pages = ap₂ (λ m n. m + n) c.len.ensures c.len-2.ensures in
    rejected (vault_for _) _ (fitting_vault_for _ _) (fits_after _ _) _ _ _ _ _ c.in_ok-vault.ensures.reads
    (too_large_beside c.args.frames _ c.args.image.now _ (sym c.takes_vault_slot.ensures.taken ∙ c.if-takes_vault_slot.false) both c.if-frames-pages.true)

pub returns-clause-reads : goal.returns-clause-reads
returns-clause-reads g c =
    let both : c.len.result + c.len-2.result ≡ length c.args.image.now.pages + length c.in_ok-vault.vault.pages = ap₂ (λ m n. m + n) c.len.ensures c.len-2.ensures in
    let fits : length c.args.image.now.pages + length c.in_ok-vault.vault.pages ≤ c.args.frames = omega (arith, both, c.if-frames-pages.false) in
    passed (vault_for _) _ (fitting_vault_for _ _) (fits_after _ _) _ _ _ _ _ c.in_ok-vault.ensures.reads
    (fits_beside c.args.frames c.args.image.now _ (sym c.takes_vault_slot.ensures.taken ∙ c.if-takes_vault_slot.false) fits)
