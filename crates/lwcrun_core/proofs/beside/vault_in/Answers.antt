use Rattle.lwcrun_core.specs.Beside.{vault_for}
use Rattle.lwcrun_inputs.specs.declared.ending.Rejection.TheVariants as rejections
use Rattle.lwcrun_inputs.proofs.Readers.{fails_so, handed_on, or_rejected_err, passed}
use Rattle.lwcrun_core.proofs.ReadersBeside.{vault_limited, vault_read}
use Rattle.lwcrun_core.proofs.beside.vault_in.Goals as goal

pub returns-in_err-bytes-clause-reads : goal.returns-in_err-bytes-clause-reads
returns-in_err-bytes-clause-reads g c =
    handed_on _ _ (vault_for c.args.image.now) (vault_limited c.args.image.now _ c.too_long_input-too_long.ensures) _ _ _ _ _ _ c.from_residual.ensures.0 c.from_residual.ensures.1 c.in_err-bytes.ensures.reads

pub returns-in_err-read_vault-clause-reads : goal.returns-in_err-read_vault-clause-reads
unfolding vault_for
returns-in_err-read_vault-clause-reads g c =
    fails_so _ _ (vault_for c.args.image.now) (vault_limited c.args.image.now _ c.too_long_input-too_long.ensures) _ _ _ _ rejections.Input _ _ _ _ c.from_residual-in_err-read_vault.ensures.0 c.from_residual-in_err-read_vault.ensures.1 c.in_ok-bytes.ensures.reads
    (or_rejected_err rejections.Input _) (rw c.len.ensures.length at (rw c.pages.ensures at (rw c.deref.ensures.value at c.in_err-read_vault.ensures.exact)))

pub returns-clause-reads : goal.returns-clause-reads
returns-clause-reads g c =
    passed _ _ (vault_for c.args.image.now) (vault_limited c.args.image.now _ c.too_long_input-too_long.ensures) _ _ _ _ _ c.in_ok-bytes.ensures.reads (vault_read _ _ _ (rw c.len.ensures.length at (rw c.pages.ensures at (rw c.deref.ensures.value at c.in_ok-read_vault.ensures.exact))))
