use Rattle.std.proofs.Common.{ap, subst}
use Rattle.std.specs.Prelude.{IfSome}
use Rattle.std.specs.Option.{option_map}
use Rattle.kernel_core.proofs.Vaults.{both_fit, run_start}
use Rattle.kernel_core.specs.Kernel.{CanKeep}
use Rattle.kernel_core.proofs.starting.world_with_vault.Goals as goal

pub put_vault-requires-clause-fits : goal.put_vault-requires-clause-fits
put_vault-requires-clause-fits g c κs within =
    both_fit c.args.image.now c.args.settings.now.frames c.args.settings.now.job c.in-Some.vault.now
    (subst (λ o. IfSome o (λ v. CanKeep c.args.image.now c.args.settings.now.job v.now)) c.in-Some.is c.requires.vault) _ c.in_ok-world.ensures _ c.requires.fits
    (ap (option_map (λ v. v.now)) c.in-Some.is)

pub put_vault-requires-clause-before : goal.put_vault-requires-clause-before
put_vault-requires-clause-before g c κs within =
    run_start c.args.image.now c.args.settings.now.frames c.args.settings.now.job c.in-Some.vault.now
    (subst (λ o. IfSome o (λ v. CanKeep c.args.image.now c.args.settings.now.job v.now)) c.in-Some.is c.requires.vault) _ c.in_ok-world.ensures
