use Rattle.std.proofs.Common.{◌∙◌, ap, rules, ℕ}
use Rattle.kernel_core.proofs.Steps.{steady_start}
use Rattle.kernel_core.specs.Start.{serve_at}
use Rattle.kernel_core.proofs.kernel.Kernel.start.Goals as goal

pub invariant_of-result : goal.invariant_of-result
invariant_of-result g c =
    let parts = c.in_ok-parts.ensures in
    let steady = steady_start _ _ _ _ _ _ _ _ _ c.requires.inputs c.requires.steps parts.schedule parts.threads parts.world parts.channels parts.text
    (c.in_ok-serve.ensures ∙ ap (λ (n : ℕ). serve_at c.args.settings.now.job c.args.settings.now.budget n) c.len.ensures) parts.peak in
    (parts.fits, search (rules, steady, c.of.ensures, c.of-asked.ensures))
