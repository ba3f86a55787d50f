use Rattle.std.proofs.Common.{[], ◌≤◌, ◌∙◌, List, None, ap, arith, rules, ℕ}
use Rattle.kernel_core.specs.Kernel.{History}
use Rattle.kernel_core.specs.Start.{Inputs, inputs_of, start}
use Rattle.lwc_types.specs.declared.limits.TheConstants.{MOST_STEPS}
use Rattle.lwc_guard.proofs.Steadying.{steady_start}
use Rattle.lwc_monitor.proofs.Steadying.{begins-with, can-open}
use Rattle.lwc_guard.proofs.guarded.Guarded.open.Goals as goal

pub invariant_of-result : goal.invariant_of-result
invariant_of-result g c =
    let can = can-open c.args.image.now c.args.settings.now c.requires.image c.requires.settings c.requires.run (λ less. let never = c.in_ok-kernel.ensures.too_large less in cc) in
    let of = ap (λ (h : History). h.inputs) c.in_ok-kernel.ensures.opened
    ∙ ap (λ (r : List (List ℕ)). record { image = c.args.image.now; vault = None; requests = r; settings = c.args.settings.now }) (c.of-requests.ensures ∙ c.new.ensures.items) in
    let parts = c.into_parts.ensures in
    let begins = begins-with (inputs_of c.args.image.now [] c.args.settings.now) c.requires.run _ _ _ _ (parts.world ∙ ap (λ (i : Inputs). (start i).environment.world) of)
    (parts.channels ∙ ap (λ (i : Inputs). (start i).environment.channels) of) (parts.threads ∙ ap (λ (i : Inputs). (start i).threads) of) (parts.text ∙ ap (λ (i : Inputs). i.image.text) of) in
    let short : c.in_ok-kernel.kernel.room ≤ MOST_STEPS = omega (arith, ap (λ (h : History). h.room) c.in_ok-kernel.ensures.opened, c.requires.steps) in
    let steady = steady_start (inputs_of c.args.image.now [] c.args.settings.now) _ _ _ _ _ _ _ _ _ can c.requires.run short parts.schedule begins c.in-Ok.ensures.traps c.in-Ok.ensures.guards parts.peak in
    (parts.fits, search (rules, steady, parts.room, c.of.ensures))
