use Rattle.std.proofs.Common.{◌≡◌, ◌∙◌, ap, rules, subst, sym}
use Rattle.lwc_base.specs.Overlay.{overlay, ranges_after_overlay}
use Rattle.lwc_types.specs.declared.name.Name.{Name}
use Rattle.world_face.specs.Calls.{AreFew}
use Rattle.lazy_world.specs.Worlds.{seen}
use Rattle.lazy_world.proofs.RenameLemmas.{names-differ}
use Rattle.lazy_world.proofs.world.PlacedWorld.overlay.Goals as goal

pub overlay_itself-requires-clause-few : goal.overlay_itself-requires-clause-few
overlay_itself-requires-clause-few c =
    let same : c.args.to ≡ c.args.from = search rules in
    subst (λ (n : Name). AreFew (ranges_after_overlay (seen c.args.self.now) n c.args.from c.args.job c.args.spec.now)) same c.requires.few

pub overlay_other-requires-clause-apart : goal.overlay_other-requires-clause-apart
overlay_other-requires-clause-apart c = names-differ c.args.to c.args.from (sym c.eq.ensures ∙ c.if-eq.false)

pub returns-then-eq-clause-overlaid : goal.returns-then-eq-clause-overlaid
returns-then-eq-clause-overlaid c =
    let same : c.args.to ≡ c.args.from = search rules in
    c.overlay_itself.ensures.overlaid ∙ ap (λ (n : Name). overlay (seen c.args.self.now) n c.args.from c.args.job c.args.spec.now) (sym same)
