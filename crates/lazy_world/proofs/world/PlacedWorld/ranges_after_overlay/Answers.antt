use Rattle.std.proofs.Common.{◌≡◌, ◌∙◌, ap, rules, sym}
use Rattle.lwc_base.specs.Ranges.{ranges_of}
use Rattle.lwc_types.specs.declared.name.Name.{Name}
use Rattle.lazy_world.specs.Followed.{followed}
use Rattle.lazy_world.specs.Worlds.{parts, seen}
use Rattle.lazy_world.specs.declared.transfer.Transfer.TheVariants.{Overlay}
use Rattle.lazy_world.proofs.AfterLemmas.{after-apart, after-self}
use Rattle.lazy_world.proofs.RenameLemmas.{names-differ}
use Rattle.lazy_world.proofs.world.PlacedWorld.ranges_after_overlay.Goals as goal

pub returns-then-eq : goal.returns-then-eq
unfolding seen parts
returns-then-eq c =
    let w = seen c.args.self.now in
    let same : c.args.to ≡ c.args.from = search rules in
    record {
      value = λ job.
          after-self w c.args.self.now.sound.fresh c.args.spec.now c.requires.within c.args.from c.requires.from job
          c.args.to same c.ranges_after-taken.result
          (c.ranges_after-taken.ensures ∙ ap (λ (g : Name). ranges_of (followed w (Overlay g) c.args.spec.now c.args.from c.args.to) c.args.to) c.unnamed.ensures);
    }

pub returns : goal.returns
unfolding seen parts
returns c =
    let w = seen c.args.self.now in
    record {
      value = λ job.
          after-apart w c.args.self.now.sound.fresh c.args.spec.now c.requires.within c.args.from c.requires.from job
          c.args.to c.requires.to (names-differ c.args.to c.args.from (sym c.eq.ensures ∙ c.if-eq.false)) c.ranges_left.result c.ranges_after-taken.result c.ranges_left.ensures
          (c.ranges_after-taken.ensures ∙ ap (λ (g : Name). ranges_of (followed w (Overlay g) c.args.spec.now c.args.from c.args.to) c.args.to) c.unnamed.ensures);
    }
