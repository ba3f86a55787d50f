use Rattle.std.proofs.Common.{◌∙◌, ap}
use Rattle.lwc_base.specs.Ranges.{ranges_of}
use Rattle.lwc_types.specs.declared.name.Name.{Name}
use Rattle.lazy_world.specs.Followed.{followed}
use Rattle.lazy_world.specs.Worlds.{parts, seen}
use Rattle.lazy_world.specs.declared.transfer.Transfer.TheVariants.{Clone}
use Rattle.lazy_world.proofs.AfterLemmas.{after-clone}
use Rattle.lazy_world.proofs.world.PlacedWorld.ranges_after_clone.Goals as goal

pub returns : goal.returns
unfolding seen parts
returns c =
    let w = seen c.args.self.now in
    record {
      value = λ job.
          after-clone w c.args.self.now.sound.fresh c.args.spec.now c.requires.within c.args.of_context c.requires.live job
          c.ranges_left.result c.ranges_after-made.result c.ranges_left.ensures
          (c.ranges_after-made.ensures ∙ ap (λ (g : Name). ranges_of (followed w (Clone g) c.args.spec.now c.args.of_context c.args.of_context) c.args.of_context) c.unnamed.ensures);
    }
