use Rattle.std.proofs.Common.{◌∙◌, ap, subst, sym}
use Rattle.lazy_world.specs.Sound.{IsSound}
use Rattle.lazy_world.specs.States.{world_of}
use Rattle.lazy_world.specs.Worlds.{parts, seen}
use Rattle.lazy_world.proofs.OpenLemmas.{sound-opened, world-opened}
use Rattle.lazy_world.proofs.world.PlacedWorld.open.Goals as goal

pub invariant_of-result : goal.invariant_of-result
invariant_of-result c =
    let size = c.args.world_size.now in
    record {
      placed = c.in_ok-contexts.ensures.placed;
      placed_groups = c.in_ok-contexts.ensures.placed_groups;
      count = c.in_ok-places.ensures.count;
      frames = c.in_ok-places.ensures.frames;
      sound = subst IsSound
          (sym (λ e. record {
            size = size;
            rows = c.in_ok-places.ensures.rows e;
            rights = c.in_ok-places.ensures.rights e;
            registers = c.in_ok-registers.registers;
            contexts = c.in_ok-contexts.ensures.contexts e;
            groups = c.in_ok-contexts.ensures.groups e;
            counts = c.in_ok-registers.ensures.counts e;
          }))
          (sound-opened size c.requires c.in_ok-registers.registers c.in_ok-registers.ensures.registers);
    }

pub returns-clause-world : goal.returns-clause-world
unfolding seen parts
returns-clause-world c =
    let size = c.args.world_size.now in
    ap world_of
    (λ e. record {
      size = size;
      rows = c.in_ok-places.ensures.rows e;
      rights = c.in_ok-places.ensures.rights e;
      registers = c.in_ok-registers.registers;
      contexts = c.in_ok-contexts.ensures.contexts e;
      groups = c.in_ok-contexts.ensures.groups e;
      counts = c.in_ok-registers.ensures.counts e;
    })
    ∙ world-opened size c.requires c.in_ok-registers.registers c.in_ok-registers.ensures.registers

pub returns-clause-no_step : goal.returns-clause-no_step
returns-clause-no_step c = c.in_ok-places.ensures.no_step
