use Rattle.std.proofs.Common.{◌∙◌, refl}
use Rattle.lazy_world.specs.Worlds.{seen}
use Rattle.lazy_world.proofs.LooseLemmas.{none-dropped, one-dropped}
use Rattle.lazy_world.proofs.world.PlacedWorld.drop_loose.Goals as goal

pub returns-in-One-clause-done : goal.returns-in-One-clause-done
returns-in-One-clause-done c _ =
    let w = seen c.args.self.now in
    c.drop_context.ensures.world
    ∙ (λ e. record w {
      contexts = one-dropped w c.args.cached_roots.now c.args.roots.now c.requires.cached_roots c.in-One.c (c.garbage.ensures.one c.in-One.c c.in-One.is) e;
    })

pub returns-in-Nothing-clause-done : goal.returns-in-Nothing-clause-done
returns-in-Nothing-clause-done c _ =
    let w = seen c.args.self.now in
    λ e. record w { contexts = none-dropped w c.args.cached_roots.now c.args.roots.now c.requires.cached_roots (c.garbage.ensures.nothing c.in-Nothing.is) e }

pub drop_context-requires : goal.drop_context-requires
drop_context-requires c = ((c.garbage.ensures.one c.in-One.c c.in-One.is).one c.in-One.c refl).live
