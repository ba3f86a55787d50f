use Rattle.whole_world.specs.States.{world_of}
use Rattle.whole_world.specs.Worlds.{seen}
use Rattle.whole_world.proofs.CloneCells.{context-made, rights-made}
use Rattle.whole_world.proofs.Worlds.{live_key-past, live_right-past}
use Rattle.whole_world.proofs.world.WholeWorld.cloned_row.Goals as goal

pub returns-clause-context : goal.returns-clause-context
unfolding seen world_of
returns-clause-context c =
    rights-made _ c.args.context c.args.job c.args.spec.now c.args.self.now.sound.fresh c.requires.live c.requires.within c.args.rest c.requires.rest
    (λ k. live_key-past _ _ _ _ c.args.self.now.sound c.args.context k c.requires.live)
    (λ p. live_right-past _ _ _ _ c.args.self.now.sound c.args.context p c.requires.live)
    _ _ c.args.entry.now
    (context-made _ c.args.context c.args.job c.args.spec.now c.args.self.now.sound.fresh c.requires.live c.requires.within c.args.rest c.requires.rest
    (λ k. live_key-past _ _ _ _ c.args.self.now.sound c.args.context k c.requires.live)
    _ _ _ c.args.entry.now c.in_ok-row.ensures.context c.in_ok-clone_pages.ensures.context c.in_ok-clone_slots.ensures.context _ c.in_ok-clone_key.ensures.context)
    c.clone_rights.ensures.context
