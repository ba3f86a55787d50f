use Rattle.std.proofs.Common.{sym, ◌∙◌}
use Rattle.lwc_base.specs.Saved.{save, with_saved}
use Rattle.whole_world.specs.Worlds.{seen}
use Rattle.whole_world.proofs.Worlds.{change_context-at, change_context-missed, sound-at, still_whole, whole-at}
use Rattle.lwc_base.proofs.Facts.{stays_fresh}
use Rattle.whole_world.proofs.world.WholeWorld.save_regs.Goals as goal

pub invariant_of-self : goal.invariant_of-self
invariant_of-self c =
    let found = sym c.position.ensures ∙ c.in-Some.is in
    let world = c.args.self.now.sound in
    record {
      sound = sound-at _ _ _ _ world c.args.context c.in-Some.i _ found c.index_mut.ensures.value c.save.new.self (with_saved c.args.thread c.args.regs.now)
          c.save.ensures.context
          (still_whole _ _ _ (whole-at _ _ _ _ world c.args.context c.in-Some.i _ found c.index_mut.ensures.value) c.save.ensures.size)
          (stays_fresh.context_changed _ c.args.context (with_saved c.args.thread c.args.regs.now) (λ live old. old) world.fresh);
    }

pub returns-in-Some : goal.returns-in-Some
unfolding seen save
returns-in-Some c =
    change_context-at _ _ _ _ c.args.self.now.sound c.args.context c.in-Some.i _ (sym c.position.ensures ∙ c.in-Some.is) c.index_mut.ensures.value c.save.new.self _ c.save.ensures.context

pub returns-in-None : goal.returns-in-None
unfolding seen save
returns-in-None c =
    change_context-missed _ _ _ _ c.args.self.now.sound c.args.context (with_saved c.args.thread c.args.regs.now) (sym c.position.ensures ∙ c.in-None.is)
