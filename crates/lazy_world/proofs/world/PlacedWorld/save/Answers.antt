use Rattle.std.proofs.Common.{◌<◌, ◌∙◌, ap, arith, length, set, subst, sym}
use Rattle.std.proofs.lemmas.List.{get_or_read}
use Rattle.lazy_world.specs.States.{no_registers, world_of}
use Rattle.lazy_world.specs.Sound.{IsSound}
use Rattle.lazy_world.specs.Worlds.{parts, seen}
use Rattle.lazy_world.proofs.SaveLemmas.{saved-world, sound-saved}
use Rattle.lazy_world.proofs.world.PlacedWorld.save.Goals as goal

pub index_mut-requires : goal.index_mut-requires
unfolding parts
index_mut-requires c = omega (arith, c.place-i.ensures.low, c.args.self.now.sound.sizes.registers)

pub invariant_of-self : goal.invariant_of-self
unfolding parts
invariant_of-self c =
    let s = parts c.args.self.now in
    let inside : c.place-i.result < length c.args.self.now.registers = omega (arith, c.place-i.ensures.low, c.args.self.now.sound.sizes.registers) in
    record {
      placed = c.args.self.now.placed;
      placed_groups = c.args.self.now.placed_groups;
      count = c.args.self.now.count;
      frames = c.args.self.now.frames;
      sound = subst (λ r. IsSound (record s { registers = set s.registers c.place-i.result r })) (sym c.save.ensures.saved)
          (sound-saved s c.args.self.now.sound c.args.self.now.placed c.args.context c.place-i.result c.place-i.ensures.found _
          (get_or_read s.registers c.place-i.result _ inside c.index_mut.ensures.value no_registers) c.args.thread c.args.regs.now c.save.ensures.inside);
    }

pub returns : goal.returns
unfolding seen parts
returns c =
    let s = parts c.args.self.now in
    let inside : c.place-i.result < length c.args.self.now.registers = omega (arith, c.place-i.ensures.low, c.args.self.now.sound.sizes.registers) in
    record {
      saved = ap (λ r. world_of (record s { registers = set s.registers c.place-i.result r })) c.save.ensures.saved
          ∙ saved-world s c.args.self.now.sound c.args.self.now.placed c.args.context c.place-i.result c.place-i.ensures.found _
          (get_or_read s.registers c.place-i.result _ inside c.index_mut.ensures.value no_registers) c.args.thread c.args.regs.now c.save.ensures.inside;
    }
