use Rattle.std.proofs.Common.{◌<◌, ◌∙◌, ap, sym, arith, length, None}
use Rattle.std.specs.Prelude.{slice_index_or}
use Rattle.std.proofs.lemmas.List.{get_or_read}
use Rattle.lwc_base.specs.World.{Context}
use Rattle.lazy_world.specs.Registers.{KeptRegisters}
use Rattle.lazy_world.specs.States.{no_registers}
use Rattle.lazy_world.specs.Worlds.{parts}
use Rattle.lazy_world.proofs.world.PlacedWorld.saved.Goals as goal

pub index-requires : goal.index-requires
unfolding parts
index-requires c = omega (arith, c.place.ensures.low, c.args.self.now.sound.sizes.registers)

pub returns : goal.returns
unfolding parts
returns c =
    let inside : c.place.result < length c.args.self.now.registers = omega (arith, c.place.ensures.low, c.args.self.now.sound.sizes.registers) in
    record {
      value = c.saved.ensures ∙ ap (λ (r : KeptRegisters). slice_index_or r.saved c.args.thread None) (get_or_read c.args.self.now.registers c.place.result _ inside c.index.ensures no_registers)
          ∙ ap (λ (x : Context). x.saved c.args.thread) (sym c.place.ensures.context);
    }
