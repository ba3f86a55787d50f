use Rattle.std.proofs.Common.{◌<◌, ◌∙◌, ap, sym, arith, length}
use Rattle.std.proofs.lemmas.List.{get_or_read}
use Rattle.lwc_base.specs.World.{Context}
use Rattle.lazy_world.specs.Registers.{KeptRegisters}
use Rattle.lazy_world.specs.States.{no_registers}
use Rattle.lazy_world.specs.Worlds.{parts}
use Rattle.lazy_world.proofs.world.PlacedWorld.entry.Goals as goal

pub index-requires : goal.index-requires
unfolding parts
index-requires c = omega (arith, c.place.ensures.low, c.args.self.now.sound.sizes.registers)

pub returns : goal.returns
unfolding parts
returns c =
    let inside : c.place.result < length c.args.self.now.registers = omega (arith, c.place.ensures.low, c.args.self.now.sound.sizes.registers) in
    c.entry.ensures ∙ ap (λ (r : KeptRegisters). r.entry) (get_or_read c.args.self.now.registers c.place.result _ inside c.index.ensures no_registers)
    ∙ ap (λ (x : Context). x.entry) (sym c.place.ensures.context)
