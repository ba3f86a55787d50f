use Rattle.std.proofs.Common.{◌∙◌, arith, sym}
use Rattle.lwc_types.specs.declared.key.Key.TheVariants.{Slot}
use Rattle.lazy_world.specs.Seen.{rows}
use Rattle.lazy_world.specs.Worlds.{seen}
use Rattle.lazy_world.proofs.CopyLemmas.{own-filled}
use Rattle.lazy_world.proofs.EmptyLemmas.{closed-bit}
use Rattle.lazy_world.proofs.world.PlacedWorld.open_slots.Goals as goal

pub returns : goal.returns
returns c = λ n low off.
    let w = c.args.self.now in
    let bits = closed-bit c.filled.result c.common.result n (omega (arith, c.filled.type_inv)) low off in
    sym
    (own-filled (seen w) n (rows w.places c.args.place (Slot n)) (sym (c.common.ensures n low) ∙ bits.1)
    (sym (c.filled.ensures n low) ∙ bits.0))
