use Rattle.std.proofs.Common.{◌∙◌, ap, arith, refl, sym}
use Rattle.std.specs.Prelude.{not}
use Rattle.std.proofs.lemmas.Bool.{false≢true}
use Rattle.access_cap.proofs.Bits.{has_bit-not, has_bit-zero}
use Rattle.lazy_world.specs.Seen.{count, rows}
use Rattle.lazy_world.specs.Worlds.{seen}
use Rattle.lazy_world.proofs.ItemLemmas.{slot_stays}
use Rattle.lazy_world.proofs.world.PlacedWorld.changed_slots.Goals as goal

pub returns-then-names_slots : goal.returns-then-names_slots
returns-then-names_slots c transfer n low off = absurd (false≢true (sym off ∙ has_bit-not 0 n (omega arith) low ∙ ap not (has_bit-zero 0 n refl)))

pub returns : goal.returns
returns c transfer n low off =
    let w = c.args.self.now in
    slot_stays (seen w) (count w.places) (rows w.places) c.args.spec.now transfer c.args.from c.args.to n c.filled.result c.filled-2.result
    (c.names_slots.ensures c.if-names_slots.false n) (c.filled.ensures n low) (c.filled-2.ensures n low) off
