use Rattle.std.proofs.Common.{ap, sym, not, ◌∙◌}
use Rattle.lazy_world.specs.Seen.{rows}
use Rattle.lwc_types.specs.declared.key.Key.TheVariants.{Slot}
use Rattle.lazy_world.proofs.AddLemmas.{no_slot}
use Rattle.lazy_world.proofs.CopyLemmas.{no-bit}
use Rattle.lazy_world.proofs.places.Places.has_no_slot.Goals as goal

pub returns : goal.returns
returns c is n low =
    no_slot (rows c.args.self.now c.args.place (Slot n)) n (ap not (sym (c.filled.ensures n low) ∙ no-bit c.filled.result n is))
