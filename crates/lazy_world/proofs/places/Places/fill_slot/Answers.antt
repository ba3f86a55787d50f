use Rattle.std.proofs.Common.{subst}
use Rattle.cow_space.specs.Changes.{IsApart}
use Rattle.lazy_world.specs.Seen.{count}
use Rattle.lazy_world.proofs.places.Places.fill_slot.Goals as goal

pub copy_slot-requires-clause-origin : goal.copy_slot-requires-clause-origin
copy_slot-requires-clause-origin c = (subst (IsApart (count c.args.self.now) c.args.place) c.in-CopyOf.is c.requires.given).0
