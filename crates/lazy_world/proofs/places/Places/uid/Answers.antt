use Rattle.std.proofs.Common.{arith}
use Rattle.std.proofs.lemmas.List.{get_or_read}
use Rattle.lwc_base.specs.declared.cell.Cell.TheVariants.{Own}
use Rattle.lwc_types.specs.declared.key.TheConstants.{NOBODY}
use Rattle.lazy_world.specs.Cells.{rows_of}
use Rattle.lazy_world.specs.Seen.{rows}
use Rattle.lazy_world.proofs.places.Places.uid.Goals as goal

pub index-requires : goal.index-requires
index-requires c = omega (arith, c.args.self.now.kept.uid_count, c.requires, c.args.self.now.uids.ok)

pub returns : goal.returns
unfolding rows rows_of
returns c = get_or_read c.args.self.now.uids.items c.args.place _ (omega (arith, c.args.self.now.kept.uid_count, c.requires)) c.index.ensures (Own NOBODY)
