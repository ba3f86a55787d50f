use Rattle.std.proofs.Common.{refl, ◌∙◌}
use Rattle.fd_table.proofs.ObjectLemmas.{less-none, less-next, less-more}
use Rattle.fd_table.proofs.objects.Objects.drop_each.Goals as goal

pub loop-entry-init : goal.loop-entry-init
loop-entry-init c = record { pool = less-none _; places = refl }

pub drop_entry-requires : goal.drop_entry-requires
drop_entry-requires c =
    less-next c.args.self.now.pool c.loop-entry.self.pool c.args.entries.now c.loop-entry.entry-index _ c.loop-entry.invariant.pool c.loop-entry-test.true refl c.requires

pub loop-entry-preserved : goal.loop-entry-preserved
loop-entry-preserved c =
    record {
      pool = less-more c.args.self.now.pool c.loop-entry.self.pool _ c.args.entries.now c.loop-entry.entry-index _ c.loop-entry.invariant.pool c.drop_entry.ensures.pool c.loop-entry-test.true refl;
      places = c.drop_entry.ensures.places ∙ c.loop-entry.invariant.places;
    }
