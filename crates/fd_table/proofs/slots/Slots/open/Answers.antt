use Rattle.fd_table.specs.Seen.{slots}
use Rattle.fd_table.proofs.SlotLemmas.{kept-new, rows-new}
use Rattle.fd_table.proofs.slots.Slots.open.Goals as goal

pub invariant_of-result : goal.invariant_of-result
invariant_of-result c =
    record {
      kept = kept-new _ _ c.args.places c.in_ok-objects.ensures.pool c.in_ok-tables.ensures c.requires;
      numbers = c.in_ok-objects.ensures.named;
    }

pub returns : goal.returns
unfolding slots
returns c = rows-new c.in_ok-objects.objects.pool _ c.args.places c.in_ok-tables.ensures
