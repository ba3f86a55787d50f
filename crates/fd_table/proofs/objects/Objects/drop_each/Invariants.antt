use Rattle.std.proofs.Common.{◌≡◌, length, take}
use Rattle.fd_table.specs.Objects.{HoldsLess}
use Rattle.fd_table.proofs.objects.Objects.drop_each.Given as goal

abbrev pub invariant-loop-entry : goal.invariant-loop-entry
invariant-loop-entry l = record {
  pool : HoldsLess l.fn.self.pool l.self.pool (take l.entry-index l.entries);
  places : length l.self.named.items ≡ length l.fn.self.named.items;
}
