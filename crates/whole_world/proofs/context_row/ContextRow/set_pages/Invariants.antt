use Rattle.std.proofs.Common.{◌≡◌, ◌≤◌}
use Rattle.whole_world.specs.Rows.{context_of, with_pages}
use Rattle.whole_world.specs.Sound.{HasSizeOf}
use Rattle.whole_world.proofs.context_row.ContextRow.set_pages.Given as goal

abbrev pub invariant-loop-p : goal.invariant-loop-p
invariant-loop-p l = record {
  size : HasSizeOf l.initial.self l.self;
  begun : l.from ≤ l.p;
  context : context_of l.self ≡ with_pages l.from l.p l.present (context_of l.initial.self);
}
