use Rattle.std.proofs.Common.{◌≡◌}
use Rattle.lazy_world.specs.Cells.{put_row}
use Rattle.lazy_world.specs.Seen.{KeepsStore, count, frame_count, rows}
use Rattle.lazy_world.specs.Origins.{with_slots}
use Rattle.lazy_world.proofs.places.Places.take_slots.Given as goal

abbrev pub invariant-loop-n : goal.invariant-loop-n
invariant-loop-n l = record {
  rows : rows l.self ≡ put_row (rows l.fn.self) l.place (with_slots l.n (rows l.fn.self) l.origins (rows l.fn.self l.place));
  count : count l.self ≡ count l.fn.self;
  frames : frame_count l.self ≡ frame_count l.fn.self;
  store : KeepsStore l.fn.self l.self;
}
