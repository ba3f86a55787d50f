use Rattle.std.proofs.Common.{◌≡◌, ◌++◌, Bool, List, length, map}
use Rattle.lwc_io.specs.Outside.{SinkView}
use Rattle.lwc_stream.specs.Streams.{HasShown}
use Rattle.snapshot_host.specs.declared.finishing.Finished.{Finished}
use Rattle.lwc_stream.proofs.streaming.take_left.Given as goal

-- all that the first workers put in was taken
abbrev pub invariant-outboxes : goal.invariant-outboxes
invariant-outboxes g l = record {
  queues : map (λ o. o.puts.queue) l.outboxes.items ≡ map (λ e. e.queue) l.ends.items;
  done : List (List Finished);
  all : done ++ map (λ o. o.puts.values) l.outboxes.items ≡ map (λ o. o.puts.values) l.fn.outboxes.items;
  shown : (failed : Bool) (before now : SinkView) →
      HasShown (map (λ e. e.values) l.fn.ends.items) l.fn.waiting failed before now → HasShown (done ++ map (λ e. e.values) l.ends.items) l.waiting failed before now;
  places : length l.waiting.places ≡ length l.fn.waiting.places;
}

abbrev pub decreases-outboxes : goal.decreases-outboxes
decreases-outboxes g l = length l.outboxes.items
