use Rattle.std.proofs.Common.{◌≡◌, ◌-◌, List, length}
use Rattle.lwc_io.specs.Outside.{SinkView}
use Rattle.lwc_stream.specs.Streams.{HasShown}
use Rattle.snapshot_host.specs.declared.finishing.Finished.{Finished}
use Rattle.lwc_stream.proofs.collector.show_ready.Given as goal

abbrev pub invariant-ready : goal.invariant-ready
invariant-ready g l = let seen = g.O.Sink.seen in record {
  shown : (taken : List (List Finished)) (before : SinkView) →
      HasShown taken l.fn.waiting l.fn.writer before (seen l.fn.out) → HasShown taken l.waiting l.writer before (seen l.out);
  places : length l.waiting.places ≡ length l.fn.waiting.places;
}

abbrev pub decreases-ready : goal.decreases-ready
decreases-ready g l = length l.waiting.places - l.waiting.next
