use Rattle.std.proofs.Common.{◌≡◌, length, map}
use Rattle.lwc_io.specs.Outside.{SinkView}
use Rattle.lwc_stream.specs.Streams.{HasShown}
use Rattle.lwc_stream.proofs.collector.Collector.follow.Given as goal

abbrev pub invariant-rounds : goal.invariant-rounds
invariant-rounds g l = let seen = g.O.Sink.seen in record {
  queues : map (λ e. e.queue) l.self.takes.items ≡ map (λ e. e.queue) l.fn.self.takes.items;
  shown : (before : SinkView) →
      HasShown (map (λ e. e.values) l.fn.self.takes.items) l.fn.self.waiting l.fn.self.writer before (seen l.fn.out) →
      HasShown (map (λ e. e.values) l.self.takes.items) l.self.waiting l.self.writer before (seen l.out);
  places : length l.self.waiting.places ≡ length l.fn.self.waiting.places;
}
