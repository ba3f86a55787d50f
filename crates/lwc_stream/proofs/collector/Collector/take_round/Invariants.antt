use Rattle.std.proofs.Common.{◌≡◌, Bool, length, map}
use Rattle.lwc_io.specs.Outside.{SinkView}
use Rattle.lwc_stream.specs.Streams.{HasShown}
use Rattle.lwc_stream.proofs.collector.Collector.take_round.Given as goal

abbrev pub invariant-takes : goal.invariant-takes
invariant-takes l = record {
  queues : map (λ e. e.queue) l.self.takes.items ≡ map (λ e. e.queue) l.initial.self.takes.items;
  shown : (failed : Bool) (before now : SinkView) →
      HasShown (map (λ e. e.values) l.initial.self.takes.items) l.initial.self.waiting failed before now →
      HasShown (map (λ e. e.values) l.self.takes.items) l.self.waiting failed before now;
  writer : l.self.writer ≡ l.initial.self.writer;
  places : length l.self.waiting.places ≡ length l.initial.self.waiting.places;
  count : length l.self.takes.items ≡ length l.initial.self.takes.items;
}
