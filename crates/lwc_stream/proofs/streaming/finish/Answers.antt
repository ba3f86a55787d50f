use Rattle.std.proofs.Common.{◌≡◌, ◌∙◌, map, sym, ap, subst}
use Rattle.std.proofs.lemmas.Simd.{map-map}
use Rattle.lwc_stream.proofs.Shown.{ends}
use Rattle.lwc_stream.specs.Replies.{AreShown, IsWritten, lines_of}
use Rattle.lwc_stream.specs.Streams.{HasShown}
use Rattle.lwc_stream.proofs.streaming.finish.Goals as goal

pub take_left-requires : goal.take_left-requires
take_left-requires g c = record {
  queues = ap (map (λ o. o.puts.queue)) c.parts_of-passes.ensures.turns ∙ (map-map (λ o. o.puts.queue) (λ w. w.turns) c.args.workers.items ∙ c.requires.queues);
}

pub returns-clause-written : goal.returns-clause-written
returns-clause-written g c = λ before h.
    let lists = map (λ w. w.turns.puts.values) c.args.workers.items in
    let same : map (λ o. o.puts.values) c.parts_of-passes.result.1.items ≡ lists =
    ap (map (λ o. o.puts.values)) c.parts_of-passes.ensures.turns ∙ map-map (λ o. o.puts.values) (λ w. w.turns) c.args.workers.items in
    let left = subst (λ l. HasShown l c.take_left.new.waiting c.args.collector.writer before (g.O.Sink.seen c.args.out.now)) same (c.take_left.ensures.shown c.args.collector.writer before (g.O.Sink.seen c.args.out.now) h) in
    let s = c.show_ready.ensures.shown lists before left in
    let count = c.show_ready.ensures.places ∙ c.take_left.ensures.places in (
      s.shown,
      subst (λ n. AreShown lists n s.shown) count (ends lists c.show_ready.new.waiting s.shown s.streamed c.show_ready.ensures.next),
      subst (λ b. IsWritten b before (g.O.Sink.seen c.show_ready.new.out) (lines_of s.shown)) (sym c.has_failed-failed.ensures) s.written,
    )
