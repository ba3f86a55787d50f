use Rattle.std.proofs.Common.{◌∙◌, None, length, ap}
use Rattle.lwc_stream.proofs.Lists.{set_count}
use Rattle.lwc_stream.proofs.Shown.{shows_one}
use Rattle.lwc_stream.proofs.collector.show_ready.Goals as goal

pub ready-preserved : goal.ready-preserved
ready-preserved g c =
    let is = c.in-Some.ensures in
    let seen = g.O.Sink.seen in record {
      shown = λ taken before h.
          shows_one taken c.ready.waiting c.next.new.self c.in-Some.reply is.0 is.1 is.2 is.3 c.ready.writer c.write.new.self before (seen c.ready.out) (seen c.write.new.out) (λ text w. c.write.ensures before text w) (c.ready.invariant.shown taken before h);
      places = ap length is.2 ∙ (set_count c.ready.waiting.places c.ready.waiting.next None ∙ c.ready.invariant.places);
    }
