use Rattle.std.proofs.Common.{◌≡◌, ◌<◌, ◌∙◌, Some, get_or, length, map, refl, sym, ap, subst, arith}
use Rattle.std.specs.Prelude.{slice_get}
use Rattle.lwc_stream.proofs.Lists.{at_place, map_set, set_count, set_same}
use Rattle.lwc_stream.specs.Streams.{HasShown}
use Rattle.lwc_stream.proofs.collector.Collector.take_round.Goals as goal

pub takes-preserved : goal.takes-preserved
takes-preserved c =
    let inv = c.takes.invariant in
    let es = c.takes.self.takes.items in
    let i = c.takes.i in
    let e = c.index_mut.result.now in
    let e' = c.take_one.new.takes in
    let inside : i < length es = omega (arith, c.takes-test.true, inv.count) in
    let here : e ≡ get_or es i e = c.index_mut.ensures.value in
    let there : slice_get (map (λ x. x.values) es) i ≡ Some e.values =
    at_place (λ x. x.values) es _ i e refl inside ∙ ap (λ x. Some x.values) (sym here) in
    let queue : slice_get (map (λ x. x.queue) es) i ≡ Some e'.queue =
    at_place (λ x. x.queue) es _ i e refl inside ∙ ap (λ x. Some x.queue) (sym here) ∙ ap Some (sym c.take_one.ensures.queue) in
    record {
      queues = map_set (λ x. x.queue) es i e' ∙ (set_same (map (λ x. x.queue) es) i e'.queue queue ∙ inv.queues);
      shown = λ failed before now h.
          subst (λ l. HasShown l c.take_one.new.waiting failed before now) (sym (map_set (λ x. x.values) es i e'))
          (c.take_one.ensures.shown i (map (λ x. x.values) es) there failed before now (inv.shown failed before now h));
      writer = inv.writer;
      places = c.take_one.ensures.places ∙ inv.places;
      count = set_count es i e' ∙ inv.count;
    }
