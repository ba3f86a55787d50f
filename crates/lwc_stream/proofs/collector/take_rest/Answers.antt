use Rattle.std.proofs.Common.{◌∙◌, ◌++◌, ◌∷◌, [], Some, length, sym, ap, subst}
use Rattle.lwc_stream.proofs.Lists.{set_count}
use Rattle.lwc_stream.proofs.Shown.{behind_one, takes_one}
use Rattle.lwc_stream.specs.Queues.{Joined}
use Rattle.lwc_stream.specs.Streams.{HasShown}
use Rattle.lwc_stream.proofs.collector.take_rest.Goals as goal

pub rest-preserved : goal.rest-preserved
rest-preserved g c =
    let grown = c.in-Some-take.ensures.some in
    let taken = c.rest.ends.taken in
    let x = c.in-Some-take.reply in record {
      put = ap (λ (e : Joined). e.put) grown ∙ c.rest.invariant.put;
      shown = λ done rest failed before now h.
          subst (λ vs. HasShown (done ++ vs ∷ rest) c.put.new.self failed before now) (sym (ap (λ (e : Joined). e.taken) grown))
          (takes_one (length done) (done ++ taken ∷ rest) (done ++ (taken ++ x ∷ []) ∷ rest) c.rest.waiting c.put.new.self x (behind_one done rest taken x) c.put.ensures.places c.put.ensures.next failed before now
          (c.rest.invariant.shown done rest failed before now h));
      places = ap length c.put.ensures.places ∙ (set_count c.rest.waiting.places x.request (Some x) ∙ c.rest.invariant.places);
    }
