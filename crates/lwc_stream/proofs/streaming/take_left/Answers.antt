use Rattle.std.proofs.Common.{◌≡◌, ◌<◌, ◌∙◌, ◌++◌, ◌∷◌, [], length, map, refl, sym, ap, subst, arith, append_assoc}
use Rattle.std.proofs.Math.ListN.{length-map}
use Rattle.std.proofs.lemmas.Bool.Decides.{nat_tests}
use Rattle.lwc_stream.proofs.Lists.{heads, none_left}
use Rattle.lwc_stream.specs.Streams.{HasShown}
use Rattle.process_core.proofs.Handing.{first_of}
use Rattle.lwc_stream.proofs.streaming.take_left.Goals as goal

pub outboxes-init : goal.outboxes-init
outboxes-init g c = record {
  queues = c.requires.queues;
  done = [];
  all = refl;
  shown = λ failed before now h. h;
  places = refl;
}

pub take_rest-requires : goal.take_rest-requires
take_rest-requires g c =
    let inv = c.outboxes.invariant in
    let ws = c.outboxes.outboxes.items in
    let es = c.outboxes.ends.items in
    let w = c.remove-puts.result in
    let e = c.remove-takes.result in
    let ws' = c.remove-puts.new.self.items in
    let es' = c.remove-takes.new.self.items in
    let some : 0 < length ws = grind (arith, nat_tests) in
    let some_e : 0 < length es = omega (arith, some, ap length inv.queues, length-map ws (λ x. x.puts.queue), length-map es (λ x. x.queue)) in
    let first_w : ws ≡ w ∷ ws' = first_of ws w ws' some c.remove-puts.ensures.value c.remove-puts.ensures.by_index.2 in
    let first_e : es ≡ e ∷ es' = first_of es e es' some_e c.remove-takes.ensures.value c.remove-takes.ensures.by_index.2 in
    record { queue = (heads (λ x. x.puts.queue) ws ws' w (map (λ x. x.queue) es) (map (λ x. x.queue) es') e.queue inv.queues first_w (ap (map (λ x. x.queue)) first_e)).first }

pub outboxes-preserved : goal.outboxes-preserved
outboxes-preserved g c =
    let inv = c.outboxes.invariant in
    let ws = c.outboxes.outboxes.items in
    let es = c.outboxes.ends.items in
    let w = c.remove-puts.result in
    let e = c.remove-takes.result in
    let ws' = c.remove-puts.new.self.items in
    let es' = c.remove-takes.new.self.items in
    let some : 0 < length ws = grind (arith, nat_tests) in
    let some_e : 0 < length es = omega (arith, some, ap length inv.queues, length-map ws (λ x. x.puts.queue), length-map es (λ x. x.queue)) in
    let first_w : ws ≡ w ∷ ws' = first_of ws w ws' some c.remove-puts.ensures.value c.remove-puts.ensures.by_index.2 in
    let first_e : es ≡ e ∷ es' = first_of es e es' some_e c.remove-takes.ensures.value c.remove-takes.ensures.by_index.2 in
    let new = c.take_rest.new.waiting in
    record {
      queues = (heads (λ x. x.puts.queue) ws ws' w (map (λ x. x.queue) es) (map (λ x. x.queue) es') e.queue inv.queues first_w (ap (map (λ x. x.queue)) first_e)).others;
      done = inv.done ++ w.puts.values ∷ [];
      all = append_assoc inv.done (w.puts.values ∷ []) (map (λ x. x.puts.values) ws') ∙ (ap (λ l. inv.done ++ map (λ x. x.puts.values) l) (sym first_w) ∙ inv.all);
      shown = λ failed before now h.
          subst (λ l. HasShown l new failed before now) (sym (append_assoc inv.done (w.puts.values ∷ []) (map (λ x. x.values) es')))
          (c.take_rest.ensures.shown inv.done (map (λ x. x.values) es') failed before now
          (subst (λ l. HasShown (inv.done ++ map (λ x. x.values) l) c.outboxes.waiting failed before now) first_e (inv.shown failed before now h)));
      places = c.take_rest.ensures.places ∙ inv.places;
    }

pub returns-clause-shown : goal.returns-clause-shown
returns-clause-shown g c =
    let inv = c.outboxes.invariant in
    let ws = c.outboxes.outboxes.items in
    let es = c.outboxes.ends.items in
    let none : length ws ≡ 0 = grind (arith, nat_tests) in
    let none_e : length es ≡ 0 = omega (arith, none, ap length inv.queues, length-map ws (λ x. x.puts.queue), length-map es (λ x. x.queue)) in
    λ failed before now h.
    subst (λ l. HasShown l c.outboxes.waiting failed before now)
    (ap (λ l. inv.done ++ map (λ x. x.values) l) (none_left es none_e) ∙ (sym (ap (λ l. inv.done ++ map (λ x. x.puts.values) l) (none_left ws none)) ∙ inv.all))
    (inv.shown failed before now h)
