use Rattle.std.proofs.Common.{◌≡◌, ◌∙◌, ◌≤◌, [], All, map, sym, ap, subst, arith}
use Rattle.std.proofs.lemmas.List.Elements.{All-push}
use Rattle.lwc_stream.proofs.Lists.{map_push, push_map}
use Rattle.lwc_stream.specs.Queues.{End}
use Rattle.lwc_stream.proofs.streaming.open_queues.Goals as goal

pub queues-preserved : goal.queues-preserved
queues-preserved c =
    let inv = c.queues.invariant in
    let outboxes = c.in_ok-push.ensures.items in
    let takes = c.in_ok-push-2.ensures.items in
    let outbox = c.new.result in
    let same = c.new.ensures.puts in
    let taking = c.in_ok-putting.taking in record {
      count = omega (arith, inv.count, c.in_ok-push.ensures.len);
      queues = map_push (λ x. x.puts.queue) c.queues.outboxes.items _ (map (λ x. x.queue) c.queues.takes.items) _ outbox taking.queue inv.queues outboxes
          (ap (map (λ x. x.queue)) takes ∙ push_map (λ x. x.queue) c.queues.takes.items taking) (ap (λ (e : End). e.queue) same ∙ c.in_ok-putting.ensures.queue);
      unturned = subst (λ l. All (λ x. x.turns ≡ 0) l) (sym outboxes) (All-push (λ x. x.turns ≡ 0) c.queues.outboxes.items outbox inv.unturned c.new.ensures.turns);
      unput = subst (λ l. All (λ x. x.puts.values ≡ []) l) (sym outboxes) (All-push (λ x. x.puts.values ≡ []) c.queues.outboxes.items outbox inv.unput (ap (λ (e : End). e.values) same ∙ c.in_ok-putting.ensures.unput));
      room = subst (λ l. All (λ x. c.args.room ≤ x.queue.slots) l) (sym takes) (All-push (λ x. c.args.room ≤ x.queue.slots) c.queues.takes.items taking inv.room c.in_ok-putting.ensures.room);
      untaken = subst (λ l. All (λ x. x.values ≡ []) l) (sym takes) (All-push (λ x. x.values ≡ []) c.queues.takes.items taking inv.untaken c.in_ok-putting.ensures.untaken);
    }
