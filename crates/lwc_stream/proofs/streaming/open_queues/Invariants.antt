use Rattle.std.proofs.Common.{◌≡◌, ◌≤◌, [], All, length, map}
use Rattle.lwc_stream.proofs.streaming.open_queues.Given as goal

abbrev pub invariant-queues : goal.invariant-queues
invariant-queues l = record {
  count : length l.outboxes.items ≡ l.counter;
  queues : map (λ o. o.puts.queue) l.outboxes.items ≡ map (λ e. e.queue) l.takes.items;
  unturned : All (λ o. o.turns ≡ 0) l.outboxes.items;
  unput : All (λ o. o.puts.values ≡ []) l.outboxes.items;
  untaken : All (λ e. e.values ≡ []) l.takes.items;
  room : All (λ e. l.room ≤ e.queue.slots) l.takes.items;
}
