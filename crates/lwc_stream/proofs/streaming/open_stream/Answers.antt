use Rattle.std.proofs.Common.{◌≡◌, ◌∙◌, [], All, map, sym, ap, subst}
use Rattle.std.proofs.lemmas.Simd.{map-map}
use Rattle.process_core.proofs.Carrying.{all_made}
use Rattle.lwc_stream.proofs.streaming.open_stream.Goals as goal

pub returns-clause-queues : goal.returns-clause-queues
returns-clause-queues g c =
    sym (map-map (λ o. o.puts.queue) (λ w. w.turns) c.carriers_of-workers.result.items)
    ∙ (ap (map (λ o. o.puts.queue)) c.carriers_of-workers.ensures.turns ∙ c.in_ok-outboxes.ensures.queues)

pub returns-clause-unturned : goal.returns-clause-unturned
returns-clause-unturned g c =
    all_made (λ o. o.turns ≡ 0) (λ w. w.turns) c.carriers_of-workers.result.items
    (subst (All (λ o. o.turns ≡ 0)) (sym c.carriers_of-workers.ensures.turns) c.in_ok-outboxes.ensures.unturned)

pub returns-clause-unput : goal.returns-clause-unput
returns-clause-unput g c =
    all_made (λ o. o.puts.values ≡ []) (λ w. w.turns) c.carriers_of-workers.result.items
    (subst (All (λ o. o.puts.values ≡ [])) (sym c.carriers_of-workers.ensures.turns) c.in_ok-outboxes.ensures.unput)
