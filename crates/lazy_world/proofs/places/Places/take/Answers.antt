use Rattle.std.proofs.Common.{arith, subst, sym, ◌∙◌}
use Rattle.lazy_world.specs.Transfers.{CanGet}
use Rattle.lazy_world.specs.Seen.{count, rows}
use Rattle.lazy_world.specs.Origins.{slot_origin}
use Rattle.lazy_world.proofs.TakenLemmas.{all-taken}
use Rattle.lazy_world.proofs.places.Places.take.Goals as goal

pub take_slots-requires-clause-given : goal.take_slots-requires-clause-given
take_slots-requires-clause-given c n low = subst (λ count. CanGet count c.args.place (slot_origin c.args.origins.now.slots n)) (sym c.take_pages.ensures.count) (c.requires.given.slots n low)

pub take_uid-requires-clause-given : goal.take_uid-requires-clause-given
take_uid-requires-clause-given c = subst (λ count. CanGet count c.args.place c.args.origins.now.uid) (sym (c.take_slots.ensures.count ∙ c.take_pages.ensures.count)) c.requires.given.uid

pub returns-clause-rows : goal.returns-clause-rows
returns-clause-rows c =
    let old = rows c.args.self.now in
    all-taken (count c.args.self.now) old c.args.place c.args.origins.now c.requires.given (omega arith) (rows c.take_pages.new.self) (rows c.take_slots.new.self) (rows c.take_uid.new.self)
    c.take_pages.ensures.rows c.take_slots.ensures.rows c.take_uid.ensures.rows

pub returns-clause-rights : goal.returns-clause-rights
returns-clause-rights c = c.take_uid.ensures.store.rights ∙ c.take_slots.ensures.store.rights ∙ c.take_pages.ensures.rights

pub returns-clause-nodes : goal.returns-clause-nodes
returns-clause-nodes c =
    omega (arith, c.take_pages.ensures.nodes, c.take_slots.ensures.store.nodes, c.take_uid.ensures.store.nodes)

pub returns-clause-cost : goal.returns-clause-cost
returns-clause-cost c empty =
    omega (arith, c.take_pages.ensures.cost empty, c.take_slots.ensures.store.steps, c.take_uid.ensures.store.steps)

pub returns-clause-cost_any : goal.returns-clause-cost_any
returns-clause-cost_any c =
    omega (arith, c.take_pages.ensures.cost_any, c.take_slots.ensures.store.steps, c.take_uid.ensures.store.steps)

pub returns-clause-nodes_any : goal.returns-clause-nodes_any
returns-clause-nodes_any c =
    omega (arith, c.take_pages.ensures.nodes_any, c.take_slots.ensures.store.nodes, c.take_uid.ensures.store.nodes)

pub returns-clause-free : goal.returns-clause-free
returns-clause-free c = omega (arith, c.take_pages.ensures.free, c.take_slots.ensures.store.free, c.take_uid.ensures.store.free)

pub returns-clause-free_empty : goal.returns-clause-free_empty
returns-clause-free_empty c empty = c.take_uid.ensures.store.free ∙ c.take_slots.ensures.store.free ∙ c.take_pages.ensures.free_empty empty

pub returns-clause-pool : goal.returns-clause-pool
returns-clause-pool c = c.take_uid.ensures.store.pool ∙ c.take_slots.ensures.store.pool ∙ c.take_pages.ensures.pool
