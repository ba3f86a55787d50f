use Rattle.std.proofs.Common.{◌∙◌, sym}
use Rattle.std.proofs.lemmas.List.{take_rest}
use Rattle.ctx_table.proofs.NameSlots.{found_further, none_further}
use Rattle.ctx_table.proofs.names.Names.free_place.Goals as goal

pub unreachable-requires : goal.unreachable-requires
unreachable-requires c =
    none_further c.self.inside.places.items c.self.inside.taken c.self.invariant.taken (rw (c.deref.ensures.value, take_rest c.self.inside.places.items c.self.inside.taken) at (sym {a = c.first_without.result} c.first_without.ensures ∙ c.in-None.is)) (rw (← c.self.view_is) at c.requires)

pub returns : goal.returns
returns c =
    rw (← c.self.view_is) (found_further c.self.inside.places.items c.self.inside.taken c.in-Some.further c.self.invariant.taken (rw (c.deref.ensures.value, take_rest c.self.inside.places.items c.self.inside.taken) at (sym {a = c.first_without.result} c.first_without.ensures ∙ c.in-Some.is)))
