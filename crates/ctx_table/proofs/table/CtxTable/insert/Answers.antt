use Rattle.std.proofs.Common.{◌∙◌, [], sym, arith}
use Rattle.std.proofs.lemmas.List.{map-set}
use Rattle.ctx_table.proofs.Held.{insert-indexed, insert-map_of, not_some}
use Rattle.ctx_table.proofs.Taken.{free_fits, free_slot, has_room, is_place, live, places-set, room_free, new_name, slot-read}
use Rattle.ctx_table.proofs.table.CtxTable.insert.Goals as goal

pub free_place-place-requires : goal.free_place-place-requires
free_place-place-requires g c = room_free _ _ c.self.view_is _ c.self.invariant c.requires.room

pub index_mut-requires : goal.index_mut-requires
index_mut-requires g c =
    let free = room_free _ _ c.self.view_is _ c.self.invariant c.requires.room in
    let inside = is_place _ _ c.self.view_is c.free_place-place.result (omega (arith, c.free_place-place.ensures, free)) in
    omega (arith, inside)

pub insert-requires-clause-new : goal.insert-requires-clause-new
insert-requires-clause-new g c = sym (live _ _ c.self.invariant c.args.name) ∙ (rw (← c.self.view_is) at c.requires.new)

pub insert-requires-clause-room : goal.insert-requires-clause-room
insert-requires-clause-room g c =
    has_room _ _ c.self.invariant c.free_place-place.result c.args.name (record { value = c.args.value; entry = c.args.entry.now; saved = [] })
    (free_fits _ _ c.self.view_is _ c.free_place-place.ensures (room_free _ _ c.self.view_is _ c.self.invariant c.requires.room)) (free_slot _ _ c.self.view_is _ c.free_place-place.ensures (room_free _ _ c.self.view_is _ c.self.invariant c.requires.room))

pub unreachable-requires : goal.unreachable-requires
unreachable-requires g c =
    not_some (free_slot _ _ c.self.view_is _ c.free_place-place.ensures (room_free _ _ c.self.view_is _ c.self.invariant c.requires.room))
    (slot-read _ _ c.self.view_is c.free_place-place.result c.index_mut.result.now _ c.index_mut.ensures.value
    (is_place _ _ c.self.view_is c.free_place-place.result (omega (arith, c.free_place-place.ensures, (room_free _ _ c.self.view_is _ c.self.invariant c.requires.room)))) (sym c.replace.ensures.value ∙ c.in-Held.is))

pub invariant_of-self : goal.invariant_of-self
invariant_of-self g c =
    rw (c.replace.ensures.after, map-set, c.insert.ensures)
    (insert-indexed _ _ c.self.invariant c.args.name c.free_place-place.result
    (new_name _ _ c.self.invariant c.args.name (rw (← c.self.view_is) at c.requires.new))
    (free_fits _ _ c.self.view_is _ c.free_place-place.ensures (room_free _ _ c.self.view_is _ c.self.invariant c.requires.room)) (free_slot _ _ c.self.view_is _ c.free_place-place.ensures (room_free _ _ c.self.view_is _ c.self.invariant c.requires.room)) _)

pub returns-clause-kept : goal.returns-clause-kept
returns-clause-kept g c =
    rw (← c.self.view_is, c.replace.ensures.after, map-set)
    (insert-map_of _ _ c.self.invariant c.args.name c.free_place-place.result
    (new_name _ _ c.self.invariant c.args.name (rw (← c.self.view_is) at c.requires.new))
    (free_fits _ _ c.self.view_is _ c.free_place-place.ensures (room_free _ _ c.self.view_is _ c.self.invariant c.requires.room)) (free_slot _ _ c.self.view_is _ c.free_place-place.ensures (room_free _ _ c.self.view_is _ c.self.invariant c.requires.room)) _)

pub returns-clause-places : goal.returns-clause-places
returns-clause-places g c = rw (c.replace.ensures.after, c.free_place-place.ensures) (places-set _ _ c.self.view_is _ _)
