use Rattle.std.proofs.Common.{◌<◌, ◌∙◌, ap, arith, length, sym}
use Rattle.ctx_table.specs.NameTables.{NameTable}
use Rattle.ctx_table.specs.Contexts.{first_free}
use Rattle.ctx_table.proofs.NameSlots.{free_within, indexed-insert, place_inside, placed, slot_free, slot_inside, taken_to}
use Rattle.ctx_table.proofs.Taken.{nothing_there}
use Rattle.ctx_table.proofs.names.Names.insert.Goals as goal

pub free_place-place-requires : goal.free_place-place-requires
free_place-place-requires c = rw (← c.self.view_is) (free_within _ _ c.self.invariant.indexed (rw (← c.self.view_is) at c.requires.room))

pub index_mut-requires : goal.index_mut-requires
index_mut-requires c =
    let room : first_free c.args.self.now.places < length c.args.self.now.places = rw (← c.self.view_is) (free_within _ _ c.self.invariant.indexed (rw (← c.self.view_is) at c.requires.room)) in
    let inside = place_inside _ c.self.inside.index _ c.self.view_is _ c.free_place-place.ensures room in
    omega (arith, inside)

pub returns-clause-within : goal.returns-clause-within
returns-clause-within c =
    let room : first_free c.args.self.now.places < length c.args.self.now.places = rw (← c.self.view_is) (free_within _ _ c.self.invariant.indexed (rw (← c.self.view_is) at c.requires.room)) in
    omega (arith, c.free_place-place.ensures, room)

pub overflow_add-self : goal.overflow_add-self
overflow_add-self c =
    let room : first_free c.args.self.now.places < length c.args.self.now.places = rw (← c.self.view_is) (free_within _ _ c.self.invariant.indexed (rw (← c.self.view_is) at c.requires.room)) in
    let inside = slot_inside _ c.self.inside.index _ c.self.view_is _ c.free_place-place.ensures room in
    omega (arith, inside, c.self.invariant.indexed.few)

pub invariant_of-self : goal.invariant_of-self
invariant_of-self c =
    let room : first_free c.args.self.now.places < length c.args.self.now.places = rw (← c.self.view_is) (free_within _ _ c.self.invariant.indexed (rw (← c.self.view_is) at c.requires.room)) in
    record {
      indexed = indexed-insert _ _ _ c.self.invariant.indexed c.args.name c.free_place-place.result c.insert.ensures (nothing_there _ (rw (← c.self.view_is) at c.requires.new))
          (slot_inside _ c.self.inside.index _ c.self.view_is _ c.free_place-place.ensures room) (slot_free _ c.self.inside.index _ c.self.view_is _ c.free_place-place.ensures room);
      taken = taken_to _ c.args.name _ (c.free_place-place.ensures ∙ ap (λ (t : NameTable). first_free t.places) (sym c.self.view_is)) (rw (← c.self.view_is) at room);
    }

pub returns-clause-placed : goal.returns-clause-placed
returns-clause-placed c =
    let room : first_free c.args.self.now.places < length c.args.self.now.places = rw (← c.self.view_is) (free_within _ _ c.self.invariant.indexed (rw (← c.self.view_is) at c.requires.room)) in
    placed _ _
    (indexed-insert _ _ _ c.self.invariant.indexed c.args.name c.free_place-place.result c.insert.ensures (nothing_there _ (rw (← c.self.view_is) at c.requires.new))
    (slot_inside _ c.self.inside.index _ c.self.view_is _ c.free_place-place.ensures room) (slot_free _ c.self.inside.index _ c.self.view_is _ c.free_place-place.ensures room))
