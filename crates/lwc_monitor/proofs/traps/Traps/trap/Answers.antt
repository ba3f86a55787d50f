use Rattle.std.proofs.Common.{◌≡◌, ap, arith, length, List}
use Rattle.std.specs.FinMap as fm
use Rattle.lwc_types.specs.Names.{name_cmp}
use Rattle.lwc_types.specs.declared.name.Name.{Name}
use Rattle.lwc_monitor.proofs.Pairs.{entries-are, inserted, inserted-sorted, place-within}
use Rattle.lwc_monitor.proofs.traps.Traps.trap.Goals as goal

pub insert-requires : goal.insert-requires
insert-requires c =
    let at = rw c.as_slice.ensures.value at c.place_for-place.ensures in
    omega (arith, at, place-within c.args.context c.self.inside.pairs.items)

pub unwrap-requires : goal.unwrap-requires
unwrap-requires c =
    let room = rw (← c.self.view_is) at c.requires.room in
    let all : length (fm.entries (fm.from_sorted {R = name_cmp} c.self.inside.pairs.items)) ≡ length c.self.inside.pairs.items = ap (λ (es : List (Name × Name)). length es) (entries-are _ c.self.invariant.0) in
    c.insert.ensures.succeeds (omega (arith, room, all, fm.len-entries (fm.from_sorted {R = name_cmp} c.self.inside.pairs.items), c.self.invariant.1))

pub invariant_of-self : goal.invariant_of-self
invariant_of-self c =
    let at = rw c.as_slice.ensures.value at c.place_for-place.ensures in (
      rw (c.insert.ensures.items, c.unwrap.ensures, at) (inserted-sorted _ c.self.invariant.0 c.args.context c.args.monitor (rw (← c.self.view_is) at c.requires.free)),
      omega (arith, c.insert.ensures.capacity, c.self.invariant.1),
    )

pub returns : goal.returns
returns c =
    let at = rw c.as_slice.ensures.value at c.place_for-place.ensures in
    rw (← c.self.view_is, c.insert.ensures.items, c.unwrap.ensures, at) (inserted _ c.self.invariant.0 c.args.context c.args.monitor (rw (← c.self.view_is) at c.requires.free))
