use Rattle.std.proofs.Common.{◌≡◌, ◌∙◌, ap, arith, length, List, sym}
use Rattle.std.specs.FinMap as fm
use Rattle.lwc_types.specs.Names.{name_cmp}
use Rattle.lwc_types.specs.declared.name.Name.{Name}
use Rattle.lwc_guard.proofs.Rows.{low-within, put-map, put-sorted, set-new, set-there}
use Rattle.lwc_guard.specs.declared.guard.Guard.{Guard}
use Rattle.lwc_monitor.proofs.Pairs.{entries-are}
use Rattle.lwc_guard.proofs.guards.Guards.set.Goals as goal

pub insert-requires : goal.insert-requires
insert-requires c =
    let at = rw c.as_slice.ensures.value at c.place_for-place.ensures in
    omega (arith, at, low-within c.args.context c.self.inside.rows.items)

pub unwrap-requires : goal.unwrap-requires
unwrap-requires c =
    let room = rw (← c.self.view_is) at c.requires.room in
    let all : length (fm.entries (fm.from_sorted {R = name_cmp} c.self.inside.rows.items)) ≡ length c.self.inside.rows.items = ap (λ (es : List (Name × Guard)). length es) (entries-are _ c.self.invariant.0) in
    c.insert.ensures.succeeds (omega (arith, room, all, fm.len-entries (fm.from_sorted {R = name_cmp} c.self.inside.rows.items), c.self.invariant.1))

pub invariant_of-self : goal.invariant_of-self
invariant_of-self c =
    let at = rw c.as_slice.ensures.value at c.place_for-place.ensures in
    let test = rw c.as_slice-2.ensures.value at (sym c.is_there.ensures ∙ c.if-is_there.true) in
    (rw (set-there c.args.context c.args.guard c.self.inside.rows.items _ at test) (put-sorted c.args.context c.args.guard c.self.inside.rows.items c.self.invariant.0), c.self.invariant.1)

pub returns-then-is_there : goal.returns-then-is_there
returns-then-is_there c =
    let at = rw c.as_slice.ensures.value at c.place_for-place.ensures in
    let test = rw c.as_slice-2.ensures.value at (sym c.is_there.ensures ∙ c.if-is_there.true) in
    rw (← c.self.view_is, set-there c.args.context c.args.guard c.self.inside.rows.items _ at test) (put-map c.args.context c.args.guard c.self.inside.rows.items c.self.invariant.0)

pub invariant_of-self-else-is_there : goal.invariant_of-self-else-is_there
invariant_of-self-else-is_there c =
    let at = rw c.as_slice.ensures.value at c.place_for-place.ensures in
    let test = rw c.as_slice-2.ensures.value at (sym c.is_there.ensures ∙ c.if-is_there.false) in (
      rw (c.insert.ensures.items, c.unwrap.ensures, set-new c.args.context c.args.guard c.self.inside.rows.items _ at test) (put-sorted c.args.context c.args.guard c.self.inside.rows.items c.self.invariant.0),
      omega (arith, c.insert.ensures.capacity, c.self.invariant.1),
    )

pub returns-else-is_there : goal.returns-else-is_there
returns-else-is_there c =
    let at = rw c.as_slice.ensures.value at c.place_for-place.ensures in
    let test = rw c.as_slice-2.ensures.value at (sym c.is_there.ensures ∙ c.if-is_there.false) in
    rw (← c.self.view_is, c.insert.ensures.items, c.unwrap.ensures, set-new c.args.context c.args.guard c.self.inside.rows.items _ at test) (put-map c.args.context c.args.guard c.self.inside.rows.items c.self.invariant.0)
