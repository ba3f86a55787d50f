use Rattle.std.proofs.Common.{◌<◌, ◌∙◌, ap, arith, subst, sym}
use Rattle.std.specs.Prelude.{IfSome}
use Rattle.fd_table.specs.Slots as slots
use Rattle.fd_table.specs.Slots.{context_of}
use Rattle.lwc_base.specs.Cells.{value_of}
use Rattle.lwc_types.specs.declared.key.Key.TheVariants.{Slot}
use Rattle.lazy_world.specs.CachedRoots.{HasRoot}
use Rattle.lazy_world.specs.Cells.{rows_of}
use Rattle.lazy_world.specs.Seen.{count, rows}
use Rattle.lazy_world.specs.Worlds.{parts, seen}
use Rattle.lazy_world.proofs.LooseLemmas.{next-place}
use Rattle.lazy_world.proofs.world.PlacedWorld.has_near.Goals as goal

pub is_shared-requires-clause-place : goal.is_shared-requires-clause-place
is_shared-requires-clause-place c = omega (arith, c.args.self.now.places.kept.slot_count, c.requires.place)

pub is_shared-requires-clause-other : goal.is_shared-requires-clause-other
is_shared-requires-clause-other c =
    let inside = subst (λ o. IfSome o (λ j. j < count c.args.self.now.places)) c.in-Some.is c.requires.first_inside in
    omega (arith, c.args.self.now.places.kept.slot_count, inside)

pub returns-then-is_shared : goal.returns-then-is_shared
unfolding seen parts rows rows_of
returns-then-is_shared c _ d is =
    let w = c.args.self.now in
    let root = subst (λ o. IfSome o (HasRoot (parts w) c.args.roots.now)) c.in-Some.is c.requires.first in
    next-place (parts w) c.args.roots.now c.in-Some.j c.args.slot d root c.requires.slot
    (ap (λ (slot : slots.Slot). context_of (value_of (seen w) (Slot c.args.slot) slot.cell)) (sym (c.is_shared.ensures c.if-is_shared.true)) ∙ is)
