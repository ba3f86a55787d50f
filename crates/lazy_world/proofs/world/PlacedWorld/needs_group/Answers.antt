use Rattle.std.proofs.Common.{Bool, arith, ap, sym, true, false, ◌≡◌}
use Rattle.lwc_base.specs.World.{Context, context}
use Rattle.lwc_types.specs.declared.key.Key.TheVariants.{Slot, Cred}
use Rattle.lazy_world.specs.Seen.{rows}
use Rattle.lazy_world.specs.States.{world_of}
use Rattle.lazy_world.specs.Worlds.{parts, seen}
use Rattle.lazy_world.proofs.ItemLemmas.{none-shared}
use Rattle.lazy_world.proofs.NeedLemmas.{needs-key, needs-none, needs-page}
use Rattle.lazy_world.proofs.world.PlacedWorld.needs_group.Goals as goal

by_test : (b m n : Bool) → b ≡ m → (m ≡ true → n ≡ true) → (m ≡ false → n ≡ false) → b ≡ n
by_test true m n is on off = sym (on (sym is))
by_test false m n is on off = sym (off (sym is))

pub returns-then-moves_page : goal.returns-then-moves_page
unfolding seen parts world_of
returns-then-moves_page c =
    let w = c.args.self.now in
    let here : (context (seen w) c.args.context).cell ≡ rows w.places c.place-i.result = ap (λ (x : Context). x.cell) c.place-i.ensures.context in
    let some = c.moves_page.ensures.some c.if-moves_page.true in
    record { value = sym (needs-page (seen w) c.args.context c.args.spec.now (rows w.places c.place-i.result) here (w.sound.past c.place-i.result) some.0 some.1) }

pub returns-then-moves_slot : goal.returns-then-moves_slot
unfolding seen parts world_of
returns-then-moves_slot c =
    let w = c.args.self.now in
    let here : (context (seen w) c.args.context).cell ≡ rows w.places c.place-i.result = ap (λ (x : Context). x.cell) c.place-i.ensures.context in
    let some = c.moves_slot.ensures.some c.if-moves_slot.true in
    record { value = sym (needs-key (seen w) c.args.context c.args.spec.now (rows w.places c.place-i.result) here (Slot some.0) some.1 some.2) }

pub returns : goal.returns
unfolding seen parts world_of
returns c =
    let w = c.args.self.now in
    let row = rows w.places c.place-i.result in
    let here : (context (seen w) c.args.context).cell ≡ row = ap (λ (x : Context). x.cell) c.place-i.ensures.context in
    record {
      value = by_test c.moves_uid.result _ _ c.moves_uid.ensures
          (λ is. needs-key (seen w) c.args.context c.args.spec.now row here Cred (omega arith) is)
          (λ is. needs-none (seen w) c.args.context c.args.spec.now row here w.sound.sizes.size.pages.1 (c.moves_page.ensures.none c.if-moves_page.false) (c.moves_slot.ensures.none c.if-moves_slot.false) is);
    }

pub returns-then-shares_nothing : goal.returns-then-shares_nothing
returns-then-shares_nothing c = record { value = sym (none-shared (seen c.args.self.now) c.args.context c.args.spec.now (c.shares_nothing.ensures c.if-shares_nothing.true)) }
