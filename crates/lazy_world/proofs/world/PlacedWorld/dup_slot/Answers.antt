use Rattle.std.proofs.Common.{◌≡◌, ◌∙◌, ap, false, refl, subst, sym, ℕ, None}
use Rattle.lwc_base.specs.declared.cell.Cell.{Cell}
use Rattle.lwc_base.specs.declared.cell.Cell.TheVariants.{Own, Common}
use Rattle.lwc_base.specs.declared.descriptor.Descriptor.{Descriptor}
use Rattle.lwc_base.specs.Cells.{put_slot, value_of}
use Rattle.lwc_base.specs.Keys.{with_key}
use Rattle.lwc_base.specs.World.{World}
use Rattle.lwc_types.specs.declared.key.Key.TheVariants as key
use Rattle.fd_table.specs.Slots.{is_common}
use Rattle.lazy_world.specs.declared.key_value.KeyValue.TheVariants as values
use Rattle.lazy_world.specs.declared.world.PlacedWorld.{PlacedWorld}
use Rattle.lazy_world.specs.Cells.{put_row}
use Rattle.lazy_world.specs.KeyValues.{group_in}
use Rattle.lazy_world.specs.Seen.{rows}
use Rattle.lazy_world.specs.Sound.{IsSound}
use Rattle.lazy_world.specs.States.{world_of}
use Rattle.lazy_world.specs.Worlds.{parts, seen}
use Rattle.lazy_world.proofs.KeyLemmas.{lent_for, lent_is, put-own, put_value, sound-own}
use Rattle.lazy_world.proofs.WorldLemmas.{slot-found}
use Rattle.lazy_world.proofs.world.PlacedWorld.dup_slot.Goals as goal

own_cell : (w : World) (n : ℕ) (cell : Cell Descriptor) → is_common cell ≡ false → cell ≡ Own (value_of w (key.Slot n) cell)
own_cell w n (Own value) is = refl
own_cell w n (Common g) is = cc

no_group : (cell : Cell Descriptor) → is_common cell ≡ false → group_in cell ≡ None
no_group (Own value) is = refl
no_group (Common g) is = cc

-- the value in a slot of the context at a place
abbrev value : PlacedWorld → ℕ → ℕ → Descriptor
value w i n = value_of (seen w) (key.Slot n) (rows w.places i (key.Slot n))

-- a slot that gets an own cell gets its value
own_row : (w : PlacedWorld) (i from to : ℕ) → is_common (rows w.places i (key.Slot from)) ≡ false →
    put_row (rows w.places) i (with_key Cell (key.Slot to) (rows w.places i (key.Slot from)) (rows w.places i))
    ≡ put_row (rows w.places) i (put_value (values.Slot to (lent_for (value w i from))) (rows w.places i))
own_row w i from to own =
    ap (λ (cell : Cell Descriptor). put_row (rows w.places) i (with_key Cell (key.Slot to) cell (rows w.places i)))
    (own_cell (seen w) from (rows w.places i (key.Slot from)) own ∙ ap Own (sym (lent_is (value w i from))))

pub invariant_of-self : goal.invariant_of-self
unfolding parts
invariant_of-self c =
    let w = c.args.self.now in
    let s = parts w in
    let i = c.args.place in
    let own = c.are_own.ensures.slot c.if-are_own.true in
    let other = c.are_own.ensures.other c.if-are_own.true in
    let are = c.copy_slot.ensures.rows ∙ own_row w i c.args.from c.args.to own in
    record {
      placed = w.placed;
      placed_groups = w.placed_groups;
      count = c.copy_slot.ensures.count ∙ w.count;
      frames = c.copy_slot.ensures.frames ∙ w.frames;
      sound = subst IsSound (sym (λ e. record s { rows = are e; rights = c.copy_slot.ensures.store.rights e }))
          (sound-own s w.sound w.placed c.args.context i c.requires.found (values.Slot c.args.to (lent_for (value w i c.args.from))) c.requires.to
          (no_group (rows w.places i (key.Slot c.args.to)) other));
    }

pub returns-then-are_own : goal.returns-then-are_own
unfolding seen parts
returns-then-are_own c =
    let w = c.args.self.now in
    let s = parts w in
    let i = c.args.place in
    let own = c.are_own.ensures.slot c.if-are_own.true in
    let other = c.are_own.ensures.other c.if-are_own.true in
    let are = c.copy_slot.ensures.rows ∙ own_row w i c.args.from c.args.to own in
    record {
      put = (λ e. world_of (record s { rows = are e; rights = c.copy_slot.ensures.store.rights e }))
          ∙ put-own s w.sound w.placed c.args.context i c.requires.found (values.Slot c.args.to (lent_for (value w i c.args.from))) c.requires.to
          (no_group (rows w.places i (key.Slot c.args.to)) other)
          ∙ ap (put_slot (seen w) c.args.context c.args.to) (lent_is (value w i c.args.from) ∙ slot-found s c.args.context i c.args.from c.requires.found);
    }

pub returns-else-are_own : goal.returns-else-are_own
unfolding seen parts
returns-else-are_own c =
    let w = c.args.self.now in
    record {
      put = c.set_slot.ensures.put
          ∙ ap (put_slot (seen w) c.args.context c.args.to)
          (c.lend.ensures ∙ c.owned-value.ensures ∙ c.slot_at.ensures ∙ slot-found (parts w) c.args.context c.args.place c.args.from c.requires.found);
    }
