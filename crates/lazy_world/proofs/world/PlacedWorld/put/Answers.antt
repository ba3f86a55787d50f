use Rattle.std.proofs.Common.{◌≡◌, ◌∙◌, ap, subst, sym, Some}
use Rattle.lwc_base.specs.declared.cell.Cell.{Cell}
use Rattle.lwc_base.specs.declared.cell.Cell.TheVariants.{Own, Common}
use Rattle.lwc_base.specs.World.{Context}
use Rattle.lwc_types.specs.declared.name.Name.{Name}
use Rattle.lazy_world.specs.KeyValues.{group_in, key_in, value_in}
use Rattle.lazy_world.specs.Sound.{IsSound}
use Rattle.lazy_world.specs.States.{world_of}
use Rattle.lazy_world.specs.Worlds.{parts, seen}
use Rattle.lazy_world.proofs.KeyLemmas.{put-own, sound-own}
use Rattle.lazy_world.proofs.WorldLemmas.{context-found}
use Rattle.lwc_base.proofs.Facts.{changes}
use Rattle.lazy_world.proofs.world.PlacedWorld.put.Goals as goal

pub invariant_of-self : goal.invariant_of-self
unfolding parts
invariant_of-self c =
    let s = parts c.args.self.now in
    record {
      placed = c.args.self.now.placed;
      placed_groups = c.args.self.now.placed_groups;
      count = c.put.ensures.count ∙ c.args.self.now.count;
      frames = c.put.ensures.frames ∙ c.args.self.now.frames;
      sound = subst IsSound (sym (λ e. record s { rows = c.put.ensures.rows e; rights = c.put.ensures.store.rights e }))
          (sound-own s c.args.self.now.sound c.args.self.now.placed c.args.context c.args.place c.requires.found c.args.value c.requires.slot (sym c.group.ensures ∙ c.in-None.is));
    }

pub returns-in-None : goal.returns-in-None
unfolding seen parts
returns-in-None c =
    let s = parts c.args.self.now in
    (λ e. world_of (record s { rows = c.put.ensures.rows e; rights = c.put.ensures.store.rights e }))
    ∙ put-own s c.args.self.now.sound c.args.self.now.placed c.args.context c.args.place c.requires.found c.args.value c.requires.slot (sym c.group.ensures ∙ c.in-None.is)

common_cell : {T : Type 0} (cell : Cell T) (g : Name) → group_in cell ≡ Some g → cell ≡ Common g
common_cell (Own value) g is = cc
common_cell (Common h) g is = cc

pub returns-in-Some : goal.returns-in-Some
unfolding seen parts
returns-in-Some c =
    c.put_common.ensures
    ∙ sym (changes.put_common (seen c.args.self.now) c.args.context (key_in c.args.value) c.in-Some.g (value_in c.args.value)
    (ap (λ (x : Context). x.cell (key_in c.args.value)) (context-found (parts c.args.self.now) c.args.context c.args.place c.requires.found) ∙ common_cell _ c.in-Some.g (sym c.group.ensures ∙ c.in-Some.is)))
