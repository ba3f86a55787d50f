use Rattle.std.proofs.Common.{◌≡◌, ◌<◌, ◌+◌, ◌∙◌, ap, arith, length, subst, sym, None, Some, get_or, set, ℕ}
use Rattle.std.specs.FinMap as fm
use Rattle.lwc_base.specs.declared.cell.Cell.{Cell}
use Rattle.lwc_base.specs.declared.cell.Cell.TheVariants.{Own}
use Rattle.lwc_base.specs.Keys.{with_key}
use Rattle.lwc_base.specs.World.{add_group, new_group, next_group, nothing_counted}
use Rattle.lwc_types.specs.declared.key.Key.TheVariants.{Cred}
use Rattle.lwc_types.specs.declared.key.TheConstants.{NOBODY}
use Rattle.lwc_types.specs.declared.name.Name.{Name}
use Rattle.ctx_table.specs.Contexts.{first_free}
use Rattle.ctx_table.specs.NameTables.{NameTable}
use Rattle.lwc_types.specs.declared.counters.Counters.{Counters}
use Rattle.lazy_world.specs.declared.places.Places.{Places}
use Rattle.lazy_world.specs.declared.world.PlacedWorld.{PlacedWorld}
use Rattle.lazy_world.specs.Cells.{put_row}
use Rattle.lazy_world.specs.Seen.{rights, rows}
use Rattle.lazy_world.specs.Sound.{IsSound}
use Rattle.lazy_world.specs.States.{Parts, world_of}
use Rattle.lazy_world.specs.Worlds.{parts, seen}
use Rattle.ctx_table.proofs.Taken.{first_free-free}
use Rattle.lwc_base.proofs.Facts.{stays_fresh}
use Rattle.lazy_world.proofs.GroupLemmas.{added-group, sound-new_group}
use Rattle.lazy_world.proofs.CountLemmas.{counts-job, known-job, read-counts}
use Rattle.lazy_world.proofs.WorldLemmas.{len-groups, group-there}
use Rattle.lazy_world.proofs.world.PlacedWorld.add_group.Goals as goal

-- a job that makes its next group
module _ (w : PlacedWorld) (job : ℕ) (known : job < (seen w).size.jobs) (n : Counters) (read : n ≡ get_or w.counts.items job n) where
  abbrev name : Name
  name = record { job = job; k = n.groups }

  name-is : name ≡ next_group (seen w) job
  unfolding seen parts world_of
  name-is = ap (λ (m : Counters). record { job = job; k = m.groups }) (read-counts w job known n read)

  -- which gets the first free place
  module _ (p : ℕ) (within : p < length w.groups.places) (first : p ≡ first_free w.groups.places) (table : NameTable) (map : table.map ≡ fm.insert w.groups.map name p) (places : table.places ≡ set w.groups.places p (Some name))
      (q : Places) (rows_are : rows q ≡ put_row (rows w.places) (w.size.contexts + p) (with_key Cell Cred (Own NOBODY) (rows w.places (w.size.contexts + p)))) (rights_are : rights q ≡ rights w.places) where
    abbrev more : Counters
    more = record { contexts = n.contexts; groups = n.groups + 1; tags = n.tags }

    abbrev later : Parts
    later = record { size = w.size; rows = rows q; rights = rights q; registers = w.registers; contexts = w.contexts; groups = table; counts = set w.counts.items job more }

    later-is : later ≡ record {
      size = w.size;
      rows = put_row (rows w.places) (w.size.contexts + p) (with_key Cell Cred (Own NOBODY) (rows w.places (w.size.contexts + p)));
      rights = rights w.places;
      registers = w.registers;
      contexts = w.contexts;
      groups = table;
      counts = set w.counts.items job more;
    }
    later-is = λ e. record { size = w.size; rows = rows_are e; rights = rights_are e; registers = w.registers; contexts = w.contexts; groups = table; counts = set w.counts.items job more }

    free : get_or w.groups.places p None ≡ None
    free = ap (λ i. get_or w.groups.places i None) first ∙ first_free-free w.groups.places (subst (λ i. i < length w.groups.places) first within)

    counted : more ≡ record (get_or w.counts.items job nothing_counted) { groups = (get_or w.counts.items job nothing_counted).groups + 1 }
    counted = ap (λ (m : Counters). record { contexts = m.contexts; groups = m.groups + 1; tags = m.tags }) (read-counts w job known n read)

    sound-later : IsSound later
    unfolding seen parts
    sound-later = subst IsSound (sym later-is) (sound-new_group (parts w) w.sound w.placed w.placed_groups job name name-is (known-job w job known) p within free table map places more counted)

    world-later : world_of later ≡ add_group (seen w) job new_group
    unfolding seen parts
    world-later = ap world_of later-is ∙ added-group (parts w) w.sound w.placed w.placed_groups job name name-is (known-job w job known) p within free table map places more counted

pub index-counts-requires : goal.index-counts-requires
index-counts-requires c = omega (arith, counts-job c.args.self.now c.args.job c.requires.known, c.args.self.now.counts.ok)

pub insert-j-requires-clause-new : goal.insert-j-requires-clause-new
unfolding seen parts
insert-j-requires-clause-new c =
    sym (group-there (parts c.args.self.now) _) ∙ ap (fm.contains_key (seen c.args.self.now).groups) (name-is c.args.self.now c.args.job c.requires.known c.index-counts.result.now c.index-counts.ensures)
    ∙ stays_fresh.next_group_is_new (seen c.args.self.now) c.args.job c.args.self.now.sound.fresh

pub insert-j-requires-clause-room : goal.insert-j-requires-clause-room
unfolding seen parts world_of
insert-j-requires-clause-room c =
    let many = len-groups (parts c.args.self.now) in omega (arith, many, c.requires.place, c.args.self.now.sound.sizes.groups)

pub overflow_add-counts : goal.overflow_add-counts
unfolding seen parts world_of
overflow_add-counts c =
    let same = ap (λ (n : Counters). n.groups) (read-counts c.args.self.now c.args.job c.requires.known c.index-counts.result.now c.index-counts.ensures) in
    omega (arith, same, c.requires.few)

pub index_mut-requires : goal.index_mut-requires
index_mut-requires c = omega (arith, counts-job c.args.self.now c.args.job c.requires.known, c.args.self.now.counts.ok)

pub invariant_of-self : goal.invariant_of-self
invariant_of-self c = record {
  placed = c.args.self.now.placed;
  placed_groups = c.insert-j.ensures.placed;
  count = c.put_uid.ensures.count ∙ c.args.self.now.count;
  frames = c.put_uid.ensures.frames ∙ c.args.self.now.frames;
  sound = sound-later c.args.self.now c.args.job c.requires.known c.index-counts.result.now c.index-counts.ensures
      c.insert-j.result c.insert-j.ensures.within c.insert-j.ensures.place c.insert-j.new.self c.insert-j.ensures.map c.insert-j.ensures.places c.put_uid.new.self c.put_uid.ensures.rows c.put_uid.ensures.store.rights;
}

pub returns-clause-name : goal.returns-clause-name
returns-clause-name c = name-is c.args.self.now c.args.job c.requires.known c.index-counts.result.now c.index-counts.ensures

pub returns-clause-world : goal.returns-clause-world
unfolding seen parts
returns-clause-world c =
    world-later c.args.self.now c.args.job c.requires.known c.index-counts.result.now c.index-counts.ensures
    c.insert-j.result c.insert-j.ensures.within c.insert-j.ensures.place c.insert-j.new.self c.insert-j.ensures.map c.insert-j.ensures.places c.put_uid.new.self c.put_uid.ensures.rows c.put_uid.ensures.store.rights

pub returns-clause-store : goal.returns-clause-store
returns-clause-store c = c.put_uid.ensures.store
