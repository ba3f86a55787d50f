use Rattle.std.proofs.Common.{◌≡◌, ◌<◌, ◌+◌, ◌∙◌, ap, arith, length, subst, sym, None, Some, get_or, replicate, set, ℕ}
use Rattle.std.specs.FinMap as fm
use Rattle.lwc_base.specs.declared.cell.Cell.{Cell}
use Rattle.lwc_base.specs.declared.cell.Cell.TheVariants.{Own}
use Rattle.lwc_base.specs.Keys.{with_key}
use Rattle.lwc_base.specs.World.{add_context, new_context, next_context, nothing_counted}
use Rattle.lwc_types.specs.declared.key.Key.TheVariants.{Page, Cred}
use Rattle.lwc_types.specs.declared.regs.Regs.{Regs}
use Rattle.lwc_types.specs.declared.name.Name.{Name}
use Rattle.lwc_types.specs.declared.right.Right.TheVariants.{Write}
use Rattle.ctx_table.specs.Contexts.{first_free}
use Rattle.ctx_table.specs.NameTables.{NameTable}
use Rattle.lwc_types.specs.declared.counters.Counters.{Counters}
use Rattle.lazy_world.specs.declared.places.Places.{Places}
use Rattle.lazy_world.specs.Registers.{KeptRegisters}
use Rattle.lazy_world.specs.declared.world.PlacedWorld.{PlacedWorld}
use Rattle.lazy_world.specs.Cells.{put_row}
use Rattle.lazy_world.specs.Seen.{rights, rows}
use Rattle.lazy_world.specs.Sound.{IsSound}
use Rattle.lazy_world.specs.States.{Parts, world_of}
use Rattle.lazy_world.specs.Worlds.{parts, seen}
use Rattle.ctx_table.proofs.Taken.{first_free-free}
use Rattle.lwc_base.proofs.Facts.{stays_fresh}
use Rattle.lazy_world.proofs.AbsentLemmas.{no-right}
use Rattle.lazy_world.proofs.AddLemmas.{added-context, no_page, sound-context}
use Rattle.lazy_world.proofs.CountLemmas.{counts-job, known-job, read-counts}
use Rattle.lazy_world.proofs.WorldLemmas.{len-contexts, live-there}
use Rattle.lazy_world.proofs.world.PlacedWorld.add_context.Goals as goal

-- a job that makes its next context
module _ (w : PlacedWorld) (job : ℕ) (known : job < (seen w).size.jobs) (n : Counters) (read : n ≡ get_or w.counts.items job n) where
  abbrev name : Name
  name = record { job = job; k = n.contexts }

  name-is : name ≡ next_context (seen w) job
  unfolding seen parts world_of
  name-is = ap (λ (m : Counters). record { job = job; k = m.contexts }) (read-counts w job known n read)

  -- which gets the first free place
  module _ (p : ℕ) (within : p < length w.contexts.places) (first : p ≡ first_free w.contexts.places) (table : NameTable) (map : table.map ≡ fm.insert w.contexts.map name p) (places : table.places ≡ set w.contexts.places p (Some name))
      (uid : ℕ) (entry : Regs) (q : Places) (rows_are : rows q ≡ put_row (rows w.places) (p) (with_key Cell Cred (Own uid) (rows w.places p))) (rights_are : rights q ≡ rights w.places) (registers : KeptRegisters) (registers_are : registers ≡ record { entry = entry; saved = replicate 16 None }) where
    abbrev more : Counters
    more = record { contexts = n.contexts + 1; groups = n.groups; tags = n.tags }

    abbrev later : Parts
    later = record { size = w.size; rows = rows q; rights = rights q; registers = set w.registers p registers; contexts = table; groups = w.groups; counts = set w.counts.items job more }

    later-is : later ≡ record {
      size = w.size;
      rows = put_row (rows w.places) (p) (with_key Cell Cred (Own uid) (rows w.places p));
      rights = rights w.places;
      registers = set w.registers p (record { entry = entry; saved = replicate 16 None });
      contexts = table;
      groups = w.groups;
      counts = set w.counts.items job more;
    }
    later-is = λ e. record { size = w.size; rows = rows_are e; rights = rights_are e; registers = set w.registers p (registers_are e); contexts = table; groups = w.groups; counts = set w.counts.items job more }

    free : get_or w.contexts.places p None ≡ None
    free = ap (λ i. get_or w.contexts.places i None) first ∙ first_free-free w.contexts.places (subst (λ i. i < length w.contexts.places) first within)

    counted : more ≡ record (get_or w.counts.items job nothing_counted) { contexts = (get_or w.counts.items job nothing_counted).contexts + 1 }
    counted = ap (λ (m : Counters). record { contexts = m.contexts + 1; groups = m.groups; tags = m.tags }) (read-counts w job known n read)

    bare : (k : ℕ) → rights w.places p k ≡ Write
    bare k = no-right w.places p k (no_page (rows w.places p (Page k)) k (w.sound.free p (omega (arith, within, w.sound.sizes.contexts)) free (Page k)))

    sound-later : IsSound later
    unfolding seen parts
    sound-later = subst IsSound (sym later-is) (sound-context (parts w) w.sound w.placed job name name-is (known-job w job known) p within free table map places uid entry more counted bare)

    world-later : world_of later ≡ add_context (seen w) job (new_context uid entry)
    unfolding seen parts
    world-later = ap world_of later-is ∙ added-context (parts w) w.sound w.placed job name name-is (known-job w job known) p within free table map places uid entry more counted bare

pub index-counts-requires : goal.index-counts-requires
index-counts-requires c = omega (arith, counts-job c.args.self.now c.args.job c.requires.known, c.args.self.now.counts.ok)

pub insert-i-requires-clause-new : goal.insert-i-requires-clause-new
unfolding seen parts
insert-i-requires-clause-new c =
    sym (live-there (parts c.args.self.now) _) ∙ ap (fm.contains_key (seen c.args.self.now).contexts) (name-is c.args.self.now c.args.job c.requires.known c.index-counts.result.now c.index-counts.ensures)
    ∙ stays_fresh.next_context_is_new (seen c.args.self.now) c.args.job c.args.self.now.sound.fresh

pub insert-i-requires-clause-room : goal.insert-i-requires-clause-room
unfolding seen parts world_of
insert-i-requires-clause-room c =
    let many = len-contexts (parts c.args.self.now) in omega (arith, many, c.requires.place, c.args.self.now.sound.sizes.contexts)

pub overflow_add-counts : goal.overflow_add-counts
unfolding seen parts world_of
overflow_add-counts c =
    let same = ap (λ (n : Counters). n.contexts) (read-counts c.args.self.now c.args.job c.requires.known c.index-counts.result.now c.index-counts.ensures) in
    omega (arith, same, c.requires.few)

pub index_mut-requires-2 : goal.index_mut-requires-2
index_mut-requires-2 c = omega (arith, counts-job c.args.self.now c.args.job c.requires.known, c.args.self.now.counts.ok)

pub invariant_of-self : goal.invariant_of-self
invariant_of-self c = record {
  placed = c.insert-i.ensures.placed;
  placed_groups = c.args.self.now.placed_groups;
  count = c.put.ensures.count ∙ c.args.self.now.count;
  frames = c.put.ensures.frames ∙ c.args.self.now.frames;
  sound = sound-later c.args.self.now c.args.job c.requires.known c.index-counts.result.now c.index-counts.ensures
      c.insert-i.result c.insert-i.ensures.within c.insert-i.ensures.place c.insert-i.new.self c.insert-i.ensures.map c.insert-i.ensures.places c.args.uid c.args.entry.now c.put.new.self c.put.ensures.rows c.put.ensures.store.rights c.begin.new.self c.begin.ensures;
}

pub returns-clause-name : goal.returns-clause-name
returns-clause-name c = name-is c.args.self.now c.args.job c.requires.known c.index-counts.result.now c.index-counts.ensures

pub returns-clause-world : goal.returns-clause-world
unfolding seen parts
returns-clause-world c =
    world-later c.args.self.now c.args.job c.requires.known c.index-counts.result.now c.index-counts.ensures
    c.insert-i.result c.insert-i.ensures.within c.insert-i.ensures.place c.insert-i.new.self c.insert-i.ensures.map c.insert-i.ensures.places c.args.uid c.args.entry.now c.put.new.self c.put.ensures.rows c.put.ensures.store.rights c.begin.new.self c.begin.ensures

pub returns-clause-store : goal.returns-clause-store
returns-clause-store c = c.put.ensures.store
