-- The world as it is opened.
use Rattle.std.proofs.Common.{◌≡◌, ℕ, List, length, refl, sym, subst, None, replicate}
use Rattle.std.specs.FinMap as fm
use Rattle.std.proofs.lemmas.List.{length-replicate}
use Rattle.lwc_base.specs.Fresh.{IsFresh}
use Rattle.lwc_base.specs.World.{empty_world, nothing_counted}
use Rattle.lwc_types.specs.declared.key.Key.TheVariants.{Page, Slot, Cred}
use Rattle.lwc_types.specs.declared.size.WorldSize.{WorldSize}
use Rattle.world_face.specs.Calls.{IsSize}
use Rattle.lazy_world.specs.Registers.{KeptRegisters}
use Rattle.cow_space.specs.Cells.{all_write}
use Rattle.lazy_world.specs.Cells.{no_row}
use Rattle.ctx_table.specs.NameTables.{NameTable}
use Rattle.lazy_world.specs.Sound.{IsEmpty, IsSound}
use Rattle.lazy_world.specs.States.{Parts, context_at, group_at, world_of}
use Rattle.lazy_world.proofs.AddLemmas.{no_common, no_tag, no_tags}
use Rattle.lazy_world.proofs.MappedLemmas.{mapped-empty}
use Rattle.lwc_base.proofs.Facts.{stays_fresh}
use Rattle.lwc_types.proofs.Small.{at-new}

pub nothing_there : IsEmpty no_row
nothing_there (Page p) = refl
nothing_there (Slot n) = refl
nothing_there Cred = refl

-- no name, and this number of places
abbrev pub no_names : ℕ → NameTable
no_names places = record { map = fm.empty; places = replicate places None }

module _ (size : WorldSize) (is_size : IsSize size) (registers : List KeptRegisters) (many : length registers ≡ size.contexts) where
  abbrev pub opened : Parts
  opened = record {
    size = size;
    rows = λ i. no_row;
    rights = λ i. all_write;
    registers = registers;
    contexts = no_names size.contexts;
    groups = no_names size.groups;
    counts = replicate size.jobs nothing_counted;
  }

  pub world-opened : world_of opened ≡ empty_world size
  unfolding world_of empty_world
  world-opened = λ e. record {
    contexts = mapped-empty (context_at opened) e;
    groups = mapped-empty (group_at opened) e;
    next = λ job. at-new size.jobs job nothing_counted e;
    size = size;
  }

  pub sound-opened : IsSound opened
  sound-opened = record {
    sizes = record {
      size = is_size;
      registers = many;
      contexts = length-replicate size.contexts None;
      groups = length-replicate size.groups None;
      counts = length-replicate size.jobs nothing_counted;
    };
    past = λ i k past. nothing_there k;
    own = λ j k. refl;
    free = λ i low none. nothing_there;
    free_groups = λ j none. nothing_there;
    tags = λ i. no_tags (world_of opened).next no_row nothing_there;
    fresh = subst IsFresh (sym world-opened) (stays_fresh.empty size);
    homes = λ i j p q tag a b at_p at_q. absurd (no_tag no_row nothing_there p tag a at_p);
    pages = λ i p g is. absurd (no_common no_row nothing_there p g is);
  }
