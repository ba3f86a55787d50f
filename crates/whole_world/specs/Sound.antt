-- What a world of whole copies keeps true of itself.
use Rattle.std.specs.Prelude.{◌≡◌, ℕ, ◌<◌, ◌≤◌, List, T, ⊤, length, vec_len, All}
use Rattle.std.specs.Coded.{Unit-prop, le_prop}
use Rattle.std.specs.FinMap as fm
use Rattle.lwc_base.specs.declared.cell.Cell.{Cell}
use Rattle.lwc_base.specs.declared.cell.Cell.TheVariants.{Common, Own}
use Rattle.lwc_base.specs.Fresh.{IsFresh, named_groups}
use Rattle.lwc_base.specs.Holders.{InCell}
use Rattle.lwc_base.specs.Keys.{ValueOf}
use Rattle.lwc_types.specs.declared.key.TheConstants.{SLOTS}
use Rattle.lwc_types.specs.declared.counters.Counters.{Counters}
use Rattle.lwc_types.specs.declared.key.Key.{Key}
use Rattle.lwc_types.specs.declared.key.Key.TheVariants.{Page, Slot, Cred}
use Rattle.lwc_types.specs.declared.limits.TheConstants.{MOST_CONTEXTS, MOST_GROUPS, MOST_PAGES}
use Rattle.lwc_types.specs.declared.name.Name.{Name}
use Rattle.lwc_types.specs.declared.size.WorldSize.{WorldSize}
use Rattle.lwc_types.specs.Names.{name_cmp}
use Rattle.whole_world.specs.declared.context_row.ContextRow.{ContextRow}
use Rattle.whole_world.specs.declared.group_row.GroupRow.{GroupRow}
use Rattle.whole_world.specs.States.{world_of}

-- a row of a context has this number of pages, each with a right, and all slots
pub record IsWhole (count : ℕ) (row : ContextRow) : Type 0 where
  pub pages : vec_len row.pages ≡ count
  pub rights : vec_len row.rights ≡ count
  pub slots : vec_len row.slots ≡ SLOTS

-- a row of a group has this number of pages, and all slots
pub record IsWholeGroup (count : ℕ) (row : GroupRow) : Type 0 where
  pub pages : vec_len row.pages ≡ count
  pub slots : vec_len row.slots ≡ SLOTS

-- a key that there is, where there are this many pages and slots
abbrev pub HasKey : ℕ → ℕ → Key → Type 0
HasKey pages slots (Page p) = p < pages
HasKey pages slots (Slot n) = n < slots
HasKey pages slots Cred = ⊤

-- a key that there is, or any page, where there are this many slots
abbrev pub HasSlot : ℕ → Key → Type 0
HasSlot slots (Slot n) = n < slots
HasSlot slots k = ⊤

-- a row of a context has as many pages, rights and slots as it had
pub record HasSizeOf (old new : ContextRow) : Type 0 where
  pub pages : vec_len new.pages ≡ vec_len old.pages
  pub rights : vec_len new.rights ≡ vec_len old.rights
  pub slots : vec_len new.slots ≡ vec_len old.slots

-- a row of a group has as many
pub record HasGroupSizeOf (old new : GroupRow) : Type 0 where
  pub pages : vec_len new.pages ≡ vec_len old.pages
  pub slots : vec_len new.slots ≡ vec_len old.slots

-- the sizes are within the limits, rows are whole and in the order of their names, and jobs have counted each
-- name
pub record IsSound (size : WorldSize) (contexts : List (Name × ContextRow)) (groups : List (Name × GroupRow))
    (counts : List Counters) : Type 0 where
  pub some_job : 1 ≤ size.jobs
  pub few_pages : size.pages ≤ MOST_PAGES
  pub size_contexts : size.contexts ≤ MOST_CONTEXTS
  pub size_groups : size.groups ≤ MOST_GROUPS
  pub few_contexts : length contexts ≤ size.contexts
  pub few_groups : length groups ≤ size.groups
  pub counted : length counts ≡ size.jobs
  pub contexts_sorted : T (fm.is_sorted name_cmp contexts)
  pub groups_sorted : T (fm.is_sorted name_cmp groups)
  pub contexts_whole : All (λ row. IsWhole size.pages row.1) contexts
  pub groups_whole : All (λ row. IsWholeGroup size.pages row.1) groups
  pub fresh : IsFresh (world_of size contexts groups counts)

-- a cell keeps to the groups that have been named in at most one way
pub named_cell-prop : (next : ℕ → Counters) (job : ℕ) (k : Key) (cell : Cell (ValueOf k)) →
    IsProp (InCell (named_groups next) job k cell)
named_cell-prop next job k (Own value) = Unit-prop
named_cell-prop next job k (Common g) = le_prop
