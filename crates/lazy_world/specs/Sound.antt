-- What a world by shared pages keeps true of itself.
use Rattle.std.specs.Prelude.{◌≡◌, ℕ, ◌+◌, ◌<◌, ◌≤◌, List, None, Some, is_some, length, slice_index_or, true}
use Rattle.std.specs.Coded.{Unit-prop, le_prop}
use Rattle.lwc_base.specs.declared.cell.Cell.{Cell}
use Rattle.lwc_base.specs.declared.cell.Cell.TheVariants.{Common, Own}
use Rattle.lwc_base.specs.Fresh.{IsFresh, named_groups}
use Rattle.lwc_base.specs.Holders.{InCell}
use Rattle.lwc_base.specs.Keys.{ValueOf}
use Rattle.lwc_base.specs.Modes.{kind_of, limit, number_of}
use Rattle.lwc_base.specs.World.{group}
use Rattle.lwc_types.specs.declared.key.Key.{Key}
use Rattle.lwc_types.specs.declared.counters.Counters.{Counters}
use Rattle.lwc_types.specs.declared.key.Key.TheVariants.{Page}
use Rattle.lwc_types.specs.declared.name.Name.{Name}
use Rattle.lwc_types.specs.declared.name.Tag.{Tag}
use Rattle.lwc_types.specs.declared.page.PageValue.TheVariants.{Data}
use Rattle.world_face.specs.Calls.{IsSize}
use Rattle.lazy_world.specs.Cells.{Row, is_nothing, is_own}
use Rattle.lazy_world.specs.States.{Parts, world_of}

-- there is a place for each context and group, and numbers for each job
pub record HasSize (s : Parts) : Type 0 where
  pub size : IsSize s.size
  pub registers : length s.registers ≡ s.size.contexts
  pub contexts : length s.contexts.places ≡ s.size.contexts
  pub groups : length s.groups.places ≡ s.size.groups
  pub counts : length s.counts ≡ s.size.jobs

-- a row has nothing past the keys that there are
abbrev pub IsWithin : ℕ → Row → Type 0
IsWithin pages row = (k : Key) → limit pages (kind_of k) ≤ number_of k → is_nothing k (row k) ≡ true

-- a row has nothing but a credential
abbrev pub IsEmpty : Row → Type 0
IsEmpty row = (k : Key) → is_nothing k (row k) ≡ true

-- each cell of a row is the place's own
abbrev pub IsAllOwn : Row → Type 0
IsAllOwn row = (k : Key) → is_own (row k) ≡ true

-- a job has taken each tag of a row
abbrev pub HasOldTags : (ℕ → Counters) → Row → Type 0
HasOldTags next row =
    (p : ℕ) (tag : Tag) (bytes : List ℕ) → row (Page p) ≡ Own (Some (Data tag bytes)) → tag.k < (next tag.job).tags

-- each tag of rows stands under one page number
abbrev pub HasOneHome : (ℕ → Row) → Type 0
HasOneHome rows = (i j p q : ℕ) (tag : Tag) (a b : List ℕ) → rows i (Page p) ≡ Own (Some (Data tag a)) →
    rows j (Page q) ≡ Own (Some (Data tag b)) → p ≡ q

-- each page that a cell names a group for is there in the group
abbrev pub HasItsPages : Parts → Type 0
HasItsPages s =
    (i p : ℕ) (g : Name) → s.rows i (Page p) ≡ Common g → is_some ((group (world_of s) g).value (Page p)) ≡ true

-- sizes are within the limits, free places are empty, groups' cells are their own, all names and tags are
-- old, each tag stands under one page number, and groups have the pages that cells name them for
pub record IsSound (s : Parts) : Type 0 where
  pub sizes : HasSize s
  pub past : (i : ℕ) → IsWithin s.size.pages (s.rows i)
  pub own : (j : ℕ) → IsAllOwn (s.rows (s.size.contexts + j))
  pub free : (i : ℕ) → i < s.size.contexts → slice_index_or s.contexts.places i None ≡ None → IsEmpty (s.rows i)
  pub free_groups : (j : ℕ) → slice_index_or s.groups.places j None ≡ None → IsEmpty (s.rows (s.size.contexts + j))
  pub tags : (i : ℕ) → HasOldTags (world_of s).next (s.rows i)
  pub fresh : IsFresh (world_of s)
  pub homes : HasOneHome s.rows
  pub pages : HasItsPages s

-- a cell keeps to the groups that have been named in at most one way
pub named_cell-prop : (next : ℕ → Counters) (job : ℕ) (k : Key) (cell : Cell (ValueOf k)) →
    IsProp (InCell (named_groups next) job k cell)
named_cell-prop next job k (Own value) = Unit-prop
named_cell-prop next job k (Common g) = le_prop
