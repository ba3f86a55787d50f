-- What each change of a world makes, and what it leaves as it was, for the crates above.
use Rattle.std.specs.Prelude.{◌≡◌, ◌≢◌, ℕ, ◌+◌, ◌≤◌, ◌==◌, ◌&&◌, if◌then◌else◌, List, false, true}
use Rattle.std.specs.Cmp.{IsTotalOrder}
use Rattle.std.specs.FinMap as fm
use Rattle.lwc_base.specs.declared.cell.Cell.TheVariants.{Own, Common}
use Rattle.lwc_base.specs.declared.item.Item.{Item}
use Rattle.lwc_base.specs.Cells.{put_at, with_cell, with_value}
use Rattle.lwc_base.specs.Fresh.{IsFresh, IsNamedContext, IsNamedGroup, Rises, named_groups}
use Rattle.lwc_base.specs.Holders.{InContext, IsGroup}
use Rattle.lwc_base.specs.Keys.{ValueOf, is_there}
use Rattle.lwc_base.specs.Mapping.{map_pages, unmap_pages, with_zeros, without_pages}
use Rattle.lwc_base.specs.Life.{reap}
use Rattle.lwc_base.specs.Overlay.{overlay, with_overlay}
use Rattle.lwc_base.specs.Saved.{save, with_saved}
use Rattle.lwc_base.specs.Sharing.{clone_context, cloned_context, moved_values, needs_group, share, with_shared}
use Rattle.lwc_base.specs.Store.{Piece, after_store, parting_count, put_pages}
use Rattle.lwc_base.specs.World.{World, Context, Group, add_context, add_group, change_context}
use Rattle.lwc_base.specs.World.{change_counters, change_group, context, empty_world, group, groups_of, is_live}
use Rattle.lwc_base.specs.World.{live_of, next_context, next_group}
use Rattle.lwc_types.specs.declared.counters.Counters.{Counters}
use Rattle.lwc_types.specs.declared.key.Key.{Key}
use Rattle.lwc_types.specs.declared.name.Name.{Name}
use Rattle.lwc_types.specs.declared.page.PageValue.{PageValue}
use Rattle.lwc_types.specs.declared.regs.Regs.{Regs}
use Rattle.lwc_types.specs.declared.size.WorldSize.{WorldSize}
use Rattle.lwc_types.specs.Names.{name_cmp, tag_cmp}

-- the same names live, nothing more is counted, and the size is the same
pub record KeepsNames (w v : World) : Type 0 where
  pub live : (c : Name) → is_live v c ≡ is_live w c
  pub groups : (g : Name) → fm.contains_key v.groups g ≡ fm.contains_key w.groups g
  pub next : v.next ≡ w.next
  pub size : v.size ≡ w.size

-- at most one context has changed, by a function, if it is live
pub record ChangesContext (w : World) (c : Name) (change : Context → Context) (v : World) : Type 0 where
  pub names : KeepsNames w v
  pub changed : is_live w c ≡ true → context v c ≡ change (context w c)
  pub same : is_live w c ≡ false → v ≡ w
  pub others : (d : Name) → d ≢ c → context v d ≡ context w d
  pub groups : (g : Name) → group v g ≡ group w g

-- at most one group has changed, by a function, if it is live
pub record ChangesGroup (w : World) (g : Name) (change : Group → Group) (v : World) : Type 0 where
  pub names : KeepsNames w v
  pub changed : IsGroup w g → group v g ≡ change (group w g)
  pub same : fm.contains_key w.groups g ≡ false → v ≡ w
  pub others : (h : Name) → h ≢ g → group v h ≡ group w h
  pub contexts : (c : Name) → context v c ≡ context w c

-- what jobs have counted, with one more context of a job
abbrev pub with_context : (ℕ → Counters) → ℕ → ℕ → Counters
with_context next job j = if j == job then record (next j) { contexts = (next j).contexts + 1 } else next j

-- what jobs have counted, with one more group of a job
abbrev pub with_group : (ℕ → Counters) → ℕ → ℕ → Counters
with_group next job j = if j == job then record (next j) { groups = (next j).groups + 1 } else next j

-- what jobs have counted, with a number of tags more of a job
abbrev pub with_tags : (ℕ → Counters) → ℕ → ℕ → ℕ → Counters
with_tags next job count j = if j == job then record (next j) { tags = (next j).tags + count } else next j

-- a job's next context is there
pub record AddsContext (w : World) (job : ℕ) (x : Context) (v : World) : Type 0 where
  pub live : is_live v (next_context w job) ≡ true
  pub added : context v (next_context w job) ≡ x
  pub still_live : (c : Name) → c ≢ next_context w job → is_live v c ≡ is_live w c
  pub others : (c : Name) → c ≢ next_context w job → context v c ≡ context w c
  pub groups : v.groups ≡ w.groups
  pub next : v.next ≡ with_context w.next job
  pub size : v.size ≡ w.size

-- a job's next group is there
pub record AddsGroup (w : World) (job : ℕ) (x : Group) (v : World) : Type 0 where
  pub live : IsGroup v (next_group w job)
  pub added : group v (next_group w job) ≡ x
  pub still_live : (g : Name) → g ≢ next_group w job → fm.contains_key v.groups g ≡ fm.contains_key w.groups g
  pub others : (g : Name) → g ≢ next_group w job → group v g ≡ group w g
  pub contexts : v.contexts ≡ w.contexts
  pub next : v.next ≡ with_group w.next job
  pub size : v.size ≡ w.size

-- the values that items move out of a context are in a job's next group, if there are any
pub record SharesValues (w : World) (c : Name) (job : ℕ) (items : List Item) (v : World) : Type 0 where
  pub none : needs_group w c items ≡ false → v ≡ w
  pub moved : needs_group w c items ≡ true → group v (next_group w job) ≡ moved_values items (context w c)
  pub named : needs_group w c items ≡ true → is_live w c ≡ true →
      context v c ≡ with_shared (next_group w job) items (context w c)
  pub dead : is_live w c ≡ false → context v c ≡ context w c
  pub others : (d : Name) → d ≢ c → context v d ≡ context w d
  pub groups : (g : Name) → g ≢ next_group w job → group v g ≡ group w g
  pub live : (d : Name) → is_live v d ≡ is_live w d
  pub new_group : needs_group w c items ≡ true → IsGroup v (next_group w job)
  pub still_live : (g : Name) → g ≢ next_group w job → fm.contains_key v.groups g ≡ fm.contains_key w.groups g
  pub next : needs_group w c items ≡ true → v.next ≡ with_group w.next job
  pub size : v.size ≡ w.size

-- the same names live, a job has taken a number of tags more, and the size is the same
pub record TakesTags (w : World) (job count : ℕ) (v : World) : Type 0 where
  pub live : (c : Name) → is_live v c ≡ is_live w c
  pub groups : (g : Name) → fm.contains_key v.groups g ≡ fm.contains_key w.groups g
  pub next : v.next ≡ with_tags w.next job count
  pub size : v.size ≡ w.size

-- the orders of names and of tags are total, and only equal ones tie
pub record OrderFacts : Type 0 where
  pub names : IsTotalOrder name_cmp
  pub one_name : fm.IsAntisymmetric name_cmp
  pub tags : IsTotalOrder tag_cmp
  pub one_tag : fm.IsAntisymmetric tag_cmp

-- what each change of a world makes and leaves
pub record ChangeFacts : Type 0 where
  pub same_contexts : (w v : World) (c : Name) → v.contexts ≡ w.contexts → context v c ≡ context w c
  pub same_groups : (w v : World) (g : Name) → v.groups ≡ w.groups → group v g ≡ group w g
  pub context_changed : (w : World) (c : Name) (f : Context → Context) →
      ChangesContext w c f (change_context w c f)
  pub group_changed : (w : World) (g : Name) (f : Group → Group) → ChangesGroup w g f (change_group w g f)
  pub context_added : (w : World) (job : ℕ) (x : Context) → AddsContext w job x (add_context w job x)
  pub group_added : (w : World) (job : ℕ) (x : Group) → AddsGroup w job x (add_group w job x)
  pub put : (w : World) (c : Name) (k : Key) (value : ValueOf k) → KeepsNames w (put_at w c k value)
  pub put_own : (w : World) (c : Name) (k : Key) (old value : ValueOf k) → (context w c).cell k ≡ Own old →
      is_there k old ≡ true →
      put_at w c k value ≡ change_context w c (with_cell k (Own value))
  pub put_common : (w : World) (c : Name) (k : Key) (g : Name) (value : ValueOf k) →
      (context w c).cell k ≡ Common g →
      put_at w c k value ≡ change_group w g (with_value k value)
  pub pages_put : (w : World) (c : Name) (values : List (ℕ × PageValue)) → KeepsNames w (put_pages w c values)
  pub mapped : (w : World) (c : Name) (from to : ℕ) →
      ChangesContext w c (with_zeros from to) (map_pages w c from to)
  pub unmapped : (w : World) (c : Name) (from to : ℕ) →
      ChangesContext w c (without_pages from to) (unmap_pages w c from to)
  pub stored : (w : World) (c : Name) (job : ℕ) (piece : Piece) →
      TakesTags w job (parting_count w c piece) (after_store w c job piece)
  pub shared : (w : World) (c : Name) (job : ℕ) (items : List Item) →
      SharesValues w c job items (share w c job items)
  pub next_shared : (w : World) (c : Name) (job j : ℕ) (items : List Item) →
      next_context (share w c job items) j ≡ next_context w j
  pub cloned : (w : World) (c : Name) (job : ℕ) (items : List Item) (entry : Regs) →
      AddsContext (share w c job items) job (cloned_context (share w c job items) c items entry)
      (clone_context w c job items entry)
  pub saved : (w : World) (c : Name) (t : ℕ) (regs : Regs) →
      ChangesContext w c (with_saved t regs) (save w c t regs)
  pub overlaid : (w : World) (c d : Name) (job : ℕ) (items : List Item) →
      ChangesContext (share w d job items) c (with_overlay (share w d job items) d items)
      (overlay w c d job items)

-- at most as many names live as in another world
pub record HasFewer (w v : World) : Type 0 where
  pub live_of : (job : ℕ) → live_of v job ≤ live_of w job
  pub groups_of : (job : ℕ) → groups_of v job ≤ groups_of w job
  pub contexts : fm.len v.contexts ≤ fm.len w.contexts
  pub groups : fm.len v.groups ≤ fm.len w.groups

-- the number of live names after each change of them
pub record CountFacts : Type 0 where
  pub same_contexts : (w v : World) (job : ℕ) → ((c : Name) → is_live v c ≡ is_live w c) →
      (live_of v job ≡ live_of w job) × (fm.len v.contexts ≡ fm.len w.contexts)
  pub same_groups : (w v : World) (job : ℕ) → ((g : Name) →
      fm.contains_key v.groups g ≡ fm.contains_key w.groups g) →
      (groups_of v job ≡ groups_of w job) × (fm.len v.groups ≡ fm.len w.groups)
  pub context_added : (w v : World) (job j : ℕ) (x : Context) → IsFresh w → AddsContext w job x v →
      (live_of v j ≡ (if j == job then live_of w j + 1 else live_of w j)) × (fm.len v.contexts
      ≡ fm.len w.contexts + 1)
  pub group_added : (w v : World) (job j : ℕ) (x : Group) → IsFresh w → AddsGroup w job x v →
      (groups_of v j ≡ (if j == job then groups_of w j + 1 else groups_of w j)) × (fm.len v.groups
      ≡ fm.len w.groups + 1)
  pub shared : (w v : World) (c : Name) (job j : ℕ) (items : List Item) → IsFresh w →
      SharesValues w c job items v →
      (groups_of v j ≡ (if needs_group w c items && j == job then groups_of w j + 1 else groups_of w j))
      × (fm.len v.groups ≡ (if needs_group w c items then fm.len w.groups + 1 else fm.len w.groups))
  pub reaped : (w : World) (roots : List Name) → HasFewer w (reap w roots)

-- the next names of a fresh world are new, and each change of it keeps it fresh
pub record FreshFacts : Type 0 where
  pub next_context_is_new : (w : World) (job : ℕ) → IsFresh w → is_live w (next_context w job) ≡ false
  pub next_group_is_new : (w : World) (job : ℕ) → IsFresh w →
      fm.contains_key w.groups (next_group w job) ≡ false
  pub named : (w : World) (c : Name) (k : Key) (g : Name) → IsFresh w → (context w c).cell k ≡ Common g →
      IsNamedGroup w.next g
  pub empty : (size : WorldSize) → IsFresh (empty_world size)
  pub context_inserted : (w : World) (c : Name) (x : Context) → IsNamedContext w.next c →
      InContext (named_groups w.next) c.job x →
      IsFresh w → IsFresh (record w { contexts = fm.insert w.contexts c x })
  pub group_inserted : (w : World) (g : Name) (x : Group) → IsNamedGroup w.next g → IsFresh w →
      IsFresh (record w { groups = fm.insert w.groups g x })
  pub context_changed : (w : World) (c : Name) (f : Context → Context) →
      (is_live w c ≡ true → InContext (named_groups w.next) c.job (context w c) →
      InContext (named_groups w.next) c.job (f (context w c))) →
      IsFresh w → IsFresh (change_context w c f)
  pub group_changed : (w : World) (g : Name) (f : Group → Group) → IsFresh w → IsFresh (change_group w g f)
  pub counted : (w : World) (job : ℕ) (f : Counters → Counters) → Rises (w.next job) (f (w.next job)) →
      IsFresh w → IsFresh (change_counters w job f)
  pub context_added : (w : World) (job : ℕ) (x : Context) → InContext (named_groups w.next) job x →
      IsFresh w → IsFresh (add_context w job x)
  pub group_added : (w : World) (job : ℕ) (x : Group) → IsFresh w → IsFresh (add_group w job x)
  pub put : (w : World) (c : Name) (k : Key) (value : ValueOf k) → IsFresh w → IsFresh (put_at w c k value)
  pub pages_put : (w : World) (c : Name) (values : List (ℕ × PageValue)) → IsFresh w →
      IsFresh (put_pages w c values)
  pub mapped : (w : World) (c : Name) (from to : ℕ) → IsFresh w → IsFresh (map_pages w c from to)
  pub unmapped : (w : World) (c : Name) (from to : ℕ) → IsFresh w → IsFresh (unmap_pages w c from to)
  pub stored : (w : World) (c : Name) (job : ℕ) (piece : Piece) → IsFresh w →
      IsFresh (after_store w c job piece)
  pub shared : (w : World) (c : Name) (job : ℕ) (items : List Item) → is_live w c ≡ true → IsFresh w →
      IsFresh (share w c job items)
  pub clone_cells : (w : World) (c : Name) (job : ℕ) (items : List Item) (entry : Regs) →
      is_live w c ≡ true → IsFresh w →
      InContext (named_groups w.next) job (cloned_context w c items entry)
  pub cloned : (w : World) (c : Name) (job : ℕ) (items : List Item) (entry : Regs) → is_live w c ≡ true →
      IsFresh w →
      IsFresh (clone_context w c job items entry)
  pub saved : (w : World) (c : Name) (t : ℕ) (regs : Regs) → IsFresh w → IsFresh (save w c t regs)
  pub overlaid : (w : World) (c d : Name) (job : ℕ) (items : List Item) → is_live w c ≡ true →
      is_live w d ≡ true → IsFresh w → IsFresh (overlay w c d job items)
  pub reaped : (w : World) (roots : List Name) → IsFresh w → IsFresh (reap w roots)
