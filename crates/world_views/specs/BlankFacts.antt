-- What is asked of other contexts, and changed of them, where one context is blank: the same.
use Rattle.std.specs.Prelude.{◌≡◌, ◌≢◌, ◌⊎◌, ℕ, Bool, true, false, List, []}
use Rattle.std.specs.FinMap as fm
use Rattle.lwc_base.specs.Cells.{put_at, put_slot, put_uid, slot_at, uid_at, value_at}
use Rattle.lwc_base.specs.Frames.{used}
use Rattle.lwc_base.specs.Keys.{ValueOf}
use Rattle.lwc_base.specs.Life.{reap}
use Rattle.lwc_base.specs.Mapping.{mapped_or_not}
use Rattle.lwc_base.specs.Memory.{bytes_for}
use Rattle.lwc_base.specs.Overlay.{overlay, ranges_after_overlay}
use Rattle.lwc_base.specs.Ranges.{ranges_of}
use Rattle.lwc_base.specs.Saved.{entered, save}
use Rattle.lwc_base.specs.Sharing.{clone_context, needs_group, ranges_after_clone}
use Rattle.lwc_base.specs.Slots.{lowest_empty}
use Rattle.lwc_base.specs.Store.{Piece, store}
use Rattle.lwc_base.specs.Summaries.{summary_of}
use Rattle.lwc_base.specs.World.{World, Context, context, groups_of, is_live, live_of, next_context}
use Rattle.lwc_base.specs.declared.descriptor.Descriptor.{Descriptor}
use Rattle.lwc_base.specs.declared.item.Item.{Item}
use Rattle.lwc_types.specs.declared.key.Key.{Key}
use Rattle.lwc_types.specs.declared.name.Name.{Name}
use Rattle.lwc_types.specs.declared.regs.Regs.{Regs}
use Rattle.world_views.specs.Blank.{blank, blank_context, blank_stored, tells_registers}

-- items are taken from another context than the blank one, or there are none
abbrev pub TakesNothingOf : Name → Name → List Item → Type 0
TakesNothingOf v d items = (d ≢ v) ⊎ (items ≡ [])

-- what is asked of a context
pub record AsksAlike (keep : Bool) (v c : Name) (w : World) : Type 0 where
  pub value : (k : Key) → value_at (blank keep v w) c k ≡ value_at w c k
  pub bytes : (at count : ℕ) → bytes_for (blank keep v w) c at count ≡ bytes_for w c at count
  pub cloned : (job : ℕ) (items : List Item) →
      ranges_after_clone (blank keep v w) c job items ≡ ranges_after_clone w c job items
  pub overlaid : (d : Name) (job : ℕ) (items : List Item) → TakesNothingOf v d items →
      ranges_after_overlay (blank keep v w) c d job items ≡ ranges_after_overlay w c d job items

-- what changes a context
pub record ChangesAlike (keep : Bool) (v c : Name) (w : World) : Type 0 where
  pub put : (k : Key) (value : ValueOf k) → put_at (blank keep v w) c k value ≡ blank keep v (put_at w c k value)
  pub store : (job : ℕ) (piece : Piece) → store (blank keep v w) c job piece ≡ blank_stored keep v (store w c job piece)
  pub save : (t : ℕ) (regs : Regs) → save (blank keep v w) c t regs ≡ blank keep v (save w c t regs)
  pub clone : (job : ℕ) (items : List Item) (entry : Regs) → next_context w job ≢ v →
      clone_context (blank keep v w) c job items entry ≡ blank keep v (clone_context w c job items entry)
  pub overlay : (d : Name) (job : ℕ) (items : List Item) → TakesNothingOf v d items →
      overlay (blank keep v w) c d job items ≡ blank keep v (overlay w c d job items)

-- what is so of each context, the blank one too, and of the whole world; a thread enters a blank context without
-- registers with those that it begins with
pub record BlanksAlike (keep : Bool) (v : Name) (w : World) : Type 0 where
  pub live : (c : Name) → is_live (blank keep v w) c ≡ is_live w c
  pub slot : (c : Name) (n : ℕ) → slot_at (blank keep v w) c n ≡ slot_at w c n
  pub uid : (c : Name) → uid_at (blank keep v w) c ≡ uid_at w c
  pub lowest : (c : Name) → lowest_empty (blank keep v w) c ≡ lowest_empty w c
  pub contexts : (job : ℕ) → live_of (blank keep v w) job ≡ live_of w job
  pub groups : (job : ℕ) → groups_of (blank keep v w) job ≡ groups_of w job
  pub used : used (blank keep v w) ≡ used w
  pub summary : (c : Name) → summary_of (blank keep v w) c ≡ summary_of w c
  pub needs : (c : Name) (items : List Item) → needs_group (blank keep v w) c items ≡ needs_group w c items
  pub ranges : (c : Name) → ranges_of (blank keep v w) c ≡ ranges_of w c
  pub keys : fm.keys (blank keep v w).contexts ≡ fm.keys w.contexts
  pub enters : (c : Name) (t : ℕ) → tells_registers keep v c ≡ true →
      entered (context (blank keep v w) c) t ≡ entered (context w c) t
  pub put_slot : (c : Name) (n : ℕ) (value : Descriptor) →
      put_slot (blank keep v w) c n value ≡ blank keep v (put_slot w c n value)
  pub put_uid : (c : Name) (uid : ℕ) → put_uid (blank keep v w) c uid ≡ blank keep v (put_uid w c uid)
  pub map : (c : Name) (from to : ℕ) (present : Bool) →
      mapped_or_not (blank keep v w) c from to present ≡ blank keep v (mapped_or_not w c from to present)
  pub forgets : (t : ℕ) (regs : Regs) → keep ≡ false → blank keep v (save w v t regs) ≡ blank keep v w
  pub insert : (x : Context) → blank keep v (record w { contexts = fm.insert w.contexts v x })
      ≡ record w { contexts = fm.insert w.contexts v (blank_context keep x) }
  pub reap : (roots : List Name) → reap (blank keep v w) roots ≡ blank keep v (reap w roots)
