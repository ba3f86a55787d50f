-- What is asked and changed for a job: the same where worlds look alike to it, and nothing that other jobs
-- see.
use Rattle.std.specs.Prelude.{◌≡◌, ℕ, Bool, List}
use Rattle.lwc_base.specs.declared.item.Item.{Item}
use Rattle.lwc_base.specs.Cells.{put_at, value_at}
use Rattle.lwc_base.specs.Keys.{ValueOf}
use Rattle.lwc_base.specs.Mapping.{mapped_or_not}
use Rattle.lwc_base.specs.Memory.{bytes_for, is_present}
use Rattle.lwc_base.specs.Rights.{is_writable}
use Rattle.lwc_base.specs.Overlay.{overlay, ranges_after_overlay}
use Rattle.lwc_base.specs.Ranges.{ranges_of}
use Rattle.lwc_base.specs.Saved.{entered, save}
use Rattle.lwc_base.specs.Sharing.{clone_context, needs_group, ranges_after_clone}
use Rattle.lwc_base.specs.Slots.{lowest_empty}
use Rattle.lwc_base.specs.Store.{Piece, after_store, parting_count}
use Rattle.lwc_base.specs.World.{World, context, groups_of, is_live, live_of}
use Rattle.lwc_types.specs.declared.key.Key.{Key}
use Rattle.lwc_types.specs.declared.name.Name.{Name}
use Rattle.lwc_types.specs.declared.regs.Regs.{Regs}
use Rattle.world_views.specs.ByJob.{Home, IsValueOf, KeepsJobs, LooksAlike}
use Rattle.world_views.specs.Views.{seen_by, view}

-- what is asked of a context, and of its job, has the same answer in two worlds
pub record AnswersAlike (t s : ℕ) (c : Name) (w v : World) : Type 0 where
  pub live : is_live w c ≡ is_live v c
  pub seen : seen_by t (context w c) ≡ seen_by s (context v c)
  pub enters : entered (context w c) t ≡ entered (context v c) s
  pub value : (k : Key) → value_at w c k ≡ value_at v c k
  pub next : w.next c.job ≡ v.next c.job
  pub pages : w.size.pages ≡ v.size.pages
  pub lowest : lowest_empty w c ≡ lowest_empty v c
  pub bytes : (at count : ℕ) → bytes_for w c at count ≡ bytes_for v c at count
  pub contexts : live_of w c.job ≡ live_of v c.job
  pub groups : groups_of w c.job ≡ groups_of v c.job
  pub needs : (items : List Item) → needs_group w c items ≡ needs_group v c items
  pub ranges : ranges_of w c ≡ ranges_of v c
  pub cloned : (items : List Item) → ranges_after_clone w c c.job items ≡ ranges_after_clone v c c.job items
  pub overlaid : (d : Name) (items : List Item) → d.job ≡ c.job →
      ranges_after_overlay w c d c.job items ≡ ranges_after_overlay v c d c.job items
  pub present : (at count : ℕ) → is_present w c at count ≡ is_present v c at count
  pub writable : (at count : ℕ) → is_writable w c at count ≡ is_writable v c at count
  pub parting : (piece : Piece) → parting_count w c piece ≡ parting_count v c piece

-- each change of a context that its job makes leaves two worlds alike to the job
pub record ChangesAlike (home : Home) (t s : ℕ) (c : Name) (w v : World) : Type 0 where
  pub put : (k : Key) (value : ValueOf k) → IsValueOf home c.job k value →
      LooksAlike home c.job t s (put_at w c k value) (put_at v c k value)
  pub store : (piece : Piece) →
      LooksAlike home c.job t s (after_store w c c.job piece) (after_store v c c.job piece)
  pub map : (from to : ℕ) (present : Bool) →
      LooksAlike home c.job t s (mapped_or_not w c from to present) (mapped_or_not v c from to present)
  pub save : (regs : Regs) → LooksAlike home c.job t s (save w c t regs) (save v c s regs)
  pub clone : (items : List Item) (entry : Regs) →
      LooksAlike home c.job t s (clone_context w c c.job items entry) (clone_context v c c.job items entry)
  pub overlay : (d : Name) (items : List Item) → d.job ≡ c.job →
      LooksAlike home c.job t s (overlay w c d c.job items) (overlay v c d c.job items)

-- after each change of a context that its job makes, each job has what is its own
pub record ChangesKeepJobs (home : Home) (c : Name) (w : World) : Type 0 where
  pub put : (k : Key) (value : ValueOf k) → IsValueOf home c.job k value → KeepsJobs home (put_at w c k value)
  pub store : (piece : Piece) → KeepsJobs home (after_store w c c.job piece)
  pub map : (from to : ℕ) (present : Bool) → KeepsJobs home (mapped_or_not w c from to present)
  pub save : (t : ℕ) (regs : Regs) → KeepsJobs home (save w c t regs)
  pub clone : (items : List Item) (entry : Regs) → KeepsJobs home (clone_context w c c.job items entry)
  pub overlay : (d : Name) (items : List Item) → d.job ≡ c.job → KeepsJobs home (overlay w c d c.job items)

-- another job does not see a change of a context that its job makes
pub record ChangesHidden (job t : ℕ) (c : Name) (w : World) : Type 0 where
  pub put : (k : Key) (value : ValueOf k) → view job t (put_at w c k value) ≡ view job t w
  pub store : (piece : Piece) → view job t (after_store w c c.job piece) ≡ view job t w
  pub map : (from to : ℕ) (present : Bool) → view job t (mapped_or_not w c from to present) ≡ view job t w
  pub save : (s : ℕ) (regs : Regs) → view job t (save w c s regs) ≡ view job t w
  pub clone : (items : List Item) (entry : Regs) →
      view job t (clone_context w c c.job items entry) ≡ view job t w
  pub overlay : (d : Name) (items : List Item) → d.job ≡ c.job →
      view job t (overlay w c d c.job items) ≡ view job t w
