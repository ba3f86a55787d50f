-- What is read in a context is the same in two worlds that look alike to its job.
use Rattle.std.proofs.Common.{◌≡◌, ℕ, zero, suc, ◌+◌, ◌*◌, ◌/◌, ◌%◌, refl, sym, ap, subst, ◌∙◌, cond, eqb, leb, Option, Some, None, List, [], map}
use Rattle.std.specs.Prelude.{count_by, is_some, slice_index, unwrap_or}
use Rattle.std.specs.List.{find, list_all, range_with_len}
use Rattle.std.specs.Option.{option_map_or}
use Rattle.std.specs.FinMap as fm
use Rattle.lwc_base.specs.Cells.{value_at, value_of}
use Rattle.lwc_base.specs.Holders.{InCell, Keeps}
use Rattle.lwc_base.specs.Keys.{ValueOf}
use Rattle.lwc_base.specs.Memory.{byte_at, bytes_for, is_present, load, touched}
use Rattle.lwc_base.specs.Rights.{is_writable, may_write}
use Rattle.lwc_base.specs.Modes.{mode_or_copy}
use Rattle.lwc_base.specs.Ranges.{begins_range, ranges, ranges_of}
use Rattle.lwc_base.specs.Saved.{entered}
use Rattle.lwc_base.specs.Sharing.{any_key, is_moved, needs_group}
use Rattle.lwc_base.specs.Slots.{lowest_empty}
use Rattle.lwc_base.specs.Summaries.{is_empty}
use Rattle.lwc_base.specs.World.{World, Context, Group, context, group, is_live, new_context, new_group}
use Rattle.lwc_base.specs.declared.cell.Cell.{Cell}
use Rattle.lwc_base.specs.declared.cell.Cell.TheVariants.{Own, Common}
use Rattle.lwc_base.specs.declared.item.Item.{Item}
use Rattle.lwc_types.specs.Pages.{bytes_of}
use Rattle.lwc_types.specs.Registers.{fresh_registers}
use Rattle.lwc_types.specs.declared.key.TheConstants.{SLOTS}
use Rattle.lwc_types.specs.declared.key.Key.{Key}
use Rattle.lwc_types.specs.declared.key.Key.TheVariants.{Page, Slot}
use Rattle.lwc_types.specs.declared.name.Name.{Name}
use Rattle.lwc_types.specs.declared.page.TheConstants.{PAGE_BYTES}
use Rattle.world_views.proofs.JobTables.{at}
use Rattle.world_views.proofs.Keeping.{context-in}
use Rattle.world_views.proofs.Views.{contexts-alike, groups-alike, pages-alike, seen}
use Rattle.world_views.specs.ByJob.{Home, by_job}
use Rattle.world_views.specs.Views.{seen_by, view}

same_live : (t s : ℕ) (o p : Option Context) → seen t o ≡ seen s p → is_some o ≡ is_some p
same_live t s None None is = refl
same_live t s (Some x) (Some y) is = refl
same_live t s None (Some y) is = cc
same_live t s (Some x) None is = cc

or_new : (t : ℕ) (o : Option Context) → seen_by t (unwrap_or o (new_context 0 (fresh_registers 0))) ≡ unwrap_or (seen t o) (new_context 0 (fresh_registers 0))
or_new t None = refl
or_new t (Some x) = refl

begins-seen : (t : ℕ) (x : Context) (p : ℕ) → begins_range (seen_by t x) p ≡ begins_range x p
unfolding begins_range
begins-seen t x zero = refl
begins-seen t x (suc p) = refl

-- a context has as many ranges as the thread sees
pub ranges-seen : (t pages : ℕ) (x : Context) → ranges pages (seen_by t x) ≡ ranges pages x
unfolding ranges
ranges-seen t pages x = λ i. count_by (λ p. begins-seen t x p i) (range_with_len 0 pages)

module _ (t s : ℕ) (c : Name) (w v : World) (alike : view c.job t w ≡ view c.job s v) where
  pub live-alike : is_live w c ≡ is_live v c
  live-alike = same_live t s _ _ (contexts-alike c.job t s w v alike c.k)

  pub context-alike : seen_by t (context w c) ≡ seen_by s (context v c)
  unfolding context
  context-alike =
      or_new t (fm.get w.contexts c) ∙ ap (λ o. unwrap_or o (new_context 0 (fresh_registers 0))) (contexts-alike c.job t s w v alike c.k)
      ∙ sym (or_new s (fm.get v.contexts c))

  pub cell-alike : (k : Key) → (context w c).cell k ≡ (context v c).cell k
  cell-alike k = ap (λ (x : Context). x.cell k) context-alike

  pub rights-alike : (context w c).right ≡ (context v c).right
  rights-alike = ap (λ (x : Context). x.right) context-alike

  pub writable-alike : (from count : ℕ) → is_writable w c from count ≡ is_writable v c from count
  unfolding is_writable
  writable-alike from count = λ i. list_all (λ p. may_write (rights-alike i p)) (touched from count)

  pub enters-alike : entered (context w c) t ≡ entered (context v c) s
  enters-alike = ap (λ (x : Context). entered x 0) context-alike

  pub needs-alike : (items : List Item) → needs_group w c items ≡ needs_group v c items
  unfolding needs_group
  needs-alike items = λ i. any_key (pages-alike c.job t s w v alike i) (λ k. is_moved (mode_or_copy items k) k (cell-alike k i))

  pub ranges_of-alike : ranges_of w c ≡ ranges_of v c
  unfolding ranges_of
  ranges_of-alike =
      sym (ranges-seen t w.size.pages (context w c)) ∙ (λ i. ranges (pages-alike c.job t s w v alike i) (context-alike i)) ∙ ranges-seen s v.size.pages (context v c)

  group-alike : (g : Name) → g.job ≡ c.job → group w g ≡ group v g
  unfolding group
  group-alike g own = subst (λ j. unwrap_or (fm.get w.groups (at j g.k)) new_group ≡ unwrap_or (fm.get v.groups (at j g.k)) new_group) (sym own)
      (ap (λ o. unwrap_or o new_group) (groups-alike c.job t s w v alike g.k))

  module _ (home : Home) (keeps : Keeps (by_job home) w) where
    value_of-alike : (k : Key) (cell : Cell (ValueOf k)) → InCell (by_job home) c.job k cell → value_of w k cell ≡ value_of v k cell
    value_of-alike k (Own value) is = refl
    value_of-alike k (Common g) is = ap (λ (x : Group). x.value k) (group-alike g is)

    pub value-alike : (k : Key) → value_at w c k ≡ value_at v c k
    unfolding value_at
    value-alike k = value_of-alike k ((context w c).cell k) (context-in home w keeps c k) ∙ ap (value_of v k) (cell-alike k)

    pub lowest-alike : lowest_empty w c ≡ lowest_empty v c
    unfolding lowest_empty
    lowest-alike = λ i. find (λ n. is_empty (value-alike (Slot n) i)) (range_with_len 0 SLOTS)

    pub present-alike : (from count : ℕ) → is_present w c from count ≡ is_present v c from count
    unfolding is_present
    present-alike from count = λ i. list_all (λ p. is_some (value-alike (Page p) i)) (touched from count)

    byte-alike : (a : ℕ) → byte_at w c a ≡ byte_at v c a
    unfolding byte_at
    byte-alike a = λ i. option_map_or (λ value. slice_index (bytes_of value) (a % PAGE_BYTES)) (value-alike (Page (a / PAGE_BYTES)) i) 0

    load-alike : (a count : ℕ) → load w c a count ≡ load v c a count
    unfolding load
    load-alike a count = λ i. cond (present-alike a count i) (Some (map (λ b. byte-alike b i) (range_with_len a count))) None

    pub bytes-alike : (a count : ℕ) → bytes_for w c a count ≡ bytes_for v c a count
    unfolding bytes_for
    bytes-alike a count = λ i. cond (eqb count 0) (Some []) (cond (leb (a + count) (pages-alike c.job t s w v alike i * PAGE_BYTES)) (load-alike a count i) None)
