-- What is counted of a world, and what is dropped of it, is the same where there are more pages.
use Rattle.std.proofs.Common.{◌≡◌, ◌∙◌, ◌≤◌, refl, sym, ap, ℕ, zero, suc, Bool, true, false, cond, ltb, not, ◌&&◌, ◌||◌, Option, Some, None, List, ◌++◌}
use Rattle.std.specs.Prelude.{count_by, is_some, unwrap_or}
use Rattle.std.specs.List.{flat_map, list_any, range_with_len}
use Rattle.std.specs.FinMap as fm
use Rattle.std.specs.FinSet as set
use Rattle.std.specs.Ordering.{is_eq}
use Rattle.lwc_base.specs.Cells.{page_at, slot_at, value_at, value_of}
use Rattle.lwc_base.specs.Frames.{is_parting, own_value, tag_of, tags, tags_of_context, tags_of_group, used}
use Rattle.lwc_base.specs.Keys.{ValueOf}
use Rattle.lwc_base.specs.Life.{is_in, is_reached, names_group, reached_in, reap}
use Rattle.lwc_base.specs.Modes.{mode_or_copy}
use Rattle.lwc_base.specs.Ranges.{begins_range, continues_range, is_page, ranges, ranges_of}
use Rattle.lwc_base.specs.Sharing.{any_key, is_moved, needs_group}
use Rattle.lwc_base.specs.Summaries.{is_empty, summary_of}
use Rattle.lwc_base.specs.World.{World, Context, Group, context, group, new_context, new_group}
use Rattle.lwc_base.specs.declared.cell.Cell.{Cell}
use Rattle.lwc_base.specs.declared.cell.Cell.TheVariants.{Own, Common}
use Rattle.lwc_base.specs.declared.item.Item.{Item}
use Rattle.lwc_base.specs.declared.item.Mode.{Mode}
use Rattle.lwc_base.specs.declared.item.Mode.TheVariants.{Copy, Share, Unmap, CopyRead}
use Rattle.lwc_types.specs.Names.{name_cmp, tag_cmp}
use Rattle.lwc_types.specs.Registers.{fresh_registers}
use Rattle.lwc_types.specs.declared.key.TheConstants.{SLOTS}
use Rattle.lwc_types.specs.declared.key.Key.{Key}
use Rattle.lwc_types.specs.declared.key.Key.TheVariants.{Page}
use Rattle.lwc_types.specs.declared.limits.TheConstants.{MOST_PAGES}
use Rattle.lwc_types.specs.declared.name.Name.{Name}
use Rattle.lwc_types.specs.declared.page.PageValue.{PageValue}
use Rattle.lwc_types.specs.declared.page.PageValue.TheVariants.{Zero, Data}
use Rattle.world_views.proofs.Entries.{each_entry}
use Rattle.lift_law.proofs.Pages.{HasNoMore, any_key-most, count-most, rows-most}
use Rattle.lift_law.proofs.Tables.{any-entries, any-map, entries-with, flat_map-entries, flat_map-map, keys-with, len-with, get-kept, retain-with, values-with, with_values}
use Rattle.lift_law.proofs.Wide.{begins-wide, cell-wide, context-wide, empty-wide, is_moved-wide, links-wide, page-wide, page_cell-wide, slot-wide, uid-wide, wide, wide_cell, wide_context, wide_group}

-- a context with pages up to a number alone
abbrev pub EndsAt : ℕ → Context → Type 0
EndsAt pages x = (p : ℕ) → pages ≤ p → x.cell (Page p) ≡ Own None

module _ (pages : ℕ) (few : pages ≤ MOST_PAGES) (x : Context) (ends : EndsAt pages x) where
  context_tags : tags_of_context MOST_PAGES (wide_context x) ≡ tags_of_context pages x
  unfolding tags_of_context
  context_tags =
      (λ i. flat_map (λ p. tag_of (own_value (page_cell-wide p (x.cell (Page p)) i))) (range_with_len 0 MOST_PAGES))
      ∙ rows-most (λ p. tag_of (own_value (x.cell (Page p)))) pages MOST_PAGES few (λ p past. ap (λ c. tag_of (own_value c)) (ends p past))

  none_begins : (p : ℕ) → pages ≤ p → begins_range x p ≡ false
  unfolding begins_range
  none_begins p past = ap (λ c. is_page c && not (continues_range x p)) (ends p past)

  pub ranges-context : ranges MOST_PAGES (wide_context x) ≡ ranges pages x
  unfolding ranges
  ranges-context = (λ i. count_by (λ p. begins-wide x p i) (range_with_len 0 MOST_PAGES)) ∙ count-most (begins_range x) pages MOST_PAGES few none_begins

  is_in-wide : (g : Name) (k : Key) (cell : Cell (ValueOf k)) → is_in g (wide_cell k cell) ≡ is_in g cell
  is_in-wide g k (Own value) = refl
  is_in-wide g k (Common h) = refl

  names-context : (g : Name) → names_group MOST_PAGES g (wide_context x) ≡ names_group pages g x
  unfolding names_group
  names-context g =
      (λ i. any_key MOST_PAGES (λ k. is_in-wide g k (x.cell k) i))
      ∙ any_key-most (λ k. is_in g (x.cell k)) pages MOST_PAGES few (λ p past. ap (is_in g) (ends p past))

group_tags : (pages : ℕ) → pages ≤ MOST_PAGES → (x : Group) → ((p : ℕ) → pages ≤ p → x.value (Page p) ≡ None) → tags_of_group MOST_PAGES (wide_group x) ≡ tags_of_group pages x
unfolding tags_of_group
group_tags pages few x ends = rows-most (λ p. tag_of (x.value (Page p))) pages MOST_PAGES few (λ p past. ap tag_of (ends p past))

module _ (w : World) (ends : HasNoMore w) where
  -- the context that a name finds has no page past the last one
  found_ends : (q : Name) (x : Context) → fm.get w.contexts q ≡ Some x → EndsAt w.size.pages x
  unfolding context
  found_ends q x found p past = sym (ap (λ (o : Option Context). (unwrap_or o (new_context 0 (fresh_registers 0))).cell (Page p)) found) ∙ ends.cells q p past

  group_ends : (q : Name) (x : Group) → fm.get w.groups q ≡ Some x → (p : ℕ) → w.size.pages ≤ p → x.value (Page p) ≡ None
  unfolding group
  group_ends q x found p past = sym (ap (λ (o : Option Group). (unwrap_or o new_group).value (Page p)) found) ∙ ends.values q p past

  tags-wide : tags (wide w) ≡ tags w
  unfolding tags
  tags-wide =
      let contexts : flat_map (λ (e : Name × Context). tags_of_context MOST_PAGES e.1) (fm.entries (with_values wide_context w.contexts))
      ≡ flat_map (λ (e : Name × Context). tags_of_context w.size.pages e.1) (fm.entries w.contexts) =
      ap (flat_map (λ (e : Name × Context). tags_of_context MOST_PAGES e.1)) (entries-with wide_context w.contexts)
      ∙ flat_map-map (λ (e : Name × Context). tags_of_context MOST_PAGES e.1) (λ (e : Name × Context). (e.0, wide_context e.1)) (fm.entries w.contexts)
      ∙ flat_map-entries (λ (e : Name × Context). tags_of_context MOST_PAGES (wide_context e.1)) (λ (e : Name × Context). tags_of_context w.size.pages e.1) (fm.entries w.contexts)
      (each_entry (λ q x. tags_of_context MOST_PAGES (wide_context x) ≡ tags_of_context w.size.pages x) w.contexts (λ q x found. context_tags w.size.pages ends.few x (found_ends q x found))) in
      let groups : flat_map (λ (e : Name × Group). tags_of_group MOST_PAGES e.1) (fm.entries (with_values wide_group w.groups))
      ≡ flat_map (λ (e : Name × Group). tags_of_group w.size.pages e.1) (fm.entries w.groups) =
      ap (flat_map (λ (e : Name × Group). tags_of_group MOST_PAGES e.1)) (entries-with wide_group w.groups)
      ∙ flat_map-map (λ (e : Name × Group). tags_of_group MOST_PAGES e.1) (λ (e : Name × Group). (e.0, wide_group e.1)) (fm.entries w.groups)
      ∙ flat_map-entries (λ (e : Name × Group). tags_of_group MOST_PAGES (wide_group e.1)) (λ (e : Name × Group). tags_of_group w.size.pages e.1) (fm.entries w.groups)
      (each_entry (λ q x. tags_of_group MOST_PAGES (wide_group x) ≡ tags_of_group w.size.pages x) w.groups (λ q x found. group_tags w.size.pages ends.few x (group_ends q x found))) in
      λ i. contexts i ++ groups i

  pub used-wide : used (wide w) ≡ used w
  unfolding used
  used-wide = ap (λ ts. set.len (set.from_list {R = tag_cmp} ts)) tags-wide

  pub parting-wide : (value : PageValue) → is_parting (wide w) value ≡ is_parting w value
  unfolding is_parting
  parting-wide Zero = refl
  parting-wide (Data tag bytes) = ap (λ ts. ltb 1 (count_by (λ t. is_eq (tag_cmp t tag)) ts)) tags-wide

  pub ranges-wide : (c : Name) → ranges_of (wide w) c ≡ ranges_of w c
  unfolding ranges_of
  ranges-wide c = ap (ranges MOST_PAGES) (context-wide w c) ∙ ranges-context w.size.pages ends.few (context w c) (ends.cells c)

  moved_none : (m : Mode) (p : ℕ) (cell : Cell (Option PageValue)) → cell ≡ Own None → is_moved m (Page p) cell ≡ false
  moved_none Copy p cell is = refl
  moved_none Share p cell is = ap (is_moved Share (Page p)) is
  moved_none Unmap p cell is = refl
  moved_none CopyRead p cell is = refl

  pub needs-wide : (c : Name) (items : List Item) → needs_group (wide w) c items ≡ needs_group w c items
  unfolding needs_group
  needs-wide c items =
      (λ i. any_key MOST_PAGES (λ k. (ap (is_moved (mode_or_copy items k) k) (cell-wide w c k) ∙ is_moved-wide (mode_or_copy items k) k ((context w c).cell k)) i))
      ∙ any_key-most (λ k. is_moved (mode_or_copy items k) k ((context w c).cell k)) w.size.pages MOST_PAGES ends.few
      (λ p past. moved_none (mode_or_copy items (Page p)) p ((context w c).cell (Page p)) (ends.cells c p past))

  -- a page past the last one is not present
  page_none : (c : Name) (p : ℕ) → w.size.pages ≤ p → page_at w c p ≡ None
  unfolding value_at
  page_none c p past = ap (value_of w (Page p)) (ends.cells c p past)

  pub summary-wide : (c : Name) → summary_of (wide w) c ≡ summary_of w c
  unfolding summary_of
  summary-wide c = λ i. record {
    pages = ((λ j. count_by (λ p. is_some (page-wide w c p j)) (range_with_len 0 MOST_PAGES))
        ∙ count-most (λ p. is_some (page_at w c p)) w.size.pages MOST_PAGES ends.few (λ p past. ap is_some (page_none c p past))) i;
    slots = count_by (λ n. not ((ap is_empty (slot-wide w c n) ∙ empty-wide (slot_at w c n)) i)) (range_with_len 0 SLOTS);
    uid = uid-wide w c i;
  }

  reached_in-wide : (roots : List Name) (k : ℕ) (c : Name) → reached_in (wide w) roots k c ≡ reached_in w roots k c
  reached_in-wide roots zero c = refl
  reached_in-wide roots (suc k) c =
      λ i. reached_in-wide roots k c i || list_any (λ d. reached_in-wide roots k d i && links-wide w d c i) (keys-with wide_context w.contexts i)

  reached-wide : (roots : List Name) (c : Name) → is_reached (wide w) roots c ≡ is_reached w roots c
  unfolding is_reached
  reached-wide roots c = reached_in-wide roots (fm.len (with_values wide_context w.contexts)) c ∙ ap (λ n. reached_in w roots n c) (len-with wide_context w.contexts)

  pub reap-wide : (roots : List Name) → reap (wide w) roots ≡ wide (reap w roots)
  unfolding reap
  reap-wide roots =
      let kept : fm.retain_keys (with_values wide_context w.contexts) (is_reached (wide w) roots) ≡ with_values wide_context (fm.retain_keys w.contexts (is_reached w roots)) =
      ap (fm.retain_keys (with_values wide_context w.contexts)) (λ i c. reached-wide roots c i) ∙ retain-with wide_context w.contexts (is_reached w roots) in
      let left = fm.retain_keys w.contexts (is_reached w roots) in
      let named : (g : Name) → list_any (names_group MOST_PAGES g) (fm.values (with_values wide_context left)) ≡ list_any (names_group w.size.pages g) (fm.values left) = λ g.
      ap (list_any (names_group MOST_PAGES g)) (values-with wide_context left) ∙ any-map (names_group MOST_PAGES g) wide_context (fm.values left)
      ∙ any-map (λ x. names_group MOST_PAGES g (wide_context x)) (λ (e : Name × Context). e.1) (fm.entries left)
      ∙ any-entries (λ (e : Name × Context). names_group MOST_PAGES g (wide_context e.1)) (λ (e : Name × Context). names_group w.size.pages g e.1) (fm.entries left)
      (each_entry (λ q x. names_group MOST_PAGES g (wide_context x) ≡ names_group w.size.pages g x) left
      (λ q x found. names-context w.size.pages ends.few x (found_ends q x (was_there roots q x found)) g))
      ∙ sym (any-map (names_group w.size.pages g) (λ (e : Name × Context). e.1) (fm.entries left)) in
      λ i. record {
        contexts = kept i;
        groups = (ap (λ (m : fm.FinMap name_cmp Context). fm.retain_keys (with_values wide_group w.groups) (λ g. list_any (names_group MOST_PAGES g) (fm.values m))) kept
            ∙ (λ j. fm.retain_keys (with_values wide_group w.groups) (λ g. named g j))
            ∙ retain-with wide_group w.groups (λ g. list_any (names_group w.size.pages g) (fm.values left))) i;
        next = w.next;
        size = record w.size { pages = MOST_PAGES };
      }
    where
      kept_only : (b : Bool) (o : Option Context) (x : Context) → cond b o None ≡ Some x → o ≡ Some x
      kept_only true o x is = is
      kept_only false o x is = cc

      was_there : (roots : List Name) (q : Name) (x : Context) → fm.get (fm.retain_keys w.contexts (is_reached w roots)) q ≡ Some x → fm.get w.contexts q ≡ Some x
      was_there roots q x found = kept_only (is_reached w roots q) (fm.get w.contexts q) x (sym (get-kept w.contexts (is_reached w roots) q) ∙ found)
