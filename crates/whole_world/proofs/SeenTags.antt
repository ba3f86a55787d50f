-- The tags of rows are those of the world that they stand for, and they are few.
use Rattle.std.proofs.Common.{◌≡◌, ℕ, ◌+◌, ◌*◌, ◌≤◌, ◌^◌, List, [], ◌∷◌, ◌++◌, length, get_or, refl, sym, ap, ◌∙◌, arith, length-append, Option, None}
use Rattle.std.specs.Prelude.{All}
use Rattle.std.specs.List.{flat_map, range_with_len}
use Rattle.std.proofs.Math.Nat.{mul-le-mul}
use Rattle.lwc_base.specs.declared.cell.Cell.TheVariants.{Own}
use Rattle.lwc_base.specs.Frames.{tag_of, own_value, tags_of_context, tags_of_group, tags, used}
use Rattle.lwc_types.specs.declared.name.Name.{Name}
use Rattle.lwc_types.specs.declared.page.PageValue.{PageValue}
use Rattle.lwc_types.specs.declared.limits.TheConstants.{MOST_PAGES}
use Rattle.whole_world.specs.declared.context_row.ContextRow.{ContextRow}
use Rattle.whole_world.specs.declared.group_row.GroupRow.{GroupRow}
use Rattle.whole_world.specs.declared.world.WholeWorld.{WholeWorld}
use Rattle.whole_world.specs.Rows.{cell_of, context_of, group_of, value_of}
use Rattle.whole_world.specs.Sound.{IsWhole, IsWholeGroup}
use Rattle.whole_world.specs.States.{world_of}
use Rattle.whole_world.specs.Tags.{different, page_tags, tags_of_rows}
use Rattle.whole_world.specs.Worlds.{seen}
use Rattle.whole_world.proofs.Gathered.{flat_map-places, first_of_all, others_of_all, length-flat_map-le}
use Rattle.whole_world.proofs.Tables.{entries_of, map-entries}
use Rattle.whole_world.proofs.TagLists.{different-le-length}
use Rattle.lwc_base.proofs.Tags.{one_tag}

-- pages have no more tags than there are pages
length-page_tags : {P : Type 0} (value : P → Option PageValue) (pages : List P) → length (page_tags value pages) ≤ length pages
unfolding page_tags
length-page_tags value pages = omega (arith, length-flat_map-le (λ page. tag_of (value page)) 1 pages (λ k d within. one_tag (value (get_or pages k d))))

-- the tags of a context
tags_of_context-row : (count : ℕ) (row : ContextRow) → IsWhole count row → tags_of_context count (context_of row) ≡ page_tags own_value row.pages.items
unfolding tags_of_context context_of cell_of page_tags
tags_of_context-row count row whole =
    let places : count ≡ length row.pages.items = omega (arith, whole.pages, row.pages.ok.0) in
    ap (λ n. flat_map (λ p. tag_of (own_value (get_or row.pages.items p (Own None)))) (range_with_len 0 n)) places
    ∙ flat_map-places (λ cell. tag_of (own_value cell)) row.pages.items (Own None)

-- the tags of a group
tags_of_group-row : (count : ℕ) (row : GroupRow) → IsWholeGroup count row → tags_of_group count (group_of row) ≡ page_tags (λ v. v) row.pages.items
unfolding tags_of_group group_of value_of page_tags
tags_of_group-row count row whole =
    let places : count ≡ length row.pages.items = omega (arith, whole.pages, row.pages.ok.0) in
    ap (λ n. flat_map (λ p. tag_of (get_or row.pages.items p None)) (range_with_len 0 n)) places
    ∙ flat_map-places tag_of row.pages.items None

-- the tags of all rows, where those of each are those of what it stands for
tags-entries : {A X T : Type 0} (value : A → X) (of_value : X → List T) (of_row : A → List T) (P : A → Type 0) → ((a : A) → P a → of_value (value a) ≡ of_row a) →
    (rows : List (Name × A)) → All (λ row. P row.1) rows → flat_map (λ e. of_value e.1) (entries_of value rows) ≡ flat_map (λ row. of_row row.1) rows
tags-entries value of_value of_row P same [] all = refl
tags-entries value of_value of_row P same (row ∷ rows) all =
    λ i. same row.1 (first_of_all (λ row. P row.1) row rows all) i ++ tags-entries value of_value of_row P same rows (others_of_all (λ row. P row.1) row rows all) i

module _ (w : WholeWorld) where
  -- the tags of all holders are those of the contexts and then those of the groups
  pub tags-seen : tags_of_rows w.contexts.rows.items w.groups.rows.items ≡ tags (seen w)
  unfolding tags seen world_of tags_of_rows
  tags-seen =
      let pages = w.size.pages in
      let contexts = w.contexts.rows.items in
      let groups = w.groups.rows.items in
      sym (
      (λ i. flat_map (λ e. tags_of_context pages e.1) (map-entries context_of contexts w.sound.contexts_sorted i)
      ++ flat_map (λ e. tags_of_group pages e.1) (map-entries group_of groups w.sound.groups_sorted i))
      ∙ (λ i. tags-entries context_of (tags_of_context pages) (λ row. page_tags own_value row.pages.items) (IsWhole pages) (tags_of_context-row pages) contexts w.sound.contexts_whole i
      ++ tags-entries group_of (tags_of_group pages) (λ row. page_tags (λ v. v) row.pages.items) (IsWholeGroup pages) (tags_of_group-row pages) groups w.sound.groups_whole i))

  -- they are few: no more than rows times pages
  pub few_tags : length (tags_of_rows w.contexts.rows.items w.groups.rows.items) ≤ 2 ^ 30
  unfolding tags_of_rows
  few_tags =
      let pages = w.size.pages in
      let contexts = w.contexts.rows.items in
      let groups = w.groups.rows.items in
      let in_contexts : length (flat_map (λ row. page_tags own_value row.1.pages.items) contexts) ≤ length contexts * pages =
      length-flat_map-le (λ row. page_tags own_value row.1.pages.items) pages contexts (λ k d within. let row = get_or contexts k d in
      omega (arith, length-page_tags own_value row.1.pages.items, (w.sound.contexts_whole k d within).pages, row.1.pages.ok.0)) in
      let in_groups : length (flat_map (λ row. page_tags (λ v. v) row.1.pages.items) groups) ≤ length groups * pages =
      length-flat_map-le (λ row. page_tags (λ v. v) row.1.pages.items) pages groups (λ k d within. let row = get_or groups k d in
      omega (arith, length-page_tags (λ v. v) row.1.pages.items, (w.sound.groups_whole k d within).pages, row.1.pages.ok.0)) in
      let rows : length contexts + length groups ≤ 2 ^ 16 = omega (arith, w.sound.size_contexts, w.sound.size_groups, w.sound.few_contexts, w.sound.few_groups) in
      let most : (length contexts + length groups) * pages ≤ 2 ^ 16 * MOST_PAGES = mul-le-mul rows w.sound.few_pages in
      omega (arith, in_contexts, in_groups, most, length-append (flat_map (λ row. page_tags own_value row.1.pages.items) contexts) (flat_map (λ row. page_tags (λ v. v) row.1.pages.items) groups))

  -- the different ones are the frames in use
  pub used-seen : different (tags (seen w)) ≡ used (seen w)
  unfolding used different
  used-seen = refl

  -- which are no more than tags
  pub few_used : used (seen w) ≤ 2 ^ 30
  few_used = omega (arith, used-seen, different-le-length (tags (seen w)), ap length tags-seen, few_tags)
