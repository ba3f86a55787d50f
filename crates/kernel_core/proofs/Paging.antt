-- A vault as it is built beside the first context: one page more.
use Rattle.std.proofs.Common.{◌≡◌, ℕ, suc, ◌+◌, ◌≤◌, ◌<◌, refl, sym, ap, subst, ◌∙◌, Bool, true, false, cond, eqb, leb, ltb, ◌&&◌, Option, Some, None, List, [], ◌∷◌, ◌++◌, length, length-append, take, arith}
use Rattle.std.specs.FinMap as fm
use Rattle.std.specs.List.{flat_map}
use Rattle.std.specs.Prelude.{is_some, slice_get}
use Rattle.std.proofs.lemmas.Bool.Decides.{nat_tests}
use Rattle.std.proofs.lemmas.List.{take_more, length-map, length-take-le}
use Rattle.std.proofs.lemmas.List.Elements.{All-get_or}
use Rattle.std.proofs.lemmas.Option.{slice_get_within, get_or_from_slice_get}
use Rattle.guest_image.specs.Limits.{IsImage, IsVault, page_numbers, pages_of}
use Rattle.guest_image.specs.Numbers.{begins, ranges_after}
use Rattle.guest_image.specs.declared.image.Image.{Image}
use Rattle.guest_image.specs.declared.image.PageImage.{PageImage}
use Rattle.guest_image.specs.declared.image.Vault.{Vault}
use Rattle.guest_image.proofs.Lifted.{most_pages}
use Rattle.kernel_core.proofs.Building.{first_page-push, first_page-there, new_number}
use Rattle.kernel_core.proofs.FirstWorld.{entries-first, entries-none, len-from_list, page_piece}
use Rattle.kernel_core.proofs.Held.{context-held, live-held, map-held, store-held}
use Rattle.kernel_core.proofs.Ranges.{has, num, one_tag, ranges-own, ranges-take, tags-within}
use Rattle.kernel_core.specs.Ready.{CanPutPage}
use Rattle.kernel_core.specs.Start.{first_context, first_page, image_tag, start_world, vault_context, vault_name, vault_so_far, with_context, world_with}
use Rattle.lwc_base.specs.Cells.{with_cell}
use Rattle.lwc_base.specs.Frames.{own_value, tag_of, tags, tags_of_context, tags_of_group, used}
use Rattle.lwc_base.specs.Mapping.{map_pages, with_zeros}
use Rattle.lwc_base.specs.Ranges.{ranges, ranges_of}
use Rattle.lwc_base.specs.Store.{Done, store}
use Rattle.lwc_base.specs.World.{World, Context, Group, change_counters, is_live}
use Rattle.lwc_base.specs.declared.cell.Cell.TheVariants.{Own}
use Rattle.lwc_base.proofs.Facts.{orders}
use Rattle.lwc_types.specs.Names.{name_cmp}
use Rattle.lwc_types.specs.declared.right.Right.TheVariants.{Write}
use Rattle.lwc_types.specs.declared.key.Key.{Key}
use Rattle.lwc_types.specs.declared.key.Key.TheVariants.{Page, Slot, Cred}
use Rattle.lwc_types.specs.declared.name.Name.{Name}
use Rattle.lwc_types.specs.declared.page.PageValue.{PageValue}
use Rattle.lwc_types.specs.declared.page.PageValue.TheVariants.{Zero, Data}
use Rattle.world_face.specs.Calls.{MayName}

-- no more numbers begin a range than there are
begun_by : (b : Bool) (n m : ℕ) → n ≤ m → cond b (n + 1) n ≤ suc m
begun_by true n m few = omega (arith, few)
begun_by false n m few = omega (arith, few)

few_begin : (before : Option ℕ) (pages : List PageImage) → ranges_after before (page_numbers pages) ≤ length pages
unfolding ranges_after
few_begin before [] = omega arith
few_begin before (x ∷ xs) = begun_by (begins before x.number) _ _ (few_begin (Some x.number) xs)

module _ (image : Image) (is : IsImage image) (frames : ℕ) where
  -- the tags of two contexts
  entries-two : (x y : Context) → fm.entries (fm.insert (fm.insert (fm.empty {R = name_cmp}) (record { job = 0; k = 0 }) x) vault_name y) ≡ ((record { job = 0; k = 0 }), x) ∷ (vault_name, y) ∷ []
  entries-two x y = fm.entries-insert orders.names (fm.insert fm.empty (record { job = 0; k = 0 }) x) vault_name y ∙ ap (fm.put name_cmp vault_name y) (entries-first x)

  abbrev first : Context
  first = first_context image image.pages 64

  tags-two : (count : ℕ) (y : Context) → tags (with_context (start_world image frames) vault_name count y)
      ≡ (tags_of_context (pages_of image.form) first ++ (tags_of_context (pages_of image.form) y ++ [])) ++ []
  unfolding tags with_context change_counters start_world world_with
  tags-two count y =
      ap (λ es. flat_map (λ (e : Name × Context). tags_of_context (pages_of image.form) e.1) es ++ flat_map (λ (e : Name × Group). tags_of_group (pages_of image.form) e.1) (fm.entries (fm.empty {X = Group} {R = name_cmp}))) (entries-two first y)
      ∙ ap (λ es. (tags_of_context (pages_of image.form) first ++ (tags_of_context (pages_of image.form) y ++ [])) ++ flat_map (λ (e : Name × Group). tags_of_group (pages_of image.form) e.1) es) entries-none

  used-two : (count : ℕ) (y : Context) → used (with_context (start_world image frames) vault_name count y)
      ≤ length (tags_of_context (pages_of image.form) first) + length (tags_of_context (pages_of image.form) y)
  unfolding used
  used-two count y =
      let few = len-from_list (tags (with_context (start_world image frames) vault_name count y)) in
      let same : length (tags (with_context (start_world image frames) vault_name count y)) ≡ length ((tags_of_context (pages_of image.form) first ++ (tags_of_context (pages_of image.form) y ++ [])) ++ []) = ap length (tags-two count y) in
      omega (
        arith,
        few,
        same,
        length-append (tags_of_context (pages_of image.form) first ++ (tags_of_context (pages_of image.form) y ++ [])) [],
        length-append (tags_of_context (pages_of image.form) first) (tags_of_context (pages_of image.form) y ++ []),
        length-append (tags_of_context (pages_of image.form) y) [],
      )

  first_tags : length (tags_of_context (pages_of image.form) first) ≤ length image.pages
  unfolding first_context
  first_tags =
      omega (
        arith,
        tags-within first (page_numbers image.pages) (λ q. omega (arith, one_tag (first_page 0 image.pages q), ap num (first_page-there 0 image.pages q))) (pages_of image.form),
        length-map image.pages (λ (y : PageImage). y.number),
      )

  -- job 0 may name more beside it
  may_name : (count : ℕ) (y : Context) → count ≤ 64 → MayName (with_context (start_world image frames) vault_name count y) 0
  unfolding with_context change_counters start_world world_with
  may_name count y few = record {
    known = omega arith;
    contexts = omega arith;
    groups = omega arith;
    tags = omega (arith, few, is.page_count, most_pages image.form);
  }

module _ (image : Image) (is : IsImage image) (frames : ℕ) (v : Vault) (is_vault : IsVault (length image.text) (pages_of image.form) v) (fits : length image.pages + length v.pages ≤ frames) where
  abbrev pages : ℕ
  pages = pages_of image.form

  abbrev w : World
  w = start_world image frames

  abbrev a : ℕ
  a = ((start_world image frames).next 0).tags

  module _ (k : ℕ) (x : PageImage) (found : slice_get v.pages k ≡ Some x) where
    within : k < length v.pages
    within = slice_get_within v.pages k x found

    pub number_below : x.number < pages
    number_below =
        subst (λ (y : PageImage). y.number < pages) (get_or_from_slice_get v.pages k x x found)
        (All-get_or (λ (y : PageImage). y.number < pages) v.pages k x within is_vault.numbers)

    whole : length x.bytes ≡ 4096
    whole =
        subst (λ (y : PageImage). length y.bytes ≡ 4096) (get_or_from_slice_get v.pages k x x found)
        (All-get_or (λ (y : PageImage). length y.bytes ≡ 4096) v.pages k x within is_vault.whole)

    one_more : take (k + 1) v.pages ≡ take k v.pages ++ x ∷ []
    one_more = take_more v.pages k x within ∙ ap (λ y. take k v.pages ++ y ∷ []) (get_or_from_slice_get v.pages k x x found)

    had : Context
    had = vault_context a v.entry (take k v.pages)

    mapped : Context
    mapped = with_zeros x.number (x.number + 1) had

    -- what is under a page once the page is mapped
    value : ℕ → Option PageValue
    value q = cond (leb x.number q && ltb q (x.number + 1)) (Some Zero) (first_page a (take k v.pages) q)

    chosen_own : (b : Bool) (a c : Option PageValue) → cond b (Own a) (Own c) ≡ Own (cond b a c)
    chosen_own true a c = refl
    chosen_own false a c = refl

    value_is : (q : ℕ) → mapped.cell (Page q) ≡ Own (value q)
    unfolding mapped had value vault_context
    value_is q = chosen_own _ (Some Zero) (first_page a (take k v.pages) q)

    zeros : mapped.cell (Page x.number) ≡ Own (Some Zero)
    unfolding mapped
    zeros =
        let inside : (leb x.number x.number && ltb x.number (x.number + 1)) ≡ true = grind (arith, nat_tests) in
        ap (λ b. cond b (Own (Some Zero)) (had.cell (Page x.number))) inside

    cell_with_page : (key : Key) → (with_cell (Page x.number) (Own (Some (Data (image_tag (a + length (take k v.pages))) x.bytes))) mapped).cell key ≡ (vault_context a v.entry (take (k + 1) v.pages)).cell key
    unfolding mapped had vault_context
    cell_with_page (Page q) =
        first_page-push a (take k v.pages) x q (new_number None a v.pages k x is_vault.rise found)
        ∙ ap (λ l. Own (first_page a l q)) (sym one_more)
    cell_with_page (Slot n) = refl
    cell_with_page Cred = refl

    -- each page has the right Write
    right_by : (b : Bool) → cond b Write Write ≡ Write
    right_by true = refl
    right_by false = refl

    right_is : (q : ℕ) → mapped.right q ≡ Write
    unfolding mapped had vault_context
    right_is q = right_by (leb x.number q && ltb q (x.number + 1))

    context_with_page : with_cell (Page x.number) (Own (Some (Data (image_tag (a + length (take k v.pages))) x.bytes))) mapped ≡ vault_context a v.entry (take (k + 1) v.pages)
    unfolding mapped had vault_context
    context_with_page = λ i. record (vault_context a v.entry (take (k + 1) v.pages)) { cell = λ key. cell_with_page key i; right = λ q. right_by (leb x.number q && ltb q (x.number + 1)) i }

    value_by : (b : Bool) (q : ℕ) → eqb q x.number ≡ b →
        is_some (value q) ≡ is_some (own_value (cond b (Own (Some (Data (image_tag (a + length (take k v.pages))) x.bytes))) (cond (leb x.number q && ltb q (x.number + 1)) (Own (Some Zero)) (Own (first_page a (take k v.pages) q)))))
    unfolding value
    value_by true q same =
        let inside : (leb x.number q && ltb q (x.number + 1)) ≡ true = grind (arith, nat_tests) in
        ap (λ b. is_some (cond b (Some Zero) (first_page a (take k v.pages) q))) inside
    value_by false q other = chosen_by (leb x.number q && ltb q (x.number + 1))
      where
        chosen_by : (b : Bool) → is_some (cond b (Some Zero) (first_page a (take k v.pages) q)) ≡ is_some (own_value (cond b (Own (Some Zero)) (Own (first_page a (take k v.pages) q))))
        chosen_by true = refl
        chosen_by false = refl

    value-there : (q : ℕ) → is_some (value q) ≡ has (page_numbers (take (k + 1) v.pages)) q
    unfolding mapped had vault_context
    value-there q =
        value_by (eqb q x.number) q refl ∙ ap (λ c. is_some (own_value c)) (cell_with_page (Page q)) ∙ first_page-there a (take (k + 1) v.pages) q

    few_ranges_in : ranges pages mapped ≤ 64
    few_ranges_in =
        omega (arith, ranges-own mapped (page_numbers (take (k + 1) v.pages)) value value_is right_is value-there pages, ranges-take None (k + 1) v.pages, few_begin None v.pages, is_vault.few)

    tagged_by : (b : Bool) (v : Option PageValue) → length (tag_of (cond b (Some Zero) v)) ≤ num (is_some v)
    tagged_by true v = omega arith
    tagged_by false v = one_tag v

    tagged : (q : ℕ) → length (tag_of (own_value (mapped.cell (Page q)))) ≤ num (has (page_numbers (take k v.pages)) q)
    unfolding value
    tagged q =
        let at : length (tag_of (own_value (mapped.cell (Page q)))) ≡ length (tag_of (value q)) = ap (λ c. length (tag_of (own_value c))) (value_is q) in
        let had_it = first_page-there a (take k v.pages) q in
        omega (arith, at, tagged_by (leb x.number q && ltb q (x.number + 1)) (first_page a (take k v.pages) q), ap num had_it)

    frame_left : used (with_context w vault_name (length (take k v.pages)) mapped) < w.size.frames
    unfolding start_world world_with
    frame_left =
        let tags = tags-within mapped (page_numbers (take k v.pages)) tagged pages in
        let numbers : length (page_numbers (take k v.pages)) ≡ k = length-map (take k v.pages) (λ y. y.number) ∙ length-take-le k v.pages (omega (arith, within)) in
        omega (arith, used-two image is frames (length (take k v.pages)) mapped, first_tags image is frames, tags, numbers, within, fits)

    abbrev here : World
    here = vault_so_far w v.entry (take k v.pages)

    abbrev then : World
    then = map_pages here vault_name x.number (x.number + 1)

    is_mapped : then ≡ with_context w vault_name (length (take k v.pages)) mapped
    unfolding mapped had
    is_mapped = map-held w vault_name (length (take k v.pages)) (vault_context a v.entry (take k v.pages)) x.number (x.number + 1)

    few_ranges : ranges_of then vault_name ≤ 64
    unfolding ranges_of with_context change_counters start_world world_with
    few_ranges =
        subst (λ (u : World). ranges_of u vault_name ≤ 64) (sym is_mapped)
        (subst (λ (y : Context). ranges pages y ≤ 64) (sym (context-held w vault_name (length (take k v.pages)) mapped)) few_ranges_in)

    pub next_stored : store then vault_name 0 (page_piece x.number x.bytes) ≡ Done (vault_so_far w v.entry (take (k + 1) v.pages))
    next_stored =
        let count : length (take k v.pages) + 1 ≡ length (take (k + 1) v.pages) = omega (arith, length-take-le k v.pages (omega (arith, within)), length-take-le (k + 1) v.pages (omega (arith, within))) in
        ap (λ u. store u vault_name 0 (page_piece x.number x.bytes)) is_mapped
        ∙ store-held w vault_name (length (take k v.pages)) x.number mapped x.bytes whole zeros (right_is x.number) frame_left
        ∙ (λ i. Done (with_context w vault_name (count i) (context_with_page i)))

    number_in : x.number < (vault_so_far w v.entry (take k v.pages)).size.pages
    unfolding with_context change_counters start_world world_with
    number_in = number_below

    size_stays : then.size.pages ≡ (vault_so_far w v.entry (take k v.pages)).size.pages
    unfolding with_context change_counters
    size_stays = ap (λ (u : World). u.size.pages) is_mapped

    most : (vault_so_far w v.entry (take k v.pages)).size.pages ≤ 16384
    unfolding with_context change_counters start_world world_with
    most = most_pages image.form

    few_taken : length (take k v.pages) ≤ 64
    few_taken = omega (arith, length-take-le k v.pages (omega (arith, within)), within, is_vault.few)

    pub can_put : CanPutPage (vault_so_far w v.entry (take k v.pages)) vault_name x
    can_put = record {
      live = live-held w vault_name (length (take k v.pages)) (vault_context a v.entry (take k v.pages));
      number = number_in;
      whole = whole;
      few = few_ranges;
      stays = subst (λ (u : World). is_live u vault_name ≡ true) (sym is_mapped) (live-held w vault_name (length (take k v.pages)) mapped);
      size = size_stays;
      most = most;
      may = subst (λ (u : World). MayName u 0) (sym is_mapped) (may_name image is frames (length (take k v.pages)) mapped few_taken);
      after = vault_so_far w v.entry (take (k + 1) v.pages);
      stored = next_stored;
    }
