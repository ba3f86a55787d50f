-- Lists of tags: how often each is there, and how many different ones there are.
use Rattle.std.proofs.Common.{◌≡◌, ℕ, ◌+◌, ◌<◌, ◌≤◌, cond, List, [], ◌∷◌, length, get_or, refl, sym, ◌∙◌, ap, arith, subst, Option, None, Some}
use Rattle.std.specs.List.{flat_map, range_with_len, sum_by}
use Rattle.std.specs.Ordering.{is_eq}
use Rattle.std.specs.FinSet as set
use Rattle.std.proofs.lemmas.Bool.Decides.{nat_tests}
use Rattle.std.proofs.lemmas.List.FromFn.{get_or-range_with_len, length-range_with_len}
use Rattle.std.proofs.lemmas.List.Sums.{get_or-le-sum_by, sum_by-append, sum_by-cons}
use Rattle.pool_base.proofs.Totals.{total, total-at, total-list, total-same, total-some, total2, total2-two, total2-other, IsElsewhere}
use Rattle.lwc_base.specs.Frames.{tag_of}
use Rattle.lwc_base.proofs.Tags.{among}
use Rattle.lwc_types.specs.declared.name.Tag.{Tag}
use Rattle.lwc_types.specs.declared.page.PageValue.{PageValue}
use Rattle.lwc_types.specs.declared.page.PageValue.TheVariants.{Zero, Data}
use Rattle.lwc_types.specs.Names.{tag_cmp}
use Rattle.lwc_types.proofs.Orders.{same_tag, tag-itself, tag_cmp-IsAntisymmetric, tag_cmp-total}
use Rattle.cow_space.specs.Maps.{no_pages, row_of}
use Rattle.cow_space.specs.Tags.{different, row_tags, tags_of_map, times}
use Rattle.lwc_types.proofs.Small.{sum-some}
use Rattle.page_tree.specs.declared.store.TheConstants.{PAGES}

-- lists with the same tags have as many different ones
pub different-same : (xs ys : List Tag) → ((t : Tag) → 0 < times t ys → 0 < times t xs) → ((t : Tag) → 0 < times t xs → 0 < times t ys) → different ys ≡ different xs
unfolding different times
different-same xs ys there back =
    ap set.len (set.same_set tag_cmp-total tag_cmp-IsAntisymmetric (set.from_list {R = tag_cmp} ys) (set.from_list xs)
    (λ t. grind (arith, nat_tests, set.contains-from_list tag_cmp-total ys t, set.contains-from_list tag_cmp-total xs t, among t ys, among t xs, there t, back t)))

pub different-none : different [] ≡ 0
unfolding different
different-none = set.len-empty tag_cmp

-- and one more where a new tag is there too
pub different-more : (t : Tag) (ts : List Tag) → times t ts ≡ 0 → different (t ∷ ts) ≡ different ts + 1
unfolding different times
different-more t ts new =
    grind (arith, nat_tests, set.len-insert tag_cmp-total (set.from_list {R = tag_cmp} ts) t, set.contains-from_list tag_cmp-total ts t, among t ts, new)

-- how often a tag is in lists one after another

pub times-cons : (t u : Tag) (ts : List Tag) → times t (u ∷ ts) ≡ times t (u ∷ []) + times t ts
unfolding times
times-cons t u ts = omega (arith, sum_by-cons (λ (s : Tag). cond (is_eq (tag_cmp s t)) 1 0) u ts)

pub times-flat_map : {X : Type 0} (t : Tag) (f : X → List Tag) (xs : List X) → times t (flat_map f xs) ≡ sum_by (λ x. times t (f x)) xs
unfolding times
times-flat_map t f [] = refl
times-flat_map t f (x ∷ xs) =
    sum_by-append (λ u. cond (is_eq (tag_cmp u t)) 1 0) (f x) (flat_map f xs) ∙ ap (λ n. times t (f x) + n) (times-flat_map t f xs) ∙ sym (sum_by-cons (λ y. times t (f y)) x xs)

-- how often it is at a value, and at the pages of a map

pub times-le : (t : Tag) (v : Option PageValue) → times t (tag_of v) ≤ 1
unfolding times
times-le t None = omega arith
times-le t (Some Zero) = omega arith
times-le t (Some (Data own bytes)) = grind arith

pub times-from : (t : Tag) (v : Option PageValue) → 0 < times t (tag_of v) → (bytes : List ℕ) × (v ≡ Some (Data t bytes))
unfolding times
times-from t None some = absurd (omega (arith, some))
times-from t (Some Zero) some = absurd (omega (arith, some))
times-from t (Some (Data own bytes)) some = (bytes, ap (λ u. Some (Data u bytes)) (grind (arith, some, same_tag own t)))

pub times-is : (t : Tag) (bytes : List ℕ) (v : Option PageValue) → v ≡ Some (Data t bytes) → times t (tag_of v) ≡ 1
unfolding times
times-is t bytes v is = grind (arith, tag-itself t)

pub times-map : (t : Tag) (m : ℕ → Option PageValue) → times t (tags_of_map m) ≡ total (λ p. times t (tag_of (m p))) PAGES
unfolding tags_of_map
times-map t m =
    times-flat_map t (λ p. tag_of (m p)) (range_with_len 0 PAGES)
    ∙ total-list (λ p. times t (tag_of (m p))) (range_with_len 0 PAGES) 0
    ∙ ap (λ n. total (λ k. times t (tag_of (m (get_or (range_with_len 0 PAGES) k 0)))) n) (length-range_with_len 0 PAGES)
    ∙ total-same (λ k. times t (tag_of (m (get_or (range_with_len 0 PAGES) k 0)))) (λ p. times t (tag_of (m p))) PAGES (λ p lt. ap (λ k. times t (tag_of (m k))) (get_or-range_with_len 0 PAGES p 0 lt ∙ omega arith))

-- a map that has a tag has it at a page
pub map-has : (t : Tag) (m : ℕ → Option PageValue) → 0 < times t (tags_of_map m) → (p : ℕ) × ((p < PAGES) × ((bytes : List ℕ) × (m p ≡ Some (Data t bytes))))
map-has t m some =
    let at = total-some (λ p. times t (tag_of (m p))) PAGES (subst (λ n. 0 < n) (times-map t m) some) in
    (at.0, (at.1.0, times-from t (m at.0) at.1.1))

pub page-le : (t : Tag) (m : ℕ → Option PageValue) (p : ℕ) → p < PAGES → times t (tag_of (m p)) ≤ times t (tags_of_map m)
page-le t m p lt = subst (λ n. times t (tag_of (m p)) ≤ n) (sym (times-map t m)) (total-at (λ q. times t (tag_of (m q))) PAGES p lt)

-- how often it is at the pages of rows

-- a row has a tag at a page
pub record HasTag (maps : List (ℕ → Option PageValue)) (tag : Tag) : Type 0 where
  pub k : ℕ
  pub p : ℕ
  pub bytes : List ℕ
  pub inside : k < length maps
  pub below : p < PAGES
  pub is : row_of maps k p ≡ Some (Data tag bytes)

module _ (maps : List (ℕ → Option PageValue)) (t : Tag) where
  abbrev times_at : ℕ → ℕ → ℕ
  times_at k p = times t (tag_of (row_of maps k p))

  times-rows : times t (row_tags maps) ≡ total2 times_at (length maps) PAGES
  unfolding row_tags
  times-rows =
      times-flat_map t tags_of_map maps ∙ total-list (λ m. times t (tags_of_map m)) maps no_pages
      ∙ total-same (λ k. times t (tags_of_map (row_of maps k))) (λ k. total (times_at k) PAGES) (length maps) (λ k _. times-map t (row_of maps k))

  -- the tags of the rows are those that a row has at a page
  pub tag-some : HasTag maps t → 0 < times t (row_tags maps)
  unfolding row_tags
  tag-some has =
      omega (
        arith,
        times-flat_map t tags_of_map maps,
        get_or-le-sum_by (λ m. times t (tags_of_map m)) maps has.k no_pages has.inside,
        page-le t (row_of maps has.k) has.p has.below,
        times-is t has.bytes (row_of maps has.k has.p) has.is,
      )

  pub some-tag : 0 < times t (row_tags maps) → HasTag maps t
  unfolding row_tags
  some-tag some =
      let row = sum-some (λ m. times t (tags_of_map m)) maps no_pages (omega (arith, some, times-flat_map t tags_of_map maps)) in
      let page = map-has t (row_of maps row.0) row.1.1 in
      record { k = row.0; p = page.0; bytes = page.1.1.0; inside = row.1.0; below = page.1.0; is = page.1.1.1 }

  -- a tag that is at two pages is in the list more than once
  pub two-times : (i p : ℕ) (bytes : List ℕ) → i < length maps → p < PAGES → row_of maps i p ≡ Some (Data t bytes) → (other : HasTag maps t) → IsElsewhere i p other.k other.p → 1 < times t (row_tags maps)
  two-times i p bytes i_in p_in is other apart =
      let one = times-is t bytes (row_of maps i p) is in
      let two = times-is t other.bytes (row_of maps other.k other.p) other.is in
      omega (arith, times-rows, total2-two times_at (length maps) PAGES i p other.k other.p i_in p_in other.inside other.below apart (omega (arith, one)) (omega (arith, two)))

  -- a tag that is in the list more than once is at another page too
  pub other-time : (i p : ℕ) → i < length maps → p < PAGES → 1 < times t (row_tags maps) → (other : HasTag maps t) × IsElsewhere i p other.k other.p
  other-time i p i_in p_in more =
      let off = total2-other times_at (length maps) PAGES i p i_in p_in (times-le t (row_of maps i p)) (omega (arith, times-rows, more)) in
      let found = times-from t (row_of maps off.c off.d) off.some in
      (record { k = off.c; p = off.d; bytes = found.0; inside = off.c_in; below = off.d_in; is = found.1 }, off.apart)
