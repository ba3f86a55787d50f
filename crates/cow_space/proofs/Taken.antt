-- Places of which a page is written, or that get what other places have: the frames that they use, and the pages that part.
use Rattle.std.proofs.Common.{◌≡◌, ◌≢◌, ℕ, ◌+◌, ◌<◌, ◌≤◌, ◌⊎◌, inl, inr, ⊎_elim, Bool, true, false, cond, eqb, ltb, List, ◌∷◌, [], length, set, refl, sym, ◌∙◌, ap, arith, get_or-set_other, Option, None, Some, unwrap_or}
use Rattle.std.specs.Prelude.{All}
use Rattle.std.specs.Option.{MatchOption}
use Rattle.std.proofs.lemmas.Bool.{cases_Bool, cases_eq, cases_lt, cond-true, cond-false, eq-eqb, ltb-true, ne_eqb}
use Rattle.std.proofs.lemmas.Bool.Decides.{nat_tests}
use Rattle.std.proofs.lemmas.List.{get_or-set_same}
use Rattle.std.proofs.lemmas.List.Sums.{get_or-le-sum_by, sum_by-set}
use Rattle.pool_base.proofs.Totals.{total, total-same, total-zero}
use Rattle.lwc_base.specs.declared.cell.Cell.{Cell}
use Rattle.lwc_base.specs.declared.cell.Cell.TheVariants as cell
use Rattle.lwc_base.specs.Frames.{own_value, tag_of}
use Rattle.lwc_base.specs.Store.{Piece, bytes_after, stored_value}
use Rattle.lwc_types.specs.declared.name.Tag.{Tag}
use Rattle.lwc_types.specs.declared.page.PageValue.{PageValue}
use Rattle.lwc_types.specs.declared.page.PageValue.TheVariants.{Zero, Data}
use Rattle.lwc_types.specs.Pages.{bytes_of}
use Rattle.range_map.specs.Kinds.{is_between, kind_of}
use Rattle.cow_space.specs.Maps.{put_page}
use Rattle.cow_space.specs.declared.page_runs.Origin.{Origin}
use Rattle.cow_space.specs.declared.page_runs.Origin.TheVariants.{Absent, Zeros, Common, CopyOf}
use Rattle.cow_space.specs.declared.page_runs.PageRun.{PageRun}
use Rattle.cow_space.specs.Changes.{IsApart, IsPageRun, cell_by, changed_place, origin_cell, page_run_at}
use Rattle.cow_space.specs.Cells.{IsOwnPage, Place, kinds_of, no_pages, place_of}
use Rattle.cow_space.specs.Tags.{IsNewTag, different, is_parting, own_values, parts, taken_by, tags, tags_of_place, times, used}
use Rattle.cow_space.specs.Writes.{page_value, write_page, written_value}
use Rattle.cow_space.proofs.Changed.{find-holds}
use Rattle.cow_space.proofs.Lists.{total-change}
use Rattle.cow_space.proofs.TagLemmas.{different-more, different-same, map-has, page-le, times-cons, times-flat_map, times-from, times-is, times-le, times-map}
use Rattle.lwc_types.proofs.Small.{sum-some}
use Rattle.page_tree.specs.declared.store.TheConstants.{PAGES}

pub own-cell : (c : Cell (Option PageValue)) (v : PageValue) → own_value c ≡ Some v → c ≡ cell.Own (Some v)
own-cell (cell.Own o) v is = ap (λ x. cell.Own x) is
own-cell (cell.Common g) v is = absurd cc

-- how often a tag is at places

unfolding-place : (t : Tag) (place : Place) → times t (tags_of_place place) ≡ total (λ p. times t (tag_of (own_value (place p)))) PAGES
unfolding tags_of_place
unfolding-place t place = times-map t (own_values place)

-- one place is another now
set-times : (cells : List Place) (i : ℕ) (place : Place) (t : Tag) → i < length cells → times t (tags (set cells i place)) + times t (tags_of_place (place_of cells i)) ≡ times t (tags cells) + times t (tags_of_place place)
unfolding tags
set-times cells i place t inside =
    omega (arith, times-flat_map t tags_of_place (set cells i place), times-flat_map t tags_of_place cells, sum_by-set (λ (x : Place). times t (tags_of_place x)) cells i place no_pages inside)

-- one page is another now
put-times : (place : Place) (p : ℕ) (c : Cell (Option PageValue)) (t : Tag) → p < PAGES →
    times t (tags_of_place (put_page place p c)) + times t (tag_of (own_value (place p))) ≡ times t (tags_of_place place) + times t (tag_of (own_value c))
put-times place p c t lt =
    let at : put_page place p c p ≡ c = cond-true (eqb p p) c (place p) (eq-eqb p p refl) in
    let change = total-change (λ q. times t (tag_of (own_value (put_page place p c q)))) (λ q. times t (tag_of (own_value (place q)))) PAGES p lt
    (λ q off. ap (λ x. times t (tag_of (own_value x))) (cond-false (eqb q p) c (place q) (ne_eqb q p off))) in
    ap (λ n. n + times t (tag_of (own_value (place p)))) (unfolding-place t (put_page place p c)) ∙ change ∙ (λ e. sym (unfolding-place t place) e + times t (tag_of (own_value (at e))))

place-le : (cells : List Place) (j : ℕ) (t : Tag) → j < length cells → times t (tags_of_place (place_of cells j)) ≤ times t (tags cells)
unfolding tags
place-le cells j t low = omega (arith, times-flat_map t tags_of_place cells, get_or-le-sum_by (λ (x : Place). times t (tags_of_place x)) cells j no_pages low)

pub none-times : (t : Tag) → times t (tags_of_place no_pages) ≡ 0
unfolding times
none-times t = unfolding-place t no_pages ∙ total-zero PAGES

-- a tag of places is at a page of one
tag-at : (cells : List Place) (t : Tag) → 0 < times t (tags cells) → (k : ℕ) × ((p : ℕ) × ((bytes : List ℕ) × (place_of cells k p ≡ cell.Own (Some (Data t bytes)))))
unfolding tags tags_of_place
tag-at cells t some =
    let place = sum-some (λ x. times t (tags_of_place x)) cells no_pages (omega (arith, some, times-flat_map t tags_of_place cells)) in
    let page = map-has t (own_values (place_of cells place.0)) place.1.1 in
    (place.0, (page.0, (page.1.1.0, own-cell (place_of cells place.0 page.0) (Data t page.1.1.0) page.1.1.1)))

pub new-times : (cells : List Place) (tag : Tag) → IsNewTag cells tag → times tag (tags cells) ≡ 0
new-times cells tag new =
    ⊎_elim (λ some. absurd (let at = tag-at cells tag some in new at.0 at.1.0 at.1.1.0 at.1.1.1)) (λ none. omega (arith, none)) (cases_lt 0 (times tag (tags cells)))

-- a page of a place is this one, or another
spot-cases : (i p k q : ℕ) → ((k ≡ i) × (q ≡ p)) ⊎ (k ≡ i → q ≢ p)
spot-cases i p k q = ⊎_elim (λ page. ⊎_elim (λ place. inl (place, page)) (λ off. inr (λ same. absurd (off same))) (cases_eq k i)) (λ off. inr (λ _. off)) (cases_eq q p)

-- a value that does not part has bytes
own-bytes : (tags : List Tag) (o : Option PageValue) → parts tags o ≡ false → (own : Tag) × (bytes : List ℕ) × (o ≡ Some (Data own bytes))
own-bytes tags None alone = absurd cc
own-bytes tags (Some Zero) alone = absurd cc
own-bytes tags (Some (Data own bytes)) alone = (own, bytes, refl)

-- where a value parts, its tag is at another page too
parting-tag : (tags : List Tag) (t : Tag) (o : Option PageValue) → parts tags o ≡ true → 0 < times t (tag_of o) → 1 < times t tags
parting-tag tags t o parting some =
    let at = times-from t o some in ltb-true 1 (times t tags) (sym (ap (parts tags) at.1) ∙ parting)

-- what is stored has the new tag where the page parts, and else the page's own
stored-parting : (tag t : Tag) (v : PageValue) (bytes : List ℕ) → times t (tag_of (Some (stored_value true tag v bytes))) ≡ times t (tag ∷ [])
stored-parting tag t Zero bytes = refl
stored-parting tag t (Data own old) bytes = refl

pub value-tags : (b : Bool) (tag t : Tag) (c : Cell (Option PageValue)) (bytes bs : List ℕ) → stored_value b tag (unwrap_or (own_value c) Zero) bytes ≡ Data t bs → (tag ≡ t) ⊎ ((a : List ℕ) × (c ≡ cell.Own (Some (Data t a))))
value-tags b tag t (cell.Own None) bytes bs is = inl cc
value-tags b tag t (cell.Own (Some Zero)) bytes bs is = inl cc
value-tags true tag t (cell.Own (Some (Data s old))) bytes bs is = inl cc
value-tags false tag t (cell.Own (Some (Data s old))) bytes bs is =
    let same : s ≡ t = cc in inr (old, ap (λ u. cell.Own (Some (Data u old))) same)
value-tags b tag t (cell.Common g) bytes bs is = inl cc

some-of : (a b : PageValue) → Some a ≡ Some b → a ≡ b
some-of a b is = cc

module _ (cells : List Place) (i p : ℕ) (piece : Piece) (tag : Tag) (inside : i < length cells) where
  abbrev now : List Place
  now = write_page cells i p piece tag

  abbrev written : PageValue
  written = written_value cells i p piece tag

  at-page : place_of now i p ≡ cell.Own (Some written)
  at-page =
      ap (λ (place : Place). place p) (get_or-set_same cells i (put_page (place_of cells i) p (cell.Own (Some written))) no_pages inside)
      ∙ cond-true (eqb p p) (cell.Own (Some written)) (place_of cells i p) (eq-eqb p p refl)

  -- another page, of this place or of another one, is as it was
  pub page-same : (j q : ℕ) → (j ≡ i → q ≢ p) → place_of now j q ≡ place_of cells j q
  page-same j q off =
      let here = ap (λ (place : Place). place q) (get_or-set_same cells i (put_page (place_of cells i) p (cell.Own (Some written))) no_pages inside) in
      let there = λ (away : j ≢ i). ap (λ (place : Place). place q) (get_or-set_other cells i j (put_page (place_of cells i) p (cell.Own (Some written))) no_pages away) in
      grind (arith, nat_tests, off, here, there)

  pub written-kinds : (j : ℕ) → IsOwnPage (place_of cells i p) → kinds_of (place_of now j) ≡ kinds_of (place_of cells j)
  written-kinds j own = λ x q. ⊎_elim
      (λ here. (λ y. kind_of (place_of now (here.0 y) (here.1 y))) ∙ ap kind_of at-page ∙ sym own ∙ (λ y. kind_of (place_of cells (sym here.0 y) (sym here.1 y))))
      (λ off. ap kind_of (page-same j q off))
      (spot-cases i p j q) x

  -- the written page has a tag that is the new one, or was its own
  page-tag : (t : Tag) (bytes : List ℕ) → Some written ≡ Some (Data t bytes) → (tag ≡ t) ⊎ ((a : List ℕ) × (place_of cells i p ≡ cell.Own (Some (Data t a))))
  page-tag t bytes is =
      value-tags (is_parting cells i p) tag t (place_of cells i p) (bytes_after piece p (bytes_of (page_value cells i p))) bytes (some-of written (Data t bytes) is)

  pub new-still : (next : Tag) → IsNewTag cells next → next ≢ tag → IsNewTag now next
  new-still next new off k q bytes is =
      ⊎_elim
      (λ here.
      let value = ap own_value (sym at-page ∙ (λ x. place_of now (sym here.0 x) (sym here.1 x)) ∙ is) in
      ⊎_elim (λ same. off (sym same)) (λ was. new i p was.0 was.1) (page-tag next bytes value))
      (λ away. new k q bytes (sym (page-same k q away) ∙ is))
      (spot-cases i p k q)

  -- how often a tag is at the places now
  now-times : (t : Tag) → p < PAGES → times t (tags now) + times t (tag_of (own_values (place_of cells i) p)) ≡ times t (tags cells) + times t (tag_of (Some written))
  now-times t below =
      omega (arith, set-times cells i (put_page (place_of cells i) p (cell.Own (Some written))) t inside, put-times (place_of cells i) p (cell.Own (Some written)) t below)

  pub write-taken : p < PAGES → IsNewTag cells tag → used now ≡ used cells + taken_by cells i p
  unfolding used is_parting
  write-taken below new = ⊎_elim parted alone (cases_Bool (parts (tags cells) (own_values (place_of cells i) p)))
    where
      old : Option PageValue
      old = own_values (place_of cells i) p

      stored : Bool → PageValue
      stored b = stored_value b tag (page_value cells i p) (bytes_after piece p (bytes_of (page_value cells i p)))

      parted : parts (tags cells) old ≡ true → different (tags now) ≡ different (tags cells) + cond (parts (tags cells) old) 1 0
      parted parting =
          let have : (t : Tag) → times t (tags now) + times t (tag_of old) ≡ times t (tags cells) + times t (tag ∷ []) =
          λ t. now-times t below ∙ ap (λ n. times t (tags cells) + n) (ap (λ b. times t (tag_of (Some (stored b)))) parting ∙ stored-parting tag t (page_value cells i p) _) in
          different-same (tag ∷ tags cells) (tags now)
          (λ t some. omega (arith, have t, some, times-cons t tag (tags cells)))
          (λ t some. ⊎_elim
          (λ mine. omega (arith, have t, times-le t old, parting-tag (tags cells) t old parting mine))
          (λ none. omega (arith, have t, some, none, times-cons t tag (tags cells)))
          (cases_lt 0 (times t (tag_of old))))
          ∙ different-more tag (tags cells) (new-times cells tag new)
          ∙ ap (λ b. different (tags cells) + cond b 1 0) (sym parting)

      alone : parts (tags cells) old ≡ false → different (tags now) ≡ different (tags cells) + cond (parts (tags cells) old) 1 0
      alone sole =
          let own = own-bytes (tags cells) old sole in
          let value : (t : Tag) → times t (tag_of (Some (stored (parts (tags cells) old)))) ≡ times t (tag_of old) =
          λ t. ap (λ b. times t (tag_of (Some (stored b)))) sole
          ∙ ap (λ o. times t (tag_of (Some (stored_value false tag (unwrap_or o Zero) (bytes_after piece p (bytes_of (unwrap_or o Zero))))))) own.2
          ∙ ap (λ o. times t (tag_of o)) (sym own.2) in
          different-same (tags cells) (tags now)
          (λ t some. omega (arith, now-times t below, value t, some)) (λ t some. omega (arith, now-times t below, value t, some))
          ∙ (let more : different (tags cells) ≡ different (tags cells) + 0 = omega arith in more)
          ∙ ap (λ b. different (tags cells) + cond b 1 0) (sym sole)

  -- another page under another tag parts as before
  pub parting-others : (j q : ℕ) → (j ≡ i → q ≢ p) → IsNewTag cells tag →
      ((t : Tag) (a b : List ℕ) → place_of cells i p ≡ cell.Own (Some (Data t a)) → place_of cells j q ≢ cell.Own (Some (Data t b))) → is_parting now j q ≡ is_parting cells j q
  unfolding is_parting
  parting-others j q off new apart = ap (λ c. parts (tags now) (own_value c)) (page-same j q off) ∙ by (own_value (place_of cells j q)) refl
    where
      without : (t : Tag) (v : Option PageValue) → ((bytes : List ℕ) → v ≡ Some (Data t bytes) → ⊥) → times t (tag_of v) ≡ 0
      without t v off = ⊎_elim (λ some. absurd (let at = times-from t v some in off at.0 at.1)) (λ none. omega (arith, none)) (cases_lt 0 (times t (tag_of v)))

      same-times : (t : Tag) → times t (tag_of (own_values (place_of cells i) p)) ≡ 0 → times t (tag_of (Some written)) ≡ 0 → times t (tags now) ≡ times t (tags cells)
      same-times t was is_now =
          ⊎_elim
          (λ below. omega (arith, now-times t below, was, is_now))
          (λ past.
          let same : times t (tags_of_place (put_page (place_of cells i) p (cell.Own (Some written)))) ≡ times t (tags_of_place (place_of cells i)) =
          unfolding-place t (put_page (place_of cells i) p (cell.Own (Some written)))
          ∙ total-same (λ r. times t (tag_of (own_value (put_page (place_of cells i) p (cell.Own (Some written)) r)))) (λ r. times t (tag_of (own_value (place_of cells i r)))) PAGES
          (λ r low. ap (λ x. times t (tag_of (own_value x))) (cond-false (eqb r p) (cell.Own (Some written)) (place_of cells i r) (ne_eqb r p (λ is. absurd (omega (arith, is, low, past))))))
          ∙ sym (unfolding-place t (place_of cells i)) in
          omega (arith, set-times cells i (put_page (place_of cells i) p (cell.Own (Some written))) t inside, same))
          (cases_lt p PAGES)

      by : (v : Option PageValue) → own_value (place_of cells j q) ≡ v → parts (tags now) v ≡ parts (tags cells) v
      by None is = refl
      by (Some Zero) is = refl
      by (Some (Data t b)) is =
          let there : place_of cells j q ≡ cell.Own (Some (Data t b)) = own-cell (place_of cells j q) (Data t b) is in
          let was : times t (tag_of (own_values (place_of cells i) p)) ≡ 0 = without t (own_values (place_of cells i) p) (λ a here. apart t a b (own-cell (place_of cells i p) (Data t a) here) there) in
          let is_now : times t (tag_of (Some written)) ≡ 0 = without t (Some written) (λ a here. ⊎_elim
          (λ fresh. new j q b (there ∙ ap (λ s. cell.Own (Some (Data s b))) (sym fresh)))
          (λ mine. apart t mine.0 b mine.1 there)
          (page-tag t a here)) in
          ap (ltb 1) (same-times t was is_now)

-- a place without pages that gets pages of places alone
module _ (cells : List Place) (to : ℕ) (inside : to < length cells) (none : place_of cells to ≡ no_pages) where
  copied-used : (place : Place) → ((t : Tag) → 0 < times t (tags_of_place place) → 0 < times t (tags cells)) → used (set cells to place) ≡ used cells
  unfolding used
  copied-used place there =
      let sum : (t : Tag) → times t (tags (set cells to place)) ≡ times t (tags cells) + times t (tags_of_place place) =
      λ t. omega (arith, set-times cells to place t inside, ap (λ x. times t (tags_of_place x)) none, none-times t) in
      different-same (tags cells) (tags (set cells to place))
      (λ t some. ⊎_elim (λ mine. there t mine) (λ other. omega (arith, sum t, some, other)) (cases_lt 0 (times t (tags_of_place place))))
      (λ t some. omega (arith, sum t, some))

  pub cloned-used : (from : ℕ) → from < length cells → used (set cells to (place_of cells from)) ≡ used cells
  cloned-used from low = copied-used (place_of cells from) (λ t some. omega (arith, some, place-le cells from t low))

  -- a value with bytes that a page has or is given is at a page of a place
  in-place : (j p : ℕ) (t : Tag) (bytes : List ℕ) → j < length cells → p < PAGES → own_value (place_of cells j p) ≡ Some (Data t bytes) → 0 < times t (tags cells)
  unfolding tags_of_place
  in-place j p t bytes low below is =
      omega (arith, place-le cells j t low, page-le t (own_values (place_of cells j)) p below, times-is t bytes (own_value (place_of cells j p)) is)

  by-origin : (origin : Origin) (p : ℕ) (t : Tag) (bytes : List ℕ) → p < PAGES → IsApart (length cells) to origin → own_value (origin_cell cells origin p) ≡ Some (Data t bytes) → 0 < times t (tags cells)
  by-origin Absent p t bytes below apart is = absurd cc
  by-origin Zeros p t bytes below apart is = absurd cc
  by-origin (Common g) p t bytes below apart is = absurd cc
  by-origin (CopyOf j) p t bytes below apart is = in-place j p t bytes apart.0 below is

  by-page_run : (o : Option PageRun) (p : ℕ) (t : Tag) (bytes : List ℕ) → p < PAGES → MatchOption o (Unit {0}) (λ s. IsPageRun (length cells) to s × (is_between s.range.from s.range.to p ≡ true)) →
      own_value (cell_by cells p (place_of cells to p) o) ≡ Some (Data t bytes) → 0 < times t (tags cells)
  by-page_run None p t bytes below holds is = in-place to p t bytes inside below is
  by-page_run (Some s) p t bytes below holds is = by-origin s.origin p t bytes below holds.0.given is

  pub changed-used : (page_runs : List PageRun) → All (IsPageRun (length cells) to) page_runs → used (set cells to (changed_place cells to page_runs)) ≡ used cells
  unfolding changed_place tags_of_place
  changed-used page_runs are =
      copied-used (changed_place cells to page_runs) (λ t some.
      let at = map-has t (own_values (changed_place cells to page_runs)) some in
      by-page_run (page_run_at page_runs at.0) at.0 t at.1.1.0 at.1.0 (find-holds (λ (s : PageRun). is_between s.range.from s.range.to at.0) (IsPageRun (length cells) to) page_runs are) at.1.1.1)
