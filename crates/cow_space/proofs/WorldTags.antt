-- The tags of a world that stands at places are those of the places.
use Rattle.std.proofs.Common.{◌≡◌, ◌≢◌, ℕ, zero, suc, ◌+◌, ◌<◌, ◌≤◌, ⊎_elim, ltb, List, [], ◌∷◌, ◌++◌, length, get_or, set, map, refl, sym, ◌∙◌, ap, arith, length-set, get_or-set_other, None, Some}
use Rattle.std.specs.Prelude.{All}
use Rattle.std.specs.List.{AllPairs, Contains, flat_map, range_with_len, sum_by}
use Rattle.std.proofs.lemmas.Bool.{cases_eq, cases_lt}
use Rattle.std.proofs.lemmas.List.{get_or-map, get_or-set_same, get_or_past, length-map}
use Rattle.std.proofs.lemmas.List.Sums.{sum_by-cons, sum_by-set}
use Rattle.lwc_base.specs.declared.cell.Cell.TheVariants as cell
use Rattle.lwc_base.specs.Frames as worlds
use Rattle.lwc_base.specs.Frames.{own_value, tag_of}
use Rattle.lwc_base.specs.World.{Context, Group, World}
use Rattle.lwc_types.specs.declared.key.Key.TheVariants.{Page}
use Rattle.lwc_types.specs.declared.name.Tag.{Tag}
use Rattle.lwc_types.specs.declared.page.PageValue.{PageValue}
use Rattle.lwc_types.specs.declared.page.PageValue.TheVariants.{Zero, Data}
use Rattle.cow_space.specs.Cells.{Place, no_pages, place_of}
use Rattle.cow_space.specs.Tags.{different, is_parting, parts, tags, tags_of_map, tags_of_place, times, used}
use Rattle.cow_space.specs.Worlds.{HoldAllTags, tags_at}
use Rattle.cow_space.proofs.TagLemmas.{different-same, times-flat_map}
use Rattle.cow_space.proofs.Taken.{none-times}
use Rattle.lwc_types.specs.declared.limits.TheConstants.{MOST_PAGES}

-- pages past the last one add nothing

none-flat : {A : Type 0} (g : ℕ → List A) (a m : ℕ) → ((p : ℕ) → a ≤ p → g p ≡ []) → [] ≡ flat_map g (range_with_len a m)
none-flat g a zero none = refl
none-flat g a (suc m) none = none-flat g (a + 1) m (λ p le. none p (omega (arith, le))) ∙ ap (λ ts. ts ++ flat_map g (range_with_len (a + 1) m)) (sym (none a (omega arith)))

flat-more : {A : Type 0} (f g : ℕ → List A) (a n m : ℕ) → n ≤ m → ((p : ℕ) → a ≤ p → p < a + n → f p ≡ g p) → ((p : ℕ) → a + n ≤ p → g p ≡ []) → flat_map f (range_with_len a n) ≡ flat_map g (range_with_len a m)
flat-more f g a zero m le same none = none-flat g a m (λ p past. none p (omega (arith, past)))
flat-more f g a (suc n) zero le same none = absurd (omega (arith, le))
flat-more f g a (suc n) (suc m) le same none =
    let head = same a (omega arith) (omega arith) in
    let tail = flat-more f g (a + 1) n m (omega (arith, le)) (λ p low high. same p (omega (arith, low)) (omega (arith, high))) (λ p past. none p (omega (arith, past))) in
    λ i. head i ++ tail i

pub context-tags : (pages : ℕ) (x : Context) (place : Place) → pages ≤ MOST_PAGES → ((p : ℕ) → p < pages → place p ≡ x.cell (Page p)) → ((p : ℕ) → pages ≤ p → place p ≡ cell.Own None) → worlds.tags_of_context pages x ≡ tags_of_place place
unfolding worlds.tags_of_context tags_of_place tags_of_map
context-tags pages x place few same none =
    flat-more (λ p. tag_of (own_value (x.cell (Page p)))) (λ p. tag_of (own_value (place p))) 0 pages MOST_PAGES few
    (λ p _ high. ap (λ c. tag_of (own_value c)) (sym (same p (omega (arith, high)))))
    (λ p past. ap (λ c. tag_of (own_value c)) (none p (omega (arith, past))))

pub group-tags : (pages : ℕ) (x : Group) (place : Place) → pages ≤ MOST_PAGES → ((p : ℕ) → p < pages → place p ≡ cell.Own (x.value (Page p))) → ((p : ℕ) → pages ≤ p → place p ≡ cell.Own None) → worlds.tags_of_group pages x ≡ tags_of_place place
unfolding worlds.tags_of_group tags_of_place tags_of_map
group-tags pages x place few same none =
    flat-more (λ p. tag_of (x.value (Page p))) (λ p. tag_of (own_value (place p))) 0 pages MOST_PAGES few
    (λ p _ high. ap (λ c. tag_of (own_value c)) (sym (same p (omega (arith, high)))))
    (λ p past. ap (λ c. tag_of (own_value c)) (none p (omega (arith, past))))

-- a sum over different places, outside of which there is nothing, is the whole sum

contains-suc : (j x : ℕ) (xs : List ℕ) → j ≢ x → Contains (x ∷ xs) j → Contains xs j
contains-suc j x xs off has = by has.0 has.1 has.2
  where
    by : (k : ℕ) → k < length (x ∷ xs) → get_or (x ∷ xs) k j ≡ j → Contains xs j
    by zero lt is = absurd (off (sym is))
    by (suc k) lt is = (k, omega (arith, lt), is)

zero-sum : (xs : List ℕ) → ((j : ℕ) → get_or xs j 0 ≡ 0) → 0 ≡ sum_by (λ x. x) xs
zero-sum [] none = refl
zero-sum (x ∷ xs) none =
    let head = none 0 in
    let tail = zero-sum xs (λ j. none (suc j)) in
    omega (arith, head, tail, sum_by-cons (λ (y : ℕ). y) x xs)

sum-same : (f g : ℕ → ℕ) (xs : List ℕ) → All (λ x. f x ≡ g x) xs → sum_by f xs ≡ sum_by g xs
sum-same f g [] same = refl
sum-same f g (x ∷ xs) same =
    let head = same 0 x (omega arith) in
    let tail = sum-same f g xs (λ k d lt. same (suc k) d (omega (arith, lt))) in
    omega (arith, head, tail, sum_by-cons f x xs, sum_by-cons g x xs)

sum-places : (numbers xs : List ℕ) → All (λ i. i < length xs) numbers → AllPairs ◌≢◌ numbers → ((j : ℕ) → (Contains numbers j → ⊥) → get_or xs j 0 ≡ 0) → sum_by (λ i. get_or xs i 0) numbers ≡ sum_by (λ x. x) xs
sum-places [] xs inside apart rest = zero-sum xs (λ j. rest j (λ has. absurd (omega (arith, has.1))))
sum-places (i ∷ numbers) xs inside apart rest =
    let here : i < length xs = inside 0 i (omega arith) in
    let set_xs : List ℕ = set xs i 0 in
    let others : (k : ℕ) (d : ℕ) → k < length numbers → get_or numbers k d ≢ i = λ k d lt is. apart 0 (suc k) d (omega arith) (omega (arith, lt)) (sym is) in
    let tail = sum-places numbers (set xs i 0)
    (λ k d lt. let was = inside (suc k) d (omega (arith, lt)) in omega (arith, was, length-set xs i 0))
    (λ a b d lt b_in. apart (suc a) (suc b) d (omega (arith, lt)) (omega (arith, b_in)))
    (λ j not_in.
    ⊎_elim
    (λ same. ap (λ k. get_or (set xs i 0) k 0) same ∙ get_or-set_same xs i 0 0 here)
    (λ off. get_or-set_other xs i j 0 0 off ∙ rest j (λ has. not_in (contains-suc j i numbers off has)))
    (cases_eq j i)) in
    let same = sum-same (λ j. get_or (set xs i 0) j 0) (λ j. get_or xs j 0) numbers (λ k d lt. get_or-set_other xs i (get_or numbers k d) 0 0 (others k d lt)) in
    let whole = sum_by-set (λ (x : ℕ). x) xs i 0 0 here in
    omega (arith, sum_by-cons (λ j. get_or xs j 0) i numbers, tail, same, whole)

sum-map : {X : Type 0} (f : X → ℕ) (xs : List X) → sum_by f xs ≡ sum_by (λ x. x) (map f xs)
sum-map f [] = refl
sum-map f (x ∷ xs) =
    let tail = sum-map f xs in omega (arith, tail, sum_by-cons f x xs, sum_by-cons (λ (y : ℕ). y) (f x) (map f xs))

-- how often a tag is at the places
module _ (cells : List Place) (numbers : List ℕ) (all : HoldAllTags cells numbers) where
  place-times : (tag : Tag) (i : ℕ) → get_or (map (λ place. times tag (tags_of_place place)) cells) i 0 ≡ times tag (tags_of_place (place_of cells i))
  place-times tag i =
      ⊎_elim
      (λ lt. get_or-map (λ place. times tag (tags_of_place place)) cells i no_pages 0 lt)
      (λ past.
      get_or_past (map (λ place. times tag (tags_of_place place)) cells) i 0 (omega (arith, past, length-map cells (λ place. times tag (tags_of_place place))))
      ∙ sym (ap (λ place. times tag (tags_of_place place)) (get_or_past cells i no_pages past) ∙ none-times tag))
      (cases_lt i (length cells))

  empty-times : (tag : Tag) (ts : List Tag) → ts ≡ [] → times tag ts ≡ 0
  unfolding times
  empty-times tag ts is = ap (times tag) is

  all-times : (tag : Tag) → times tag (tags_at cells numbers) ≡ times tag (tags cells)
  unfolding tags_at tags
  all-times tag =
      times-flat_map tag (λ i. tags_of_place (place_of cells i)) numbers
      ∙ sum-same (λ i. times tag (tags_of_place (place_of cells i))) (λ i. get_or (map (λ place. times tag (tags_of_place place)) cells) i 0) numbers (λ k d lt. sym (place-times tag (get_or numbers k d)))
      ∙ sum-places numbers (map (λ place. times tag (tags_of_place place)) cells)
      (λ k d lt. let here = all.inside k d lt in omega (arith, here, length-map cells (λ place. times tag (tags_of_place place))))
      all.apart
      (λ j not_in. place-times tag j ∙ empty-times tag (tags_of_place (place_of cells j)) (all.rest j not_in))
      ∙ sym (sum-map (λ place. times tag (tags_of_place place)) cells)
      ∙ sym (times-flat_map tag tags_of_place cells)

-- a world whose tags are those of the places uses as many frames, and the same pages part
pub world-used : (w : World) (cells : List Place) (numbers : List ℕ) → HoldAllTags cells numbers → worlds.tags w ≡ tags_at cells numbers → worlds.used w ≡ used cells
unfolding worlds.used used different
world-used w cells numbers all is =
    let same : (t : Tag) → times t (worlds.tags w) ≡ times t (tags cells) = λ t. ap (times t) is ∙ all-times cells numbers all t in
    different-same (tags cells) (worlds.tags w) (λ t some. omega (arith, same t, some)) (λ t some. omega (arith, same t, some))

pub world-parting : (w : World) (cells : List Place) (numbers : List ℕ) (i p : ℕ) (value : PageValue) → HoldAllTags cells numbers → worlds.tags w ≡ tags_at cells numbers → place_of cells i p ≡ cell.Own (Some value) → worlds.is_parting w value ≡ is_parting cells i p
unfolding worlds.is_parting is_parting times
world-parting w cells numbers i p value all is own =
    by value ∙ sym (ap (λ c. parts (tags cells) (own_value c)) own)
  where
    by : (v : PageValue) → worlds.is_parting w v ≡ parts (tags cells) (Some v)
    by Zero = refl
    by (Data tag bytes) = ap (ltb 1) (ap (times tag) is ∙ all-times cells numbers all tag)
