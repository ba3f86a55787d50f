-- The world of a start as it is built: one page more, one slot more, and what all of them make.
use Rattle.std.proofs.Common.{◌≡◌, ℕ, zero, suc, ◌+◌, ◌≤◌, ◌<◌, refl, sym, ap, subst, ◌∙◌, Bool, true, false, cond, eqb, leb, ltb, ◌&&◌, IsTrue, Option, Some, None, List, [], ◌∷◌, ◌++◌, length, take, arith}
use Rattle.std.specs.FinMap as fm
use Rattle.std.specs.Prelude.{is_some, slice_get}
use Rattle.std.specs.List.{enumerate_from, find}
use Rattle.std.specs.Option.{option_map, option_or}
use Rattle.std.proofs.lemmas.Bool.Decides.{nat_tests}
use Rattle.std.proofs.lemmas.List.{take_more, length-map, length-take-le}
use Rattle.std.proofs.lemmas.List.Elements.{All-get_or}
use Rattle.std.proofs.lemmas.List.Folds.{find-append}
use Rattle.std.proofs.lemmas.Option.{slice_get_within, get_or_from_slice_get}
use Rattle.guest_image.specs.Limits.{IsImage, page_numbers, pages_of}
use Rattle.guest_image.specs.Numbers.{is_above, rising_after}
use Rattle.guest_image.specs.declared.image.Form.{Form}
use Rattle.guest_image.specs.declared.image.Image.{Image}
use Rattle.guest_image.specs.declared.image.PageImage.{PageImage}
use Rattle.guest_image.proofs.Lifted.{most_pages}
use Rattle.kernel_core.proofs.FirstWorld.{context-first, first_added, live-first, map-first, page_piece, put_at-first, store-first, used-first}
use Rattle.kernel_core.proofs.Ranges.{has, is_some-found, num, one_tag, ranges-own, ranges-take, tags-within}
use Rattle.kernel_core.specs.Ready.{CanPutPage}
use Rattle.kernel_core.specs.Start.{first_context, first_entry, first_name, first_page, first_slot, first_value, image_tag, world_size, world_so_far, world_with}
use Rattle.lwc_base.specs.Cells.{put_slot, with_cell}
use Rattle.lwc_base.specs.Frames.{own_value, tag_of, used}
use Rattle.lwc_base.specs.Mapping.{map_pages, with_zeros}
use Rattle.lwc_base.specs.Ranges.{ranges, ranges_of}
use Rattle.lwc_base.specs.Store.{Done, store}
use Rattle.lwc_base.specs.World.{World, Context, add_context, empty_world, is_live, new_context, new_value}
use Rattle.lwc_base.specs.declared.cell.Cell.TheVariants.{Own}
use Rattle.lwc_base.specs.declared.descriptor.Descriptor.{Descriptor}
use Rattle.lwc_base.specs.declared.descriptor.Descriptor.TheVariants.{Empty}
use Rattle.lwc_types.specs.Names.{name_cmp}
use Rattle.lwc_types.specs.Registers.{fresh_registers}
use Rattle.lwc_types.specs.declared.right.Right.TheVariants.{Write}
use Rattle.lwc_types.specs.declared.key.Key.{Key}
use Rattle.lwc_types.specs.declared.key.Key.TheVariants.{Page, Slot, Cred}
use Rattle.lwc_types.specs.declared.limits.TheConstants.{MOST_CONTEXTS, MOST_GROUPS, MOST_JOBS}
use Rattle.lwc_types.specs.declared.page.PageValue.{PageValue}
use Rattle.lwc_types.specs.declared.page.PageValue.TheVariants.{Zero, Data}
use Rattle.lwc_types.specs.declared.regs.Regs.{Regs}
use Rattle.world_face.specs.Calls.{HasPlace, MayName}

-- an empty world with as many pages as the form has is one of the kernel's size
pub opened_by : (form : Form) (frames pages : ℕ) (w : World) → pages ≡ pages_of form →
    w ≡ empty_world (record { frames = frames; contexts = MOST_CONTEXTS; groups = MOST_GROUPS; jobs = MOST_JOBS; pages = pages }) → w ≡ empty_world (world_size form frames)
opened_by form frames pages w same opened =
    opened ∙ ap (λ n. empty_world (record { frames = frames; contexts = MOST_CONTEXTS; groups = MOST_GROUPS; jobs = MOST_JOBS; pages = n })) same

-- an empty world has a place for the first context, which job 0 may name
pub has_first_place : (form : Form) (frames : ℕ) (w : World) → w ≡ empty_world (world_size form frames) → HasPlace w
unfolding empty_world
has_first_place form frames w opened = let none = fm.len-empty name_cmp Context in subst HasPlace (sym opened) (omega (arith, none))

pub may_name_first : (form : Form) (frames : ℕ) (w : World) → w ≡ empty_world (world_size form frames) → MayName w 0
unfolding empty_world
may_name_first form frames w opened =
    subst (λ (v : World). MayName v 0) (sym opened) (record { known = omega arith; contexts = omega arith; groups = omega arith; tags = omega arith })

none_below : {A : Type 0} (n : ℕ) (x y : A) → y ≡ cond (ltb n 0) x y
none_below n x y = let no_less : ltb n 0 ≡ false = grind (arith, nat_tests) in sym (ap (λ b. cond b x y) no_less)

begins_with : (image : Image) (k : Key) → new_value image.uid k ≡ first_value image [] 0 k
unfolding first_page
begins_with image (Page p) = refl
begins_with image (Slot n) = none_below n (first_slot image.slots n) Empty
begins_with image Cred = refl

-- the first context is made
pub first_made : (image : Image) (frames : ℕ) (regs : Regs) (w v : World) → w ≡ empty_world (world_size image.form frames) → regs ≡ fresh_registers (first_entry image) →
    v ≡ add_context w 0 (new_context image.uid regs) → v ≡ world_so_far image frames 0 0
unfolding world_so_far first_context
first_made image frames regs w v opened entry made =
    made
    ∙ (λ i. add_context (opened i) 0 (new_context image.uid (entry i)))
    ∙ first_added image.form frames (new_context image.uid (fresh_registers (first_entry image)))
    ∙ (λ i. world_with image.form frames 0 (record (new_context image.uid (fresh_registers (first_entry image))) { cell = λ k. Own (begins_with image k i) }))

pub enumerate-push : {X : Type 0} (a : ℕ) (xs : List X) (x : X) → enumerate_from a (xs ++ x ∷ []) ≡ enumerate_from a xs ++ (a + length xs, x) ∷ []
enumerate-push a [] x = ap (λ n. (n, x) ∷ []) (omega arith)
enumerate-push a (y ∷ ys) x = ap (λ l. (a, y) ∷ l) (enumerate-push (a + 1) ys x ∙ ap (λ n. enumerate_from (a + 1) ys ++ (n, x) ∷ []) (omega arith))

pub page_of : Option (ℕ × PageImage) → Option PageValue
page_of found = option_map (λ e. Data (image_tag e.0) e.1.bytes) found

page_by : (b : Bool) (n q k : ℕ) (x : PageImage) (found : Option (ℕ × PageImage)) (zeros : Bool) → eqb q n ≡ b → x.number ≡ n → (eqb q n ≡ true → found ≡ None) →
    (eqb q n ≡ false → zeros ≡ false) →
    cond b (Own (Some (Data (image_tag k) x.bytes))) (cond zeros (Own (Some Zero)) (Own (page_of found))) ≡ Own (page_of (option_or found (cond (eqb x.number q) (Some (k, x)) None)))
unfolding page_of
page_by true n q k x found zeros is number fresh other =
    let same : eqb x.number q ≡ true = grind (arith, nat_tests) in
    sym (ap (λ o. Own (page_of (option_or o (cond (eqb x.number q) (Some (k, x)) None)))) (fresh is) ∙ ap (λ c. Own (page_of (cond c (Some (k, x)) None))) same)
page_by false n q k x None zeros is number fresh other =
    let apart : eqb x.number q ≡ false = grind (arith, nat_tests) in
    ap (λ c. cond c (Own (Some Zero)) (Own None)) (other is) ∙ sym (ap (λ c. Own (page_of (cond c (Some (k, x)) None))) apart)
page_by false n q k x (Some e) zeros is number fresh other =
    ap (λ c. cond c (Own (Some Zero)) (Own (page_of (Some e)))) (other is)

-- one page more: mapped, and then stored
pub first_page-push : (a : ℕ) (pages : List PageImage) (x : PageImage) (q : ℕ) → find (λ e. eqb e.1.number x.number) (enumerate_from a pages) ≡ None →
    cond (eqb q x.number) (Own (Some (Data (image_tag (a + length pages)) x.bytes))) (cond (leb x.number q && ltb q (x.number + 1)) (Own (Some Zero)) (Own (first_page a pages q)))
    ≡ Own (first_page a (pages ++ x ∷ []) q)
unfolding first_page page_of
first_page-push a pages x q fresh =
    page_by (eqb q x.number) x.number q (a + length pages) x (find (λ e. eqb e.1.number q) (enumerate_from a pages)) (leb x.number q && ltb q (x.number + 1)) refl refl
    (λ same. let is : q ≡ x.number = grind (arith, nat_tests) in ap (λ m. find (λ (e : ℕ × PageImage). eqb e.1.number m) (enumerate_from a pages)) is ∙ fresh)
    (λ other. grind (arith, nat_tests))
    ∙ ap (λ o. Own (page_of o)) (sym (ap (find (λ e. eqb e.1.number q)) (enumerate-push a pages x) ∙ find-append (λ e. eqb e.1.number q) (enumerate_from a pages) ((a + length pages, x) ∷ [])))

-- a page is there exactly where its number is one of theirs
found_by : (found : Option (ℕ × PageImage)) → is_some (page_of found) ≡ is_some found
unfolding page_of
found_by None = refl
found_by (Some e) = refl

pub first_page-there : (a : ℕ) (pages : List PageImage) (q : ℕ) → is_some (first_page a pages q) ≡ has (page_numbers pages) q
unfolding first_page page_of
first_page-there a pages q = found_by (find (λ (e : ℕ × PageImage). eqb e.1.number q) (enumerate_from a pages)) ∙ is_some-found a q pages

both : (a b : Bool) → IsTrue (a && b) → IsTrue a × IsTrue b
both true b h = (refl, h)
both false b h = cc

-- in pages that rise, each later one is above the number before them
later_above : (before : ℕ) (pages : List PageImage) (k : ℕ) (x : PageImage) → IsTrue (rising_after (Some before) (page_numbers pages)) → slice_get pages k ≡ Some x → before < x.number
unfolding rising_after
later_above before [] k x rise found = cc
later_above before (y ∷ ys) zero x rise found =
    let same : y ≡ x = cc in
    let up : before < y.number = grind (arith, nat_tests, (both (ltb before y.number) _ rise).0) in
    subst (λ (z : PageImage). before < z.number) same up
later_above before (y ∷ ys) (suc k) x rise found =
    let parts = both (ltb before y.number) _ rise in
    let up : before < y.number = grind (arith, nat_tests, parts.0) in
    let rest = later_above y.number ys k x parts.1 found in
    omega arith

-- no page before it has its number
pub new_number : (before : Option ℕ) (a : ℕ) (pages : List PageImage) (k : ℕ) (x : PageImage) → IsTrue (rising_after before (page_numbers pages)) → slice_get pages k ≡ Some x →
    find (λ e. eqb e.1.number x.number) (enumerate_from a (take k pages)) ≡ None
unfolding rising_after
new_number before a [] k x rise found = cc
new_number before a (y ∷ ys) zero x rise found = refl
new_number before a (y ∷ ys) (suc k) x rise found =
    let rest : IsTrue (rising_after (Some y.number) (page_numbers ys)) = (both (is_above before y.number) _ rise).1 in
    let up = later_above y.number ys k x rest found in
    let apart : eqb y.number x.number ≡ false = grind (arith, nat_tests) in
    ap (λ b. cond b (Some (a, y)) (find (λ (e : ℕ × PageImage). eqb e.1.number x.number) (enumerate_from (a + 1) (take k ys)))) apart ∙ new_number (Some y.number) (a + 1) ys k x rest found

pub frames_here : (image : Image) (frames pages slots : ℕ) (w : World) → w ≡ world_so_far image frames pages slots → w.size.frames ≡ frames
unfolding world_so_far world_with
frames_here image frames pages slots w before = ap (λ (v : World). v.size.frames) before

-- the frames are those of the world itself
pub as_here : (image : Image) (frames pages slots : ℕ) (w : World) → w ≡ world_so_far image frames pages slots → w ≡ world_so_far image w.size.frames pages slots
as_here image frames pages slots w before = before ∙ ap (λ n. world_so_far image n pages slots) (sym (frames_here image frames pages slots w before))

-- and those of the world that it was made from
pub from_here : (image : Image) (frames pages slots p n : ℕ) (w v : World) → w ≡ world_so_far image frames pages slots → v ≡ world_so_far image w.size.frames p n →
    v ≡ world_so_far image frames p n
from_here image frames pages slots p n w v before after = after ∙ ap (λ m. world_so_far image m p n) (frames_here image frames pages slots w before)

-- a world of the first context: it is live, and job 0 may name more
pub record IsFirstWorld (form : Form) (frames : ℕ) (w : World) : Type 0 where
  pub live : is_live w first_name ≡ true
  pub size : w.size ≡ world_size form frames
  pub may : MayName w 0

-- the k-th page of an image
module _ (image : Image) (is : IsImage image) where
  is_first : (frames tags : ℕ) (x : Context) → tags ≤ 16384 → IsFirstWorld image.form frames (world_with image.form frames tags x)
  unfolding world_with
  is_first frames tags x few = record {
    live = live-first image.form frames tags x;
    size = refl;
    may = record { known = omega arith; contexts = omega arith; groups = omega arith; tags = omega arith };
  }

  -- the world as it is built
  pub first_world : (frames pages slots : ℕ) (w : World) → w ≡ world_so_far image frames pages slots → pages ≤ 16384 → IsFirstWorld image.form frames w
  unfolding world_so_far
  first_world frames pages slots w before few = subst (IsFirstWorld image.form frames) (sym before) (is_first frames pages (first_context image (take pages image.pages) slots) few)

  slot_by : (b : Bool) (m n : ℕ) → eqb m n ≡ b →
      cond b (Own (first_slot image.slots n)) (Own (cond (ltb m n) (first_slot image.slots m) Empty)) ≡ Own (cond (ltb m (n + 1)) (first_slot image.slots m) Empty)
  slot_by true m n same =
      let here : n ≡ m = grind (arith, nat_tests) in
      let below : ltb m (n + 1) ≡ true = grind (arith, nat_tests) in
      ap (λ k. Own (first_slot image.slots k)) here ∙ sym (ap (λ b. Own (cond b (first_slot image.slots m) Empty)) below)
  slot_by false m n other =
      let alike : ltb m n ≡ ltb m (n + 1) = grind (arith, nat_tests) in
      ap (λ b. Own (cond b (first_slot image.slots m) Empty)) alike

  cell_with_slot : (pages : List PageImage) (n : ℕ) (k : Key) → (with_cell (Slot n) (Own (first_slot image.slots n)) (first_context image pages n)).cell k ≡ (first_context image pages (n + 1)).cell k
  unfolding first_context
  cell_with_slot pages n (Page p) = refl
  cell_with_slot pages n (Slot m) = slot_by (eqb m n) m n refl
  cell_with_slot pages n Cred = refl

  context_with_slot : (pages : List PageImage) (n : ℕ) → with_cell (Slot n) (Own (first_slot image.slots n)) (first_context image pages n) ≡ first_context image pages (n + 1)
  unfolding first_context
  context_with_slot pages n = λ i. record (first_context image pages n) { cell = λ k. cell_with_slot pages n k i }

  empty_slot : (pages : List PageImage) (n : ℕ) → (first_context image pages n).cell (Slot n) ≡ Own Empty
  unfolding first_context
  empty_slot pages n = let no_less : ltb n n ≡ false = grind (arith, nat_tests) in ap (λ b. Own (cond b (first_slot image.slots n) Empty)) no_less

  -- one slot more
  pub slot_put : (frames pages n : ℕ) (value : Descriptor) (w v : World) → w ≡ world_so_far image frames pages n → value ≡ first_slot image.slots n → v ≡ put_slot w first_name n value →
      v ≡ world_so_far image frames pages (n + 1)
  unfolding world_so_far
  slot_put frames pages n value w v before value_is put =
      let had = first_context image (take pages image.pages) n in
      put ∙ (λ i. put_slot (before i) first_name n (value_is i))
      ∙ put_at-first image.form frames pages had (Slot n) Empty (first_slot image.slots n) (empty_slot (take pages image.pages) n) refl
      ∙ ap (world_with image.form frames pages) (context_with_slot (take pages image.pages) n)

  module _ (k : ℕ) (x : PageImage) (found : slice_get image.pages k ≡ Some x) where
    within : k < length image.pages
    within = slice_get_within image.pages k x found

    pub number_below : x.number < pages_of image.form
    number_below =
        subst (λ (y : PageImage). y.number < pages_of image.form) (get_or_from_slice_get image.pages k x x found)
        (All-get_or (λ (y : PageImage). y.number < pages_of image.form) image.pages k x within is.pages.numbers)

    whole : length x.bytes ≡ 4096
    whole =
        subst (λ (y : PageImage). length y.bytes ≡ 4096) (get_or_from_slice_get image.pages k x x found)
        (All-get_or (λ (y : PageImage). length y.bytes ≡ 4096) image.pages k x within is.pages.whole)

    one_more : take (k + 1) image.pages ≡ take k image.pages ++ x ∷ []
    one_more = take_more image.pages k x within ∙ ap (λ y. take k image.pages ++ y ∷ []) (get_or_from_slice_get image.pages k x x found)

    had : Context
    had = first_context image (take k image.pages) 0

    mapped : Context
    mapped = with_zeros x.number (x.number + 1) had

    -- what is under a page once the page is mapped
    value : ℕ → Option PageValue
    value q = cond (leb x.number q && ltb q (x.number + 1)) (Some Zero) (first_page 0 (take k image.pages) q)

    chosen_own : (b : Bool) (a c : Option PageValue) → cond b (Own a) (Own c) ≡ Own (cond b a c)
    chosen_own true a c = refl
    chosen_own false a c = refl

    value_is : (q : ℕ) → mapped.cell (Page q) ≡ Own (value q)
    unfolding mapped had value first_context
    value_is q = chosen_own _ (Some Zero) (first_page 0 (take k image.pages) q)

    zeros : mapped.cell (Page x.number) ≡ Own (Some Zero)
    unfolding mapped
    zeros =
        let inside : (leb x.number x.number && ltb x.number (x.number + 1)) ≡ true = grind (arith, nat_tests) in
        ap (λ b. cond b (Own (Some Zero)) (had.cell (Page x.number))) inside

    cell_with_page : (key : Key) → (with_cell (Page x.number) (Own (Some (Data (image_tag k) x.bytes))) mapped).cell key ≡ (first_context image (take (k + 1) image.pages) 0).cell key
    unfolding mapped had first_context
    cell_with_page (Page q) =
        let taken = length-take-le k image.pages (omega (arith, within)) in
        let count : k ≡ 0 + length (take k image.pages) = omega (arith, taken) in
        ap (λ n. cond (eqb q x.number) (Own (Some (Data (image_tag n) x.bytes))) (cond (leb x.number q && ltb q (x.number + 1)) (Own (Some Zero)) (Own (first_page 0 (take k image.pages) q)))) count
        ∙ first_page-push 0 (take k image.pages) x q (new_number None 0 image.pages k x is.pages.rise found)
        ∙ ap (λ l. Own (first_page 0 l q)) (sym one_more)
    cell_with_page (Slot n) = refl
    cell_with_page Cred = refl

    -- each page has the right Write
    right_by : (b : Bool) → cond b Write Write ≡ Write
    right_by true = refl
    right_by false = refl

    right_is : (q : ℕ) → mapped.right q ≡ Write
    unfolding mapped had first_context
    right_is q = right_by (leb x.number q && ltb q (x.number + 1))

    context_with_page : with_cell (Page x.number) (Own (Some (Data (image_tag k) x.bytes))) mapped ≡ first_context image (take (k + 1) image.pages) 0
    unfolding mapped had first_context
    context_with_page = λ i. record (first_context image (take (k + 1) image.pages) 0) { cell = λ key. cell_with_page key i; right = λ q. right_by (leb x.number q && ltb q (x.number + 1)) i }

    value_by : (b : Bool) (q : ℕ) → eqb q x.number ≡ b →
        is_some (value q) ≡ is_some (own_value (cond b (Own (Some (Data (image_tag k) x.bytes))) (cond (leb x.number q && ltb q (x.number + 1)) (Own (Some Zero)) (Own (first_page 0 (take k image.pages) q)))))
    unfolding value
    value_by true q same =
        let inside : (leb x.number q && ltb q (x.number + 1)) ≡ true = grind (arith, nat_tests) in
        ap (λ b. is_some (cond b (Some Zero) (first_page 0 (take k image.pages) q))) inside
    value_by false q other = chosen_by (leb x.number q && ltb q (x.number + 1))
      where
        chosen_by : (b : Bool) → is_some (cond b (Some Zero) (first_page 0 (take k image.pages) q)) ≡ is_some (own_value (cond b (Own (Some Zero)) (Own (first_page 0 (take k image.pages) q))))
        chosen_by true = refl
        chosen_by false = refl

    value-there : (q : ℕ) → is_some (value q) ≡ has (page_numbers (take (k + 1) image.pages)) q
    unfolding mapped had first_context
    value-there q =
        value_by (eqb q x.number) q refl ∙ ap (λ c. is_some (own_value c)) (cell_with_page (Page q)) ∙ first_page-there 0 (take (k + 1) image.pages) q

    few_ranges_in : ranges (pages_of image.form) mapped ≤ 64
    few_ranges_in =
        omega (arith, ranges-own mapped (page_numbers (take (k + 1) image.pages)) value value_is right_is value-there (pages_of image.form), ranges-take None (k + 1) image.pages, is.pages.ranges)

    tagged_by : (b : Bool) (v : Option PageValue) → length (tag_of (cond b (Some Zero) v)) ≤ num (is_some v)
    tagged_by true v = omega arith
    tagged_by false v = one_tag v

    tagged : (q : ℕ) → length (tag_of (own_value (mapped.cell (Page q)))) ≤ num (has (page_numbers (take k image.pages)) q)
    unfolding value
    tagged q =
        let at : length (tag_of (own_value (mapped.cell (Page q)))) ≡ length (tag_of (value q)) = ap (λ c. length (tag_of (own_value c))) (value_is q) in
        let had_it = first_page-there 0 (take k image.pages) q in
        omega (arith, at, tagged_by (leb x.number q && ltb q (x.number + 1)) (first_page 0 (take k image.pages) q), ap num had_it)

    frame_left : (frames : ℕ) → length image.pages ≤ frames → used (world_with image.form frames k mapped) < frames
    frame_left frames fits =
        let tags = tags-within mapped (page_numbers (take k image.pages)) tagged (pages_of image.form) in
        let numbers : length (page_numbers (take k image.pages)) ≡ k = length-map (take k image.pages) (λ y. y.number) ∙ length-take-le k image.pages (omega (arith, within)) in
        omega (arith, used-first image.form frames k mapped, tags, numbers, within, fits)

    -- a page that is mapped, and then stored
    module _ (frames : ℕ) (fits : length image.pages ≤ frames) (w : World) (before : w ≡ world_so_far image frames k 0) where
      abbrev v : World
      v = map_pages w first_name x.number (x.number + 1)

      is_mapped : v ≡ world_with image.form frames k mapped
      unfolding world_so_far mapped had
      is_mapped = ap (λ u. map_pages u first_name x.number (x.number + 1)) before ∙ map-first image.form frames k (first_context image (take k image.pages) 0) x.number (x.number + 1)

      pub mapped_world : IsFirstWorld image.form frames v
      mapped_world = subst (IsFirstWorld image.form frames) (sym is_mapped) (is_first frames k mapped (omega (arith, within, is.page_count, most_pages image.form)))

      pub few_ranges : ranges_of v first_name ≤ 64
      unfolding ranges_of world_with
      few_ranges =
          subst (λ (u : World). ranges_of u first_name ≤ 64) (sym is_mapped)
          (subst (λ (y : Context). ranges (pages_of image.form) y ≤ 64) (sym (context-first image.form frames k mapped)) few_ranges_in)

      pub page_stored : store v first_name 0 (page_piece x.number x.bytes) ≡ Done (world_so_far image frames (k + 1) 0)
      unfolding world_so_far
      page_stored =
          ap (λ u. store u first_name 0 (page_piece x.number x.bytes)) is_mapped
          ∙ store-first image.form frames k x.number mapped x.bytes whole zeros (right_is x.number) (frame_left frames fits)
          ∙ ap (λ y. Done (world_with image.form frames (k + 1) y)) context_with_page

      -- it may be put, and then one more is there
      pub image_page_can : CanPutPage w first_name x
      image_page_can =
          let first = first_world frames k 0 w before (omega (arith, within, is.page_count, most_pages image.form)) in
          let pages : w.size.pages ≡ pages_of image.form = ap (λ size. size.pages) first.size in
          record {
            live = first.live;
            number = omega (arith, pages, number_below);
            whole = whole;
            few = few_ranges;
            stays = mapped_world.live;
            size = ap (λ size. size.pages) mapped_world.size ∙ sym pages;
            most = omega (arith, pages, most_pages image.form);
            may = mapped_world.may;
            after = world_so_far image frames (k + 1) 0;
            stored = page_stored;
          }

      pub image_page_put : (u : World) → store v first_name 0 (page_piece x.number x.bytes) ≡ Done u → u ≡ world_so_far image frames (k + 1) 0
      image_page_put u done = let made = page_stored in cc
