-- The pages of a context are those that an image may have.
use Rattle.std.proofs.Common.{◌≡◌, ◌+◌, ◌<◌, ◌≤◌, ◌*◌, ◌∙◌, ℕ, zero, suc, Bool, true, false, cond, List, [], ◌∷◌, Option, Some, None, length, map, ap, arith, refl, subst, sym}
use Rattle.std.specs.Prelude.{◌&&◌, All, IfSome, IsTrue, nat_le}
use Rattle.std.specs.List.{cons_option, filter_map, range_with_len}
use Rattle.std.specs.Option.{option_map, option_or}
use Rattle.std.proofs.lemmas.Bool.Decides.{nat_tests}
use Rattle.std.proofs.lemmas.List.Elements.{All-cons, All-nil}
use Rattle.std.proofs.lemmas.List.FromFn.{length-map-range_with_len}
use Rattle.guest_image.specs.Limits.{page_numbers}
use Rattle.guest_image.specs.Numbers.{is_above, ranges, rising_after}
use Rattle.guest_image.specs.declared.image.PageImage.{PageImage}
use Rattle.kernel_core.specs.Machine.{Machine}
use Rattle.kernel_core.specs.Runs.{run}
use Rattle.kernel_core.specs.Step.{step}
use Rattle.lwc_base.specs.Memory.{byte_at, is_present, load}
use Rattle.lwc_base.specs.World.{World}
use Rattle.lwc_session.specs.Pages.{are_fitting, new_page, page_at, pages_in}
use Rattle.lwc_session.specs.Served.{left_by, left_in, those_fitting}
use Rattle.lwc_types.specs.declared.limits.TheConstants.{MOST_RANGES}
use Rattle.lwc_types.specs.declared.name.Name.{Name}
use Rattle.lwc_types.specs.declared.page.TheConstants.{PAGE_BYTES}
use Rattle.snapshot_host.specs.Begin.{request_context}

-- whole pages below a number, in rising order
pub record AreWhole (most : ℕ) (pages : List PageImage) : Type 0 where
  pub numbers : All (λ p. p.number < most) pages
  pub rise : rising_after None (page_numbers pages) ≡ true
  pub whole : All (λ p. length p.bytes ≡ PAGE_BYTES) pages
  pub count : length pages ≤ most

all_with : (P : PageImage → Type 0) (page : Option PageImage) (rest : List PageImage) → IfSome page P → All P rest → All P (cons_option page rest)
all_with P None rest here there = there
all_with P (Some page) rest here there = All-cons P page rest here there

loaded_by : (b : Bool) (w : World) (c : Name) (at count : ℕ) → IfSome (cond b (Some (map (byte_at w c) (range_with_len at count))) None) (λ bytes. length bytes ≡ count)
loaded_by true w c at count = length-map-range_with_len (byte_at w c) at count
loaded_by false w c at count = tt

loaded : (w : World) (c : Name) (at count : ℕ) → IfSome (load w c at count) (λ bytes. length bytes ≡ count)
unfolding load
loaded w c at count = loaded_by (is_present w c at count) w c at count

page_has : (P : PageImage → Type 0) (Q : List ℕ → Type 0) (p : ℕ) (bytes : Option (List ℕ)) → ((b : List ℕ) → Q b → P (new_page p b)) → IfSome bytes Q → IfSome (option_map (new_page p) bytes) P
page_has P Q p None made is = tt
page_has P Q p (Some bytes) made is = made bytes is

-- a fact of each page of a context, that its number and its length give
each_page : (P : PageImage → Type 0) (w : World) (c : Name) (a n most : ℕ) → a + n ≤ most → ((p : ℕ) (bytes : List ℕ) → p < most → length bytes ≡ PAGE_BYTES → P (new_page p bytes)) →
    All P (filter_map (page_at w c) (range_with_len a n))
each_page P w c a zero most within made = All-nil P
each_page P w c a (suc n) most within made =
    all_with P (page_at w c a) (filter_map (page_at w c) (range_with_len (a + 1) n))
    (page_has P (λ bytes. length bytes ≡ PAGE_BYTES) a (load w c (a * PAGE_BYTES) PAGE_BYTES) (λ bytes whole. made a bytes (omega (arith, within)) whole) (loaded w c (a * PAGE_BYTES) PAGE_BYTES))
    (each_page P w c (a + 1) n most (omega (arith, within)) made)

rise_with : (a : ℕ) (before : Option ℕ) (bytes : Option (List ℕ)) (rest : List PageImage) → is_above before a ≡ true → rising_after before (page_numbers rest) ≡ true → rising_after (Some a) (page_numbers rest) ≡ true →
    rising_after before (page_numbers (cons_option (option_map (new_page a) bytes) rest)) ≡ true
unfolding rising_after
rise_with a before None rest above skipped after = skipped
rise_with a before (Some bytes) rest above skipped after = ap (λ (b : Bool). b && rising_after (Some a) (page_numbers rest)) above ∙ after

above_by : (a k : ℕ) → a + 1 ≤ k → is_above (Some a) k ≡ true
above_by a k more = grind (arith, nat_tests)

pages_rise : (w : World) (c : Name) (a n : ℕ) (before : Option ℕ) → ((k : ℕ) → a ≤ k → is_above before k ≡ true) → rising_after before (page_numbers (filter_map (page_at w c) (range_with_len a n))) ≡ true
unfolding rising_after
pages_rise w c a zero before above = refl
pages_rise w c a (suc n) before above =
    rise_with a before (load w c (a * PAGE_BYTES) PAGE_BYTES) (filter_map (page_at w c) (range_with_len (a + 1) n)) (above a (omega arith))
    (pages_rise w c (a + 1) n before (λ k more. above k (omega (arith, more)))) (pages_rise w c (a + 1) n (Some a) (λ k more. above_by a k more))

count_with : (page : Option PageImage) (rest : List PageImage) (n : ℕ) → length rest ≤ n → length (cons_option page rest) ≤ suc n
count_with None rest n few = omega (arith, few)
count_with (Some page) rest n few = omega (arith, few)

few_pages : (w : World) (c : Name) (a n : ℕ) → length (filter_map (page_at w c) (range_with_len a n)) ≤ n
few_pages w c a zero = omega arith
few_pages w c a (suc n) = count_with (page_at w c a) (filter_map (page_at w c) (range_with_len (a + 1) n)) n (few_pages w c (a + 1) n)

-- the pages of a context are whole, below the number of its pages, and in rising order
pub are_whole : (w : World) (c : Name) (most : ℕ) → w.size.pages ≡ most → AreWhole most (pages_in w c)
unfolding pages_in
are_whole w c most same = record {
  numbers = each_page (λ p. p.number < most) w c 0 w.size.pages most (omega (arith, same)) (λ p bytes below whole. below);
  rise = pages_rise w c 0 w.size.pages None (λ k more. refl);
  whole = each_page (λ p. length p.bytes ≡ PAGE_BYTES) w c 0 w.size.pages most (omega (arith, same)) (λ p bytes below whole. whole);
  count = omega (arith, few_pages w c 0 w.size.pages, same);
}

or_some : (P : List PageImage → Type 0) (o before : Option (List PageImage)) → IfSome o P → IfSome before P → IfSome (option_or o before) P
or_some P None before here there = there
or_some P (Some pages) before here there = here

some_if : (P : List PageImage → Type 0) (b : Bool) (pages : List PageImage) → P pages → IfSome (cond b (Some pages) None) P
some_if P true pages is = is
some_if P false pages is = tt

-- what holds of the pages of the request's first context in each machine holds of those that steps leave
pub left_has : (P : List PageImage → Type 0) (m : Machine) (steps : List ℕ) (before : Option (List PageImage)) → ((seen : List ℕ) → P (pages_in (run m seen).environment.world (request_context 0))) →
    IfSome before P → IfSome (left_in m steps before) P
left_has P m [] before all given = given
left_has P m (t ∷ ts) before all given =
    left_has P (step m t) ts (option_or (left_by m) before) (λ seen. all (t ∷ seen)) (or_some P (left_by m) before (some_if P _ (pages_in m.environment.world (request_context 0)) (all [])) given)

-- pages that fit the frames and an image
pub record AreFitting (most frames : ℕ) (pages : List PageImage) : Type 0 where
  pub whole : AreWhole most pages
  pub few : length pages ≤ frames
  pub ranges : ranges (page_numbers pages) ≤ MOST_RANGES

fitting_by : (most frames : ℕ) (pages : List PageImage) (b : Bool) → are_fitting frames pages ≡ b → AreWhole most pages → IfSome (cond b (Some pages) None) (AreFitting most frames)
fitting_by most frames pages false is whole = tt
fitting_by most frames pages true is whole = record { whole = whole; few = grind (arith, nat_tests); ranges = grind (arith, nat_tests) }

pub fitting_have : (most frames : ℕ) (pages : Option (List PageImage)) → IfSome pages (AreWhole most) → IfSome (those_fitting frames pages) (AreFitting most frames)
fitting_have most frames None whole = tt
fitting_have most frames (Some pages) whole = fitting_by most frames pages (are_fitting frames pages) refl whole
