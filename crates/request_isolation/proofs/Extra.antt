-- What a request by itself takes: each world of it has the image's tags, and at most `most_used` frames.
use Rattle.std.proofs.Common.{◌≡◌, ℕ, zero, suc, ◌+◌, ◌≤◌, ◌<◌, refl, ap, subst, ◌∙◌, Bool, true, false, cond, eqb, ltb, Option, Some, None, List, [], ◌∷◌, length, map, arith}
use Rattle.std.specs.Prelude.{IsTrue, max, replicate, slice_get}
use Rattle.std.specs.List.{enumerate_from, find}
use Rattle.std.specs.Option.{option_map}
use Rattle.std.proofs.lemmas.Bool.{and_parts}
use Rattle.std.proofs.lemmas.Bool.Decides.{nat_tests}
use Rattle.guest_image.specs.Limits.{IsImage, page_numbers}
use Rattle.guest_image.specs.Numbers.{rising, rising_after}
use Rattle.guest_image.specs.declared.image.Image.{Image}
use Rattle.guest_image.specs.declared.image.PageImage.{PageImage}
use Rattle.kernel_core.specs.Machine.{Machine, Serve}
use Rattle.kernel_core.specs.Runs.{frames_of}
use Rattle.kernel_core.specs.Start.{first_page, image_tag}
use Rattle.kernel_core.specs.Step.{AfterStep, guest_calls, step, thread_outcome}
use Rattle.kernel_core.specs.declared.thread.Thread.{Thread}
use Rattle.lwc_base.specs.Frames.{own_value, tag_of, tags, used}
use Rattle.lwc_base.specs.World.{World, context}
use Rattle.lwc_base.specs.declared.cell.Cell.{Cell}
use Rattle.lwc_base.specs.declared.cell.Cell.TheVariants.{Own, Common}
use Rattle.lwc_types.specs.declared.key.Key.TheVariants.{Page}
use Rattle.lwc_types.specs.declared.name.Tag.{Tag}
use Rattle.lwc_types.specs.declared.page.PageValue.{PageValue}
use Rattle.lwc_types.specs.declared.page.PageValue.TheVariants.{Zero, Data}
use Rattle.request_isolation.specs.Needs.{acted_world, most_used, world_by, world_left}
use Rattle.request_isolation.proofs.Homes.{home_for, tag_at}
use Rattle.request_isolation.proofs.Stages.{by_one}
use Rattle.request_isolation.proofs.Tagged.{AtContext, held_in}
use Rattle.world_views.proofs.Counting.{is_in_list}
use Rattle.world_views.specs.ByJob.{KeepsJobs}

-- each page of an image is found by its number
above_first : (p : ℕ) (pages : List PageImage) (k : ℕ) (q : PageImage) → rising_after (Some p) (map (λ (e : PageImage). e.number) pages) ≡ true → slice_get pages k ≡ Some q → p < q.number
unfolding rising_after
above_first p [] k q rise is = cc
above_first p (e ∷ es) zero q rise is =
    let parts = and_parts (ltb p e.number) _ rise in
    let one : e ≡ q = cc in
    let low : p < e.number = (let passed = parts.0 in grind (arith, nat_tests)) in
    subst (λ (x : PageImage). p < x.number) one low
above_first p (e ∷ es) (suc k) q rise is =
    let parts = and_parts (ltb p e.number) _ rise in
    let low : p < e.number = (let passed = parts.0 in grind (arith, nat_tests)) in
    let rest = above_first e.number es k q parts.1 is in omega (arith, low, rest)

found_place : (a : ℕ) (before : Option ℕ) (pages : List PageImage) (k : ℕ) (q : PageImage) → rising_after before (map (λ (e : PageImage). e.number) pages) ≡ true → slice_get pages k ≡ Some q →
    find (λ (e : ℕ × PageImage). eqb e.1.number q.number) (enumerate_from a pages) ≡ Some (a + k, q)
unfolding rising_after
found_place a before [] k q rise is = cc
found_place a before (e ∷ es) zero q rise is =
    let one : e ≡ q = cc in
    let itself : eqb e.number q.number ≡ true = (let same : e.number ≡ q.number = ap (λ (x : PageImage). x.number) one in grind (arith, nat_tests)) in
    let here : a ≡ a + 0 = omega arith in
    ap (λ b. cond b (Some (a, e)) (find (λ (e : ℕ × PageImage). eqb e.1.number q.number) (enumerate_from (a + 1) es))) itself
    ∙ (λ i. Some (here i, one i))
found_place a before (e ∷ es) (suc k) q rise is =
    let rest_rise = (and_parts _ (rising_after (Some e.number) (map (λ (e : PageImage). e.number) es)) rise).1 in
    let low = above_first e.number es k q rest_rise is in
    let other : eqb e.number q.number ≡ false = grind (arith, nat_tests) in
    let there : a + 1 + k ≡ a + suc k = omega arith in
    ap (λ b. cond b (Some (a, e)) (find (λ (e : ℕ × PageImage). eqb e.1.number q.number) (enumerate_from (a + 1) es))) other
    ∙ found_place (a + 1) (Some e.number) es k q rest_rise is
    ∙ ap (λ (n : ℕ). Some (n, q)) there

some_page : (pages : List PageImage) (k : ℕ) → k < length pages → (q : PageImage) × (slice_get pages k ≡ Some q)
some_page [] k low = absurd (omega (arith, low))
some_page (e ∷ es) zero low = (e, refl)
some_page (e ∷ es) (suc k) low = some_page es k (omega (arith, low))

true_is : (b : Bool) → IsTrue b → b ≡ true
true_is b is = grind arith

tag_placed : (image : Image) (k : ℕ) → IsImage image → k < length image.pages → (p : ℕ) × ((home_for image).tags p ≡ Some (image_tag k))
unfolding first_page
tag_placed image k is low =
    let page = some_page image.pages k low in
    let rise : rising (page_numbers image.pages) ≡ true = true_is _ is.pages.rise in
    let found = found_place 0 None image.pages k page.0 rise page.1 in
    let place : 0 + k ≡ k = omega arith in
    (page.0.number, ap (λ (o : Option (ℕ × PageImage)). tag_at (option_map (λ (e : ℕ × PageImage). Data (image_tag e.0) e.1.bytes) o)) found ∙ ap (λ (n : ℕ). Some (image_tag n)) place)

one_tag : (t : Tag) (cell : Cell (Option PageValue)) → tag_of (own_value cell) ≡ t ∷ [] → (bytes : List ℕ) × (cell ≡ Own (Some (Data t bytes)))
one_tag t (Own None) is = cc
one_tag t (Own (Some Zero)) is = cc
one_tag t (Own (Some (Data u bytes))) is = let same : u ≡ t = cc in (bytes, ap (λ (v : Tag). Own (Some (Data v bytes))) same)
one_tag t (Common g) is = cc

-- each world in which jobs keep what is their own has the image's tags
pub image_tags : (image : Image) (w : World) → IsImage image → KeepsJobs (home_for image) w → (k : ℕ) → k < length image.pages → is_in_list (image_tag k) (tags w) ≡ true
image_tags image w is jobs k low =
    let place = tag_placed image k is low in
    let home = jobs.there.tags place.0 (image_tag k) place.1 in
    let cell = one_tag (image_tag k) ((context w (home_for image).name).cell (Page place.0)) home.2 in
    held_in w (image_tag k) (AtContext (home_for image).name jobs.there.live place.0 home.0 cell.0 cell.1)

-- the most frames that are in use
by_one_first : (m : Machine) (k : ℕ) → by_one m (suc k) ≡ by_one (step m 0) k
by_one_first m zero = refl
by_one_first m (suc k) = ap (λ (a : Machine). step a 0) (by_one_first m k)

pub max_first : (a b : ℕ) → a ≤ max a b
max_first a b = grind arith

pub max_second : (a b : ℕ) → b ≤ max a b
max_second a b = grind arith

pub before_most : (m : Machine) (n k : ℕ) → k ≤ n → used (by_one m k).environment.world ≤ most_used m (replicate n 0)
before_most m zero zero low = omega arith
before_most m zero (suc k) low = absurd (omega (arith, low))
before_most m (suc n) zero low = max_first _ _
before_most m (suc n) (suc k) low =
    let rest = before_most (step m 0) n k (omega (arith, low)) in
    let same : used (by_one m (suc k)).environment.world ≡ used (by_one (step m 0) k).environment.world = ap (λ (a : Machine). used a.environment.world) (by_one_first m k) in
    let outer = max_second (frames_of m) (max (used (acted_world m 0)) (most_used (step m 0) (replicate n 0))) in
    let inner = max_second (used (acted_world m 0)) (most_used (step m 0) (replicate n 0)) in
    omega (arith, rest, same, outer, inner)

pub acted_most : (m : Machine) (n k : ℕ) → k < n → used (acted_world (by_one m k) 0) ≤ most_used m (replicate n 0)
acted_most m zero k low = absurd (omega (arith, low))
acted_most m (suc n) zero low =
    let outer = max_second (frames_of m) (max (used (acted_world m 0)) (most_used (step m 0) (replicate n 0))) in
    let inner = max_first (used (acted_world m 0)) (most_used (step m 0) (replicate n 0)) in omega (arith, outer, inner)
acted_most m (suc n) (suc k) low =
    let rest = acted_most (step m 0) n k (omega (arith, low)) in
    let same : used (acted_world (by_one m (suc k)) 0) ≡ used (acted_world (by_one (step m 0) k) 0) = ap (λ (a : Machine). used (acted_world a 0)) (by_one_first m k) in
    let outer = max_second (frames_of m) (max (used (acted_world m 0)) (most_used (step m 0) (replicate n 0))) in
    let inner = max_second (used (acted_world m 0)) (most_used (step m 0) (replicate n 0)) in
    omega (arith, rest, same, outer, inner)

-- the world directly after what a step does
pub acted_is : (m : Machine) (s : Serve) (t : ℕ) (x : Thread) (after : AfterStep) → m.serve ≡ Some s → slice_get m.threads t ≡ Some x → thread_outcome guest_calls t m.environment (Some s) m.text x x.status ≡ Some after →
    acted_world m t ≡ after.environment.world
unfolding acted_world
acted_is m s t x after serve found made =
    ap (world_by m t) found
    ∙ ap (λ (o : Option Serve). world_left m.environment.world (thread_outcome guest_calls t m.environment o m.text x x.status)) serve
    ∙ ap (world_left m.environment.world) made
