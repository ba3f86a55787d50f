-- The homes of a serve, the context that a request begins in, and the start.
use Rattle.std.proofs.Common.{◌≡◌, inr, ℕ, suc, ◌+◌, ◌≤◌, ◌<◌, refl, sym, ap, subst, ◌∙◌, Bool, true, false, cond, eqb, ltb, Option, Some, None, List, [], ◌∷◌, length, arith}
use Rattle.std.specs.Prelude.{All, is_some, unwrap_or}
use Rattle.std.specs.FinMap as fm
use Rattle.std.specs.List.{enumerate_from, find}
use Rattle.std.specs.Option.{option_map, option_map_or}
use Rattle.std.proofs.lemmas.Bool.{false≢true}
use Rattle.std.proofs.lemmas.Bool.Decides.{nat_tests}
use Rattle.guest_image.specs.Limits.{IsImage, pages_of}
use Rattle.guest_image.specs.declared.image.Image.{Image}
use Rattle.guest_image.specs.declared.image.PageImage.{PageImage}
use Rattle.guest_image.specs.declared.image.SlotImage.{SlotImage}
use Rattle.world_views.specs.ByJob.{Home, IsPageOf, IsSlotOf, KeepsJobs, by_job}
use Rattle.world_views.specs.Views.{seen_by, view}
use Rattle.kernel_core.specs.Machine.{home_of}
use Rattle.kernel_core.specs.Start.{counted, first_page, first_slot, first_entry, home_context, home_value, image_tag, serve_world, with_homes, world_of}
use Rattle.lwc_base.specs.Cells.{value_at, value_of}
use Rattle.lwc_base.specs.Frames.{own_value, tag_of}
use Rattle.lwc_base.specs.Holders.{InContext, IsGroup}
use Rattle.lwc_base.specs.Keys.{ValueOf}
use Rattle.lwc_base.specs.World.{Context, Group, World, context, is_live, new_context}
use Rattle.lwc_base.specs.declared.cell.Cell.TheVariants.{Own}
use Rattle.lwc_base.specs.declared.descriptor.Descriptor.{Descriptor}
use Rattle.lwc_base.specs.declared.descriptor.Descriptor.TheVariants.{Console, Empty, File, Reply, Request}
use Rattle.lwc_types.specs.Names.{name_cmp}
use Rattle.lwc_types.specs.Registers.{fresh_registers}
use Rattle.lwc_types.specs.declared.key.Key.{Key}
use Rattle.lwc_types.specs.declared.key.Key.TheVariants.{Page, Slot, Cred}
use Rattle.lwc_types.specs.declared.name.Name.{Name}
use Rattle.lwc_types.specs.declared.name.Tag.{Tag}
use Rattle.lwc_types.specs.declared.page.PageValue.{PageValue}
use Rattle.lwc_types.specs.declared.page.PageValue.TheVariants.{Zero, Data}
use Rattle.lwc_types.specs.declared.right.Right.TheVariants.{Write}
use Rattle.snapshot_host.specs.Begin.{begun_context, begun_value}
use Rattle.kernel_core.proofs.HomeStart.{at_home, get-homes, home_at, is_home}

-- the tag of a page's value, if it has one
abbrev pub tag_at : Option PageValue → Option Tag
tag_at None = None
tag_at (Some Zero) = None
tag_at (Some (Data tag bytes)) = Some tag

-- the first home of a serve of an image
abbrev pub home_for : Image → Home
home_for image = record { name = home_of 0; tags = λ p. tag_at (first_page 0 image.pages p) }

-- the home of a number is as at the start
abbrev pub IsHomeOf : Image → World → ℕ → Type 0
IsHomeOf image w t = context w (home_of t) ≡ home_context image

-- what a home may have under its keys, any job may have
page_in : (image : Image) (job p : ℕ) (o : Option PageValue) → first_page 0 image.pages p ≡ o → IsPageOf (home_for image) job p o
page_in image job p None is = tt
page_in image job p (Some Zero) is = tt
page_in image job p (Some (Data tag bytes)) is = inr (ap tag_at is)

slot_found : (job : ℕ) (found : Option SlotImage) → IsSlotOf job (option_map_or (λ s. File s.file 0) found Empty)
slot_found job None = tt
slot_found job (Some s) = tt

slot_past : (image : Image) (job n : ℕ) → ltb n 2 ≡ false → IsSlotOf job (first_slot image.slots n)
unfolding first_slot
slot_past image job n past =
    subst (λ b. IsSlotOf job (cond b Console (option_map_or (λ s. File s.file 0) (find (λ s. eqb s.slot n) image.slots) Empty))) (sym past)
    (slot_found job (find (λ s. eqb s.slot n) image.slots))

slot_in : (image : Image) (job n : ℕ) → IsSlotOf job (home_value image (Slot n))
slot_in image job n = by_first (ltb n 2) refl
  where
    by_there : (there : Bool) → ltb n 2 ≡ false → IsSlotOf job (cond there (first_slot image.slots n) Empty)
    by_there true past = slot_past image job n past
    by_there false past = tt

    by_first : (first : Bool) → ltb n 2 ≡ first → IsSlotOf job (cond first Empty (cond (ltb n 64) (first_slot image.slots n) Empty))
    by_first true is = tt
    by_first false is = by_there (ltb n 64) is

-- the context that a request begins in
begun_home : Image → ℕ → (k : Key) → ValueOf k
begun_home image r (Page p) = home_value image (Page p)
begun_home image r (Slot n) = cond (eqb n 0) (Request r 0) (cond (eqb n 1) (Reply r) (home_value image (Slot n)))
begun_home image r Cred = home_value image Cred

first_begun : Image → ℕ → Context
first_begun image r = record { cell = λ k. Own (begun_home image r k); right = λ p. Write; entry = fresh_registers (first_entry image); saved = λ t. None }

begun_in_home : (image : Image) (r : ℕ) → InContext (by_job (home_for image)) (r + 1) (first_begun image r)
unfolding begun_home first_begun
begun_in_home image r (Page p) = page_in image (r + 1) p (first_page 0 image.pages p) refl
begun_in_home image r (Slot n) = by_place (eqb n 0) (eqb n 1)
  where
    by_place : (first second : Bool) → IsSlotOf (r + 1) (cond first (Request r 0) (cond second (Reply r) (home_value image (Slot n))))
    by_place true second = refl
    by_place false true = refl
    by_place false false = slot_in image (r + 1) n
begun_in_home image r Cred = tt

module _ (image : Image) (w : World) (t : ℕ) (is : IsHomeOf image w t) where
  pub value_of_home : (k : Key) → value_at w (home_of t) k ≡ home_value image k
  unfolding value_at home_context
  value_of_home k = ap (λ (x : Context). value_of w k (x.cell k)) is

  pub entry_of_home : (context w (home_of t)).entry ≡ fresh_registers (first_entry image)
  unfolding home_context
  entry_of_home = ap (λ (x : Context). x.entry) is

  right_of_home : (context w (home_of t)).right ≡ λ p. Write
  unfolding home_context
  right_of_home = ap (λ (x : Context). x.right) is

  begun_value_is : (r : ℕ) (k : Key) → begun_value w (home_of t) r k ≡ begun_home image r k
  unfolding begun_home
  begun_value_is r (Page p) = value_of_home (Page p)
  begun_value_is r (Slot n) = ap (λ (value : Descriptor). cond (eqb n 0) (Request r 0) (cond (eqb n 1) (Reply r) value)) (value_of_home (Slot n))
  begun_value_is r Cred = value_of_home Cred

  begun_is : (r : ℕ) → begun_context w (home_of t) r ≡ first_begun image r
  unfolding begun_context first_begun
  begun_is r i = record { cell = λ k. Own (begun_value_is r k i); right = right_of_home i; entry = entry_of_home i; saved = λ s. None }

  -- a request begins in what its job may have
  pub begun_in : (r : ℕ) → InContext (by_job (home_for image)) (r + 1) (begun_context w (home_of t) r)
  begun_in r = subst (InContext (by_job (home_for image)) (r + 1)) (sym (begun_is r)) (begun_in_home image r)

-- a request begins alike from each home
pub begun_alike : (image : Image) (w v : World) (t s r : ℕ) → IsHomeOf image w t → IsHomeOf image v s → begun_context w (home_of t) r ≡ begun_context v (home_of s) r
begun_alike image w v t s r is also = begun_is image w t is r ∙ sym (begun_is image v s also r)

-- the start of a serve
module _ (image : Image) where
  homes_map : ℕ → fm.FinMap name_cmp Context
  homes_map count = with_homes fm.empty (home_context image) count

  get_home : (count : ℕ) (c : Name) → fm.get (homes_map count) c ≡ cond (is_home count c) (Some (home_context image)) None
  unfolding homes_map
  get_home count c = get-homes fm.empty (home_context image) count c ∙ ap (cond (is_home count c) (Some (home_context image))) (fm.get-empty name_cmp c)

  -- who is found is a home
  found_home : (count : ℕ) (c : Name) → is_some (fm.get (homes_map count) c) ≡ true → (t : ℕ) × (t < count) × (c ≡ home_of t) × (fm.get (homes_map count) c ≡ Some (home_context image))
  found_home count c there = by_test (is_home count c) refl
    where
      by_test : (b : Bool) → is_home count c ≡ b → (t : ℕ) × (t < count) × (c ≡ home_of t) × (fm.get (homes_map count) c ≡ Some (home_context image))
      by_test true is = let at = home_at count c is in (at.0, at.1, at.2, get_home count c ∙ ap (λ b. cond b (Some (home_context image)) None) is)
      by_test false is = absurd (false≢true (sym (ap is_some (get_home count c ∙ ap (λ b. cond b (Some (home_context image)) None) is)) ∙ there))

  not_home : (count r k : ℕ) → fm.get (homes_map count) (record { job = r + 1; k = k }) ≡ None
  not_home count r k = by_test (is_home count (record { job = r + 1; k = k })) refl
    where
      by_test : (b : Bool) → is_home count (record { job = r + 1; k = k }) ≡ b → fm.get (homes_map count) (record { job = r + 1; k = k }) ≡ None
      by_test false is = get_home count (record { job = r + 1; k = k }) ∙ ap (λ b. cond b (Some (home_context image)) None) is
      by_test true is =
          let at = home_at count (record { job = r + 1; k = k }) is in let none : r + 1 ≡ 0 = ap (λ (n : Name). n.job) at.2 in absurd (omega (arith, none))

  module _ (frames count : ℕ) where
    live_home : (c : Name) → is_live (serve_world image frames count) c ≡ true → (t : ℕ) × (t < count) × (c ≡ home_of t) × (context (serve_world image frames count) c ≡ home_context image)
    unfolding context world_of homes_map
    live_home c live =
        let home = found_home count c live in (home.0, home.1, home.2, ap (λ (o : Option Context). unwrap_or o (new_context 0 (fresh_registers 0))) home.3)

    home_context_in : (job : ℕ) → InContext (by_job (home_for image)) job (home_context image)
    unfolding home_context
    home_context_in job (Page p) = page_in image job p (first_page 0 image.pages p) refl
    home_context_in job (Slot n) = slot_in image job n
    home_context_in job Cred = tt

    no_group : (g : Name) → IsGroup (serve_world image frames count) g → ⊥
    unfolding world_of
    no_group g is = let none : is_some (fm.get (fm.empty {K = Name} {X = Group} {R = name_cmp}) g) ≡ false = ap is_some (fm.get-empty name_cmp g) in false≢true (sym none ∙ is)

    -- an image's page is within the limit
    found_page : (most a : ℕ) (pages : List PageImage) (p : ℕ) (e : ℕ × PageImage) → find (λ (e : ℕ × PageImage). eqb e.1.number p) (enumerate_from a pages) ≡ Some e → All (λ (q : PageImage). q.number < most) pages → p < most
    found_page most a [] p e is small = cc
    found_page most a (q ∷ qs) p e is small = by_test (eqb q.number p) refl is (λ same. found_page most (a + 1) qs p e same (λ k d within. small (suc k) d (omega (arith, within))))
      where
        by_test : (b : Bool) → eqb q.number p ≡ b → cond b (Some (a, q)) (find (λ (e : ℕ × PageImage). eqb e.1.number p) (enumerate_from (a + 1) qs)) ≡ Some e →
            (find (λ (e : ℕ × PageImage). eqb e.1.number p) (enumerate_from (a + 1) qs) ≡ Some e → p < most) → p < most
        by_test true here same later = let low : q.number < most = small 0 q (omega arith) in grind (arith, nat_tests)
        by_test false other same later = later same

    tag_found : (p : ℕ) (tag : Tag) (found : Option (ℕ × PageImage)) → find (λ (e : ℕ × PageImage). eqb e.1.number p) (enumerate_from 0 image.pages) ≡ found →
        tag_at (option_map (λ (e : ℕ × PageImage). Data (image_tag e.0) e.1.bytes) found) ≡ Some tag → IsImage image →
        (p < pages_of image.form) × (tag.job ≡ 0) × (tag_of (option_map (λ (e : ℕ × PageImage). Data (image_tag e.0) e.1.bytes) found) ≡ tag ∷ [])
    tag_found p tag None is same image_is = cc
    tag_found p tag (Some e) is same image_is =
        let one : image_tag e.0 ≡ tag = cc in
        (found_page (pages_of image.form) 0 image.pages p e is image_is.pages.numbers, ap (λ (t : Tag). t.job) (sym one), ap (λ (t : Tag). t ∷ []) one)

    pub start_keeps : 1 ≤ count → IsImage image → KeepsJobs (home_for image) (serve_world image frames count)
    unfolding first_page home_context world_of homes_map
    start_keeps some image_is = record {
      kept = record {
        contexts = λ c live. let home = live_home c live in subst (InContext (by_job (home_for image)) c.job) (sym home.3) (home_context_in c.job);
        groups = λ g is. absurd (no_group g is);
      };
      there = record {
        nobody = refl;
        live = live_at;
        tags = λ p tag is.
            let found = tag_found p tag (find (λ (e : ℕ × PageImage). eqb e.1.number p) (enumerate_from 0 image.pages)) refl is image_is in
            (size_is p found.0, found.1, ap (λ (x : Context). tag_of (own_value (x.cell (Page p)))) (live_home (home_of 0) live_at).3 ∙ found.2);
      };
    }
      where
        live_at : is_live (serve_world image frames count) (home_of 0) ≡ true
        live_at = ap is_some (get_home count (home_of 0)) ∙ ap (λ b. is_some (cond b (Some (home_context image)) None)) (at_home count 0 (omega (arith, some)))

        size_is : (p : ℕ) → p < pages_of image.form → p < (serve_world image frames count).size.pages
        size_is p small = small

  -- a request that has not begun is seen alike at each start
  pub start_alike : (frames other count also r t : ℕ) → view (r + 1) t (serve_world image frames count) ≡ view (r + 1) 0 (serve_world image other also)
  unfolding view world_of homes_map
  start_alike frames other count also r t i = record {
    contexts = λ k. both k i;
    groups = λ k. fm.get (fm.empty {K = Name} {X = Group} {R = name_cmp}) (record { job = r + 1; k = k });
    next = counters i;
    pages = pages_of image.form;
  }
    where
      both : (k : ℕ) → option_map (seen_by t) (fm.get (homes_map count) (record { job = r + 1; k = k })) ≡ option_map (seen_by 0) (fm.get (homes_map also) (record { job = r + 1; k = k }))
      both k = ap (option_map (seen_by t)) (not_home count r k) ∙ sym (ap (option_map (seen_by 0)) (not_home also r k))

      no_nobody : eqb (r + 1) 0 ≡ false
      no_nobody = grind (arith, nat_tests)

      counters : (serve_world image frames count).next (r + 1) ≡ (serve_world image other also).next (r + 1)
      counters = ap (λ b. cond b (counted (count + 1) (length image.pages)) (counted 0 0)) no_nobody ∙ sym (ap (λ b. cond b (counted (also + 1) (length image.pages)) (counted 0 0)) no_nobody)
