-- What lives in a serve: the homes, as they were at the start, and contexts and groups of running requests.
use Rattle.std.proofs.Common.{◌≡◌, ◌⊎◌, inl, inr, ℕ, suc, ◌+◌, ◌≤◌, ◌<◌, refl, sym, ap, subst, ◌∙◌, Bool, true, false, cond, eqb, Option, Some, None, List, [], ◌∷◌, length, arith}
use Rattle.std.specs.Prelude.{slice_get}
use Rattle.std.specs.List.{enumerate_from, find}
use Rattle.std.specs.Option.{option_map}
use Rattle.std.proofs.lemmas.Bool.{false≢true, or_cases}
use Rattle.std.proofs.lemmas.Option.{slice_get_within}
use Rattle.guest_image.specs.declared.image.Image.{Image}
use Rattle.guest_image.specs.declared.image.PageImage.{PageImage}
use Rattle.world_views.specs.ByJob.{by_job}
use Rattle.kernel_core.specs.Machine.{Machine, Serve, home_of, homes_of}
use Rattle.kernel_core.specs.Start.{first_page, home_context, home_value, image_tag}
use Rattle.kernel_core.specs.Step.{contexts_of, roots}
use Rattle.kernel_core.specs.declared.thread.Thread.{Thread}
use Rattle.lwc_base.specs.Cells.{slot_at}
use Rattle.lwc_base.specs.Holders.{InCell, IsGroup}
use Rattle.lwc_base.specs.Life.{Link, Reaches, Root, is_among, is_of, links}
use Rattle.lwc_base.specs.World.{Context, context, is_live}
use Rattle.lwc_base.specs.declared.cell.Cell.{Cell}
use Rattle.lwc_base.specs.declared.cell.Cell.TheVariants.{Own, Common}
use Rattle.lwc_types.specs.declared.fault.ThreadStatus.TheVariants.{Running}
use Rattle.lwc_types.specs.declared.key.Key.{Key}
use Rattle.lwc_types.specs.declared.key.Key.TheVariants.{Page}
use Rattle.lwc_types.specs.declared.name.Name.{Name}
use Rattle.lwc_types.specs.declared.name.Tag.{Tag}
use Rattle.lwc_types.specs.declared.page.PageValue.{PageValue}
use Rattle.lwc_types.specs.declared.page.PageValue.TheVariants.{Data}
use Rattle.request_isolation.proofs.Holds.{Holds, home_stays, ready_serve, reaped_now, serving_now, thread_count_is}
use Rattle.request_isolation.proofs.Homes.{home_for, tag_at}
use Rattle.request_isolation.proofs.Roots.{among_roots, running_or_not, thread_at}
use Rattle.request_isolation.proofs.Tagged.{AtContext, AtGroup, Holder, job_of}
use Rattle.kernel_core.proofs.HomeStart.{home_among_at}
use Rattle.kernel_core.proofs.Homes.{no_names}
use Rattle.lwc_base.proofs.Reaped.{number_in}
use Rattle.lwc_types.specs.declared.key.TheConstants.{SLOTS}
use Rattle.world_views.proofs.Reaping.{links-job}

-- a worker serves a request of a job
pub record IsServedBy (threads : List Thread) (job : ℕ) : Type 0 where
  pub number : ℕ
  pub thread : Thread
  pub found : slice_get threads number ≡ Some thread
  pub running : thread.status ≡ Running
  pub job_is : thread.job ≡ job
  pub some : 1 ≤ job

-- a tag of the image is one of the pages'
found_below : (a : ℕ) (pages : List PageImage) (p : ℕ) (e : ℕ × PageImage) → find (λ (e : ℕ × PageImage). eqb e.1.number p) (enumerate_from a pages) ≡ Some e → e.0 < a + length pages
found_below a [] p e is = cc
found_below a (q ∷ qs) p e is = by_test (eqb q.number p) is (λ same. found_below (a + 1) qs p e same)
  where
    by_test : (b : Bool) → cond b (Some (a, q)) (find (λ (e : ℕ × PageImage). eqb e.1.number p) (enumerate_from (a + 1) qs)) ≡ Some e →
        (find (λ (e : ℕ × PageImage). eqb e.1.number p) (enumerate_from (a + 1) qs) ≡ Some e → e.0 < a + 1 + length qs) → e.0 < a + suc (length qs)
    by_test true same later = let here : a ≡ e.0 = ap (λ (o : Option (ℕ × PageImage)). number_of o) same in omega (arith, here)
      where
        number_of : Option (ℕ × PageImage) → ℕ
        number_of None = 0
        number_of (Some e) = e.0
    by_test false same later = let low = later same in omega (arith, low)

tag_below : (pages : List PageImage) (p : ℕ) (t : Tag) (found : Option (ℕ × PageImage)) → find (λ (e : ℕ × PageImage). eqb e.1.number p) (enumerate_from 0 pages) ≡ found →
    tag_at (option_map (λ (e : ℕ × PageImage). Data (image_tag e.0) e.1.bytes) found) ≡ Some t → (t.job ≡ 0) × (t.k < length pages)
tag_below pages p t None is same = cc
tag_below pages p t (Some e) is same =
    let one : image_tag e.0 ≡ t = cc in
    let low = found_below 0 pages p e is in
    (ap (λ (u : Tag). u.job) (sym one), (let number : e.0 ≡ t.k = ap (λ (u : Tag). u.k) one in omega (arith, low, number)))

pub image_below : (image : Image) (p : ℕ) (t : Tag) → (home_for image).tags p ≡ Some t → (t.job ≡ 0) × (t.k < length image.pages)
unfolding first_page
image_below image p t is = tag_below image.pages p t (find (λ (e : ℕ × PageImage). eqb e.1.number p) (enumerate_from 0 image.pages)) refl is

module _ (image : Image) (workers budget n : ℕ) (m : Machine) (s : Serve) (holds : Holds image workers budget n m s) where
  abbrev pub IsHome : Name → Type 0
  IsHome c = (t : ℕ) × (t < workers) × (c ≡ home_of t)

  of_thread : (t : ℕ) (x : Thread) → slice_get m.threads t ≡ Some x → IsHome x.context ⊎ IsServedBy m.threads x.context.job
  of_thread t x found =
      elim (running_or_not x.status) [
        | inl runs ↦
            let own = serving_now holds t x found runs in
            inr (record { number = t; thread = x; found = found; running = runs; job_is = sym own.0; some = omega (arith, own.0, own.1) })
        | inr rests ↦ inl (t, (let low = slice_get_within m.threads t x found in omega (arith, low, thread_count_is holds)), holds.placed.resting t x found rests)
      ]

  of_root : (c : Name) → is_among (roots m.threads (Some s)) c ≡ true → IsHome c ⊎ IsServedBy m.threads c.job
  of_root c among =
      elim (or_cases (is_among (contexts_of m.threads) c) (is_among (homes_of s.workers) c) (sym (among_roots m.threads s c) ∙ among)) [
        | inl here ↦
            let at = thread_at m.threads c here in
            subst (λ (d : Name). ((t : ℕ) × (t < workers) × (d ≡ home_of t)) ⊎ IsServedBy m.threads d.job) (sym at.3) (of_thread at.0 at.1 at.2)
        | inr home ↦ let at = home_among_at 0 s.workers c home in inl (at.0, omega (arith, at.1, holds.own_workers), at.2)
      ]

  -- what is reached is a home, or of the job of a request that is served
  pub of_reached : (c : Name) → Reaches m.environment.world (roots m.threads (Some s)) c → IsHome c ⊎ IsServedBy m.threads c.job
  unfolding links
  of_reached c (Root _ among) = of_root c among
  of_reached c (Link d _ before live link) =
      let at = number_in (λ k. is_of c (slot_at m.environment.world d k)) SLOTS 0 link in
      elim (of_reached d before) [
        | inl home ↦
            let none = no_names holds.inputs m.environment.world (home_of home.0) ((ready_serve holds).homes home.0 (omega (arith, home.1, holds.own_workers))) at.0 c in
            absurd (false≢true (sym none ∙ ap (λ (e : Name). is_of c (slot_at m.environment.world e at.0)) (sym home.2) ∙ at.3))
        | inr served ↦ inr (subst (IsServedBy m.threads) (sym (links-job (home_for image) m.environment.world d c holds.jobs.kept link)) served)
      ]

  pub of_live : (c : Name) → is_live m.environment.world c ≡ true → IsHome c ⊎ IsServedBy m.threads c.job
  of_live c live = of_reached c ((reaped_now holds).contexts c live)

  home_page : (t p : ℕ) (cell : Cell (Option PageValue)) → t < workers → (context m.environment.world (home_of t)).cell (Page p) ≡ cell → cell ≡ Own (first_page 0 image.pages p)
  unfolding home_context
  home_page t p cell low is = sym is ∙ ap (λ (x : Context). x.cell (Page p)) (home_stays holds t low)

  -- a group is of the job of a request that is served
  pub of_group : (g : Name) → IsGroup m.environment.world g → IsServedBy m.threads g.job
  unfolding home_context
  of_group g live =
      let named = (reaped_now holds).groups g live in
      let own : g.job ≡ named.0.job = own_group named.0 named.1 named.3 named.4 in
      elim (of_live named.0 named.3) [
        | inl home ↦
            let clash : Own (home_value image named.1) ≡ Common g = ap (λ (x : Context). x.cell named.1) (sym (home_stays holds home.0 home.1)) ∙ ap (λ (e : Name). (context m.environment.world e).cell named.1) (sym home.2) ∙ named.4 in cc
        | inr served ↦ subst (IsServedBy m.threads) (sym own) served
      ]
    where
      own_group : (c : Name) (k : Key) → is_live m.environment.world c ≡ true → (context m.environment.world c).cell k ≡ Common g → g.job ≡ c.job
      own_group c k alive is = subst (InCell (by_job (home_for image)) c.job k) is (holds.jobs.kept.contexts c alive k)

  -- a tag at a holder of job 0 is the image's
  pub first_tag : (t : Tag) → (holder : Holder m.environment.world t) → job_of m.environment.world t holder ≡ 0 → (t.job ≡ 0) × (t.k < length image.pages)
  first_tag t (AtContext c live p small bytes is) nobody =
      elim (of_live c live) [
        | inl home ↦
            let own = home_page home.0 p (Own (Some (Data t bytes))) home.1 (ap (λ (e : Name). (context m.environment.world e).cell (Page p)) (sym home.2) ∙ is) in
            image_below image p t (sym (ap (λ (cell : Cell (Option PageValue)). tag_of_cell cell) own))
        | inr served ↦ let some = served.some in absurd (omega (arith, some, nobody))
      ]
    where
      tag_of_cell : Cell (Option PageValue) → Option Tag
      tag_of_cell (Own value) = tag_at value
      tag_of_cell (Common g) = None
  first_tag t (AtGroup g live p small bytes is) nobody = let some = (of_group g live).some in absurd (omega (arith, some, nobody))
