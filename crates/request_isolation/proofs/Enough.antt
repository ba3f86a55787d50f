-- With the frames that requests by themselves take, none of their steps finds too few.
use Rattle.std.proofs.Common.{◌≡◌, ◌≢◌, ◌⊎◌, inl, inr, ℕ, zero, suc, ◌+◌, ◌*◌, ◌≤◌, ◌<◌, refl, sym, ap, subst, ◌∙◌, Bool, true, false, cond, eqb, ◌||◌, Option, Some, List, [], ◌∷◌, length, arith}
use Rattle.std.specs.Prelude.{slice_get}
use Rattle.std.specs.List.{list_any}
use Rattle.std.proofs.Math.Nat.{mul-le-mul_right}
use Rattle.std.proofs.lemmas.Bool.{cases_eq, eqb-true, false≢true, or_cases}
use Rattle.std.proofs.lemmas.Bool.Decides.{nat_tests}
use Rattle.guest_image.specs.Limits.{pages_of}
use Rattle.guest_image.specs.declared.image.Form.{Form}
use Rattle.guest_image.specs.declared.image.Form.TheVariants.{One, Two}
use Rattle.guest_image.specs.Limits.{IsImage}
use Rattle.guest_image.specs.declared.image.Image.{Image}
use Rattle.guest_machine.specs.Advances.{advanced}
use Rattle.guest_machine.specs.declared.progress.Advance.{Advance}
use Rattle.world_views.specs.ByJob.{Home, IsPageOf, KeepsJobs, LooksAlike, by_job}
use Rattle.world_views.specs.Views.{channel_view, view}
use Rattle.kernel_core.specs.Machine.{Environment, Machine, Serve}
use Rattle.kernel_core.specs.Step.{advance_outcome, beside, guest_calls, next_outcome, with_regs}
use Rattle.kernel_core.specs.declared.thread.Thread.{Thread}
use Rattle.lwc_base.specs.Frames.{tags, used}
use Rattle.lwc_base.specs.Holders.{InCell}
use Rattle.lwc_base.specs.World.{World, context, group}
use Rattle.lwc_types.specs.declared.fault.ThreadStatus.{ThreadStatus}
use Rattle.lwc_types.specs.declared.fault.ThreadStatus.TheVariants.{Idle, Running, Done, Faulted}
use Rattle.lwc_types.specs.declared.key.Key.TheVariants.{Page}
use Rattle.lwc_types.specs.declared.name.Name.{Name}
use Rattle.lwc_types.specs.declared.name.Tag.{Tag}
use Rattle.lwc_types.specs.declared.page.PageValue.{PageValue}
use Rattle.lwc_types.specs.declared.page.PageValue.TheVariants.{Data}
use Rattle.guest_machine.specs.declared.progress.Next.{Next}
use Rattle.kernel_core.specs.Start.{world_size}
use Rattle.lwc_types.specs.declared.size.WorldSize.{WorldSize}
use Rattle.request_isolation.specs.Alone.{ample}
use Rattle.request_isolation.specs.Needs.{WantsFrames}
use Rattle.request_isolation.proofs.Alike.{acts_alike}
use Rattle.request_isolation.proofs.Apart.{ActsApart, acts_apart}
use Rattle.request_isolation.proofs.Bounds.{used_by, used_by_most, used_least, used_most, used_names}
use Rattle.request_isolation.proofs.Extra.{image_tags}
use Rattle.request_isolation.proofs.Full.{full_act, more, used_more}
use Rattle.request_isolation.proofs.Holds.{Holds, serving_now, thread_count_is}
use Rattle.request_isolation.proofs.Homes.{home_for}
use Rattle.request_isolation.proofs.Reached.{IsServedBy, first_tag, image_below, of_group, of_live}
use Rattle.request_isolation.proofs.Tagged.{AtContext, AtGroup, Holder, held_alike, held_in, held_job, holder_of, job_of}
use Rattle.request_isolation.proofs.Taking.{names_of}
use Rattle.world_views.proofs.Counting.{is_in_list}
use Rattle.lwc_base.proofs.Life.{or_right}
use Rattle.kernel_core.proofs.Worlds.{few_parting}

-- ample frames are more for a greater budget
pub ample-rises : (form : Form) (j k : ℕ) → j ≤ k → 2 * (j + 1) * pages_of form ≤ 2 * (k + 1) * pages_of form
ample-rises One j k few = omega (arith, few)
ample-rises Two j k few = omega (arith, few)

-- they are enough for the pages of an image
pub least_ample : (form : Form) (budget : ℕ) → pages_of form ≤ 2 * (budget + 1) * pages_of form
least_ample One budget = omega arith
least_ample Two budget = omega arith

-- two frames are left beside all pages of this number of contexts and groups
frames_to_spare : (form : Form) (names k : ℕ) → names ≤ 2 * k + 1 → names * pages_of form + 2 ≤ 2 * (k + 1) * pages_of form
frames_to_spare One names k few = omega (arith, few)
frames_to_spare Two names k few = omega (arith, few)

module _ (image : Image) where
  abbrev home : Home
  home = home_for image

  -- the job of a tag is that of its holder, or the tag is the image's
  of_page : (job p : ℕ) (t : Tag) (bytes : List ℕ) → IsPageOf home job p (Some (Data t bytes)) → (t.job ≡ job) ⊎ ((t.job ≡ 0) × (t.k < length image.pages))
  of_page job p t bytes (inl own) = inl own
  of_page job p t bytes (inr first) = inr (image_below image p t first)

  pub tag_job : (w : World) → KeepsJobs home w → (t : Tag) → (holder : Holder w t) → (t.job ≡ job_of w t holder) ⊎ ((t.job ≡ 0) × (t.k < length image.pages))
  tag_job w jobs t (AtContext c live p small bytes is) = of_page c.job p t bytes (subst (InCell (by_job home) c.job (Page p)) is (jobs.kept.contexts c live (Page p)))
  tag_job w jobs t (AtGroup g live p small bytes is) = of_page g.job p t bytes (subst (λ (value : Option PageValue). IsPageOf home g.job p value) is (jobs.kept.groups g live (Page p)))

  own_holder : (w : World) → KeepsJobs home w → (t : Tag) (holder : Holder w t) (j : ℕ) → t.job ≡ j → j ≢ 0 → job_of w t holder ≡ j
  own_holder w jobs t holder j own some_job =
      elim (tag_job w jobs t holder) [
        | inl same ↦ sym same ∙ own
        | inr first ↦ absurd (some_job (sym own ∙ first.0))
      ]

  -- a job's tags are in each world that looks alike to it
  pub tags_alike : (j u s : ℕ) (w v : World) → j ≢ 0 → KeepsJobs home w → view j u w ≡ view j s v → (t : Tag) → t.job ≡ j → is_in_list t (tags w) ≡ true → is_in_list t (tags v) ≡ true
  tags_alike j u s w v some_job jobs same t own there =
      let holder = holder_of w t there in
      held_in v t (held_alike w v j u s t same holder (own_holder w jobs t holder j own some_job))

  -- beside a job's frames, a world that looks alike to it uses those of the image
  pub alike_bound : (j u s : ℕ) (w v : World) → IsImage image → j ≢ 0 → KeepsJobs home w → KeepsJobs home v → view j u w ≡ view j s v → length image.pages + used_by j w ≤ used v
  alike_bound j u s w v is some_job jobs also same =
      let fewer = used_by_most j w v (tags_alike j u s w v some_job jobs same) in
      let least = used_least j (length image.pages) v some_job (image_tags image v is also) in
      omega (arith, fewer, least)

  -- with ample frames no store finds too few
  pub never_wants : (e : Environment) (y : Thread) (t : ℕ) (next : Next) (k frames : ℕ) → KeepsJobs home e.world → e.world.size ≡ world_size image.form frames → names_of e.world ≤ 2 * k + 1 → ample image k ≤ frames → WantsFrames e y next → ⊥
  never_wants e y t next k frames jobs size names enough wants =
      let act = full_act home e y t jobs next wants in
      let few = few_parting e.world act.name act.piece act.short in
      let full = act.full in
      let most = used_names e.world in
      let frames_are : e.world.size.frames ≡ frames = ap (λ (z : WorldSize). z.frames) size in
      let pages : names_of e.world * e.world.size.pages ≡ names_of e.world * pages_of image.form = ap (λ (z : WorldSize). names_of e.world * z.pages) size in
      let spare = frames_to_spare image.form (names_of e.world) k names in
      omega (arith, full, few, most, spare, enough, frames_are, pages)

  -- with more frames jobs keep what is their own, and see the same
  jobs_more : (w : World) → KeepsJobs home w → KeepsJobs home (more w)
  unfolding context group
  jobs_more w jobs = record {
    kept = record { contexts = jobs.kept.contexts; groups = jobs.kept.groups };
    there = record { nobody = jobs.there.nobody; live = jobs.there.live; tags = jobs.there.tags };
  }

  view_more : (j u : ℕ) (w : World) → view j u (more w) ≡ view j u w
  unfolding view
  view_more j u w = refl

-- the jobs of the workers that serve requests
is_running : ThreadStatus → Bool
is_running Running = true
is_running Idle = false
is_running (Done code) = false
is_running (Faulted f) = false

pub served_jobs : List Thread → List ℕ
served_jobs [] = []
served_jobs (x ∷ xs) = cond (is_running x.status) (x.job ∷ served_jobs xs) (served_jobs xs)

pub few_served : (threads : List Thread) → length (served_jobs threads) ≤ length threads
unfolding served_jobs
few_served [] = omega arith
few_served (x ∷ xs) = by_test (is_running x.status) (few_served xs)
  where
    by_test : (b : Bool) → length (served_jobs xs) ≤ length xs → length (cond b (x.job ∷ served_jobs xs) (served_jobs xs)) ≤ suc (length xs)
    by_test true rest = omega (arith, rest)
    by_test false rest = omega (arith, rest)

in_served : (threads : List Thread) (t : ℕ) (x : Thread) → slice_get threads t ≡ Some x → x.status ≡ Running → list_any (eqb x.job) (served_jobs threads) ≡ true
unfolding served_jobs is_running
in_served [] t x found runs = cc
in_served (y ∷ ys) zero x found runs =
    let same : y ≡ x = cc in
    let here : is_running y.status ≡ true = ap (λ (z : Thread). is_running z.status) same ∙ ap is_running runs in
    let own : eqb x.job y.job ≡ true = (let equal : x.job ≡ y.job = ap (λ (z : Thread). z.job) (sym same) in grind (arith, nat_tests)) in
    ap (λ b. list_any (eqb x.job) (cond b (y.job ∷ served_jobs ys) (served_jobs ys))) here ∙ ap (λ b. b || list_any (eqb x.job) (served_jobs ys)) own
in_served (y ∷ ys) (suc t) x found runs = by_test (is_running y.status) (in_served ys t x found runs)
  where
    by_test : (b : Bool) → list_any (eqb x.job) (served_jobs ys) ≡ true → list_any (eqb x.job) (cond b (y.job ∷ served_jobs ys) (served_jobs ys)) ≡ true
    by_test true rest = or_right (eqb x.job y.job) _ rest
    by_test false rest = rest

served_in : (threads : List Thread) (j : ℕ) → list_any (eqb j) (served_jobs threads) ≡ true → (t : ℕ) × (x : Thread) × (slice_get threads t ≡ Some x) × (x.status ≡ Running) × (x.job ≡ j)
unfolding served_jobs is_running
served_in [] j is = absurd (false≢true is)
served_in (y ∷ ys) j is = by_status y.status refl is (λ later. served_in ys j later)
  where
    later_one : ((t : ℕ) × (x : Thread) × (slice_get ys t ≡ Some x) × (x.status ≡ Running) × (x.job ≡ j)) → (t : ℕ) × (x : Thread) × (slice_get (y ∷ ys) t ≡ Some x) × (x.status ≡ Running) × (x.job ≡ j)
    later_one found = (suc found.0, found.1, found.2, found.3, found.4)

    by_status : (st : ThreadStatus) → y.status ≡ st → list_any (eqb j) (cond (is_running st) (y.job ∷ served_jobs ys) (served_jobs ys)) ≡ true →
        (list_any (eqb j) (served_jobs ys) ≡ true → (t : ℕ) × (x : Thread) × (slice_get ys t ≡ Some x) × (x.status ≡ Running) × (x.job ≡ j)) →
        (t : ℕ) × (x : Thread) × (slice_get (y ∷ ys) t ≡ Some x) × (x.status ≡ Running) × (x.job ≡ j)
    by_status Running runs there rest =
        elim (or_cases (eqb j y.job) (list_any (eqb j) (served_jobs ys)) there) [
          | inl here ↦ (0, y, refl, runs, sym (eqb-true j y.job here))
          | inr later ↦ later_one (rest later)
        ]
    by_status Idle is there rest = later_one (rest there)
    by_status (Done code) is there rest = later_one (rest there)
    by_status (Faulted f) is there rest = later_one (rest there)

-- what is held in a serve is the image's, or of a request that is served
module _ (image : Image) (workers budget n : ℕ) (m : Machine) (s : Serve) (holds : Holds image workers budget n m s) where
  holder_served : (t : Tag) → (holder : Holder m.environment.world t) → (job_of m.environment.world t holder ≡ 0) ⊎ IsServedBy m.threads (job_of m.environment.world t holder)
  holder_served t (AtContext c live p small bytes is) =
      elim (of_live image workers budget n m s holds c live) [
        | inl home ↦ inl (ap (λ (d : Name). d.job) home.2)
        | inr served ↦ inr served
      ]
  holder_served t (AtGroup g live p small bytes is) = inr (of_group image workers budget n m s holds g live)

-- a test of a job that is first or second
head_is : (j : ℕ) (js : List ℕ) → j ≡ 0 → list_any (λ i. eqb j i) (0 ∷ js) ≡ true
head_is j js is = ap (λ b. b || list_any (λ i. eqb j i) js) (ap (λ i. eqb i 0) is)

tail_is : (j : ℕ) (js : List ℕ) → list_any (eqb j) js ≡ true → list_any (λ i. eqb j i) (0 ∷ js) ≡ true
tail_is j js is = or_right (eqb j 0) _ is

itself : (j : ℕ) → eqb j j ≡ true
itself j = grind (arith, nat_tests)

-- a worker that serves a request, here and by itself
module _ (image : Image) (is_image : IsImage image) (workers budget n : ℕ) (m : Machine) (s : Serve) (holds : Holds image workers budget n m s)
    (t : ℕ) (x : Thread) (found : slice_get m.threads t ≡ Some x) (running : x.status ≡ Running) (r : ℕ) (job : x.job ≡ r + 1)
    (a : Machine) (sa : Serve) (holds_a : Holds image 1 budget (r + 1) a sa) (found_a : slice_get a.threads 0 ≡ Some x) (like : LooksAlike (home_for image) (r + 1) t 0 m.environment.world a.environment.world)
    (channels : channel_view r m.environment.channels ≡ channel_view r a.environment.channels) where
  abbrev adv : Advance
  adv = advanced m.text x.regs

  abbrev y : Thread
  y = with_regs x adv.after

  here_job : (x.context.job ≡ x.job) × (1 ≤ x.job) × (x.job ≤ s.next)
  here_job = serving_now holds t x found running

  some_job : r + 1 ≢ 0
  some_job none = omega (arith, none)

  -- where there are more frames
  abbrev wide : Environment
  wide = beside (more m.environment.world) m.environment.channels

  jobs_wide : KeepsJobs (home_for image) wide.world
  jobs_wide = jobs_more image m.environment.world holds.jobs

  like_wide : LooksAlike (home_for image) (r + 1) t 0 wide.world a.environment.world
  like_wide = record { some_job = some_job; first = jobs_wide; second = like.second; seen = view_more image (r + 1) t m.environment.world ∙ like.seen }

  not_wide : WantsFrames wide y adv.next → ⊥
  not_wide wants =
      let act = full_act (home_for image) wide y t jobs_wide adv.next wants in
      let few = few_parting wide.world act.name act.piece act.short in
      let full = act.full in
      omega (arith, full, few, used_more m.environment.world)

  acts_wide : ActsApart (home_for image) x.job wide (advance_outcome guest_calls t wide x adv)
  acts_wide = acts_apart (home_for image) t wide x adv here_job.0 (λ none. let some = here_job.1 in omega (arith, none, some)) jobs_wide

  abbrev left : World
  left = (advance_outcome guest_calls t wide x adv).environment.world

  left_is : (next_outcome guest_calls t wide y adv.next).environment.world ≡ left
  unfolding advance_outcome
  left_is = refl

  unseen : (j u : ℕ) → j ≢ r + 1 → view j u left ≡ view j u m.environment.world
  unseen j u other = acts_wide.apart.hidden j u (λ same. other (sym same ∙ job)) ∙ view_more image j u m.environment.world

  pub not_here : (most frames : ℕ) → (WantsFrames a.environment y adv.next → ⊥) → used (advance_outcome guest_calls 0 a.environment x adv).environment.world ≤ length image.pages + most →
      ((j : ℕ) → IsServedBy m.threads j → j ≢ r + 1 → used_by j m.environment.world ≤ most) → m.environment.world.size.frames ≡ frames → length image.pages + workers * most ≤ frames → WantsFrames m.environment y adv.next → ⊥
  not_here most frames spared bound others size enough wants =
      let act = full_act (home_for image) m.environment y t holds.jobs adv.next wants in
      let full = act.full in
      let done = act.done holds.ready.sound in
      let total = used_most (length image.pages) most (served_jobs m.threads) left of_left first_left each_left in
      let few = few_served m.threads in
      let count : length (served_jobs m.threads) * most ≤ workers * most = le_times (length (served_jobs m.threads)) workers most (omega (arith, few, thread_count_is holds)) in
      omega (arith, full, done, total, count, enough, size, ap used left_is)
    where
      le_times : (p q c : ℕ) → p ≤ q → p * c ≤ q * c
      le_times p q c low = mul-le-mul_right c low

      of_served : (q : Tag) (j : ℕ) → q.job ≡ j → IsServedBy m.threads j → list_any (λ i. eqb q.job i) (0 ∷ served_jobs m.threads) ≡ true
      of_served q j own served =
          tail_is q.job (served_jobs m.threads) (subst (λ (i : ℕ). list_any (eqb i) (served_jobs m.threads) ≡ true) (served.job_is ∙ sym own) (in_served m.threads served.number served.thread served.found served.running))

      of_left : (q : Tag) → is_in_list q (tags left) ≡ true → list_any (λ i. eqb q.job i) (0 ∷ served_jobs m.threads) ≡ true
      of_left q there =
          let holder = holder_of left q there in
          let j = job_of left q holder in
          elim (tag_job image left acts_wide.apart.jobs q holder) [
            | inl same ↦ elim (cases_eq j (r + 1)) [
              | inl own ↦ of_served q (r + 1) (same ∙ own) (record { number = t; thread = x; found = found; running = running; job_is = job; some = omega arith })
              | inr apart ↦
                  let held = held_alike left m.environment.world j 0 0 q (unseen j 0 apart) holder refl in
                  let stays = held_job left m.environment.world j 0 0 q (unseen j 0 apart) holder refl in
                  elim (holder_served image workers budget n m s holds q held) [
                    | inl nobody ↦ head_is q.job (served_jobs m.threads) (same ∙ sym stays ∙ nobody)
                    | inr served ↦ of_served q _ (same ∙ sym stays) served
                  ]
            ]
            | inr first ↦ head_is q.job (served_jobs m.threads) first.0
          ]

      first_left : (q : Tag) → q.job ≡ 0 → is_in_list q (tags left) ≡ true → q.k < length image.pages
      first_left q nobody there =
          let holder = holder_of left q there in
          elim (tag_job image left acts_wide.apart.jobs q holder) [
            | inl same ↦
                let none : 0 ≢ r + 1 = λ e. omega (arith, e) in
                let own : job_of left q holder ≡ 0 = sym same ∙ nobody in
                let held = held_alike left m.environment.world 0 0 0 q (unseen 0 0 none) holder own in
                (first_tag image workers budget n m s holds q held (held_job left m.environment.world 0 0 0 q (unseen 0 0 none) holder own)).1
            | inr first ↦ first.1
          ]

      each_left : (j : ℕ) → list_any (eqb j) (served_jobs m.threads) ≡ true → used_by j left ≤ most
      each_left j there =
          let at = served_in m.threads j there in
          let own = serving_now holds at.0 at.1 at.2 at.3 in
          elim (cases_eq j (r + 1)) [
            | inl same ↦
                let both = acts_alike (home_for image) r t 0 wide a.environment x adv (here_job.0 ∙ job) job like_wide channels not_wide spared in
                let least = alike_bound image (r + 1) t 0 left (advance_outcome guest_calls 0 a.environment x adv).environment.world is_image some_job acts_wide.apart.jobs both.worlds.second both.worlds.seen in
                subst (λ (i : ℕ). used_by i left ≤ most) (sym same) (omega (arith, least, bound))
            | inr apart ↦
                let none : j ≢ 0 = λ e. omega (arith, e, own.1, at.4) in
                let fewer = used_by_most j left m.environment.world (tags_alike image j 0 0 left m.environment.world none acts_wide.apart.jobs (unseen j 0 apart)) in
                let rest = others j (record { number = at.0; thread = at.1; found = at.2; running = at.3; job_is = at.4; some = omega (arith, own.1, at.4) }) apart in
                omega (arith, fewer, rest)
          ]

-- the image, and what the requests have that are served
module _ (image : Image) (workers budget n : ℕ) (m : Machine) (s : Serve) (holds : Holds image workers budget n m s) where
  tag_served : (q : Tag) (j : ℕ) → q.job ≡ j → IsServedBy m.threads j → list_any (λ i. eqb q.job i) (0 ∷ served_jobs m.threads) ≡ true
  tag_served q j own served =
      tail_is q.job (served_jobs m.threads) (subst (λ (i : ℕ). list_any (eqb i) (served_jobs m.threads) ≡ true) (served.job_is ∙ sym own) (in_served m.threads served.number served.thread served.found served.running))

  tags_served : (q : Tag) → is_in_list q (tags m.environment.world) ≡ true → list_any (λ i. eqb q.job i) (0 ∷ served_jobs m.threads) ≡ true
  tags_served q there =
      let holder = holder_of m.environment.world q there in
      elim (tag_job image m.environment.world holds.jobs q holder) [
        | inl same ↦ elim (holder_served image workers budget n m s holds q holder) [
          | inl nobody ↦ head_is q.job (served_jobs m.threads) (same ∙ nobody)
          | inr served ↦ tag_served q _ same served
        ]
        | inr first ↦ head_is q.job (served_jobs m.threads) first.0
      ]

  tags_first : (q : Tag) → q.job ≡ 0 → is_in_list q (tags m.environment.world) ≡ true → q.k < length image.pages
  tags_first q nobody there =
      let holder = holder_of m.environment.world q there in
      elim (tag_job image m.environment.world holds.jobs q holder) [
        | inl same ↦ (first_tag image workers budget n m s holds q holder (sym same ∙ nobody)).1
        | inr first ↦ first.1
      ]

  pub fits : (most : ℕ) → ((j : ℕ) → IsServedBy m.threads j → used_by j m.environment.world ≤ most) → used m.environment.world ≤ length image.pages + workers * most
  fits most each =
      let total = used_most (length image.pages) most (served_jobs m.threads) m.environment.world tags_served tags_first each_job in
      let few = few_served m.threads in
      let count : length (served_jobs m.threads) * most ≤ workers * most = le_times (length (served_jobs m.threads)) workers most (omega (arith, few, thread_count_is holds)) in
      omega (arith, total, count)
    where
      le_times : (p q c : ℕ) → p ≤ q → p * c ≤ q * c
      le_times p q c low = mul-le-mul_right c low

      each_job : (j : ℕ) → list_any (eqb j) (served_jobs m.threads) ≡ true → used_by j m.environment.world ≤ most
      each_job j there =
          let at = served_in m.threads j there in
          let own = serving_now holds at.0 at.1 at.2 at.3 in
          each j (record { number = at.0; thread = at.1; found = at.2; running = at.3; job_is = at.4; some = omega (arith, own.1, at.4) })
