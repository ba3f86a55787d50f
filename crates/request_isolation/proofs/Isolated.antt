-- Serves from their starts: each reply is that of its request by itself.
use Rattle.std.proofs.Common.{◌≡◌, ◌≢◌, inl, inr, ℕ, zero, suc, ◌+◌, ◌*◌, ◌≤◌, ◌<◌, refl, sym, ap, subst, ◌∙◌, Bool, true, false, cond, leb, ltb, Option, Some, None, List, [], ◌∷◌, ◌++◌, length, map, get_or, arith}
use Rattle.std.specs.Prelude.{IfSome, max, replicate, slice_get}
use Rattle.std.specs.List.{range_with_len}
use Rattle.std.proofs.lemmas.Bool.Decides.{nat_tests}
use Rattle.std.proofs.lemmas.List.{get_or_past}
use Rattle.std.proofs.lemmas.Option.{slice_get-get_or}
use Rattle.guest_image.specs.declared.image.Image.{Image}
use Rattle.guest_isa.specs.declared.instr.Instr.{Instr}
use Rattle.guest_machine.specs.Advances.{advanced}
use Rattle.world_views.specs.ByJob.{KeepsJobs, LooksAlike}
use Rattle.world_views.specs.Views.{channel_view, view}
use Rattle.guest_image.specs.declared.image.Vault.{Vault}
use Rattle.kernel_core.specs.Kernel.{CanKeep, CanOpen, MayHave}
use Rattle.kernel_core.specs.Machine.{Machine, Serve, has_ended, home_of, in_serve, reply_of}
use Rattle.kernel_core.specs.Runs.{frames_of, peak, run}
use Rattle.kernel_core.specs.Start.{Inputs, first_entry, first_workers, home_context, serve_at, serve_world, start, threads_at, with_its_vault, world_for, world_of, world_size}
use Rattle.kernel_core.specs.Step.{AfterStep, advance_outcome, after_outcome, after_thread, guest_calls, only, step, step_by, thread_outcome, unchanged, waiting, with_regs, with_status}
use Rattle.kernel_core.specs.declared.settings.Job.{Job}
use Rattle.kernel_core.specs.declared.settings.Job.TheVariants as jobs
use Rattle.kernel_core.specs.declared.thread.Thread.{Thread}
use Rattle.lwc_base.specs.Channels.{bytes_in}
use Rattle.lwc_types.specs.Names.{name_cmp}
use Rattle.std.specs.FinMap as fm
use Rattle.request_isolation.proofs.Taking.{names_of}
use Rattle.lwc_base.specs.Frames.{used}
use Rattle.lwc_base.specs.World.{Context, Group, World, is_live}
use Rattle.lwc_types.specs.declared.name.Name.{Name}
use Rattle.lwc_types.specs.declared.size.WorldSize.{WorldSize}
use Rattle.lwc_types.specs.Registers.{fresh_registers}
use Rattle.lwc_types.specs.declared.fault.ThreadStatus.{ThreadStatus}
use Rattle.lwc_types.specs.declared.fault.ThreadStatus.TheVariants.{Done, Faulted, Idle, Running}
use Rattle.lwc_types.specs.declared.regs.Regs.{Regs}
use Rattle.snapshot_host.specs.declared.finishing.Finished.{Finished}
use Rattle.request_isolation.specs.Alone.{alone, alone_in, ample, inputs_alone, start_alone, steps_alone}
use Rattle.request_isolation.specs.Needs.{HadFrames, HasFrames, HasFramesFor, IsShort, IsSpared, acted_world, extra, greatest_extra, most_used}
use Rattle.request_isolation.proofs.Full.{full_act}
use Rattle.kernel_core.proofs.Worlds.{few_parting}
use Rattle.request_isolation.proofs.Homes.{home_for, start_alike, start_keeps}
use Rattle.request_isolation.proofs.Holds.{Holds, begun_few, few_after, reply_count_is, serving_now, text_stays}
use Rattle.request_isolation.proofs.Recorded.{recorded_run, told_nobody, told_written}
use Rattle.request_isolation.specs.Restored.{AllRest, IsRestored, KeepsHomes}
use Rattle.request_isolation.proofs.Restored.{IsSilentNow, contexts_same, group_served, homes_same, other_served, rest_frames, rest_groups, silent_run}
use Rattle.request_isolation.proofs.Roots.{Placed}
use Rattle.request_isolation.proofs.Within.{max_least, pages_fit, peak_within}
use Rattle.kernel_core.proofs.ReadyMachines.{ready_machine}
use Rattle.request_isolation.proofs.Serves.{some_worker}
use Rattle.request_isolation.proofs.Enough.{alike_bound, ample-rises, fits, least_ample, never_wants, not_here}
use Rattle.request_isolation.proofs.Bounds.{used_by}
use Rattle.request_isolation.proofs.Extra.{acted_is, acted_most, before_most, max_first, max_second}
use Rattle.request_isolation.proofs.Reached.{IsServedBy, of_live}
use Rattle.request_isolation.proofs.Stages.{Finishes, Goes, IsEnough, IsServed, Made, Served, Stage, Stands, Told, Waits, acted_by, by_one, how_made, leaves_by, stage_made, stands_step, told_alone}
use Rattle.lwc_base.proofs.Facts.{orders}
use Rattle.kernel_core.proofs.HomeStart.{ready_serve, ready_start}
use Rattle.kernel_core.specs.Ready.{IsReady}
use Rattle.lwc_types.specs.declared.limits.TheConstants.{MOST_REQUESTS}

-- a worker of a start waits at home
waits_from : (regs : Regs) (a n t : ℕ) (x : Thread) → slice_get (map (λ home. waiting home regs) (map home_of (range_with_len a n))) t ≡ Some x → x ≡ waiting (home_of (a + t)) regs
waits_from regs a zero t x found = cc
waits_from regs a (suc n) zero x found =
    let is : waiting (home_of a) regs ≡ x = cc in
    let same : a ≡ a + 0 = omega arith in sym is ∙ ap (λ (k : ℕ). waiting (home_of k) regs) same
waits_from regs a (suc n) (suc t) x found =
    let same : a + 1 + t ≡ a + suc t = omega arith in waits_from regs (a + 1) n t x found ∙ ap (λ (k : ℕ). waiting (home_of k) regs) same

waits_at : (entry workers t : ℕ) (x : Thread) → slice_get (first_workers entry workers) t ≡ Some x → x ≡ waiting (home_of t) (fresh_registers entry)
unfolding first_workers
waits_at entry workers t x found =
    let same : 0 + t ≡ t = omega arith in waits_from (fresh_registers entry) 0 workers t x found ∙ ap (λ (k : ℕ). waiting (home_of k) (fresh_registers entry)) same

placed_first : (entry workers : ℕ) → Placed (first_workers entry workers)
placed_first entry workers = record {
  resting = λ t x found rests. ap (λ (y : Thread). y.context) (waits_at entry workers t x found);
  once = λ t u x y found also runs too job. let clash : Idle ≡ Running = ap (λ (y : Thread). y.status) (sym (waits_at entry workers t x found)) ∙ runs in cc;
}

some_first : (entry workers : ℕ) → 1 ≤ workers → (x : Thread) × (slice_get (first_workers entry workers) 0 ≡ Some x) × (x.status ≡ Idle)
unfolding first_workers
some_first entry zero some = absurd (omega (arith, some))
some_first entry (suc n) some = (_, refl, refl)

-- a serve of one worker has one context
one_home : (image : Image) → names_of (serve_world image 0 1) ≤ 1
unfolding world_of
one_home image =
    let more = len_inserted in
    let none : fm.len (fm.empty {K = Name} {X = Group} {R = name_cmp}) ≡ 0 = fm.len-empty name_cmp Group in
    omega (arith, more, none)
  where
    len_inserted : fm.len (fm.insert (fm.empty {K = Name} {X = Context} {R = name_cmp}) (home_of 0) (home_context image)) ≤ 1
    len_inserted = by_there (fm.contains_key (fm.empty {K = Name} {X = Context} {R = name_cmp}) (home_of 0)) (fm.len-insert orders.names (fm.empty {K = Name} {X = Context} {R = name_cmp}) (home_of 0) (home_context image)) (fm.len-empty name_cmp Context)
      where
        by_there : (b : Bool) → fm.len (fm.insert (fm.empty {K = Name} {X = Context} {R = name_cmp}) (home_of 0) (home_context image)) ≡ cond b (fm.len (fm.empty {K = Name} {X = Context} {R = name_cmp})) (fm.len (fm.empty {K = Name} {X = Context} {R = name_cmp}) + 1) →
            fm.len (fm.empty {K = Name} {X = Context} {R = name_cmp}) ≡ 0 → fm.len (fm.insert (fm.empty {K = Name} {X = Context} {R = name_cmp}) (home_of 0) (home_context image)) ≤ 1
        by_there true is none = omega (arith, is, none)
        by_there false is none = omega (arith, is, none)

-- a serve before its first step
holds_first : (inputs : Inputs) (workers n : ℕ) (m : Machine) (s : Serve) → IsReady inputs 0 m → length inputs.requests ≡ n → 1 ≤ workers → m.serve ≡ Some s → s.workers ≡ workers → s.budget ≡ inputs.settings.budget →
    m.threads ≡ first_workers (first_entry inputs.image) workers → m.environment.world ≡ serve_world inputs.image inputs.settings.frames workers → Holds inputs.image workers inputs.settings.budget n m s
holds_first inputs workers n m s ready many some is own_workers own_budget threads world = record {
  is = is;
  own_workers = own_workers;
  own_budget = own_budget;
  inputs = inputs;
  steps = 0;
  own_image = refl;
  many = many;
  ready = ready;
  jobs = subst (λ (w : World). KeepsJobs (home_for inputs.image) w) (sym world) (start_keeps inputs.image inputs.settings.frames workers some ready.image);
  placed = subst Placed (sym threads) (placed_first (first_entry inputs.image) workers);
}

last_of : (r : ℕ) (bytes : List ℕ) → slice_get (replicate r [] ++ bytes ∷ []) r ≡ Some bytes
last_of zero bytes = refl
last_of (suc r) bytes = last_of r bytes

length_alone : (r : ℕ) (bytes : List ℕ) → length (replicate r [] ++ bytes ∷ []) ≡ r + 1
length_alone zero bytes = omega arith
length_alone (suc r) bytes = let rest = length_alone r bytes in omega (arith, rest)

none_yet : List ℕ
none_yet = []

empty_reply : (n r : ℕ) → r < n → slice_get (replicate n none_yet) r ≡ Some none_yet
empty_reply zero r low = absurd (omega (arith, low))
empty_reply (suc n) zero low = refl
empty_reply (suc n) (suc r) low = empty_reply n r (omega (arith, low))

-- nothing is recorded at the start
abbrev no_reply : Option Finished
no_reply = None

none_at : (n r : ℕ) → get_or (replicate n no_reply) r None ≡ None
none_at zero r = refl
none_at (suc n) zero = refl
none_at (suc n) (suc r) = none_at n r

-- the steps of one thread, one after another
run_more : (m : Machine) (k : ℕ) → run (step m 0) (replicate k 0) ≡ step (run m (replicate k 0)) 0
run_more m zero = refl
run_more m (suc k) = run_more (step m 0) k

run_by_one : (m : Machine) (k : ℕ) → run m (replicate k 0) ≡ by_one m k
run_by_one m zero = refl
run_by_one m (suc k) = run_more m k ∙ ap (λ (a : Machine). step a 0) (run_by_one m k)

-- what is recorded of a request that there is not
module _ (image : Image) (workers budget n : ℕ) where
  pub stands_run : (m : Machine) (steps : List ℕ) → Stands image budget workers n (λ m s. Unit {0}) m → Stands image budget workers n (λ m s. Unit {0}) (run m steps)
  stands_run m [] stands = stands
  stands_run m (t ∷ ts) stands = stands_run (step m t) ts (stands_step image budget workers n (λ m s. Unit {0}) (λ m s. Unit {0}) m t stands (λ fact. fact) (λ made. tt))

  recorded_below : (m : Machine) (r : ℕ) (told : Finished) → Stands image budget workers n (λ m s. Unit {0}) m → reply_of m r ≡ Some told → r < n
  unfolding reply_of
  recorded_below m r told stands is = by_test (ltb r n) refl
    where
      recorded : get_or stands.serve.replies r None ≡ Some told
      recorded = ap (λ (serve : Option Serve). in_serve serve r) (sym stands.holds.is) ∙ is

      past : n ≤ r → ⊥
      past high =
          let none : get_or stands.serve.replies r None ≡ None = get_or_past stands.serve.replies r None (omega (arith, high, reply_count_is stands.holds)) in
          let clash : None ≡ Some told = sym none ∙ recorded in cc

      by_test : (b : Bool) → ltb r n ≡ b → r < n
      by_test true low = grind (arith, nat_tests)
      by_test false high = absurd (past (grind (arith, nat_tests)))

-- a serve, and each of its requests by itself
module _ (inputs : Inputs) (workers : ℕ) (can : CanOpen inputs) (serve : inputs.settings.job ≡ jobs.Serve workers) where
  some : 1 ≤ workers
  some = some_worker inputs.settings.job workers can.settings.job serve

  first_serve : Serve
  first_serve = record { workers = workers; budget = inputs.settings.budget; next = 0; replies = replicate (length inputs.requests) None }

  -- a serve has no vault
  no_vault : (vault : Option Vault) → IfSome vault (CanKeep inputs.image inputs.settings.job) → vault ≡ None
  no_vault None keeps = refl
  no_vault (Some v) keeps = let run : jobs.Serve workers ≡ jobs.Run = sym serve ∙ keeps.run in cc

  starts_as : (start inputs).environment.world ≡ world_for inputs.image inputs.settings.frames (jobs.Serve workers)
  unfolding start
  starts_as =
      ap (with_its_vault (world_for inputs.image inputs.settings.frames inputs.settings.job)) (no_vault inputs.vault can.vault)
      ∙ ap (world_for inputs.image inputs.settings.frames) serve

  holds_start : Holds inputs.image workers inputs.settings.budget (length inputs.requests) (start inputs) first_serve
  unfolding start first_serve
  holds_start =
      holds_first inputs workers (length inputs.requests) (start inputs) first_serve (ready_start inputs can) refl some
      (ap (λ (job : Job). serve_at job inputs.settings.budget (length inputs.requests)) serve) refl refl
      (ap (threads_at inputs.image inputs.settings.budget) serve) starts_as

  pub stands_start : Stands inputs.image inputs.settings.budget workers (length inputs.requests) (λ m s. Unit {0}) (start inputs)
  stands_start = record { serve = first_serve; holds = holds_start; fact = tt }

  pub none_recorded : (r : ℕ) → reply_of (start inputs) r ≡ None
  unfolding reply_of first_serve
  none_recorded r = ap (λ (serve : Option Serve). in_serve serve r) holds_start.is ∙ none_at (length inputs.requests) r

  module _ (frames r : ℕ) (low : r < length inputs.requests) where
    abbrev bytes : List ℕ
    bytes = bytes_in inputs.requests r

    abbrev by_itself : Machine
    by_itself = start_alone inputs.image frames inputs.settings.budget r bytes

    abbrev alone_serve : Serve
    alone_serve = record { workers = 1; budget = inputs.settings.budget; next = r; replies = replicate (length (replicate r [] ++ bytes ∷ [])) None }

    many_alone : length (replicate r [] ++ bytes ∷ []) ≡ r + 1
    many_alone = length_alone r bytes

    few_alone : length (replicate r [] ++ bytes ∷ []) ≤ MOST_REQUESTS
    few_alone = by_job inputs.settings.job serve can.requests
      where
        by_job : (job : Job) → job ≡ jobs.Serve workers → MayHave job inputs.requests → length (replicate r [] ++ bytes ∷ []) ≤ MOST_REQUESTS
        by_job jobs.Run is may = cc
        by_job (jobs.Serve count) is may = omega (arith, many_alone, low, may.few)

    module _ (enough : ample inputs.image inputs.settings.budget ≤ frames) where
      fits_alone : length inputs.image.pages ≤ frames
      fits_alone = omega (arith, enough, can.image.page_count, least_ample inputs.image.form inputs.settings.budget)

      holds_alone : Holds inputs.image 1 inputs.settings.budget (r + 1) by_itself alone_serve
      unfolding start start_alone
      holds_alone =
          holds_first (inputs_alone inputs.image frames inputs.settings.budget r bytes) 1 (r + 1) by_itself alone_serve
          (ready_serve (inputs_alone inputs.image frames inputs.settings.budget r bytes) can.image fits_alone can.settings.budget 1 refl (omega arith, omega arith) few_alone r (omega (arith, many_alone)))
          many_alone (omega arith) refl refl refl refl refl

    none_told : get_or alone_serve.replies r None ≡ None
    none_told = none_at (length (replicate r [] ++ bytes ∷ [])) r

    waits_alone : (x : Thread) × (slice_get by_itself.threads 0 ≡ Some x) × (x.status ≡ Idle)
    unfolding start start_alone
    waits_alone = some_first (first_entry inputs.image) 1 (omega arith)

    size_alone : by_itself.environment.world.size ≡ world_size inputs.image.form frames
    unfolding start start_alone world_of
    size_alone = refl

    names_alone : names_of by_itself.environment.world ≤ 1
    unfolding start start_alone world_of
    names_alone = one_home inputs.image

    seen_at_start : (v : ℕ) → view (r + 1) v (start inputs).environment.world ≡ view (r + 1) 0 by_itself.environment.world
    unfolding start start_alone
    seen_at_start v =
        ap (view (r + 1) v) starts_as ∙ start_alike inputs.image inputs.settings.frames frames workers 1 r v

    channels_at_start : channel_view r (start inputs).environment.channels ≡ channel_view r by_itself.environment.channels
    unfolding start start_alone channel_view none_yet
    channels_at_start i = record {
      files = inputs.image.files;
      request = asked i;
      reply = replied i;
    }
      where
        asked : slice_get inputs.requests r ≡ slice_get (replicate r [] ++ bytes ∷ []) r
        asked = slice_get-get_or inputs.requests r [] low ∙ sym (last_of r bytes)

        replied : slice_get (replicate (length inputs.requests) none_yet) r ≡ slice_get (replicate (length (replicate r [] ++ bytes ∷ [])) none_yet) r
        replied = empty_reply (length inputs.requests) r low ∙ sym (empty_reply (length (replicate r [] ++ bytes ∷ [])) r (omega (arith, many_alone)))

    none_yet_told : get_or first_serve.replies r None ≡ None
    unfolding first_serve
    none_yet_told = none_at (length inputs.requests) r

  -- what is recorded of a request is what was written to its reply
  written : (r : ℕ) (steps : List ℕ) (told : Finished) → reply_of (run (start inputs) steps) r ≡ Some told →
      (told.request ≡ r) × (bytes_in (run (start inputs) steps).environment.channels.replies r ≡ told.bytes)
  unfolding first_serve
  written r steps told is =
      told_written inputs.image workers inputs.settings.budget (length inputs.requests) r (run (start inputs) steps) told
      (recorded_run inputs.image workers inputs.settings.budget (length inputs.requests) r (start inputs) steps
      (record { serve = first_serve; holds = holds_start; fact = inl (none_at (length inputs.requests) r) }))
      is

  pub stands_at : (steps : List ℕ) → Stands inputs.image inputs.settings.budget workers (length inputs.requests) (λ m s. Unit {0}) (run (start inputs) steps)
  stands_at steps = stands_run inputs.image workers inputs.settings.budget (length inputs.requests) (start inputs) steps stands_start

  -- no worker serves a request at the start
  start_rests : AllRest (start inputs)
  unfolding start
  start_rests t x found runs =
      let at : slice_get (first_workers (first_entry inputs.image) workers) t ≡ Some x = ap (λ (job : Job). slice_get (threads_at inputs.image inputs.settings.budget job) t) (sym serve) ∙ found in
      let clash : Idle ≡ Running = ap (λ (y : Thread). y.status) (sym (waits_at (first_entry inputs.image) workers t x at)) ∙ runs in cc

  silent_start : IsSilentNow (start inputs) first_serve
  unfolding start
  silent_start = refl

  -- what is beside the requests that are served
  pub keeps_homes : (steps : List ℕ) → KeepsHomes inputs (run (start inputs) steps)
  keeps_homes steps =
      let m = run (start inputs) steps in
      let now = stands_at steps in
      let silent = silent_run inputs.image workers inputs.settings.budget (length inputs.requests) (start inputs) steps (record { serve = first_serve; holds = holds_start; fact = silent_start }) in
      record {
        homes = homes_same inputs.image workers inputs.settings.budget (length inputs.requests) m now.serve now.holds (start inputs) first_serve holds_start;
        contexts = other_served inputs.image workers inputs.settings.budget (length inputs.requests) m now.serve now.holds;
        groups = group_served inputs.image workers inputs.settings.budget (length inputs.requests) m now.serve now.holds;
        console = silent.fact;
      }

  pub restored : (steps : List ℕ) → AllRest (run (start inputs) steps) → IsRestored inputs (run (start inputs) steps)
  restored steps rest =
      let m = run (start inputs) steps in
      let now = stands_at steps in
      record {
        contexts = contexts_same inputs.image workers inputs.settings.budget (length inputs.requests) m now.serve now.holds (start inputs) first_serve holds_start rest start_rests;
        groups = rest_groups inputs.image workers inputs.settings.budget (length inputs.requests) m now.serve now.holds rest;
        frames = rest_frames inputs.image workers inputs.settings.budget (length inputs.requests) m now.serve now.holds rest can.image;
      }

  -- each job has what is its own
  pub kept_apart : (steps : List ℕ) → KeepsJobs (home_for inputs.image) (run (start inputs) steps).environment.world
  kept_apart steps =
      (stands_run inputs.image workers inputs.settings.budget (length inputs.requests) (start inputs) steps stands_start).holds.jobs

  -- nothing of a finished request lives
  pub gone : (r : ℕ) (steps : List ℕ) (told : Finished) (c : Name) → reply_of (run (start inputs) steps) r ≡ Some told → is_live (run (start inputs) steps).environment.world c ≡ true → c.job ≢ r + 1
  unfolding first_serve
  gone r steps told c is live same =
      let m = run (start inputs) steps in
      let stands =
      recorded_run inputs.image workers inputs.settings.budget (length inputs.requests) r (start inputs) steps
      (record { serve = first_serve; holds = holds_start; fact = inl (none_at (length inputs.requests) r) }) in
      elim (of_live inputs.image workers inputs.settings.budget (length inputs.requests) m stands.serve stands.holds c live) [
        | inl home ↦ let nobody : c.job ≡ 0 = ap (λ (d : Name). d.job) home.2 in omega (arith, nobody, same)
        | inr served ↦
            told_nobody inputs.image workers inputs.settings.budget (length inputs.requests) r m told stands is served.number served.thread served.found served.running (served.job_is ∙ same)
      ]

  -- a request by itself with one number of frames and with another, both ample
  module _ (f g r : ℕ) (low : r < length inputs.requests) (enough_f : ample inputs.image inputs.settings.budget ≤ f) (enough_g : ample inputs.image inputs.settings.budget ≤ g) where
    abbrev StageFor : Machine → Serve → Type 0
    StageFor m s =
        Stage inputs.image inputs.settings.budget r (by_itself g r low) (alone_serve g r low) (holds_alone g r low enough_g) refl (none_told g r low) (waits_alone g r low)
        can.settings.budget.0 g (size_alone g r low) (names_alone g r low) m s

    record Pair (j : ℕ) (m : Machine) (s : Serve) : Type 0 where
      stage : StageFor m s
      size : m.environment.world.size ≡ world_size inputs.image.form f
      names : names_of m.environment.world ≤ 2 * j + 1

    pair_start : Pair 0 (by_itself f r low) (alone_serve f r low)
    unfolding start start_alone
    pair_start = record {
      stage = Waits (omega arith) (λ v. start_alike inputs.image f g 1 1 r v) refl (none_told f r low);
      size = size_alone f r low;
      names = names_alone f r low;
    }

    pair_made : (j : ℕ) (m : Machine) (s : Serve) → j ≤ inputs.settings.budget → (holds : Holds inputs.image 1 inputs.settings.budget (r + 1) m s) → Pair j m s → (made : Made m s 0) → Pair (suc j) (after_outcome m 0 (Some made.after)) made.now
    pair_made j m s few holds pair made =
        let leaves = leaves_by inputs.image inputs.settings.budget 1 (r + 1) m s holds 0 made.thread made.found made.acted made.after made.now made.how in
        let adds = few_after inputs.image 1 inputs.settings.budget (r + 1) m s holds 0 made.thread made.found made.acted made.after made.now leaves in
        record {
          stage = stage_made inputs.image inputs.settings.budget r (by_itself g r low) (alone_serve g r low) (holds_alone g r low enough_g) refl (none_told g r low) (waits_alone g r low)
              can.settings.budget.0 g (size_alone g r low) (names_alone g r low) 1 (r + 1) m s holds 0
              (λ x found running job k served.
              let left = served.left in
              let some = served.some in
              record {
                here = never_wants inputs.image m.environment (with_regs x (advanced m.text x.regs).after) 0 (advanced m.text x.regs).next j f holds.jobs pair.size pair.names (omega (arith, ample-rises inputs.image.form j inputs.settings.budget few, enough_f));
                alone = never_wants inputs.image (by_one (by_itself g r low) k).environment (with_regs x (advanced m.text x.regs).after) 0 (advanced m.text x.regs).next k g served.like.second served.alone.fact.size served.alone.fact.names
                    (omega (arith, ample-rises inputs.image.form k inputs.settings.budget (omega (arith, left, some)), enough_g));
              })
              made pair.stage;
          size = adds.size ∙ pair.size;
          names = let more = adds.names in let names = pair.names in omega (arith, more, names);
        }

    pair_at : (j : ℕ) → j ≤ inputs.settings.budget + 1 → Stands inputs.image inputs.settings.budget 1 (r + 1) (Pair j) (by_one (by_itself f r low) j)
    pair_at zero few = record { serve = alone_serve f r low; holds = holds_alone f r low enough_f; fact = pair_start }
    pair_at (suc j) few =
        let before = pair_at j (omega (arith, few)) in
        stands_step inputs.image inputs.settings.budget 1 (r + 1) (Pair j) (Pair (suc j)) (by_one (by_itself f r low) j) 0 before
        (λ pair. record { stage = pair.stage; size = pair.size; names = let names = pair.names in omega (arith, names) })
        (λ made. pair_made j (by_one (by_itself f r low) j) before.serve (omega (arith, few)) before.holds before.fact made)

    told_too : (told : Finished) → alone_in f inputs.image inputs.settings.budget r (bytes_in inputs.requests r) ≡ Some told → alone_in g inputs.image inputs.settings.budget r (bytes_in inputs.requests r) ≡ Some told
    told_too told is =
        let there = pair_at (inputs.settings.budget + 1) (omega arith) in
        ap (λ (a : Machine). reply_of a r) (run_by_one (by_itself g r low) (inputs.settings.budget + 1))
        ∙ told_alone inputs.image inputs.settings.budget r (by_itself g r low) (alone_serve g r low) (holds_alone g r low enough_g) refl (none_told g r low) (waits_alone g r low)
        can.settings.budget.0 g (size_alone g r low) (names_alone g r low) 1 (r + 1) (by_one (by_itself f r low) (inputs.settings.budget + 1)) told
        (record { serve = there.serve; holds = there.holds; fact = there.fact.stage })
        (ap (λ (a : Machine). reply_of a r) (sym (run_by_one (by_itself f r low) (inputs.settings.budget + 1))) ∙ is)

  -- with ample frames no step of a request by itself finds too few
  pub never_short : (frames r j : ℕ) (low : r < length inputs.requests) → ample inputs.image inputs.settings.budget ≤ frames → j ≤ inputs.settings.budget →
      IsShort (run (by_itself frames r low) (replicate j 0)) 0 → ⊥
  never_short frames r j low enough few short =
      let m : Machine = by_one (by_itself frames r low) j in
      let there = pair_at frames frames r low enough enough j (omega (arith, few)) in
      let wants : IsShort m 0 = subst (λ (a : Machine). IsShort a 0) (run_by_one (by_itself frames r low) j) short in
      let rest = advanced m.text wants.thread.regs in
      never_wants inputs.image m.environment (with_regs wants.thread rest.after) 0 rest.next j frames there.holds.jobs there.fact.size there.fact.names
      (omega (arith, ample-rises inputs.image.form j inputs.settings.budget few, enough)) wants.wants

  one_option : (a b : Option Finished) → ((x : Finished) → a ≡ Some x → b ≡ Some x) → ((x : Finished) → b ≡ Some x → a ≡ Some x) → a ≡ b
  one_option None None there back = refl
  one_option None (Some x) there back = back x refl
  one_option (Some x) b there back = sym (there x refl)

  -- each ample number of frames gives the same
  pub ample_same : (frames r : ℕ) → r < length inputs.requests → ample inputs.image inputs.settings.budget ≤ frames →
      alone_in frames inputs.image inputs.settings.budget r (bytes_in inputs.requests r) ≡ alone inputs.image inputs.settings.budget r (bytes_in inputs.requests r)
  ample_same frames r low enough =
      one_option _ _ (told_too frames (ample inputs.image inputs.settings.budget) r low enough (omega arith)) (told_too (ample inputs.image inputs.settings.budget) frames r low (omega arith) enough)

  -- each request beside what it is by itself
  abbrev frames_alone : ℕ
  frames_alone = ample inputs.image inputs.settings.budget

  enough_alone : ample inputs.image inputs.settings.budget ≤ frames_alone
  enough_alone = omega arith

  abbrev pub most : ℕ
  most = greatest_extra inputs.image inputs.settings.budget 0 inputs.requests

  abbrev StageOf : (r : ℕ) → r < length inputs.requests → Machine → Serve → Type 0
  StageOf r low m s =
      Stage inputs.image inputs.settings.budget r (by_itself frames_alone r low) (alone_serve frames_alone r low) (holds_alone frames_alone r low enough_alone) refl (none_told frames_alone r low) (waits_alone frames_alone r low)
      can.settings.budget.0 frames_alone (size_alone frames_alone r low) (names_alone frames_alone r low) m s

  -- the stages of all requests, in a world with the frames of the settings
  record AllStages (m : Machine) (s : Serve) : Type 0 where
    size : m.environment.world.size.frames ≡ inputs.settings.frames
    stages : (r : ℕ) (low : r < length inputs.requests) → StageOf r low m s

  greatest : (image : Image) (budget a : ℕ) (requests : List (List ℕ)) (r : ℕ) → r < length requests → extra image budget (a + r) (bytes_in requests r) ≤ greatest_extra image budget a requests
  greatest image budget a [] r low = absurd (omega (arith, low))
  greatest image budget a (bytes ∷ rest) zero low =
      let same : a + 0 ≡ a = omega arith in
      subst (λ (k : ℕ). extra image budget k bytes ≤ max (extra image budget a bytes) (greatest_extra image budget (a + 1) rest)) (sym same) (max_first (extra image budget a bytes) (greatest_extra image budget (a + 1) rest))
  greatest image budget a (bytes ∷ rest) (suc r) low =
      let later = greatest image budget (a + 1) rest r (omega (arith, low)) in
      let same : a + 1 + r ≡ a + suc r = omega arith in
      let most = max_second (extra image budget a bytes) (greatest_extra image budget (a + 1) rest) in
      subst (λ (k : ℕ). extra image budget k (bytes_in rest r) ≤ max (extra image budget a bytes) (greatest_extra image budget (a + 1) rest)) same (omega (arith, later, most))

  -- what a request by itself uses
  used_alone : (r : ℕ) (low : r < length inputs.requests) → most_used (by_itself frames_alone r low) (steps_alone inputs.settings.budget) ≤ length inputs.image.pages + most
  unfolding extra
  used_alone r low =
      let least = greatest inputs.image inputs.settings.budget 0 inputs.requests r low in
      let same : 0 + r ≡ r = omega arith in
      let one = ap (λ (k : ℕ). extra inputs.image inputs.settings.budget k (bytes_in inputs.requests r)) same in
      omega (arith, least, one)

  acted_running : (a : Machine) (sa : Serve) (x : Thread) → a.serve ≡ Some sa → slice_get a.threads 0 ≡ Some x → x.status ≡ Running → acted_world a 0 ≡ (acted_by a 0 x).environment.world
  acted_running a sa x serve found running = by_end (has_ended (acted_by a 0 x).thread.status) refl
    where
      by_end : (b : Bool) → has_ended (acted_by a 0 x).thread.status ≡ b → acted_world a 0 ≡ (acted_by a 0 x).environment.world
      by_end true ended = acted_is a sa 0 x _ serve found (how_made a sa 0 x _ _ _ (Finishes running ended))
      by_end false going = acted_is a sa 0 x _ serve found (how_made a sa 0 x _ _ _ (Goes running going))

  module _ (m : Machine) (s : Serve) (holds : Holds inputs.image workers inputs.settings.budget (length inputs.requests) m s) (all : AllStages m s) where
    -- what the other requests have
    others : (j : ℕ) → IsServedBy m.threads j → used_by j m.environment.world ≤ most
    others zero served = let some = served.some in absurd (omega (arith, some))
    others (suc q) served = by_stage (all.stages q low)
      where
        begun : suc q ≤ s.next
        begun = let own = (serving_now holds served.number served.thread served.found served.running).2 in let job = served.job_is in omega (arith, own, job)

        low : q < length inputs.requests
        low = let few = begun_few holds in let own = begun in omega (arith, few, own)

        job_is : served.thread.job ≡ q + 1
        job_is = let job = served.job_is in omega (arith, job)

        by_stage : StageOf q low m s → used_by (suc q) m.environment.world ≤ most
        by_stage (Waits waits views channels none) = let own = begun in absurd (omega (arith, own, waits))
        by_stage (Told is) = absurd (is.nobody served.number served.thread served.found served.running job_is)
        by_stage (Served k now none by) =
            let some_job : q + 1 ≢ 0 = λ e. omega (arith, e) in
            let bound = alike_bound inputs.image (q + 1) by.number 0 m.environment.world (by_one (by_itself frames_alone q low) k).environment.world can.image some_job holds.jobs by.like.second by.like.seen in
            let most_alone = before_most (by_itself frames_alone q low) (inputs.settings.budget + 1) k (let left = by.left in let some = by.some in omega (arith, left, some)) in
            let few = used_alone q low in
            let same : q + 1 ≡ suc q = omega arith in
            subst (λ (j : ℕ). used_by j m.environment.world ≤ most) same (omega (arith, bound, most_alone, few))

  -- where none of its own steps finds too few frames, a request goes on as by itself
  enough_spared : (m : Machine) (s : Serve) → Holds inputs.image workers inputs.settings.budget (length inputs.requests) m s → (r : ℕ) (low : r < length inputs.requests) (t : ℕ) (x : Thread) → slice_get m.threads t ≡ Some x → x.status ≡ Running → (IsShort m t → ⊥) → (k : ℕ) →
      (served : IsServed inputs.image inputs.settings.budget r (by_itself frames_alone r low) (alone_serve frames_alone r low) (holds_alone frames_alone r low enough_alone) refl (none_told frames_alone r low) (waits_alone frames_alone r low)
      can.settings.budget.0 frames_alone (size_alone frames_alone r low) (names_alone frames_alone r low) m k) →
      IsEnough inputs.image inputs.settings.budget r (by_itself frames_alone r low) (alone_serve frames_alone r low) (holds_alone frames_alone r low enough_alone) refl (none_told frames_alone r low) (waits_alone frames_alone r low)
      can.settings.budget.0 frames_alone (size_alone frames_alone r low) (names_alone frames_alone r low) m x k
  enough_spared m s holds r low t x found running spared k served =
      let left = served.left in
      let some = served.some in
      record {
        here = λ wants. spared (record { thread = x; found = found; runs = running; wants = wants });
        alone = never_wants inputs.image (by_one (by_itself frames_alone r low) k).environment (with_regs x (advanced m.text x.regs).after) 0 (advanced m.text x.regs).next k frames_alone served.like.second
            served.alone.fact.size served.alone.fact.names (ample-rises inputs.image.form k inputs.settings.budget (omega (arith, left, some)));
      }

  stage_after : (r : ℕ) (low : r < length inputs.requests) (m : Machine) (s : Serve) (holds : Holds inputs.image workers inputs.settings.budget (length inputs.requests) m s) (t : ℕ) → StageOf r low m s →
      ((x : Thread) → slice_get m.threads t ≡ Some x → x.job ≡ r + 1 → IsShort m t → ⊥) → (made : Made m s t) → StageOf r low (after_outcome m t (Some made.after)) made.now
  stage_after r low m s holds t stage spared made =
      stage_made inputs.image inputs.settings.budget r (by_itself frames_alone r low) (alone_serve frames_alone r low) (holds_alone frames_alone r low enough_alone) refl (none_told frames_alone r low) (waits_alone frames_alone r low)
      can.settings.budget.0 frames_alone (size_alone frames_alone r low) (names_alone frames_alone r low) workers (length inputs.requests) m s holds t
      (λ x found running job k served. enough_spared m s holds r low t x found running (spared x found job) k served) made stage

  stage_run : (r : ℕ) (low : r < length inputs.requests) (m : Machine) (steps : List ℕ) → IsSpared r m steps → Stands inputs.image inputs.settings.budget workers (length inputs.requests) (StageOf r low) m →
      Stands inputs.image inputs.settings.budget workers (length inputs.requests) (StageOf r low) (run m steps)
  stage_run r low m [] spared stands = stands
  stage_run r low m (t ∷ ts) spared stands =
      stage_run r low (step m t) ts spared.1
      (stands_step inputs.image inputs.settings.budget workers (length inputs.requests) (StageOf r low) (StageOf r low) m t stands (λ fact. fact)
      (λ made. stage_after r low m stands.serve stands.holds t stands.fact spared.0 made))

  stage_start : (r : ℕ) (low : r < length inputs.requests) → StageOf r low (start inputs) first_serve
  unfolding first_serve
  stage_start r low = Waits (omega arith) (seen_at_start frames_alone r low) (channels_at_start frames_alone r low) (none_yet_told frames_alone r low)

  -- a reply is that of its request by itself, whatever the other requests find
  reply_spared : (r : ℕ) (steps : List ℕ) (told : Finished) → IsSpared r (start inputs) steps → reply_of (run (start inputs) steps) r ≡ Some told →
      alone inputs.image inputs.settings.budget r (bytes_in inputs.requests r) ≡ Some told
  reply_spared r steps told spared is =
      let base = stands_run inputs.image workers inputs.settings.budget (length inputs.requests) (start inputs) steps stands_start in
      let low = recorded_below inputs.image workers inputs.settings.budget (length inputs.requests) (run (start inputs) steps) r told base is in
      let there = stage_run r low (start inputs) steps spared (record { serve = first_serve; holds = holds_start; fact = stage_start r low }) in
      ap (λ (a : Machine). reply_of a r) (run_by_one (by_itself frames_alone r low) (inputs.settings.budget + 1))
      ∙ told_alone inputs.image inputs.settings.budget r (by_itself frames_alone r low) (alone_serve frames_alone r low) (holds_alone frames_alone r low enough_alone) refl (none_told frames_alone r low) (waits_alone frames_alone r low)
      can.settings.budget.0 frames_alone (size_alone frames_alone r low) (names_alone frames_alone r low) workers (length inputs.requests) (run (start inputs) steps) told there is

  -- the frames of the settings stay
  abbrev HasSize : Machine → Serve → Type 0
  HasSize m s = m.environment.world.size.frames ≡ inputs.settings.frames

  size_after : (m : Machine) (s : Serve) → Holds inputs.image workers inputs.settings.budget (length inputs.requests) m s → (t : ℕ) → HasSize m s → (made : Made m s t) → HasSize (after_outcome m t (Some made.after)) made.now
  size_after m s holds t size made =
      let leaves = leaves_by inputs.image inputs.settings.budget workers (length inputs.requests) m s holds t made.thread made.found made.acted made.after made.now made.how in
      ap (λ (z : WorldSize). z.frames) (few_after inputs.image workers inputs.settings.budget (length inputs.requests) m s holds t made.thread made.found made.acted made.after made.now leaves).size ∙ size

  sized_start : Stands inputs.image inputs.settings.budget workers (length inputs.requests) HasSize (start inputs)
  unfolding world_of
  sized_start = record { serve = first_serve; holds = holds_start; fact = ap (λ (w : World). w.size.frames) starts_as }

  sized_step : (m : Machine) (t : ℕ) → Stands inputs.image inputs.settings.budget workers (length inputs.requests) HasSize m → Stands inputs.image inputs.settings.budget workers (length inputs.requests) HasSize (step m t)
  sized_step m t stands = stands_step inputs.image inputs.settings.budget workers (length inputs.requests) HasSize HasSize m t stands (λ fact. fact) (λ made. size_after m stands.serve stands.holds t stands.fact made)

  sized_run : (m : Machine) (steps : List ℕ) → Stands inputs.image inputs.settings.budget workers (length inputs.requests) HasSize m → Stands inputs.image inputs.settings.budget workers (length inputs.requests) HasSize (run m steps)
  sized_run m [] stands = stands
  sized_run m (t ∷ ts) stands = sized_run (step m t) ts (sized_step m t stands)

  -- with two frames left no store finds too few
  not_short : (m : Machine) (t : ℕ) → Stands inputs.image inputs.settings.budget workers (length inputs.requests) HasSize m → frames_of m + 2 ≤ inputs.settings.frames → IsShort m t → ⊥
  not_short m t stands spare short =
      let rest = advanced m.text short.thread.regs in
      let act = full_act (home_for inputs.image) m.environment (with_regs short.thread rest.after) t stands.holds.jobs rest.next short.wants in
      let few = few_parting m.environment.world act.name act.piece act.short in
      let full = act.full in
      let size = stands.fact in
      omega (arith, full, few, spare, size)

  spared_by : (r : ℕ) (m : Machine) (steps : List ℕ) → Stands inputs.image inputs.settings.budget workers (length inputs.requests) HasSize m → peak m steps + 2 ≤ inputs.settings.frames → IsSpared r m steps
  spared_by r m [] stands spare = tt
  spared_by r m (t ∷ ts) stands spare =
      let here = max_first (frames_of m) (peak (step m t) ts) in
      let later = max_second (frames_of m) (peak (step m t) ts) in
      (λ x found job short. not_short m t stands (omega (arith, here, spare)) short, spared_by r (step m t) ts (sized_step m t stands) (omega (arith, later, spare)))

  peak_there : (m : Machine) (before rest : List ℕ) → frames_of (run m before) ≤ peak m (before ++ rest)
  peak_there m [] [] = omega arith
  peak_there m [] (t ∷ ts) = max_first (frames_of m) (peak (step m t) ts)
  peak_there m (t ∷ ts) rest =
      let later = peak_there (step m t) ts rest in
      let more = max_second (frames_of m) (peak (step m t) (ts ++ rest)) in omega (arith, later, more)

  pub had_spared : (r : ℕ) (steps : List ℕ) → HadFrames inputs steps → IsSpared r (start inputs) steps
  had_spared r steps had = spared_by r (start inputs) steps sized_start had

  pub had_never_short : (before rest : List ℕ) (t : ℕ) → HadFrames inputs (before ++ rest) → IsShort (run (start inputs) before) t → ⊥
  had_never_short before rest t had short =
      let there = peak_there (start inputs) before rest in
      not_short (run (start inputs) before) t (sized_run (start inputs) before sized_start) (omega (arith, there, had)) short

  all_start : Stands inputs.image inputs.settings.budget workers (length inputs.requests) AllStages (start inputs)
  unfolding start world_of first_serve
  all_start = record {
    serve = first_serve;
    holds = holds_start;
    fact = record {
      size = ap (λ (w : World). w.size.frames) starts_as;
      stages = λ r low. Waits (omega arith) (seen_at_start frames_alone r low) (channels_at_start frames_alone r low) (none_yet_told frames_alone r low);
    };
  }

  -- what is in use while each request is as by itself
  all_fits : (m : Machine) → Stands inputs.image inputs.settings.budget workers (length inputs.requests) AllStages m → frames_of m ≤ length inputs.image.pages + workers * most
  all_fits m stands =
      fits inputs.image workers inputs.settings.budget (length inputs.requests) m stands.serve stands.holds most (others m stands.serve stands.holds stands.fact)

  -- with the frames that the requests by themselves take
  module _ (enough : HasFrames inputs) where
    frames_are : length inputs.image.pages + workers * most ≤ inputs.settings.frames
    frames_are = subst (HasFramesFor inputs) serve enough

    module _ (m : Machine) (s : Serve) (holds : Holds inputs.image workers inputs.settings.budget (length inputs.requests) m s) (all : AllStages m s) where
      -- a worker that serves a request has frames, and so has the request by itself
      has_enough : (r : ℕ) (low : r < length inputs.requests) (t : ℕ) (x : Thread) → slice_get m.threads t ≡ Some x → x.status ≡ Running → x.job ≡ r + 1 → (k : ℕ) →
          (served : IsServed inputs.image inputs.settings.budget r (by_itself frames_alone r low) (alone_serve frames_alone r low) (holds_alone frames_alone r low enough_alone) refl (none_told frames_alone r low) (waits_alone frames_alone r low)
          can.settings.budget.0 frames_alone (size_alone frames_alone r low) (names_alone frames_alone r low) m k) →
          IsEnough inputs.image inputs.settings.budget r (by_itself frames_alone r low) (alone_serve frames_alone r low) (holds_alone frames_alone r low enough_alone) refl (none_told frames_alone r low) (waits_alone frames_alone r low)
          can.settings.budget.0 frames_alone (size_alone frames_alone r low) (names_alone frames_alone r low) m x k
      has_enough r low t x found running job k served =
          let a = by_one (by_itself frames_alone r low) k in
          let sa = served.alone.serve in
          let left = served.left in
          let some = served.some in
          let number_is : served.number ≡ t = holds.placed.once served.number t served.thread x served.found found served.running running (served.job ∙ sym job) in
          let thread_is : served.thread ≡ x = let both : Some served.thread ≡ Some x = sym served.found ∙ ap (slice_get m.threads) number_is ∙ found in cc in
          let found_a : slice_get a.threads 0 ≡ Some x = served.alone.fact.found ∙ ap Some thread_is in
          let text_is : a.text ≡ m.text = text_stays served.alone.holds ∙ sym (text_stays holds) in
          let like = subst (λ (u : ℕ). LooksAlike (home_for inputs.image) (r + 1) u 0 m.environment.world a.environment.world) number_is served.like in
          let acted = acted_most (by_itself frames_alone r low) (inputs.settings.budget + 1) k (omega (arith, left, some)) in
          let world = acted_running a sa x served.alone.holds.is found_a running in
          let few = used_alone r low in
          let bound : used (advance_outcome guest_calls 0 a.environment x (advanced m.text x.regs)).environment.world ≤ length inputs.image.pages + most =
          subst (λ (text : List Instr). used (advance_outcome guest_calls 0 a.environment x (advanced text x.regs)).environment.world ≤ length inputs.image.pages + most) text_is (omega (arith, acted, few, ap used world)) in
          let spared = never_wants inputs.image a.environment (with_regs x (advanced m.text x.regs).after) 0 (advanced m.text x.regs).next k frames_alone served.like.second served.alone.fact.size served.alone.fact.names
          (ample-rises inputs.image.form k inputs.settings.budget (omega (arith, left, some))) in
          record {
            here = not_here inputs.image can.image workers inputs.settings.budget (length inputs.requests) m s holds t x found running r job a sa served.alone.holds found_a like served.channels
                most inputs.settings.frames spared bound (λ j by apart. others m s holds all j by) all.size frames_are;
            alone = spared;
          }

    all_step : (m : Machine) (t : ℕ) → Stands inputs.image inputs.settings.budget workers (length inputs.requests) AllStages m →
        Stands inputs.image inputs.settings.budget workers (length inputs.requests) AllStages (step m t)
    all_step m t stands =
        stands_step inputs.image inputs.settings.budget workers (length inputs.requests) AllStages AllStages m t stands (λ fact. fact)
        (λ made.
        let leaves = leaves_by inputs.image inputs.settings.budget workers (length inputs.requests) m stands.serve stands.holds t made.thread made.found made.acted made.after made.now made.how in
        let few = few_after inputs.image workers inputs.settings.budget (length inputs.requests) m stands.serve stands.holds t made.thread made.found made.acted made.after made.now leaves in
        record {
          size = ap (λ (z : WorldSize). z.frames) few.size ∙ stands.fact.size;
          stages = λ r low.
              stage_made inputs.image inputs.settings.budget r (by_itself frames_alone r low) (alone_serve frames_alone r low) (holds_alone frames_alone r low enough_alone) refl (none_told frames_alone r low) (waits_alone frames_alone r low)
              can.settings.budget.0 frames_alone (size_alone frames_alone r low) (names_alone frames_alone r low) workers (length inputs.requests) m stands.serve stands.holds t
              (λ x found running job k served. has_enough m stands.serve stands.holds stands.fact r low t x found running job k served) made (stands.fact.stages r low);
        })

    all_run : (m : Machine) (steps : List ℕ) → Stands inputs.image inputs.settings.budget workers (length inputs.requests) AllStages m →
        Stands inputs.image inputs.settings.budget workers (length inputs.requests) AllStages (run m steps)
    all_run m [] stands = stands
    all_run m (t ∷ ts) stands = all_run (step m t) ts (all_step m t stands)

    all_there : (steps : List ℕ) → Stands inputs.image inputs.settings.budget workers (length inputs.requests) AllStages (run (start inputs) steps)
    all_there steps = all_run (start inputs) steps all_start

    has_bound_from : (m : Machine) (steps : List ℕ) → Stands inputs.image inputs.settings.budget workers (length inputs.requests) AllStages m → peak m steps ≤ length inputs.image.pages + workers * most
    has_bound_from m [] stands = all_fits m stands
    has_bound_from m (t ∷ ts) stands = max_least (frames_of m) (peak (step m t) ts) (length inputs.image.pages + workers * most) (all_fits m stands) (has_bound_from (step m t) ts (all_step m t stands))

    has_bound : (steps : List ℕ) → peak (start inputs) steps ≤ length inputs.image.pages + workers * most
    has_bound steps = has_bound_from (start inputs) steps all_start

    -- each reply is that of its request by itself
    apart : (r : ℕ) (steps : List ℕ) (told : Finished) → reply_of (run (start inputs) steps) r ≡ Some told → alone inputs.image inputs.settings.budget r (bytes_in inputs.requests r) ≡ Some told
    apart r steps told is =
        let there = all_there steps in
        let low = recorded_below inputs.image workers inputs.settings.budget (length inputs.requests) (run (start inputs) steps) r told (record { serve = there.serve; holds = there.holds; fact = tt }) is in
        ap (λ (a : Machine). reply_of a r) (run_by_one (by_itself frames_alone r low) (inputs.settings.budget + 1))
        ∙ told_alone inputs.image inputs.settings.budget r (by_itself frames_alone r low) (alone_serve frames_alone r low) (holds_alone frames_alone r low enough_alone) refl (none_told frames_alone r low) (waits_alone frames_alone r low)
        can.settings.budget.0 frames_alone (size_alone frames_alone r low) (names_alone frames_alone r low) workers (length inputs.requests) (run (start inputs) steps) told
        (record { serve = there.serve; holds = there.holds; fact = there.fact.stages r low }) is

    -- and no store finds too few frames
    pub never_full : (steps : List ℕ) (t : ℕ) → IsShort (run (start inputs) steps) t → ⊥
    never_full steps t short = by_job short.thread.job refl
      where
        there : Stands inputs.image inputs.settings.budget workers (length inputs.requests) AllStages (run (start inputs) steps)
        there = all_there steps

        own : (short.thread.context.job ≡ short.thread.job) × (1 ≤ short.thread.job) × (short.thread.job ≤ there.serve.next)
        own = serving_now there.holds t short.thread short.found short.runs

        by_job : (j : ℕ) → short.thread.job ≡ j → ⊥
        by_job zero is = let some = own.1 in omega (arith, some, is)
        by_job (suc r) is = by_stage (there.fact.stages r low)
          where
            job : short.thread.job ≡ r + 1
            job = omega (arith, is)

            low : r < length inputs.requests
            low = let few = begun_few there.holds in let begun = own.2 in omega (arith, few, begun, is)

            by_stage : StageOf r low (run (start inputs) steps) there.serve → ⊥
            by_stage (Waits waits views channels none) = let begun = own.2 in omega (arith, begun, waits, is)
            by_stage (Told told) = told.nobody t short.thread short.found short.runs job
            by_stage (Served k now none served) =
                (has_enough (run (start inputs) steps) there.serve there.holds there.fact r low t short.thread short.found short.runs job k served).here short.wants

  -- no more is in use at any moment, whatever the frames: where these are fewer, no step passes them
  pub peak_bound : (steps : List ℕ) → peak (start inputs) steps ≤ length inputs.image.pages + workers * most
  peak_bound steps = by_frames (leb (length inputs.image.pages + workers * most) inputs.settings.frames) refl
    where
      within : peak (start inputs) steps ≤ inputs.settings.frames
      within =
          let pages = pages_fit inputs can in
          let first = (restored [] start_rests).frames in
          peak_within inputs 0 (start inputs) steps (ready_machine inputs [] can) (omega (arith, pages, first))

      by_frames : (b : Bool) → leb (length inputs.image.pages + workers * most) inputs.settings.frames ≡ b → peak (start inputs) steps ≤ length inputs.image.pages + workers * most
      by_frames true enough = has_bound (subst (HasFramesFor inputs) (sym serve) (grind (arith, nat_tests))) steps
      by_frames false few = (let low = within in grind (arith, nat_tests))

-- a run that is no serve has no replies
none_after : (m : Machine) (t : ℕ) (x : Thread) (st : ThreadStatus) (made : Option AfterStep) → m.serve ≡ None → thread_outcome guest_calls t m.environment None m.text x st ≡ made → (after_outcome m t made).serve ≡ None
none_after m t x st None none is = none
none_after m t x Running (Some after) none is =
    let one : only None (advance_outcome guest_calls t m.environment x (advanced m.text x.regs)) ≡ after = cc in ap (λ (a : AfterStep). a.serve) (sym one)
none_after m t x Idle (Some after) none is =
    let one : only None (unchanged m.environment (with_status x (Done 0))) ≡ after = cc in ap (λ (a : AfterStep). a.serve) (sym one)
none_after m t x (Done code) (Some after) none is = cc
none_after m t x (Faulted f) (Some after) none is = cc

none_found : (m : Machine) (t : ℕ) (found : Option Thread) → m.serve ≡ None → (after_thread guest_calls m t found).serve ≡ None
none_found m t None none = none
none_found m t (Some x) none = none_after m t x x.status _ none (ap (λ (o : Option Serve). thread_outcome guest_calls t m.environment o m.text x x.status) (sym none))

none_run : (m : Machine) (steps : List ℕ) → m.serve ≡ None → (run m steps).serve ≡ None
unfolding step_by
none_run m [] none = none
none_run m (t ∷ ts) none = none_run (step m t) ts (none_found m t (slice_get m.threads t) none)

no_reply_in_run : (inputs : Inputs) (steps : List ℕ) (r : ℕ) (told : Finished) → inputs.settings.job ≡ jobs.Run → reply_of (run (start inputs) steps) r ≡ Some told → ⊥
unfolding reply_of start
no_reply_in_run inputs steps r told runs is =
    let none = none_run (start inputs) steps (ap (λ (job : Job). serve_at job inputs.settings.budget (length inputs.requests)) runs) in
    let clash : None ≡ Some told = ap (λ (serve : Option Serve). in_serve serve r) (sym none) ∙ is in cc

-- what is recorded, in whatever job
module _ (inputs : Inputs) (can : CanOpen inputs) (steps : List ℕ) (r : ℕ) (told : Finished) (is : reply_of (run (start inputs) steps) r ≡ Some told) where
  pub recorded_written : (told.request ≡ r) × (bytes_in (run (start inputs) steps).environment.channels.replies r ≡ told.bytes)
  recorded_written = by_job inputs.settings.job refl
    where
      by_job : (job : Job) → inputs.settings.job ≡ job → (told.request ≡ r) × (bytes_in (run (start inputs) steps).environment.channels.replies r ≡ told.bytes)
      by_job jobs.Run runs = absurd (no_reply_in_run inputs steps r told runs is)
      by_job (jobs.Serve workers) serve = written inputs workers can serve r steps told is

  pub recorded_alone : HasFrames inputs → alone inputs.image inputs.settings.budget r (bytes_in inputs.requests r) ≡ Some told
  recorded_alone enough = by_job inputs.settings.job refl
    where
      by_job : (job : Job) → inputs.settings.job ≡ job → alone inputs.image inputs.settings.budget r (bytes_in inputs.requests r) ≡ Some told
      by_job jobs.Run runs = absurd (no_reply_in_run inputs steps r told runs is)
      by_job (jobs.Serve workers) serve = apart inputs workers can serve enough r steps told is

  pub recorded_spared : IsSpared r (start inputs) steps → alone inputs.image inputs.settings.budget r (bytes_in inputs.requests r) ≡ Some told
  recorded_spared spared = by_job inputs.settings.job refl
    where
      by_job : (job : Job) → inputs.settings.job ≡ job → alone inputs.image inputs.settings.budget r (bytes_in inputs.requests r) ≡ Some told
      by_job jobs.Run runs = absurd (no_reply_in_run inputs steps r told runs is)
      by_job (jobs.Serve workers) serve = reply_spared inputs workers can serve r steps told spared is

  pub recorded_had : HadFrames inputs steps → alone inputs.image inputs.settings.budget r (bytes_in inputs.requests r) ≡ Some told
  recorded_had had = by_job inputs.settings.job refl
    where
      by_job : (job : Job) → inputs.settings.job ≡ job → alone inputs.image inputs.settings.budget r (bytes_in inputs.requests r) ≡ Some told
      by_job jobs.Run runs = absurd (no_reply_in_run inputs steps r told runs is)
      by_job (jobs.Serve workers) serve = reply_spared inputs workers can serve r steps told (had_spared inputs workers can serve r steps had) is
