-- What threads need of the world that they act in, and what each machine of a run keeps true of both.
use Rattle.std.specs.Prelude.{◌≡◌, ℕ, ◌+◌, ◌*◌, ◌≤◌, ◌<◌, false, true, List, [], ◌∷◌, length, map, All, IfSome}
use Rattle.std.specs.List.{Contains}
use Rattle.guest_image.specs.Limits.{IsImage}
use Rattle.guest_image.specs.declared.image.PageImage.{PageImage}
use Rattle.guest_image.specs.declared.image.TheConstants.{MOST_VAULT_PAGES}
use Rattle.kernel_core.specs.Machine.{Environment, Machine, Serve, home_of}
use Rattle.lwc_base.specs.Jobs.{NamesKeepToJobs}
use Rattle.kernel_core.specs.Start.{Inputs, first_name, home_context, thread_count, world_size}
use Rattle.kernel_core.specs.Step.{Outcome, roots}
use Rattle.kernel_core.specs.declared.thread.Thread.{Thread}
use Rattle.lwc_base.specs.Channels.{Channels, HasItsFiles}
use Rattle.lwc_base.specs.Holders.{IsGroup}
use Rattle.lwc_base.specs.Life.{HasItsContexts, IsReaped}
use Rattle.lwc_base.specs.Mapping.{map_pages}
use Rattle.lwc_base.specs.Ranges.{ranges_of}
use Rattle.lwc_base.specs.Store as stores
use Rattle.lwc_base.specs.Store.{Stored, store}
use Rattle.lwc_base.specs.Sound.{HasItsGroups, IsSound}
use Rattle.lwc_base.specs.Cells.{put_slot}
use Rattle.lwc_base.specs.Sharing.{clone_context, needs_group, ranges_after_clone}
use Rattle.lwc_base.specs.declared.descriptor.Descriptor.TheVariants.{Empty}
use Rattle.lwc_base.specs.World.{World, context, groups_of, is_live, live_of, next_context}
use Rattle.lwc_types.specs.declared.fault.ThreadStatus.{ThreadStatus}
use Rattle.lwc_types.specs.declared.counters.Counters.{Counters}
use Rattle.lwc_types.specs.declared.fault.ThreadStatus.TheVariants.{Idle, Running, Done, Faulted}
use Rattle.lwc_types.specs.declared.limits.TheConstants.{MOST_BUDGET, MOST_CONTEXTS_OF_JOB, MOST_GROUPS_OF_JOB}
use Rattle.lwc_types.specs.declared.limits.TheConstants.{MOST_PAGES, MOST_RANGES, MOST_REQUESTS, MOST_THREADS}
use Rattle.lwc_types.specs.declared.name.Name.{Name}
use Rattle.lwc_types.specs.declared.page.TheConstants.{PAGE_BYTES}
use Rattle.lwc_types.specs.declared.regs.Regs.{Regs}
use Rattle.lwc_create.specs.Create.{HasPlaces}
use Rattle.snapshot_host.specs.Begin.{IsNewJob}
use Rattle.world_face.specs.Calls.{AreFew, HasPlace, IsLive, MayName}

-- a thread may act in a world: the world is sound and has the contexts that its slots name, the thread's
-- context is live, and its job may name and place what it makes
pub record CanAct (w : World) (x : Thread) : Type 0 where
  pub sound : IsSound w
  pub named : HasItsContexts w
  pub live : IsLive w x.context
  pub may : MayName w x.job
  pub places : HasPlaces w x.job

-- a running thread has a job of the world's other than 0, and has steps left
pub record IsRunnable (w : World) (x : Thread) : Type 0 where
  pub some_job : 1 ≤ x.job
  pub known_job : x.job < w.size.jobs
  pub some_step : 1 ≤ x.budget

-- a fact of a thread while it runs
abbrev pub WhileRunning : ThreadStatus → Type 0 → Type 0
WhileRunning Running P = P
WhileRunning Idle P = Unit {0}
WhileRunning (Done code) P = Unit {0}
WhileRunning (Faulted fault) P = Unit {0}

-- a thread is in a live context, its budget is within the limit, and while it runs it is runnable
pub record IsReadyThread (w : World) (x : Thread) : Type 0 where
  pub live : IsLive w x.context
  pub budget : x.budget ≤ MOST_BUDGET
  pub runs : WhileRunning x.status (IsRunnable w x)

-- the homes of a serve can be copied for its next request, and each request has a place for its reply
pub record CanServe (w : World) (io : Channels) (s : Serve) : Type 0 where
  pub workers : s.workers ≤ MOST_THREADS
  pub homes : (t : ℕ) → t < s.workers → IsLive w (home_of t) × (ranges_of w (home_of t) ≤ MOST_RANGES)
  pub groups : HasItsGroups w
  pub place : HasPlace w
  pub known : length io.requests < w.size.jobs
  pub next : s.next ≤ length io.requests
  pub new_jobs : (r : ℕ) → s.next ≤ r → IsNewJob w (r + 1)
  pub replies : length s.replies ≡ length io.requests
  pub budget : s.budget ≤ MOST_BUDGET

-- the jobs of threads
abbrev pub jobs_of : List Thread → List ℕ
jobs_of threads = map (λ x. x.job) threads

-- live contexts bear job 0 or a thread's job, live groups a thread's job that is not 0, and no job has too
-- many
pub record IsWithinLimits (w : World) (jobs : List ℕ) : Type 0 where
  pub contexts : (c : Name) → is_live w c ≡ true → Contains (0 ∷ jobs) c.job
  pub groups : (g : Name) → IsGroup w g → Contains jobs g.job × (1 ≤ g.job)
  pub homes : live_of w 0 ≤ MOST_THREADS
  pub few_contexts : (job : ℕ) → live_of w job ≤ MOST_CONTEXTS_OF_JOB
  pub few_groups : (job : ℕ) → groups_of w job ≤ MOST_GROUPS_OF_JOB

-- a job has counted at most this number of each
pub record IsCounted (most : ℕ) (n : Counters) : Type 0 where
  pub contexts : n.contexts ≤ most
  pub groups : n.groups ≤ most
  pub tags : n.tags ≤ most

-- the most that a job has counted after this number of steps: what a start has, and two more a step
abbrev pub most_counted : ℕ → ℕ
most_counted steps = MOST_PAGES + MOST_VAULT_PAGES + 1 + MOST_THREADS + 2 * steps

-- the job of a worker: while it runs that of a request that has been begun, and else 0
abbrev pub HasItsJob : Serve → ThreadStatus → ℕ → Type 0
HasItsJob s Running job = (1 ≤ job) × (job ≤ s.next)
HasItsJob s Idle job = job ≡ 0
HasItsJob s (Done code) job = job ≡ 0
HasItsJob s (Faulted fault) job = job ≡ 0

-- a worker stands in a context of its job
pub record IsWorker (s : Serve) (x : Thread) : Type 0 where
  pub here : x.context.job ≡ x.job
  pub job : HasItsJob s x.status x.job

-- a serve is as its next requests need it: its homes are as at the start, names keep to their jobs, and jobs
-- that are not begun have counted nothing
pub record IsReadyServe (inputs : Inputs) (m : Machine) (s : Serve) : Type 0 where
  pub workers : s.workers ≤ MOST_THREADS
  pub count : length m.threads ≡ s.workers
  pub budget : (1 ≤ s.budget) × (s.budget ≤ MOST_BUDGET)
  pub next : s.next ≤ length inputs.requests
  pub replies : length s.replies ≡ length inputs.requests
  pub live : (t : ℕ) → t < s.workers → IsLive m.environment.world (home_of t)
  pub homes : (t : ℕ) → t < s.workers → context m.environment.world (home_of t) ≡ home_context inputs.image
  pub names : NamesKeepToJobs m.environment.world
  pub new_jobs : (r : ℕ) → s.next ≤ r → IsNewJob m.environment.world (r + 1)
  pub threads : All (IsWorker s) m.threads

-- the threads and the world of a machine are as the calls of a world need them, after this number of steps
pub record IsReady (inputs : Inputs) (steps : ℕ) (m : Machine) : Type 0 where
  pub image : IsImage inputs.image
  pub size : m.environment.world.size ≡ world_size inputs.image.form inputs.settings.frames
  pub sound : IsSound m.environment.world
  pub named : HasItsContexts m.environment.world
  pub files : HasItsFiles m.environment.channels m.environment.world
  pub given_files : m.environment.channels.files ≡ inputs.image.files
  pub given_requests : m.environment.channels.requests ≡ inputs.requests
  pub few_requests : length inputs.requests ≤ MOST_REQUESTS
  pub reaped : IsReaped m.environment.world (roots m.threads m.serve)
  pub limits : IsWithinLimits m.environment.world (jobs_of m.threads)
  pub counted : (job : ℕ) → IsCounted (most_counted steps) (m.environment.world.next job)
  pub threads : All (IsReadyThread m.environment.world) m.threads
  pub count : length m.threads ≡ thread_count inputs
  pub some : 1 ≤ length m.threads
  pub few : length m.threads ≤ MOST_THREADS
  pub text : m.text ≡ inputs.image.text
  pub serve : IfSome m.serve (IsReadyServe inputs m)

-- what an act of a thread keeps: the thread's job, each live context, and the requests
pub record KeepsContexts (e : Environment) (x : Thread) (outcome : Outcome) : Type 0 where
  pub job : outcome.thread.job ≡ x.job
  pub live : (c : Name) → is_live e.world c ≡ true → is_live outcome.environment.world c ≡ true
  pub requests : outcome.environment.channels.requests ≡ e.channels.requests

-- the world once a page is mapped in a context
abbrev pub mapped : World → Name → PageImage → World
mapped w c page = map_pages w c page.number (page.number + 1)

-- the store of a page's bytes at its place
abbrev pub page_stored : World → Name → PageImage → Stored
page_stored w c page = store w c 0 (record { at = page.number * PAGE_BYTES; bytes = page.bytes })

-- a page may be mapped in a context and then stored, whole and for job 0
pub record CanPutPage (w : World) (c : Name) (page : PageImage) : Type 0 where
  pub live : IsLive w c
  pub number : page.number < w.size.pages
  pub whole : length page.bytes ≡ PAGE_BYTES
  pub few : ranges_of (mapped w c page) c ≤ MOST_RANGES
  pub stays : IsLive (mapped w c page) c
  pub size : (mapped w c page).size.pages ≡ w.size.pages
  pub most : w.size.pages ≤ MOST_PAGES
  pub may : MayName (mapped w c page) 0
  pub after : World
  pub stored : page_stored (mapped w c page) c page ≡ stores.Done after

-- one more home may be made from the first context of a world: the next one, which lives then
pub record CanPutHome (w : World) (home : Name) : Type 0 where
  pub live : IsLive w first_name
  pub may : MayName w 0
  pub place : HasPlace w
  pub group : needs_group w first_name [] ≡ false
  pub few : AreFew (ranges_after_clone w first_name 0 [])
  pub next : next_context w 0 ≡ home
  pub copied : (entry : Regs) → IsLive (clone_context w first_name 0 [] entry) home
  pub emptied : (entry : Regs) → IsLive (put_slot (clone_context w first_name 0 [] entry) home 1 Empty) home
