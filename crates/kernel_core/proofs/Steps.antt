-- A kernel stays steady over a step, and what the step makes of its history.
use Rattle.std.proofs.Common.{◌≡◌, ◌≢◌, ℕ, suc, ◌+◌, ◌-◌, ◌≤◌, ◌<◌, refl, sym, ap, subst, ◌∙◌, Bool, true, false, cond, eqb, ltb, Option, Some, None, List, [], ◌∷◌, ◌++◌, length, arith, length-append, get_or}
use Rattle.std.specs.Prelude.{All, IfSome, max, slice_get, slice_set}
use Rattle.std.specs.List.{sum_by}
use Rattle.std.specs.Option.{option_map, option_map_or}
use Rattle.std.proofs.lemmas.Bool.Decides.{nat_tests}
use Rattle.std.proofs.lemmas.Option.{get_or_from_slice_get, slice_get-get_or}
use Rattle.std.proofs.lemmas.List.Sums.{sum_by-le}
use Rattle.std.proofs.lemmas.List.Elements.{All-cons, All-get_or, All-nil, All-weaker}
use Rattle.guest_image.specs.declared.image.Image.{Image}
use Rattle.guest_image.specs.declared.image.Vault.{Vault}
use Rattle.guest_isa.specs.declared.instr.Instr.{Instr}
use Rattle.guest_machine.specs.Advances.{advanced}
use Rattle.kernel_core.proofs.Finished.{ended_none, finished-push}
use Rattle.kernel_core.proofs.Others.{found_set}
use Rattle.kernel_core.proofs.JobActs.{AllLocal, guest_calls_are_local}
use Rattle.kernel_core.proofs.Outcomes.{guest_calls_act}
use Rattle.kernel_core.proofs.ReadyRuns.{can_serve, fewer_steps, live_after, ready_thread, running_acts, whatever, while_running}
use Rattle.kernel_core.proofs.Reaping.{uncut}
use Rattle.kernel_core.proofs.Replies.{still_has, weaker}
use Rattle.kernel_core.proofs.Runs.{run-push, peak-push, used_last}
use Rattle.kernel_core.specs.Changes.{IsNumbered, Keeps, KeepsAll, after_effect, made}
use Rattle.kernel_core.specs.Kernel.{CanOpen, History, machine_of, stepped, turn, turn_at, view_of}
use Rattle.kernel_core.specs.Machine.{Environment, Machine, Serve, has_ended, homes, homes_of, in_serve, is_ended, recorded, reply_of, steps_after, steps_for_requests, steps_left, work}
use Rattle.kernel_core.specs.Ready.{CanAct, CanServe, HasItsJob, IsReady, IsReadyServe, IsReadyThread, IsRunnable, IsWorker, WhileRunning}
use Rattle.kernel_core.specs.Runs.{frames_of, last_finished, peak, run}
use Rattle.kernel_core.specs.Start.{Inputs, serve_at, start, thread_count, threads_at, with_its_vault, world_for}
use Rattle.kernel_core.specs.Steady.{IsSteady, history, machine}
use Rattle.kernel_core.specs.Step.{AfterStep, Outcome, advance_outcome, after_outcome, after_thread, begin_next, beside, contexts_of, finish, finished_in, finished_of, finishes, guest_calls, only, roots, step, step_by, thread_outcome, unchanged, with_status, with_world}
use Rattle.kernel_core.specs.declared.acting.Change.{Change}
use Rattle.kernel_core.specs.declared.acting.Change.TheVariants as changes
use Rattle.kernel_core.specs.declared.acting.Effect.{Effect}
use Rattle.kernel_core.specs.declared.settings.Settings.{Settings}
use Rattle.kernel_core.specs.declared.thread.Thread.{Thread}
use Rattle.kernel_core.specs.declared.thread.Turn.{Turn}
use Rattle.lwc_base.specs.Channels.{Channels}
use Rattle.lwc_base.specs.Channels as channels
use Rattle.lwc_base.specs.Frames.{used}
use Rattle.lwc_base.specs.Life.{IsReaped, reap}
use Rattle.lwc_base.specs.World.{World, is_live}
use Rattle.lwc_types.specs.declared.fault.ThreadStatus.{ThreadStatus}
use Rattle.lwc_types.specs.declared.fault.ThreadStatus.TheVariants.{Idle, Running, Done, Faulted}
use Rattle.lwc_types.specs.declared.limits.TheConstants.{MOST_BUDGET, MOST_STEPS}
use Rattle.lwc_types.specs.declared.name.Name.{Name}
use Rattle.snapshot_host.specs.Finish.{StillHas}
use Rattle.snapshot_host.specs.declared.finishing.Finished.{Finished}
use Rattle.kernel_core.proofs.ReadyMachines.{ready_machine}

-- a history with one more step
abbrev pub longer : History → ℕ → History
longer h t = record h { steps = h.steps ++ t ∷ []; room = h.room - 1 }

-- a thread that has made a step had not ended
not_ended : (t : ℕ) (e : Environment) (serve : Option Serve) (text : List Instr) (x : Thread) (status : ThreadStatus) (after : AfterStep) → thread_outcome guest_calls t e serve text x status ≡ Some after → has_ended status ≡ false
not_ended t e serve text x Idle after made = refl
not_ended t e serve text x Running after made = refl
not_ended t e serve text x (Done code) after made = cc
not_ended t e serve text x (Faulted f) after made = cc

-- a thread that has made none had ended
had_ended : (t : ℕ) (e : Environment) (serve : Option Serve) (text : List Instr) (x : Thread) (status : ThreadStatus) → thread_outcome guest_calls t e serve text x status ≡ None → has_ended status ≡ true
had_ended t e serve text x Idle none = cc
had_ended t e serve text x Running none = cc
had_ended t e serve text x (Done code) none = refl
had_ended t e serve text x (Faulted f) none = refl

stepped_by : (h : History) (t : ℕ) (b : Bool) → is_ended (machine_of h) t ≡ b → stepped h t ≡ cond b h (longer h t)
unfolding stepped
stepped_by h t b is = ap (λ c. cond c h (longer h t)) is

inputs_of_either : (b : Bool) (h : History) (t : ℕ) → (cond b h (longer h t)).inputs ≡ h.inputs
inputs_of_either true h t = refl
inputs_of_either false h t = refl

-- a step keeps the inputs
pub stepped_inputs : (h : History) (t : ℕ) → (stepped h t).inputs ≡ h.inputs
unfolding stepped
stepped_inputs h t = inputs_of_either (is_ended (machine_of h) t) h t

abbrev pub turn_of : Thread → Option Finished → Turn
turn_of x finished = record { regs = x.regs; status = x.status; finished = finished }

few_left : (more budget : ℕ) (status : ThreadStatus) → budget ≤ MOST_BUDGET → steps_left more budget status ≤ MOST_BUDGET + more + 1
few_left more budget Running few = omega (arith, few)
few_left more budget Idle few = omega arith
few_left more budget (Done code) few = omega arith
few_left more budget (Faulted f) few = omega arith

-- a world that was reaped by the contexts of threads and the homes of this number of workers
pub reaped_as : (v w : World) (ts threads : List Thread) (workers : ℕ) (serve : Option Serve) → v ≡ reap w (contexts_of ts ++ homes_of workers) → ts ≡ threads → homes_of workers ≡ homes serve → v ≡ reap w (roots threads serve)
reaped_as v w ts threads workers serve is same homes_are =
    is ∙ ap (λ (l : List Thread). reap w (contexts_of l ++ homes_of workers)) same ∙ ap (λ (l : List Name). reap w (contexts_of threads ++ l)) homes_are

pub reaped_back : (v : World) (ts threads : List Thread) (workers : ℕ) (serve : Option Serve) → ts ≡ threads → homes_of workers ≡ homes serve → IsReaped v (roots threads serve) → IsReaped v (contexts_of ts ++ homes_of workers)
reaped_back v ts threads workers serve same homes_are reaped =
    subst (λ (l : List Thread). IsReaped v (contexts_of l ++ homes_of workers)) (sym same) (subst (λ (l : List Name). IsReaped v (contexts_of threads ++ l)) (sym homes_are) reaped)

-- a fact of all roots is one of the contexts of threads, and of the homes
pub contexts_part : (P : Name → Type 0) (threads : List Thread) (names : List Name) → All P (contexts_of threads ++ names) → All (λ (x : Thread). P x.context) threads
contexts_part P [] names all = All-nil _
contexts_part P (x ∷ xs) names all =
    All-cons (λ (y : Thread). P y.context) x xs (all 0 x.context (omega arith)) (contexts_part P xs names (λ k d within. all (suc k) d (omega (arith, within))))

pub homes_part : (P : Name → Type 0) (threads : List Thread) (names : List Name) → All P (contexts_of threads ++ names) → All P names
homes_part P [] names all = all
homes_part P (x ∷ xs) names all = homes_part P xs names (λ k d within. all (suc k) d (omega (arith, within)))

same_number : (t : ℕ) → eqb t t ≡ true
same_number t = grind (arith, nat_tests)

-- the effect that a step had has its number
pub numbered_here : (effect : Option Effect) (serve : Option Serve) → IfSome effect (λ e. IsNumbered e serve) → (f : Effect) → effect ≡ Some f → IsNumbered f serve
numbered_here effect serve numbered f is = subst (λ (o : Option Effect). IfSome o (λ e. IsNumbered e serve)) is numbered

-- the history under another name
pub as_seen : (m : Machine) (most : ℕ) (h value : History) → h ≡ value → IsSteady m most h → IsSteady m most value
as_seen m most h value is steady = subst (IsSteady m most) is steady

-- a steady kernel, its parts, peak and history under other names
pub steady_as : (w : World) (io other_io : Channels) (threads other_threads : List Thread) (text other_text : List Instr) (serve : Option Serve) (most now : ℕ) (h after : History) →
    other_io ≡ io → other_threads ≡ threads → other_text ≡ text → now ≡ most → after ≡ h → IsSteady (machine w io threads text serve) most h → IsSteady (machine w other_io other_threads other_text serve) now after
steady_as w io other_io threads other_threads text other_text serve most now h after io_is threads_are text_is peak_is is steady =
    let same : machine w other_io other_threads other_text serve ≡ machine w io threads text serve = λ i. machine w (io_is i) (threads_are i) (text_is i) serve in
    subst (λ (k : Machine). IsSteady k now after) (sym same)
    (subst (λ (n : ℕ). IsSteady (machine w io threads text serve) n after) (sym peak_is) (subst (IsSteady (machine w io threads text serve) most) (sym is) steady))

-- a kernel whose parts are those of a start
pub steady_start : (inputs : Inputs) (steps : List ℕ) (room : ℕ) (threads : List Thread) (w : World) (io : Channels) (text : List Instr) (serve : Option Serve) (most : ℕ) → CanOpen inputs →
    room ≤ MOST_STEPS → steps ≡ [] → threads ≡ threads_at inputs.image inputs.settings.budget inputs.settings.job → w ≡ with_its_vault (world_for inputs.image inputs.settings.frames inputs.settings.job) inputs.vault →
    io ≡ channels.opened inputs.image.files inputs.requests → text ≡ inputs.image.text → serve ≡ serve_at inputs.settings.job inputs.settings.budget (length inputs.requests) → most ≡ used w →
    IsSteady (machine w io threads text serve) most (record { inputs = inputs; steps = steps; room = room })
unfolding machine_of start
steady_start inputs steps room threads w io text serve most can short none threads_are world_is io_is text_is serve_is used_is =
    let begun : machine w io threads text serve ≡ start inputs = λ i. machine (world_is i) (io_is i) (threads_are i) (text_is i) (serve_is i) in
    subst (λ (l : List ℕ). IsSteady (machine w io threads text serve) most (record { inputs = inputs; steps = l; room = room })) (sym none)
    (record { inputs = can; machine = begun; peak = used_is ∙ ap used world_is; room = omega (arith, short) })

-- the history of a kernel's parts after one more step
pub one_longer : (image : Image) (vault : Option Vault) (requests : List (List ℕ)) (settings : Settings) (steps after : List ℕ) (room left t : ℕ) (value : History) →
    history image vault requests settings steps room ≡ value → after ≡ steps ++ t ∷ [] → left ≡ room - 1 → history image vault requests settings after left ≡ longer value t
one_longer image vault requests settings steps after room left t value is appended fewer =
    (λ i. history image vault requests settings (appended i) (fewer i)) ∙ ap (λ h. longer h t) is

-- what a step makes of a kernel
pub record IsMade (m : Machine) (most t : ℕ) (after : AfterStep) (h : History) : Type 0 where
  pub going : is_ended (machine_of h) t ≡ false
  pub kept : stepped h t ≡ longer h t
  pub live : All (λ c. is_live after.environment.world c ≡ true) (roots (slice_set m.threads t after.thread) after.serve)
  pub steady : 0 < h.room → (u : World) → u ≡ reap after.environment.world (roots (slice_set m.threads t after.thread) after.serve) →
      IsSteady (record m { threads = slice_set m.threads t after.thread; environment = with_world after.environment u; serve = after.serve }) (max most (used u)) (longer h t)
  pub turn : turn (longer h t) t ≡ Some (turn_of after.thread after.finished)
  pub finished : last_finished (start h.inputs) (h.steps ++ t ∷ []) t None ≡ after.finished
  pub turn_in : (r : Option ℕ) → turn_at (machine_of (longer h t)) t r ≡ Some (turn_of after.thread (recorded after.serve r))
  pub less : work (machine_of (longer h t)) < work (machine_of h)

-- what a step by a thread that has ended makes of a kernel
pub record IsRest (t : ℕ) (x : Thread) (h : History) : Type 0 where
  pub ended : is_ended (machine_of h) t ≡ true
  pub kept : stepped h t ≡ h
  pub turn : turn h t ≡ Some (turn_of x None)
  pub finished : last_finished (start h.inputs) h.steps t None ≡ None
  pub turn_in : turn_at (machine_of h) t None ≡ Some (turn_of x None)

-- no step changes the number of workers
homes_after : (t : ℕ) (e : Environment) (serve : Option Serve) (text : List Instr) (x : Thread) (status : ThreadStatus) (after : AfterStep) → thread_outcome guest_calls t e serve text x status ≡ Some after → homes after.serve ≡ homes serve
homes_after t e None text x Running after made = let is : only None (advance_outcome guest_calls t e x (advanced text x.regs)) ≡ after = cc in ap (λ (a : AfterStep). homes a.serve) (sym is)
homes_after t e None text x Idle after made = let is : only None (unchanged e (with_status x (Done 0))) ≡ after = cc in ap (λ (a : AfterStep). homes a.serve) (sym is)
homes_after t e (Some s) text x Running after made =
    let outcome = advance_outcome guest_calls t e x (advanced text x.regs) in
    let is : cond (has_ended outcome.thread.status) (finish t s outcome) (only (Some s) outcome) ≡ after = cc in
    ap (λ (a : AfterStep). homes a.serve) (sym is) ∙ settled_homes outcome (has_ended outcome.thread.status)
  where
    settled_homes : (outcome : Outcome) (b : Bool) → homes (cond b (finish t s outcome) (only (Some s) outcome)).serve ≡ homes (Some s)
    settled_homes outcome true = refl
    settled_homes outcome false = refl
homes_after t e (Some s) text x Idle after made =
    let is : cond (ltb s.next (length e.channels.requests)) (begin_next t s e) (only (Some s) (unchanged e (with_status x (Done 0)))) ≡ after = cc in
    ap (λ (a : AfterStep). homes a.serve) (sym is) ∙ woken_homes (ltb s.next (length e.channels.requests))
  where
    woken_homes : (b : Bool) → homes (cond b (begin_next t s e) (only (Some s) (unchanged e (with_status x (Done 0))))).serve ≡ homes (Some s)
    woken_homes true = refl
    woken_homes false = refl
homes_after t e serve text x (Done code) after made = cc
homes_after t e serve text x (Faulted f) after made = cc

module _ (m : Machine) (most : ℕ) (h : History) (steady : IsSteady m most h) where
  pub is_ready : IsReady h.inputs (length h.steps) m
  unfolding machine_of
  is_ready = subst (IsReady h.inputs (length h.steps)) (sym steady.machine) (ready_machine h.inputs h.steps steady.inputs)

  -- before the first step it is the machine of the start
  pub begun : h.steps ≡ [] → m ≡ start h.inputs
  unfolding machine_of
  begun none = steady.machine ∙ ap (run (start h.inputs)) none

  -- and the peak is what its world uses
  pub first_peak : h.steps ≡ [] → most ≡ used m.environment.world
  first_peak none = steady.peak ∙ ap (peak (start h.inputs)) none ∙ ap frames_of (sym (begun none))

  local : IfSome m.serve (λ s. AllLocal guest_calls)
  local = whatever m.serve (AllLocal guest_calls) guest_calls_are_local

  -- a number below the number of threads
  pub within : (t : ℕ) → t < thread_count h.inputs → t < length m.threads
  within t few = omega (arith, few, is_ready.count)

  -- the steps that are left fit a number of 32 bits
  pub threads_fit : (more : ℕ) (threads : List Thread) → more ≤ 1 → threads ≡ m.threads → sum_by (λ x. steps_left more x.budget x.status) threads ≤ 1600032
  threads_fit more threads few same =
      let left = λ (x : Thread). steps_left more x.budget x.status in
      let each = All-weaker (IsReadyThread m.environment.world) (λ x. left x ≤ 100002) (λ x is. let one = few_left more x.budget x.status is.budget in omega (arith, one, few)) m.threads is_ready.threads in
      omega (arith, sum_by-le left 100002 m.threads each, is_ready.few, ap (sum_by left) same)

  pub budgets_fit : (threads : List Thread) → threads ≡ m.threads → All (λ x. x.budget ≤ MOST_BUDGET) threads
  budgets_fit threads same =
      subst (All (λ (x : Thread). x.budget ≤ MOST_BUDGET)) (sym same) (All-weaker (IsReadyThread m.environment.world) (λ x. x.budget ≤ MOST_BUDGET) (λ x is. is.budget) m.threads is_ready.threads)

  -- each thread makes one step more at most after its budget
  pub work_fits : (threads : List Thread) → threads ≡ m.threads → sum_by (λ x. steps_left (steps_after m.serve) x.budget x.status) threads ≤ 1600032
  work_fits threads same = threads_fit (steps_after m.serve) threads (at_most_one m.serve) same
    where
      at_most_one : (serve : Option Serve) → steps_after serve ≤ 1
      at_most_one None = omega arith
      at_most_one (Some s) = omega arith

  pub serve_fits : (requests : ℕ) → requests ≡ length m.environment.channels.requests → IfSome m.serve (λ s. (s.next ≤ requests) × (s.budget ≤ MOST_BUDGET))
  serve_fits requests same = by_serve m.serve is_ready.serve
    where
      by_serve : (serve : Option Serve) → IfSome serve (IsReadyServe h.inputs m) → IfSome serve (λ s. (s.next ≤ requests) × (s.budget ≤ MOST_BUDGET))
      by_serve None is = tt
      by_serve (Some s) is = (omega (arith, is.next, same, ap (λ (l : List (List ℕ)). length l) is_ready.given_requests), is.budget.1)

  pub requests_fit : (requests : ℕ) → requests ≡ length m.environment.channels.requests → requests ≤ 1024
  requests_fit requests same = omega (arith, same, ap (λ (l : List (List ℕ)). length l) is_ready.given_requests, is_ready.few_requests)

  pub work_seen : (threads : List Thread) (requests : ℕ) → threads ≡ m.threads → requests ≡ length m.environment.channels.requests →
      sum_by (λ x. steps_left (steps_after m.serve) x.budget x.status) threads + steps_for_requests m.serve requests ≡ work (machine_of h)
  unfolding work
  work_seen threads requests same count =
      ap (λ (l : List Thread). sum_by (λ (x : Thread). steps_left (steps_after m.serve) x.budget x.status) l + steps_for_requests m.serve requests) same
      ∙ ap (λ (n : ℕ). sum_by (λ (x : Thread). steps_left (steps_after m.serve) x.budget x.status) m.threads + steps_for_requests m.serve n) count
      ∙ ap work steady.machine

  pub reply_seen : (r : ℕ) → in_serve m.serve r ≡ reply_of (machine_of h) r
  unfolding reply_of
  reply_seen r = ap (λ (k : Machine). in_serve k.serve r) steady.machine

  -- the channels still have it
  pub kept_seen : (r : ℕ) → IfSome (in_serve m.serve r) (StillHas m.environment.channels)
  unfolding machine_of
  kept_seen r =
      let last = run (start h.inputs) h.steps in
      let count = weaker last.serve (CanServe last.environment.world last.environment.channels) (λ s. length s.replies ≡ length last.environment.channels.requests) (λ s can. can.replies)
      (can_serve h.inputs (length h.steps) last (ready_machine h.inputs h.steps steady.inputs)) in
      subst (λ (k : Machine). IfSome (in_serve k.serve r) (StillHas k.environment.channels)) (sym steady.machine) (still_has h.inputs h.steps r count)

  -- the machine's work
  pub work_is : work m ≡ work (machine_of h)
  work_is = ap work steady.machine

  module _ (t : ℕ) (x : Thread) (few : t < thread_count h.inputs) (index : x ≡ get_or m.threads t x) where
    pub found : slice_get m.threads t ≡ Some x
    found = slice_get-get_or m.threads t x (within t few) ∙ ap Some (sym index)

    -- the thread can act while it runs, and has steps left
    pub acts : WhileRunning x.status (CanAct m.environment.world x)
    acts = running_acts h.inputs (length h.steps) t m x is_ready (omega (arith, steady.room)) found

    pub has_steps : WhileRunning x.status (0 < x.budget)
    has_steps =
        while_running (IsRunnable m.environment.world x) (0 < x.budget) x.status (λ runs. omega (arith, runs.some_step))
        (ready_thread h.inputs (length h.steps) t m x is_ready found).runs

    -- in a serve it is the worker of this number
    pub serves : IfSome m.serve (λ s. (t < s.workers) × HasItsJob s x.status x.job)
    serves = by_serve m.serve is_ready.serve
      where
        by_serve : (serve : Option Serve) → IfSome serve (IsReadyServe h.inputs m) → IfSome serve (λ s. (t < s.workers) × HasItsJob s x.status x.job)
        by_serve None is = tt
        by_serve (Some s) is =
            let here : IsWorker s x = subst (λ (y : Thread). IsWorker s y) (get_or_from_slice_get m.threads t x x found) (All-get_or (IsWorker s) m.threads t x (within t few) is.threads) in
            (omega (arith, within t few, is.count), here.job)

    ended_as : is_ended (machine_of h) t ≡ has_ended x.status
    unfolding is_ended
    ended_as = ap (λ (k : Machine). is_ended k t) (sym steady.machine) ∙ ap (λ o. option_map_or (λ (y : Thread). has_ended y.status) o true) found

    -- what can be seen of it
    pub viewed : view_of (machine_of h) t ≡ Some (record { status = x.status; context = x.context; regs = x.regs })
    unfolding view_of
    viewed = ap (λ (k : Machine). view_of k t) (sym steady.machine) ∙ ap (option_map (λ (y : Thread). record { status = y.status; context = y.context; regs = y.regs })) found

    -- and its turn
    pub last_turn : (finished : Option Finished) → last_finished (start h.inputs) h.steps t None ≡ finished → turn h t ≡ Some (turn_of x finished)
    unfolding turn
    last_turn finished is =
        ap (λ (f : Option Finished). option_map (λ y. turn_of y f) (slice_get (machine_of h).threads t)) is
        ∙ ap (λ (k : Machine). option_map (λ y. turn_of y finished) (slice_get k.threads t)) (sym steady.machine) ∙ ap (option_map (λ y. turn_of y finished)) found

    -- the same with what is recorded of a request
    turn_here : (r : Option ℕ) → turn_at (machine_of h) t r ≡ Some (turn_of x (recorded (machine_of h).serve r))
    unfolding turn_at
    turn_here r =
        ap (λ (k : Machine). option_map (λ y. turn_of y (recorded (machine_of h).serve r)) (slice_get k.threads t)) (sym steady.machine)
        ∙ ap (option_map (λ y. turn_of y (recorded (machine_of h).serve r))) found

    pub turn_noted : (r : Option ℕ) (finished : Option Finished) (now : Turn) → finished ≡ recorded (machine_of h).serve r → now ≡ turn_of x finished → turn_at (machine_of h) t r ≡ Some now
    turn_noted r finished now same is = turn_here r ∙ sym (ap Some is ∙ ap (λ f. Some (turn_of x f)) same)

    pub rested : thread_outcome guest_calls t m.environment m.serve m.text x x.status ≡ None → IsRest t x h
    unfolding machine_of
    rested none =
        let ended : is_ended (machine_of h) t ≡ true = ended_as ∙ had_ended t m.environment m.serve m.text x x.status none in
        record {
          ended = ended;
          kept = stepped_by h t true ended;
          turn = last_turn None (ended_none (start h.inputs) h.steps t None (λ was. refl) ended);
          finished = ended_none (start h.inputs) h.steps t None (λ was. refl) ended;
          turn_in = turn_here None;
        }

    module _ (made_after : AfterStep) (made : thread_outcome guest_calls t m.environment m.serve m.text x x.status ≡ Some made_after) where
      after : Machine
      after = after_outcome m t (Some made_after)

      finished_here : last_finished (start h.inputs) (h.steps ++ t ∷ []) t None ≡ made_after.finished
      unfolding machine_of finishes
      finished_here =
          finished-push (start h.inputs) h.steps t t None
          ∙ ap (λ b. cond b (finishes (machine_of h) t) (last_finished (start h.inputs) h.steps t None)) (same_number t)
          ∙ ap (λ (k : Machine). finishes k t) (sym steady.machine)
          ∙ ap (finished_of m t) found
          ∙ ap finished_in made

      -- the machine that the kernel comes to
      machine_after : after ≡ machine_of (longer h t)
      unfolding machine_of step_by after
      machine_after =
          sym (run-push (start h.inputs) h.steps t
          ∙ ap (λ (k : Machine). step k t) (sym steady.machine)
          ∙ ap (after_thread guest_calls m t) found
          ∙ ap (after_outcome m t) made)

      one_less : 0 < h.room → length (h.steps ++ t ∷ []) + (h.room - 1) ≤ MOST_STEPS
      one_less some = omega (arith, length-append h.steps (t ∷ []), steady.room)

      peak_after : max most (frames_of after) ≡ peak (start h.inputs) (h.steps ++ t ∷ [])
      unfolding machine_of after
      peak_after =
          ap (λ n. max n (frames_of after)) steady.peak
          ∙ ap (λ (k : Machine). max (peak (start h.inputs) h.steps) (frames_of k)) (machine_after ∙ run-push (start h.inputs) h.steps t)
          ∙ sym (peak-push (start h.inputs) h.steps t)

      pub made_step : IsMade m most t made_after h
      unfolding turn turn_at after
      made_step =
          let going : is_ended (machine_of h) t ≡ false = ended_as ∙ not_ended t m.environment m.serve m.text x x.status made_after made in
          let fewer = fewer_steps guest_calls guest_calls_act h.inputs (length h.steps) t m x is_ready local found made_after made in
          record {
            going = going;
            kept = stepped_by h t false going;
            live = live_after guest_calls guest_calls_act h.inputs (length h.steps) t m x is_ready local found made_after made;
            steady = λ some u reaped.
                subst (λ (u : World). IsSteady (record m { threads = slice_set m.threads t made_after.thread; environment = with_world made_after.environment u; serve = made_after.serve }) (max most (used u)) (longer h t)) (sym reaped)
                (record { inputs = steady.inputs; machine = machine_after; peak = peak_after; room = one_less some });
            turn = ap (λ (f : Option Finished). option_map (λ y. turn_of y f) (slice_get (machine_of (longer h t)).threads t)) finished_here
                ∙ ap (λ (k : Machine). option_map (λ y. turn_of y made_after.finished) (slice_get k.threads t)) (sym machine_after)
                ∙ ap (option_map (λ y. turn_of y made_after.finished)) (found_set m.threads t x made_after.thread found);
            finished = finished_here;
            turn_in = λ r.
                ap (λ (k : Machine). option_map (λ y. turn_of y (recorded k.serve r)) (slice_get k.threads t)) (sym machine_after)
                ∙ ap (option_map (λ y. turn_of y (recorded made_after.serve r))) (found_set m.threads t x made_after.thread found);
            less = subst (λ (k : Machine). work k < work (machine_of h)) machine_after
                (subst (λ (k : Machine). work after < work k) steady.machine fewer);
          }

  -- what was used last is not above the peak
  pub used_below : used m.environment.world ≤ most
  unfolding machine_of
  used_below =
      let last : frames_of (machine_of h) ≤ peak (start h.inputs) h.steps = used_last (start h.inputs) h.steps in
      omega (arith, last, steady.peak, ap frames_of steady.machine)

  module _ (t : ℕ) (x y : Thread) (v : World) (after : Channels) (serve : Option Serve) (effect : Option Effect) (few : t < thread_count h.inputs) (index : x ≡ get_or m.threads t x)
      (outcome : thread_outcome guest_calls t m.environment m.serve m.text x x.status ≡ made effect (beside v after) serve y) where
    made_as : (f : Effect) → effect ≡ Some f → thread_outcome guest_calls t m.environment m.serve m.text x x.status ≡ Some (after_effect f (beside v after) serve y)
    made_as f is = outcome ∙ ap (λ k. made k (beside v after) serve y) is

    -- a step of the code
    pub made_here : (f : Effect) → effect ≡ Some f → IsMade m most t (after_effect f (beside v after) serve y) h
    made_here f is = made_step t x few index (after_effect f (beside v after) serve y) (made_as f is)

    -- which leaves the homes
    pub homes_here : (f : Effect) → effect ≡ Some f → homes serve ≡ homes m.serve
    homes_here f is = homes_after t m.environment m.serve m.text x x.status (after_effect f (beside v after) serve y) (made_as f is)

    module _ (keeps : KeepsAll effect m.environment.world m.environment.channels m.serve x v after serve y) where
      -- or of a thread that has ended
      pub rested_here : effect ≡ None → IsRest t y h
      rested_here is =
          let stays : y ≡ x = (subst (λ (k : Option Effect). KeepsAll k m.environment.world m.environment.channels m.serve x v after serve y) is keeps).1.1.1 in
          subst (λ (z : Thread). IsRest t z h) (sym stays) (rested t x few index (outcome ∙ ap (λ k. made k (beside v after) serve y) is))

      -- a step that may cut no link leaves nothing to drop
      pub nothing_left : (f : Effect) → effect ≡ Some f → f.change ≢ changes.Links → IsReaped v (roots (slice_set m.threads t y) serve)
      nothing_left f is other =
          subst (λ (l : List Name). IsReaped v (contexts_of (slice_set m.threads t y) ++ l)) (sym (homes_here f is))
          (uncut f.change m.environment.world v m.threads m.serve t x y (subst (λ (k : Option Effect). KeepsAll k m.environment.world m.environment.channels m.serve x v after serve y) is keeps) other (found t x few index) is_ready.reaped)

      -- a change of the thread alone does not raise the peak
      pub used_kept : (f : Effect) → effect ≡ Some f → f.change ≡ changes.Thread → used v ≤ most
      used_kept f is thread =
          let kept : Keeps f.change m.environment.world x v y = subst (λ (k : Option Effect). KeepsAll k m.environment.world m.environment.channels m.serve x v after serve y) is keeps in
          let alone : Keeps changes.Thread m.environment.world x v y = subst (λ (c : Change). Keeps c m.environment.world x v y) thread kept in
          omega (arith, ap used alone.0, used_below)
