-- What steps leave of other threads, and histories that end.
use Rattle.std.proofs.Common.{◌≡◌, ◌≢◌, ◌⊎◌, ◌+◌, ◌-◌, ◌*◌, ◌<◌, ◌≤◌, ◌==◌, ℕ, map, zero, suc, inl, inr, refl, ap, ◌∙◌, Bool, true, false, cond, List, [], ◌∷◌, ◌++◌, length, ltb, Option, Some, None, arith, get_or}
use Rattle.std.specs.Prelude.{slice_get, slice_set}
use Rattle.std.specs.List.{enumerate_from, sum_by}
use Rattle.std.specs.Option.{option_map, option_map_or}
use Rattle.std.proofs.lemmas.Bool.Decides.{nat_tests}
use Rattle.std.proofs.Math.Nat.{suc-mul}
use Rattle.std.proofs.lemmas.List.Sums.{get_or-le-sum_by, sum_by-append}
use Rattle.std.proofs.lemmas.Option.{slice_get_past, slice_get_within, get_or_from_slice_get}
use Rattle.kernel_core.proofs.ReadyRuns.{ready_thread}
use Rattle.kernel_core.proofs.Reaping.{length-homes}
use Rattle.kernel_core.proofs.Runs.{kept_next}
use Rattle.kernel_core.specs.Histories.{IsComplete, IsLegal, steps_by, turn_after}
use Rattle.kernel_core.specs.Kernel.{CanOpen, History, machine_of, turn}
use Rattle.kernel_core.specs.Machine.{Machine, has_ended, homes_of, is_ended, steps_after, steps_for_requests, steps_left, work}
use Rattle.kernel_core.specs.Ready.{IsRunnable, WhileRunning}
use Rattle.kernel_core.specs.Runs.{kept, last_finished, run}
use Rattle.kernel_core.specs.Start.{Inputs, first_entry, first_thread, first_threads, first_workers, serve_at, start, thread_count, threads_at}
use Rattle.kernel_core.specs.Step.{AfterStep, after_outcome, after_thread, finishes, guest_calls, step, step_by, thread_outcome, waiting}
use Rattle.kernel_core.specs.declared.settings.Job.{Job}
use Rattle.kernel_core.specs.declared.settings.Job.TheVariants as jobs
use Rattle.kernel_core.specs.declared.thread.Thread.{Thread}
use Rattle.kernel_core.specs.declared.thread.Turn.{Turn}
use Rattle.lwc_base.specs.World.{World}
use Rattle.lwc_types.specs.declared.fault.ThreadStatus.{ThreadStatus}
use Rattle.lwc_types.specs.declared.fault.ThreadStatus.TheVariants.{Idle, Running, Done, Faulted}
use Rattle.lwc_types.specs.declared.name.Name.{Name}
use Rattle.lwc_types.specs.declared.regs.Regs.{Regs}
use Rattle.lwc_types.specs.Registers.{fresh_registers}
use Rattle.snapshot_host.specs.declared.finishing.Finished.{Finished}
use Rattle.kernel_core.proofs.ReadyMachines.{ready_machine}

set_leaves : (xs : List Thread) (s t : ℕ) (y : Thread) → s ≢ t → slice_get (slice_set xs s y) t ≡ slice_get xs t
set_leaves [] s t y apart = refl
set_leaves (x ∷ xs) zero zero y apart = absurd (apart refl)
set_leaves (x ∷ xs) zero (suc t) y apart = refl
set_leaves (x ∷ xs) (suc s) zero y apart = refl
set_leaves (x ∷ xs) (suc s) (suc t) y apart = set_leaves xs s t y (λ e. apart (ap suc e))

outcome_leaves : (m : Machine) (s t : ℕ) (outcome : Option AfterStep) → s ≢ t → slice_get (after_outcome m s outcome).threads t ≡ slice_get m.threads t
outcome_leaves m s t None apart = refl
outcome_leaves m s t (Some outcome) apart = set_leaves m.threads s t outcome.thread apart

thread_leaves : (m : Machine) (s t : ℕ) (found : Option Thread) → s ≢ t → slice_get (after_thread guest_calls m s found).threads t ≡ slice_get m.threads t
thread_leaves m s t None apart = refl
thread_leaves m s t (Some x) apart = outcome_leaves m s t (thread_outcome guest_calls s m.environment m.serve m.text x x.status) apart

pub step_leaves : (m : Machine) (s t : ℕ) → s ≢ t → slice_get (step m s).threads t ≡ slice_get m.threads t
unfolding step_by
step_leaves m s t apart = thread_leaves m s t (slice_get m.threads s) apart

steps-cons : (t s : ℕ) (ts : List ℕ) → steps_by t (s ∷ ts) ≡ steps_by t (s ∷ []) + steps_by t ts
steps-cons t s ts = sum_by-append (λ r. cond (r == t) 1 0) (s ∷ []) ts

pub steps-one : (t : ℕ) → steps_by t (t ∷ []) ≡ 1
steps-one t = grind (arith, nat_tests)

first_other : (t s : ℕ) (ts : List ℕ) → steps_by t (s ∷ ts) ≡ 0 → s ≢ t
first_other t s ts none same =
    let one : steps_by t (s ∷ []) ≡ 1 = ap (λ (k : ℕ). steps_by t (k ∷ [])) same ∙ steps-one t in
    omega (arith, steps-cons t s ts)

-- steps of others leave a thread
run_leaves : (m : Machine) (ts : List ℕ) (t : ℕ) → steps_by t ts ≡ 0 → slice_get (run m ts).threads t ≡ slice_get m.threads t
run_leaves m [] t none = refl
run_leaves m (s ∷ ts) t none = run_leaves (step m s) ts t (omega (arith, steps-cons t s ts)) ∙ step_leaves m s t (first_other t s ts none)

other_number : (s t : ℕ) → s ≢ t → (s == t) ≡ false
other_number s t apart = by_test (s == t) refl
  where
    by_test : (b : Bool) → (s == t) ≡ b → b ≡ false
    by_test false is = refl
    by_test true is = absurd (apart (grind (arith, nat_tests)))

-- the thread of a number after it was set
pub found_set : (threads : List Thread) (t : ℕ) (x after : Thread) → slice_get threads t ≡ Some x → slice_get (slice_set threads t after) t ≡ Some after
found_set [] t x after found = cc
found_set (y ∷ ys) zero x after found = refl
found_set (y ∷ ys) (suc t) x after found = found_set ys t x after found

pub run-append : (m : Machine) (ss ts : List ℕ) → run m (ss ++ ts) ≡ run (run m ss) ts
run-append m [] ts = refl
run-append m (s ∷ ss) ts = run-append (step m s) ss ts

as_turn : Option Finished → Option Thread → Option Turn
as_turn finished found = option_map (λ x. record { regs = x.regs; status = x.status; finished = finished }) found

-- and what its own last step finished
finished_stays : (m : Machine) (ts : List ℕ) (t : ℕ) (before : Option Finished) → steps_by t ts ≡ 0 → last_finished m ts t before ≡ before
finished_stays m [] t before none = refl
finished_stays m (s ∷ ts) t before none =
    let other : (s == t) ≡ false = other_number s t (first_other t s ts none) in
    finished_stays (step m s) ts t (cond (s == t) (finishes m t) before) (omega (arith, steps-cons t s ts))
    ∙ ap (λ b. cond b (finishes m t) before) other

finished-append : (m : Machine) (ss ts : List ℕ) (t : ℕ) (before : Option Finished) → last_finished m (ss ++ ts) t before ≡ last_finished (run m ss) ts t (last_finished m ss t before)
finished-append m [] ts t before = refl
finished-append m (s ∷ ss) ts t before = finished-append (step m s) ss ts t (cond (s == t) (finishes m t) before)

-- and its turn
pub turn_stays : (inputs : Inputs) (seen rest : List ℕ) (t : ℕ) → steps_by t rest ≡ 0 → turn_after inputs (seen ++ rest) t ≡ turn_after inputs seen t
unfolding turn machine_of as_turn
turn_stays inputs seen rest t none =
    ap (λ (k : Machine). as_turn (last_finished (start inputs) (seen ++ rest) t None) (slice_get k.threads t)) (run-append (start inputs) seen rest)
    ∙ ap (as_turn (last_finished (start inputs) (seen ++ rest) t None)) (run_leaves (run (start inputs) seen) rest t none)
    ∙ ap (λ f. as_turn f (slice_get (run (start inputs) seen).threads t))
    (finished-append (start inputs) seen rest t None ∙ finished_stays (run (start inputs) seen) rest t (last_finished (start inputs) seen t None) none)

ended_found : (finished : Option Finished) (found : Option Thread) (now : Turn) → as_turn finished found ≡ Some now → option_map_or (λ x. has_ended x.status) found true ≡ has_ended now.status
unfolding as_turn
ended_found finished None now is = cc
ended_found finished (Some x) now is = ap (λ (o : Option Turn). option_map_or (λ y. has_ended y.status) o true) is

-- whether a thread has ended is in its turn
pub ended_by_turn : (h : History) (t : ℕ) (now : Turn) → turn h t ≡ Some now → is_ended (machine_of h) t ≡ has_ended now.status
unfolding turn as_turn is_ended
ended_by_turn h t now is = ended_found (last_finished (start h.inputs) h.steps t None) (slice_get (machine_of h).threads t) now is

-- a legal history with one more step of a thread that goes on
pub legal_push : (m : Machine) (ts : List ℕ) (t : ℕ) → IsLegal m ts → is_ended (run m ts) t ≡ false → IsLegal m (ts ++ t ∷ [])
legal_push m ts t legal going =
    kept_next m ts t ∙ (ap (λ b. cond b (kept m ts) (kept m ts ++ t ∷ [])) going ∙ ap (λ (l : List ℕ). l ++ t ∷ []) legal)

work_from : (budget a : ℕ) (entries : List ℕ) →
    sum_by (λ x. steps_left 0 x.budget x.status) (map (λ e. first_thread budget e.0 e.1) (enumerate_from a entries)) ≡ length entries * budget
work_from budget a [] = omega arith
work_from budget a (e ∷ entries) =
    let rest = work_from budget (a + 1) entries in
    let first = first_thread budget a e in
    let others = map (λ e. first_thread budget e.0 e.1) (enumerate_from (a + 1) entries) in
    let parts = sum_by-append (λ (x : Thread). steps_left 0 x.budget x.status) (first ∷ []) others in
    let more : suc (length entries) * budget ≡ length entries * budget + budget = suc-mul (length entries) budget in
    let one : sum_by (λ (x : Thread). steps_left 0 x.budget x.status) (first ∷ []) ≡ budget = omega arith in
    omega (arith, parts, rest, more, one)

work_of_threads : (budget : ℕ) (entries : List ℕ) → sum_by (λ x. steps_left 0 x.budget x.status) (first_threads budget entries) ≡ length entries * budget
unfolding first_threads
work_of_threads budget entries = work_from budget 0 entries

-- at the start of a run each thread has the budget of the settings
pub work_at_start : (inputs : Inputs) → inputs.settings.job ≡ jobs.Run → work (start inputs) ≡ length inputs.image.entries * inputs.settings.budget
unfolding work start
work_at_start inputs run = ap work_by run ∙ work_in_run
  where
    work_by : Job → ℕ
    work_by job =
        sum_by (λ (x : Thread). steps_left (steps_after (serve_at job inputs.settings.budget (length inputs.requests))) x.budget x.status) (threads_at inputs.image inputs.settings.budget job)
        + steps_for_requests (serve_at job inputs.settings.budget (length inputs.requests)) (length inputs.requests)

    work_in_run : work_by jobs.Run ≡ length inputs.image.entries * inputs.settings.budget
    work_in_run = omega (arith, work_of_threads inputs.settings.budget inputs.image.entries)

work_of_idle : (regs : Regs) (homes : List Name) →
    sum_by (λ x. steps_left 1 x.budget x.status) (map (λ home. waiting home regs) homes) ≡ length homes
work_of_idle regs [] = omega arith
work_of_idle regs (home ∷ homes) =
    let rest = work_of_idle regs homes in
    let first = waiting home regs in
    let parts = sum_by-append (λ (x : Thread). steps_left 1 x.budget x.status) (first ∷ []) (map (λ home. waiting home regs) homes) in
    let one : sum_by (λ (x : Thread). steps_left 1 x.budget x.status) (first ∷ []) ≡ 1 = omega arith in
    omega (arith, parts, rest, one)

work_of_workers : (entry workers : ℕ) → sum_by (λ x. steps_left 1 x.budget x.status) (first_workers entry workers) ≡ workers
unfolding first_workers
work_of_workers entry workers = work_of_idle (fresh_registers entry) (homes_of workers) ∙ length-homes workers

-- at the start of a serve there is the budget and one step more for each request, and one step for each worker
pub work_at_serve : (inputs : Inputs) (workers : ℕ) → inputs.settings.job ≡ jobs.Serve workers → work (start inputs) ≡ length inputs.requests * (inputs.settings.budget + 1) + workers
unfolding work start
work_at_serve inputs workers serve = ap work_by serve ∙ work_in_serve
  where
    work_by : Job → ℕ
    work_by job =
        sum_by (λ (x : Thread). steps_left (steps_after (serve_at job inputs.settings.budget (length inputs.requests))) x.budget x.status) (threads_at inputs.image inputs.settings.budget job)
        + steps_for_requests (serve_at job inputs.settings.budget (length inputs.requests)) (length inputs.requests)

    work_in_serve : work_by (jobs.Serve workers) ≡ length inputs.requests * (inputs.settings.budget + 1) + workers
    work_in_serve =
        let n = length inputs.requests in
        let none : n - 0 ≡ n = omega arith in
        let asked : (n - 0) * (inputs.settings.budget + 1) ≡ n * (inputs.settings.budget + 1) = ap (λ k. k * (inputs.settings.budget + 1)) none in
        omega (arith, work_of_workers (first_entry inputs.image) workers, asked)

left_while_going : (w : World) (more budget : ℕ) (x : Thread) (status : ThreadStatus) → has_ended status ≡ false → WhileRunning status (IsRunnable w x) → x.budget ≡ budget → 0 < steps_left more budget status
left_while_going w more budget x Idle going runs is = omega arith
left_while_going w more budget x Running going runs is = omega (arith, runs.some_step)
left_while_going w more budget x (Done code) going runs is = cc
left_while_going w more budget x (Faulted f) going runs is = cc

thread_going : (found : Option Thread) → option_map_or (λ x. has_ended x.status) found true ≡ false → (x : Thread) × (found ≡ Some x) × (has_ended x.status ≡ false)
thread_going None going = cc
thread_going (Some x) going = (x, refl, going)

decided_by : (n t : ℕ) (b : Bool) → ltb t n ≡ b → (t < n) ⊎ (n ≤ t)
decided_by n t true is = inl (grind (arith, nat_tests))
decided_by n t false is = inr (grind (arith, nat_tests))

module _ (inputs : Inputs) (steps : List ℕ) (can : CanOpen inputs) where
  -- while a thread goes on, steps are left
  pub some_left : (t : ℕ) → is_ended (run (start inputs) steps) t ≡ false → 0 < work (run (start inputs) steps)
  unfolding work is_ended
  some_left t going =
      let m = run (start inputs) steps in
      let ready = ready_machine inputs steps can in
      let there = thread_going (slice_get m.threads t) going in
      let x = there.0 in
      let left = λ (y : Thread). steps_left (steps_after m.serve) y.budget y.status in
      let within : t < length m.threads = slice_get_within m.threads t x there.1 in
      let is : get_or m.threads t x ≡ x = get_or_from_slice_get m.threads t x x there.1 in
      let some : 0 < left x = left_while_going m.environment.world (steps_after m.serve) x.budget x x.status there.2 (ready_thread inputs (length steps) t m x ready there.1).runs refl in
      let most : left (get_or m.threads t x) ≤ sum_by left m.threads = get_or-le-sum_by left m.threads t x within in
      omega (arith, ap left is)

  past_ended : (t : ℕ) → thread_count inputs ≤ t → is_ended (run (start inputs) steps) t ≡ true
  unfolding is_ended
  past_ended t past =
      let m = run (start inputs) steps in
      ap (λ o. option_map_or (λ (x : Thread). has_ended x.status) o true) (slice_get_past m.threads t (omega (arith, (ready_machine inputs steps can).count)))

  ended_by : ((t : ℕ) → t < thread_count inputs → is_ended (run (start inputs) steps) t ≡ true) → (t : ℕ) → (t < thread_count inputs) ⊎ (thread_count inputs ≤ t) →
      is_ended (run (start inputs) steps) t ≡ true
  ended_by each t (inl within) = each t within
  ended_by each t (inr past) = past_ended t past

  -- where each thread has ended, a legal history is complete
  pub completed : IsLegal (start inputs) steps → ((t : ℕ) → t < thread_count inputs → is_ended (run (start inputs) steps) t ≡ true) → IsComplete (start inputs) steps
  completed legal each = record {
    legal = legal;
    ended = λ t. ended_by each t (decided_by (thread_count inputs) t (ltb t (thread_count inputs)) refl);
  }
