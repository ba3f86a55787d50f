-- The text of a legal list of steps is a schedule of them.
use Rattle.std.proofs.Common.{◌≡◌, ◌≤◌, ◌<◌, All, ℕ, zero, suc, ◌+◌, refl, sym, ap, subst, ◌∙◌, Bool, true, false, cond, Option, None, Some, List, [], ◌∷◌, length, map, arith}
use Rattle.std.specs.Prelude.{◌==◌, ◌||◌, IsTrue, codes, if◌then◌else◌, nat_lt, slice_get}
use Rattle.std.specs.Fmt.{digits}
use Rattle.std.specs.List.{cons_option, flat_map}
use Rattle.std.specs.Option.{option_map_or}
use Rattle.std.proofs.lemmas.Bool.{false≢true, or_right}
use Rattle.std.proofs.lemmas.Bool.Decides.{nat_tests}
use Rattle.std.proofs.lemmas.List.{length-map}
use Rattle.std.proofs.lemmas.List.Elements.{All-cons, All-head, All-nil, All-tail}
use Rattle.std.proofs.lemmas.Option.{slice_get_within}
use Rattle.kernel_core.proofs.HomeStart.{ready_start}
use Rattle.kernel_core.proofs.JobActs.{AllLocal, guest_calls_are_local}
use Rattle.kernel_core.proofs.Outcomes.{guest_calls_act}
use Rattle.kernel_core.proofs.ReadyRuns.{fewer_steps, ready_step, whatever}
use Rattle.kernel_core.specs.Histories.{IsComplete, IsLegal}
use Rattle.kernel_core.specs.Kernel.{CanOpen}
use Rattle.kernel_core.specs.Machine.{Machine, has_ended, is_ended, work}
use Rattle.kernel_core.specs.Ready.{IsReady}
use Rattle.kernel_core.specs.Runs.{kept}
use Rattle.kernel_core.specs.Start.{Inputs, first_entry, first_threads, first_workers, start, thread_count, threads_at}
use Rattle.kernel_core.specs.Step.{AfterStep, after_outcome, after_thread, guest_calls, step, step_by, thread_outcome}
use Rattle.kernel_core.specs.declared.settings.Job.{Job}
use Rattle.kernel_core.specs.declared.settings.Job.TheVariants as jobs
use Rattle.lwc_types.specs.declared.fault.ThreadStatus.{ThreadStatus}
use Rattle.lwc_types.specs.declared.fault.ThreadStatus.TheVariants.{Done, Faulted, Idle, Running}
use Rattle.kernel_core.specs.declared.thread.Thread.{Thread}
use Rattle.lwc_types.specs.declared.limits.TheConstants.{MOST_STEPS}
use Rattle.lwc_text.proofs.Glyphs.{flat_digits}
use Rattle.lwc_text.specs.Glyphs.{glyph}
use Rattle.lwc_text.specs.Lines.{steps_text}
use Rattle.lwc_text.specs.Report.{report_after, report_of_schedule}
use Rattle.lwc_text.specs.Schedules.{IsSchedule, digit_number, is_blank, names_thread, numbers}

kept_few : (m : Machine) (steps : List ℕ) → length (kept m steps) ≤ length steps
kept_few m [] = omega arith
kept_few m (t ∷ ts) = by (is_ended m t) (kept_few m ts) (kept_few (step m t) ts)
  where
    by : (b : Bool) → length (kept m ts) ≤ length ts → length (kept (step m t) ts) ≤ length ts → length (cond b (kept m ts) (t ∷ kept (step m t) ts)) ≤ length (t ∷ ts)
    by true here later = omega (arith, here)
    by false here later = omega (arith, later)

tail : (s t : ℕ) (xs ys : List ℕ) → s ∷ xs ≡ t ∷ ys → xs ≡ ys
tail s t xs ys same = ap rest same
  where
    rest : List ℕ → List ℕ
    rest [] = []
    rest (x ∷ zs) = zs

-- the first step of a legal list is made, and the rest is legal after it
first_made : (m : Machine) (t : ℕ) (ts : List ℕ) → IsLegal m (t ∷ ts) → (is_ended m t ≡ false) × IsLegal (step m t) ts
first_made m t ts legal = by (is_ended m t) refl legal
  where
    by : (b : Bool) → is_ended m t ≡ b → cond b (kept m ts) (t ∷ kept (step m t) ts) ≡ t ∷ ts → (is_ended m t ≡ false) × IsLegal (step m t) ts
    by true is same = let few = kept_few m ts in let many : length (kept m ts) ≡ suc (length ts) = ap length same in absurd (omega (arith, few, many))
    by false is same = (is, tail t t _ _ same)

-- a thread that has not ended is one of the threads
going_there : (m : Machine) (t : ℕ) → is_ended m t ≡ false → t < length m.threads
unfolding is_ended
going_there m t going = by_found (slice_get m.threads t) refl going
  where
    by_found : (o : Option Thread) → slice_get m.threads t ≡ o → option_map_or (λ (x : Thread). has_ended x.status) o true ≡ false → t < length m.threads
    by_found None is none = absurd (false≢true (sym none))
    by_found (Some x) is goes = slice_get_within m.threads t x is

below : (inputs : Inputs) (k : ℕ) (m : Machine) (steps : List ℕ) → IsReady inputs k m → IsLegal m steps → All (λ t. t < thread_count inputs) steps
below inputs k m [] ready legal = All-nil (λ t. t < thread_count inputs)
below inputs k m (t ∷ ts) ready legal =
    let made = first_made m t ts legal in
    let there = going_there m t made.0 in
    All-cons (λ t. t < thread_count inputs) t ts (omega (arith, there, ready.count)) (below inputs (k + 1) (step m t) ts (ready_step inputs k t m ready) made.1)

number_of_glyph : (n : ℕ) → n < 16 → digit_number (glyph n) ≡ Some n
number_of_glyph n small = grind (arith, nat_tests)

numbers_of_glyphs : (steps : List ℕ) → All (λ n. n < 16) steps → numbers (map glyph steps) ≡ steps
numbers_of_glyphs [] all = refl
numbers_of_glyphs (n ∷ ns) all =
    ap (λ o. cons_option o (numbers (map glyph ns))) (number_of_glyph n (All-head (λ n. n < 16) n ns all))
    ∙ ap (λ l. n ∷ l) (numbers_of_glyphs ns (All-tail (λ n. n < 16) n ns all))

glyph_fits : (threads t : ℕ) → t < 16 → t < threads → IsTrue (is_blank (glyph t) || names_thread threads (glyph t))
glyph_fits threads t small low =
    let own : nat_lt t threads ≡ true = grind (arith, nat_tests) in
    let named : names_thread threads (glyph t) ≡ true = ap (λ o. option_map_or (λ t. nat_lt t threads) o false) (number_of_glyph t small) ∙ own in
    or_right (is_blank (glyph t)) (names_thread threads (glyph t)) named

glyphs_fit : (threads : ℕ) (steps : List ℕ) → threads ≤ 16 → All (λ t. t < threads) steps → All (λ b. IsTrue (is_blank b || names_thread threads b)) (map glyph steps)
glyphs_fit threads [] few all = All-nil (λ b. IsTrue (is_blank b || names_thread threads b))
glyphs_fit threads (t ∷ ts) few all =
    let low = All-head (λ t. t < threads) t ts all in
    All-cons (λ b. IsTrue (is_blank b || names_thread threads b)) (glyph t) (map glyph ts) (glyph_fits threads t (omega (arith, few, low)) low) (glyphs_fit threads ts few (All-tail (λ t. t < threads) t ts all))

all_small : (threads : ℕ) (steps : List ℕ) → threads ≤ 16 → All (λ t. t < threads) steps → All (λ n. n < 16) steps
all_small threads [] few all = All-nil (λ n. n < 16)
all_small threads (t ∷ ts) few all =
    let low = All-head (λ t. t < threads) t ts all in
    All-cons (λ n. n < 16) t ts (omega (arith, few, low)) (all_small threads ts few (All-tail (λ t. t < threads) t ts all))

text_is : (steps : List ℕ) → 1 ≤ length steps → All (λ n. n < 16) steps → steps_text steps ≡ map glyph steps
unfolding steps_text
text_is steps some small =
    let none : (length steps == 0) ≡ false = grind (arith, nat_tests) in
    ap (λ b. if b then codes "-" else flat_map (λ t. digits 16 false t) steps) none ∙ flat_digits steps small

schedule_of_glyphs : (threads : ℕ) (steps : List ℕ) → threads ≤ 16 → All (λ t. t < threads) steps → length steps ≤ MOST_STEPS → IsSchedule threads MOST_STEPS (map glyph steps) steps
schedule_of_glyphs threads steps few all short = record {
  short = (let many = length-map steps glyph in omega (arith, many, short));
  each = glyphs_fit threads steps few all;
  named = sym (numbers_of_glyphs steps (all_small threads steps few all));
  few = short;
}

-- the text of the steps that a report prints is a schedule of them
pub is_listed : (inputs : Inputs) (steps : List ℕ) → CanOpen inputs → IsLegal (start inputs) steps → 1 ≤ length steps → length steps ≤ MOST_STEPS → IsSchedule (thread_count inputs) MOST_STEPS (steps_text steps) steps
is_listed inputs steps can legal some short =
    let ready = ready_start inputs can in
    let few : thread_count inputs ≤ 16 = omega (arith, ready.few, ready.count) in
    let all = below inputs 0 (start inputs) steps ready legal in
    subst (λ (bytes : List ℕ). IsSchedule (thread_count inputs) MOST_STEPS bytes steps) (sym (text_is steps some (all_small (thread_count inputs) steps few all)))
    (schedule_of_glyphs (thread_count inputs) steps few all short)

-- a step of a thread that has not ended takes one of the steps that are left
step_less : (inputs : Inputs) (k : ℕ) (m : Machine) (t : ℕ) → IsReady inputs k m → is_ended m t ≡ false → work (step m t) < work m
unfolding is_ended step_by
step_less inputs k m t ready going = by_found (slice_get m.threads t) refl going
  where
    made : (x : Thread) → slice_get m.threads t ≡ Some x → (after : AfterStep) → thread_outcome guest_calls t m.environment m.serve m.text x x.status ≡ Some after → work (step m t) < work m
    made x found after is =
        let fewer = fewer_steps guest_calls guest_calls_act inputs k t m x ready (whatever m.serve (AllLocal guest_calls) guest_calls_are_local) found after is in
        let same : step m t ≡ after_outcome m t (Some after) = ap (after_thread guest_calls m t) found ∙ ap (after_outcome m t) is in
        subst (λ (a : Machine). work a < work m) (sym same) fewer

    by_status : (x : Thread) → slice_get m.threads t ≡ Some x → (st : ThreadStatus) → x.status ≡ st → has_ended st ≡ false → work (step m t) < work m
    by_status x found Running is goes = made x found _ (ap (λ (st : ThreadStatus). thread_outcome guest_calls t m.environment m.serve m.text x st) is)
    by_status x found Idle is goes = made x found _ (ap (λ (st : ThreadStatus). thread_outcome guest_calls t m.environment m.serve m.text x st) is)
    by_status x found (Done code) is goes = absurd (false≢true (sym goes))
    by_status x found (Faulted f) is goes = absurd (false≢true (sym goes))

    by_found : (o : Option Thread) → slice_get m.threads t ≡ o → option_map_or (λ (x : Thread). has_ended x.status) o true ≡ false → work (step m t) < work m
    by_found None is none = absurd (false≢true (sym none))
    by_found (Some x) is goes = by_status x is x.status refl goes

legal_short : (inputs : Inputs) (k : ℕ) (m : Machine) (steps : List ℕ) → IsReady inputs k m → IsLegal m steps → length steps ≤ work m
legal_short inputs k m [] ready legal = omega arith
legal_short inputs k m (t ∷ ts) ready legal =
    let made = first_made m t ts legal in
    let less = step_less inputs k m t ready made.0 in
    let rest = legal_short inputs (k + 1) (step m t) ts (ready_step inputs k t m ready) made.1 in
    omega (arith, less, rest)

-- the first thread has not ended at the start
first_going : (inputs : Inputs) → CanOpen inputs → is_ended (start inputs) 0 ≡ false
unfolding is_ended start first_threads first_workers
first_going inputs can = by_job inputs.settings.job (ready_start inputs can).some
  where
    by_entries : (budget : ℕ) (entries : List ℕ) → 1 ≤ length (first_threads budget entries) → option_map_or (λ (x : Thread). has_ended x.status) (slice_get (first_threads budget entries) 0) true ≡ false
    by_entries budget [] some = absurd (omega (arith, some))
    by_entries budget (e ∷ es) some = refl

    by_workers : (entry workers : ℕ) → 1 ≤ length (first_workers entry workers) → option_map_or (λ (x : Thread). has_ended x.status) (slice_get (first_workers entry workers) 0) true ≡ false
    by_workers entry zero some = absurd (omega (arith, some))
    by_workers entry (suc n) some = refl

    by_job : (job : Job) → 1 ≤ length (threads_at inputs.image inputs.settings.budget job) → option_map_or (λ (x : Thread). has_ended x.status) (slice_get (threads_at inputs.image inputs.settings.budget job) 0) true ≡ false
    by_job jobs.Run some = by_entries inputs.settings.budget inputs.image.entries some
    by_job (jobs.Serve workers) some = by_workers (first_entry inputs.image) workers some

some_step : (inputs : Inputs) (steps : List ℕ) → CanOpen inputs → IsComplete (start inputs) steps → 1 ≤ length steps
some_step inputs [] can complete = absurd (false≢true (sym (first_going inputs can) ∙ complete.ended 0))
some_step inputs (t ∷ ts) can complete = omega arith

-- the text of the steps of a complete history is a schedule of them
pub complete_listed : (inputs : Inputs) (steps : List ℕ) → CanOpen inputs → IsComplete (start inputs) steps → work (start inputs) ≤ MOST_STEPS → IsSchedule (thread_count inputs) MOST_STEPS (steps_text steps) steps
complete_listed inputs steps can complete few =
    let short = legal_short inputs 0 (start inputs) steps (ready_start inputs can) complete.legal in
    is_listed inputs steps can complete.legal (some_step inputs steps can complete) (omega (arith, short, few))

pub same_report : (inputs : Inputs) (steps : List ℕ) → IsLegal (start inputs) steps → report_of_schedule inputs steps ≡ report_after inputs steps
unfolding report_of_schedule
same_report inputs steps legal = ap (report_after inputs) legal
