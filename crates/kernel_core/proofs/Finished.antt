-- What the last step of a thread finished.
use Rattle.std.proofs.Common.{◌≡◌, ◌≢◌, ℕ, refl, sym, ap, subst, ◌∙◌, Bool, true, false, cond, eqb, ltb, Option, Some, None, List, [], ◌∷◌, ◌++◌, length, arith}
use Rattle.std.specs.Prelude.{slice_get}
use Rattle.std.specs.Option.{option_map_or}
use Rattle.std.proofs.lemmas.Bool.Decides.{nat_tests}
use Rattle.std.proofs.lemmas.Bool.{false≢true}
use Rattle.guest_isa.specs.declared.instr.Instr.{Instr}
use Rattle.guest_machine.specs.Advances.{advanced}
use Rattle.kernel_core.proofs.Others.{found_set, step_leaves}
use Rattle.kernel_core.specs.Machine.{Environment, Machine, Serve, has_ended, is_ended}
use Rattle.kernel_core.specs.Runs.{last_finished, run}
use Rattle.kernel_core.specs.Step.{AfterStep, Outcome, advance_outcome, after_outcome, after_thread, begin_next, finish, finished_in, finished_of, finishes, guest_calls, only, step, step_by, thread_outcome, unchanged, with_status}
use Rattle.kernel_core.specs.declared.thread.Thread.{Thread}
use Rattle.lwc_types.specs.declared.fault.ThreadStatus.{ThreadStatus}
use Rattle.lwc_types.specs.declared.fault.ThreadStatus.TheVariants.{Idle, Running, Done, Faulted}
use Rattle.snapshot_host.specs.declared.finishing.Finished.{Finished}

-- one more step
pub finished-push : (m : Machine) (ts : List ℕ) (s t : ℕ) (before : Option Finished) →
    last_finished m (ts ++ s ∷ []) t before ≡ cond (eqb s t) (finishes (run m ts) t) (last_finished m ts t before)
finished-push m [] s t before = refl
finished-push m (u ∷ ts) s t before = finished-push (step m u) ts s t (cond (eqb u t) (finishes m t) before)

settled_quiet : (t : ℕ) (s : Serve) (outcome : Outcome) (b : Bool) → has_ended (cond b (finish t s outcome) (only (Some s) outcome)).thread.status ≡ true → (cond b (finish t s outcome) (only (Some s) outcome)).finished ≡ None
settled_quiet t s outcome true ended = cc
settled_quiet t s outcome false ended = refl

woken_quiet : (t : ℕ) (s : Serve) (e : Environment) (x : Thread) (b : Bool) → (cond b (begin_next t s e) (only (Some s) (unchanged e (with_status x (Done 0))))).finished ≡ None
woken_quiet t s e x true = refl
woken_quiet t s e x false = refl

-- a step that ends its thread finishes nothing
quiet : (t : ℕ) (e : Environment) (serve : Option Serve) (text : List Instr) (x : Thread) (status : ThreadStatus) (after : AfterStep) → thread_outcome guest_calls t e serve text x status ≡ Some after →
    has_ended after.thread.status ≡ true → after.finished ≡ None
quiet t e None text x Running after made ended = let is : only None (advance_outcome guest_calls t e x (advanced text x.regs)) ≡ after = cc in ap (λ (a : AfterStep). a.finished) (sym is)
quiet t e None text x Idle after made ended = let is : only None (unchanged e (with_status x (Done 0))) ≡ after = cc in ap (λ (a : AfterStep). a.finished) (sym is)
quiet t e (Some s) text x Running after made ended =
    let outcome = advance_outcome guest_calls t e x (advanced text x.regs) in
    let is : cond (has_ended outcome.thread.status) (finish t s outcome) (only (Some s) outcome) ≡ after = cc in
    ap (λ (a : AfterStep). a.finished) (sym is) ∙ settled_quiet t s outcome (has_ended outcome.thread.status) (ap (λ (a : AfterStep). has_ended a.thread.status) is ∙ ended)
quiet t e (Some s) text x Idle after made ended =
    let is : cond (ltb s.next (length e.channels.requests)) (begin_next t s e) (only (Some s) (unchanged e (with_status x (Done 0)))) ≡ after = cc in
    ap (λ (a : AfterStep). a.finished) (sym is) ∙ woken_quiet t s e x (ltb s.next (length e.channels.requests))
quiet t e serve text x (Done code) after made ended = cc
quiet t e serve text x (Faulted f) after made ended = cc

quiet_made : (m : Machine) (t : ℕ) (x : Thread) (made : Option AfterStep) → slice_get m.threads t ≡ Some x → thread_outcome guest_calls t m.environment m.serve m.text x x.status ≡ made →
    option_map_or (λ y. has_ended y.status) (slice_get (after_outcome m t made).threads t) true ≡ true → finished_in made ≡ None
quiet_made m t x None found made ended = refl
quiet_made m t x (Some after) found made ended =
    quiet t m.environment m.serve m.text x x.status after made (sym (ap (λ o. option_map_or (λ (y : Thread). has_ended y.status) o true) (found_set m.threads t x after.thread found)) ∙ ended)

quiet_found : (m : Machine) (t : ℕ) (found : Option Thread) → slice_get m.threads t ≡ found → option_map_or (λ y. has_ended y.status) (slice_get (after_thread guest_calls m t found).threads t) true ≡ true → finished_of m t found ≡ None
quiet_found m t None is ended = refl
quiet_found m t (Some x) is ended = quiet_made m t x _ is refl ended

quiet_step : (m : Machine) (t : ℕ) → is_ended (step m t) t ≡ true → finishes m t ≡ None
unfolding is_ended step_by finishes
quiet_step m t ended = quiet_found m t (slice_get m.threads t) refl ended

others_ended : (m : Machine) (s t : ℕ) → s ≢ t → is_ended (step m s) t ≡ is_ended m t
unfolding is_ended
others_ended m s t other = ap (λ o. option_map_or (λ (y : Thread). has_ended y.status) o true) (step_leaves m s t other)

still_none : (m : Machine) (s t : ℕ) (before : Option Finished) (b : Bool) → eqb s t ≡ b → (is_ended m t ≡ true → before ≡ None) → is_ended (step m s) t ≡ true → cond b (finishes m t) before ≡ None
still_none m s t before true is none ended =
    let same : s ≡ t = grind (arith, nat_tests) in quiet_step m t (subst (λ (k : ℕ). is_ended (step m k) t ≡ true) same ended)
still_none m s t before false is none ended = none (sym (same_ended (λ same. other_number s t is same)) ∙ ended)
  where
    other_number : (a b : ℕ) → eqb a b ≡ false → a ≢ b
    other_number a b differ same = let itself : eqb a b ≡ true = grind (arith, nat_tests) in false≢true (sym differ ∙ itself)

    same_ended : s ≢ t → is_ended (step m s) t ≡ is_ended m t
    same_ended other = others_ended m s t other

-- a thread that has ended had nothing to finish
pub ended_none : (m : Machine) (ts : List ℕ) (t : ℕ) (before : Option Finished) → (is_ended m t ≡ true → before ≡ None) → is_ended (run m ts) t ≡ true → last_finished m ts t before ≡ None
ended_none m [] t before none ended = none ended
ended_none m (s ∷ ts) t before none ended =
    ended_none (step m s) ts t (cond (eqb s t) (finishes m t) before) (λ now. still_none m s t before (eqb s t) refl none now) ended
