-- One more step at the end of a run.
use Rattle.std.proofs.Common.{◌≡◌, ℕ, refl, sym, ap, ◌∙◌, Bool, true, false, cond, List, [], ◌∷◌, ◌++◌, ◌≤◌, Option, Some, None, arith}
use Rattle.std.specs.Prelude.{max, slice_get}
use Rattle.std.specs.Option.{option_map_or}
use Rattle.kernel_core.specs.Machine.{Machine, has_ended, is_ended}
use Rattle.kernel_core.specs.Runs.{frames_of, kept, peak, run}
use Rattle.kernel_core.specs.Step.{after_outcome, after_thread, guest_calls, step, step_by, thread_outcome}
use Rattle.kernel_core.specs.declared.thread.Thread.{Thread}
use Rattle.lwc_types.specs.declared.fault.ThreadStatus.{ThreadStatus}
use Rattle.lwc_types.specs.declared.fault.ThreadStatus.TheVariants.{Idle, Running, Done, Faulted}

pub run-push : (m : Machine) (ts : List ℕ) (t : ℕ) → run m (ts ++ t ∷ []) ≡ step (run m ts) t
run-push m [] t = refl
run-push m (s ∷ ts) t = run-push (step m s) ts t

max-assoc : (a b c : ℕ) → max a (max b c) ≡ max (max a b) c
max-assoc a b c = omega arith

pub peak-push : (m : Machine) (ts : List ℕ) (t : ℕ) → peak m (ts ++ t ∷ []) ≡ max (peak m ts) (frames_of (step (run m ts) t))
peak-push m [] t = refl
peak-push m (s ∷ ts) t =
    ap (max (frames_of m)) (peak-push (step m s) ts t)
    ∙ max-assoc (frames_of m) (peak (step m s) ts) (frames_of (step (run (step m s) ts) t))

keep_by : (m : Machine) (t : ℕ) (ts : List ℕ) (b : Bool) → is_ended m t ≡ b → kept m (kept m ts) ≡ kept m ts → kept (step m t) (kept (step m t) ts) ≡ kept (step m t) ts →
    kept m (cond b (kept m ts) (t ∷ kept (step m t) ts)) ≡ cond b (kept m ts) (t ∷ kept (step m t) ts)
keep_by m t ts true ended here there = here
keep_by m t ts false ended here there = ap (λ b. cond b (kept m (kept (step m t) ts)) (t ∷ kept (step m t) (kept (step m t) ts))) ended ∙ ap (λ l. t ∷ l) there

-- of kept steps all are kept
pub kept_twice : (m : Machine) (ts : List ℕ) → kept m (kept m ts) ≡ kept m ts
kept_twice m [] = refl
kept_twice m (t ∷ ts) = keep_by m t ts (is_ended m t) refl (kept_twice m ts) (kept_twice (step m t) ts)

rests_by : (m : Machine) (t : ℕ) (x : Thread) (status : ThreadStatus) → has_ended status ≡ true → after_outcome m t (thread_outcome guest_calls t m.environment m.serve m.text x status) ≡ m
rests_by m t x Idle ended = cc
rests_by m t x Running ended = cc
rests_by m t x (Done code) ended = refl
rests_by m t x (Faulted f) ended = refl

rests_at : (m : Machine) (t : ℕ) (found : Option Thread) → option_map_or (λ x. has_ended x.status) found true ≡ true → after_thread guest_calls m t found ≡ m
rests_at m t None ended = refl
rests_at m t (Some x) ended = rests_by m t x x.status ended

-- a step of a thread that has ended changes nothing
pub step_of_ended : (m : Machine) (t : ℕ) → is_ended m t ≡ true → step m t ≡ m
unfolding is_ended step_by
step_of_ended m t ended = rests_at m t (slice_get m.threads t) ended

run_by : (m : Machine) (t : ℕ) (ts : List ℕ) (b : Bool) → is_ended m t ≡ b → run m (kept m ts) ≡ run m ts → run (step m t) (kept (step m t) ts) ≡ run (step m t) ts →
    run m (cond b (kept m ts) (t ∷ kept (step m t) ts)) ≡ run (step m t) ts
run_by m t ts true ended here there = here ∙ ap (λ k. run k ts) (sym (step_of_ended m t ended))
run_by m t ts false ended here there = there

-- to run the kept steps is to run the steps
pub run_kept : (m : Machine) (ts : List ℕ) → run m (kept m ts) ≡ run m ts
run_kept m [] = refl
run_kept m (t ∷ ts) = run_by m t ts (is_ended m t) refl (run_kept m ts) (run_kept (step m t) ts)

-- a run uses at some time what it uses at first, and at last
used_first : (m : Machine) (ts : List ℕ) → frames_of m ≤ peak m ts
used_first m [] = omega arith
used_first m (t ∷ ts) = omega arith

pub used_last : (m : Machine) (ts : List ℕ) → frames_of (run m ts) ≤ peak m ts
used_last m [] = omega arith
used_last m (t ∷ ts) = omega (arith, used_last (step m t) ts)

absorbed : (a b : ℕ) → a ≤ b → b ≡ max a b
absorbed a b h = omega arith

peak_by : (m : Machine) (t : ℕ) (ts : List ℕ) (b : Bool) → is_ended m t ≡ b → peak m (kept m ts) ≡ peak m ts → peak (step m t) (kept (step m t) ts) ≡ peak (step m t) ts →
    peak m (cond b (kept m ts) (t ∷ kept (step m t) ts)) ≡ max (frames_of m) (peak (step m t) ts)
peak_by m t ts true ended here there =
    here ∙ absorbed (frames_of m) (peak m ts) (used_first m ts) ∙ ap (λ k. max (frames_of m) (peak k ts)) (sym (step_of_ended m t ended))
peak_by m t ts false ended here there = ap (max (frames_of m)) there

-- the kept steps use as many frames
pub peak_kept : (m : Machine) (ts : List ℕ) → peak m (kept m ts) ≡ peak m ts
peak_kept m [] = refl
peak_kept m (t ∷ ts) = peak_by m t ts (is_ended m t) refl (peak_kept m ts) (peak_kept (step m t) ts)

chosen_cons : {X : Type 0} (b : Bool) (t : X) (xs ys : List X) → t ∷ cond b xs ys ≡ cond b (t ∷ xs) (t ∷ ys)
chosen_cons true t xs ys = refl
chosen_cons false t xs ys = refl

next_by : (m : Machine) (s t : ℕ) (ts : List ℕ) (b : Bool) → is_ended m s ≡ b →
    kept m (ts ++ t ∷ []) ≡ cond (is_ended (run m ts) t) (kept m ts) (kept m ts ++ t ∷ []) →
    kept (step m s) (ts ++ t ∷ []) ≡ cond (is_ended (run (step m s) ts) t) (kept (step m s) ts) (kept (step m s) ts ++ t ∷ []) →
    cond b (kept m (ts ++ t ∷ [])) (s ∷ kept (step m s) (ts ++ t ∷ []))
    ≡ cond (is_ended (run (step m s) ts) t) (cond b (kept m ts) (s ∷ kept (step m s) ts)) (cond b (kept m ts) (s ∷ kept (step m s) ts) ++ t ∷ [])
next_by m s t ts true ended here there =
    here ∙ ap (λ k. cond (is_ended (run k ts) t) (kept m ts) (kept m ts ++ t ∷ [])) (sym (step_of_ended m s ended))
next_by m s t ts false ended here there =
    ap (λ l. s ∷ l) there ∙ chosen_cons (is_ended (run (step m s) ts) t) s (kept (step m s) ts) (kept (step m s) ts ++ t ∷ [])

-- one more step is kept unless its thread has ended
pub kept_next : (m : Machine) (ts : List ℕ) (t : ℕ) → kept m (ts ++ t ∷ []) ≡ cond (is_ended (run m ts) t) (kept m ts) (kept m ts ++ t ∷ [])
kept_next m [] t = refl
kept_next m (s ∷ ts) t = next_by m s t ts (is_ended m s) refl (kept_next m ts t) (kept_next (step m s) ts t)
