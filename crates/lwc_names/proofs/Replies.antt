-- What is recorded of a request by itself, and the frames that it takes, under every number.
use Rattle.std.proofs.Common.{◌≡◌, ◌≤◌, ◌⊎◌, inl, inr, ℕ, zero, suc, ◌+◌, ◌-◌, refl, sym, ap, ap₂, ◌∙◌, Bool, true, false, cond, ltb, Option, Some, None, List, [], ◌∷◌, ◌++◌, length, map, get_or, arith}
use Rattle.std.specs.Prelude.{max, replicate, slice_get, slice_set}
use Rattle.std.specs.Option.{option_map}
use Rattle.guest_image.specs.declared.image.Image.{Image}
use Rattle.guest_machine.specs.Advances.{advanced}
use Rattle.kernel_core.specs.Machine.{Environment, Machine, Serve, has_ended, in_serve, reply_of}
use Rattle.kernel_core.specs.Runs.{run}
use Rattle.kernel_core.specs.Start.{start}
use Rattle.kernel_core.specs.Step as steps
use Rattle.kernel_core.specs.Step.{AfterStep, Outcome, after_outcome, after_thread, guest_calls, step, step_by, thread_outcome}
use Rattle.kernel_core.specs.declared.thread.Thread.{Thread}
use Rattle.lwc_types.specs.declared.fault.ThreadStatus.{ThreadStatus}
use Rattle.lwc_types.specs.declared.fault.ThreadStatus.TheVariants.{Idle, Running, Done, Faulted}
use Rattle.lwc_names.proofs.Runs.{most-shifted, run-shifted}
use Rattle.lwc_names.proofs.Starts.{alone-acts, start-shifted}
use Rattle.lwc_names.specs.Machines.{shifted_machine, shifted_reply, shifted_serve}
use Rattle.lwc_names.specs.Numbered.{numbered}
use Rattle.request_isolation.specs.Alone.{alone_in, ample, start_alone, steps_alone}
use Rattle.request_isolation.specs.Needs.{extra, greatest_extra, most_used}
use Rattle.snapshot_host.specs.declared.finishing.Finished.{Finished}

-- what is recorded at a place once another place was set
recorded_cases : (xs : List (Option Finished)) (i j : ℕ) (f g : Finished) → get_or (slice_set xs i (Some f)) j None ≡ Some g → ((i ≡ j) × (f ≡ g)) ⊎ (get_or xs j None ≡ Some g)
recorded_cases [] i j f g is = inr is
recorded_cases (y ∷ ys) zero zero f g is = inl (refl, cc)
recorded_cases (y ∷ ys) zero (suc j) f g is = inr is
recorded_cases (y ∷ ys) (suc i) zero f g is = inr is
recorded_cases (y ∷ ys) (suc i) (suc j) f g is =
    elim (recorded_cases ys i j f g is) [
      | inl new ↦ inl (ap suc new.0, new.1)
      | inr old ↦ inr old
    ]

-- each recorded reply bears the number of its request
abbrev BearNumbers : Option Serve → Type 0
BearNumbers serve = (q : ℕ) (f : Finished) → in_serve serve q ≡ Some f → f.request ≡ q

settled-bear : (t : ℕ) (serve : Option Serve) (o : Outcome) → BearNumbers serve → BearNumbers (steps.settled t serve o).serve
settled-bear t None o bear = bear
settled-bear t (Some s) o bear = by_end (has_ended o.thread.status)
  where
    by_end : (b : Bool) → BearNumbers (cond b (steps.finish t s o) (steps.only (Some s) o)).serve
    by_end true q f is =
        let own = steps.finished_by o.thread o.environment.channels in
        elim (recorded_cases s.replies own.request q own f is) [
          | inl new ↦ ap (λ (g : Finished). g.request) (sym new.1) ∙ new.0
          | inr old ↦ bear q f old
        ]
    by_end false q f is = bear q f is

woken-bear : (t : ℕ) (serve : Option Serve) (e : Environment) (x : Thread) → BearNumbers serve → BearNumbers (steps.woken t serve e x).serve
woken-bear t None e x bear = bear
woken-bear t (Some s) e x bear = by_next (ltb s.next (length e.channels.requests))
  where
    by_next : (b : Bool) → BearNumbers (cond b (steps.begin_next t s e) (steps.only (Some s) (steps.unchanged e (steps.with_status x (Done 0))))).serve
    by_next true q f is = bear q f is
    by_next false q f is = bear q f is

bear_after : (t : ℕ) (m : Machine) (x : Thread) (status : ThreadStatus) → BearNumbers m.serve → BearNumbers (after_outcome m t (thread_outcome guest_calls t m.environment m.serve m.text x status)).serve
bear_after t m x Running bear = settled-bear t m.serve (steps.advance_outcome guest_calls t m.environment x (advanced m.text x.regs)) bear
bear_after t m x Idle bear = woken-bear t m.serve m.environment x bear
bear_after t m x (Done code) bear = bear
bear_after t m x (Faulted f) bear = bear

found-bear : (t : ℕ) (m : Machine) (found : Option Thread) → BearNumbers m.serve → BearNumbers (after_thread guest_calls m t found).serve
found-bear t m None bear = bear
found-bear t m (Some x) bear = bear_after t m x x.status bear

step-bear : (t : ℕ) (m : Machine) → BearNumbers m.serve → BearNumbers (step m t).serve
unfolding step_by
step-bear t m bear = found-bear t m (slice_get m.threads t) bear

run-bear : (m : Machine) (ts : List ℕ) → BearNumbers m.serve → BearNumbers (run m ts).serve
run-bear m [] bear = bear
run-bear m (t ∷ ts) bear = run-bear (step m t) ts (step-bear t m bear)

none_yet : Option Finished
none_yet = None

start-bear : (image : Image) (frames budget : ℕ) (bytes : List ℕ) → BearNumbers (start_alone image frames budget 0 bytes).serve
unfolding start start_alone
start-bear image frames budget bytes zero f is = cc
start-bear image frames budget bytes (suc q) f is = cc

-- what is recorded of a request this many numbers further on
reply_past : (r : ℕ) (replies : List (Option Finished)) → get_or (replicate r None ++ map (option_map (shifted_reply r)) replies) r None ≡ option_map (shifted_reply r) (get_or replies 0 None)
reply_past r replies = past r
  where
    first : (rs : List (Option Finished)) → get_or (map (option_map (shifted_reply r)) rs) 0 None ≡ option_map (shifted_reply r) (get_or rs 0 None)
    first [] = refl
    first (x ∷ xs) = refl

    past : (n : ℕ) → get_or (replicate n None ++ map (option_map (shifted_reply r)) replies) n None ≡ option_map (shifted_reply r) (get_or replies 0 None)
    past zero = first replies
    past (suc n) = past n

in_shifted : (r : ℕ) (serve : Option Serve) → in_serve (option_map (shifted_serve r) serve) r ≡ option_map (shifted_reply r) (in_serve serve 0)
in_shifted r None = refl
in_shifted r (Some s) = reply_past r s.replies

reply-shifted : (r : ℕ) (m : Machine) → reply_of (shifted_machine r m) r ≡ option_map (shifted_reply r) (reply_of m 0)
unfolding reply_of shifted_machine
reply-shifted r m = in_shifted r m.serve

-- and of request 0 under another number
as_numbered : (r : ℕ) (o : Option Finished) → ((f : Finished) → o ≡ Some f → f.request ≡ 0) → option_map (shifted_reply r) o ≡ option_map (numbered r) o
as_numbered r None bear = refl
as_numbered r (Some f) bear = let number : f.request + r ≡ r = omega (arith, bear f refl) in λ i. Some (record f { request = number i })

pub alone-numbered : (frames : ℕ) (image : Image) (budget r : ℕ) (bytes : List ℕ) → alone_in frames image budget r bytes ≡ option_map (numbered r) (alone_in frames image budget 0 bytes)
unfolding reply_of
alone-numbered frames image budget r bytes =
    let first = start_alone image frames budget 0 bytes in
    ap (λ (m : Machine). reply_of (run m (steps_alone budget)) r) (start-shifted r image frames budget bytes)
    ∙ ap (λ (m : Machine). reply_of m r) (run-shifted r first (steps_alone budget) (alone-acts image frames budget bytes))
    ∙ reply-shifted r (run first (steps_alone budget))
    ∙ as_numbered r (reply_of (run first (steps_alone budget)) 0) (run-bear first (steps_alone budget) (start-bear image frames budget bytes) 0)

pub extra-same : (image : Image) (budget r : ℕ) (bytes : List ℕ) → extra image budget r bytes ≡ extra image budget 0 bytes
unfolding extra
extra-same image budget r bytes =
    let first = start_alone image (ample image budget) budget 0 bytes in
    ap (λ n. n - length image.pages)
    (ap (λ (m : Machine). most_used m (steps_alone budget)) (start-shifted r image (ample image budget) budget bytes)
    ∙ most-shifted r first (steps_alone budget) (alone-acts image (ample image budget) budget bytes))

greatest-same : (image : Image) (budget r q : ℕ) (requests : List (List ℕ)) → greatest_extra image budget r requests ≡ greatest_extra image budget q requests
greatest-same image budget r q [] = refl
greatest-same image budget r q (bytes ∷ rest) =
    ap₂ max (extra-same image budget r bytes ∙ sym (extra-same image budget q bytes)) (greatest-same image budget (r + 1) (q + 1) rest)

-- the frames of a part are those of a part of all
greatest-begins : (image : Image) (budget r : ℕ) (part after : List (List ℕ)) → greatest_extra image budget r part ≤ greatest_extra image budget r (part ++ after)
greatest-begins image budget r [] after = omega arith
greatest-begins image budget r (bytes ∷ rest) after =
    let later = greatest-begins image budget (r + 1) rest after in omega (arith, later)

greatest-ends : (image : Image) (budget r : ℕ) (before part : List (List ℕ)) → greatest_extra image budget r part ≤ greatest_extra image budget r (before ++ part)
greatest-ends image budget r [] part = omega arith
greatest-ends image budget r (bytes ∷ rest) part =
    let later = greatest-ends image budget (r + 1) rest part in
    let same = greatest-same image budget r (r + 1) part in omega (arith, later, same)

pub greatest-part : (image : Image) (budget : ℕ) (before part after : List (List ℕ)) → greatest_extra image budget 0 part ≤ greatest_extra image budget 0 (before ++ (part ++ after))
greatest-part image budget before part after =
    let begins = greatest-begins image budget 0 part after in
    let ends = greatest-ends image budget 0 before (part ++ after) in omega (arith, begins, ends)
