-- A step of a machine as a whole, under other numbers.
use Rattle.std.proofs.Common.{◌≡◌, ℕ, zero, suc, ◌+◌, ◌-◌, ◌≤◌, refl, sym, ap, ◌∙◌, cond, ltb, Option, Some, None, List, [], ◌∷◌, ◌++◌, length, map, arith, length-append}
use Rattle.std.proofs.lemmas.Bool.Decides.{nat_tests}
use Rattle.std.proofs.lemmas.List.{length-replicate}
use Rattle.std.specs.Prelude.{replicate, slice_get, slice_set}
use Rattle.std.specs.List.{range_with_len}
use Rattle.std.specs.Option.{option_map}
use Rattle.guest_isa.specs.declared.instr.Instr.{Instr}
use Rattle.guest_machine.specs.Advances.{advanced}
use Rattle.kernel_core.specs.Machine.{Environment, Machine, Serve, has_ended, home_of, homes}
use Rattle.kernel_core.specs.Step as steps
use Rattle.kernel_core.specs.Step.{AfterStep, Outcome, after_outcome, after_thread, contexts_of, guest_calls, roots, step, step_by, thread_outcome}
use Rattle.kernel_core.specs.declared.thread.Thread.{Thread}
use Rattle.lwc_base.specs.Channels.{Channels, bytes_in}
use Rattle.lwc_base.specs.Life as life
use Rattle.lwc_base.specs.World.{World}
use Rattle.lwc_types.specs.declared.fault.ThreadStatus.{ThreadStatus}
use Rattle.lwc_types.specs.declared.fault.ThreadStatus.TheVariants.{Idle, Running, Done, Faulted}
use Rattle.lwc_names.proofs.Acts.{advance-job}
use Rattle.lwc_names.proofs.Frames.{map-append}
use Rattle.lwc_names.proofs.Links.{begin-shifted}
use Rattle.lwc_names.proofs.Outcomes.{shifted_after, shifted_outcome}
use Rattle.lwc_names.proofs.Plains.{past, pick}
use Rattle.lwc_names.proofs.Reaps.{maps, reap-shifted}
use Rattle.lwc_names.proofs.Steps.{advance-shifted}
use Rattle.lwc_names.proofs.Worlds.{context-shifted}
use Rattle.lwc_names.specs.Machines.{EachActsForItsJob, shifted_environment, shifted_machine, shifted_reply, shifted_serve, shifted_thread}
use Rattle.lwc_names.specs.Shifts.{shifted_channels, shifted_job, shifted_name, shifted_world}
use Rattle.snapshot_host.specs.declared.finishing.Finished.{Finished}

set_past : {A : Type 0} (r q : ℕ) (y x : A) (xs : List A) → slice_set (replicate r y ++ xs) (q + r) x ≡ replicate r y ++ slice_set xs q x
set_past zero q y x xs = let none : q + 0 ≡ q = omega arith in ap (λ i. slice_set xs i x) none
set_past (suc r) q y x xs = let one : q + suc r ≡ suc (q + r) = omega arith in ap (λ i. slice_set (y ∷ (replicate r y ++ xs)) i x) one ∙ ap (λ l. y ∷ l) (set_past r q y x xs)

set_map : {A B : Type 0} (f : A → B) (xs : List A) (i : ℕ) (x : A) → slice_set (map f xs) i (f x) ≡ map f (slice_set xs i x)
set_map f [] i x = refl
set_map f (y ∷ ys) zero x = refl
set_map f (y ∷ ys) (suc i) x = ap (λ l. f y ∷ l) (set_map f ys i x)

pub get_map : {A B : Type 0} (f : A → B) (xs : List A) (i : ℕ) → slice_get (map f xs) i ≡ option_map f (slice_get xs i)
get_map f [] i = refl
get_map f (y ∷ ys) zero = refl
get_map f (y ∷ ys) (suc i) = get_map f ys i

module _ (r : ℕ) where
  job-shifted : (q : ℕ) → (q + r) + 1 ≡ shifted_job r (q + 1)
  job-shifted q = let sum : (q + r) + 1 ≡ suc q + r = omega arith in let one : suc q ≡ q + 1 = omega arith in sum ∙ ap (shifted_job r) one

  request-shifted : (job : ℕ) → 1 ≤ job → shifted_job r job - 1 ≡ (job - 1) + r
  request-shifted zero some = absurd (omega (arith, some))
  request-shifted (suc j) some = omega arith

  finished_by-shifted : (x : Thread) (io : Channels) → 1 ≤ x.job → steps.finished_by (shifted_thread r x) (shifted_channels r io) ≡ shifted_reply r (steps.finished_by x io)
  unfolding shifted_channels
  finished_by-shifted x io some =
      let request = request-shifted x.job some in
      λ i. record { request = request i; status = x.status; bytes = (ap (bytes_in (replicate r [] ++ io.replies)) request ∙ past r (x.job - 1) io.replies) i }

  with_reply-shifted : (s : Serve) (f : Finished) → steps.with_reply (shifted_serve r s) (shifted_reply r f) ≡ shifted_serve r (steps.with_reply s f)
  with_reply-shifted s f =
      λ i. record (shifted_serve r s) {
        replies = (set_past r f.request None (Some (shifted_reply r f)) (map (option_map (shifted_reply r)) s.replies) ∙ ap (λ l. replicate r None ++ l) (set_map (option_map (shifted_reply r)) s.replies f.request (Some f))) i;
      }

  finish-shifted : (t : ℕ) (s : Serve) (o : Outcome) → 1 ≤ o.thread.job → steps.finish t (shifted_serve r s) (shifted_outcome r o) ≡ shifted_after r (steps.finish t s o)
  finish-shifted t s o some =
      let home = context-shifted r o.environment.world (home_of t) in
      let f = steps.finished_by o.thread o.environment.channels in
      let finished = finished_by-shifted o.thread o.environment.channels some in
      (λ i. record { thread = steps.waiting (home_of t) ((home i).entry); environment = shifted_environment r o.environment; serve = Some (steps.with_reply (shifted_serve r s) (finished i)); finished = Some (finished i) })
      ∙ (λ i. record { thread = steps.waiting (home_of t) (steps.finish t s o).thread.regs; environment = shifted_environment r o.environment; serve = Some (with_reply-shifted s f i); finished = Some (shifted_reply r f) })

  settled-shifted : (t : ℕ) (serve : Option Serve) (o : Outcome) → 1 ≤ o.thread.job → steps.settled t (option_map (shifted_serve r) serve) (shifted_outcome r o) ≡ shifted_after r (steps.settled t serve o)
  settled-shifted t None o some = refl
  settled-shifted t (Some s) o some = pick (shifted_after r) (has_ended o.thread.status) (steps.finish t s o) (steps.only (Some s) o) _ _ (finish-shifted t s o some) refl

  more_requests : (io : Channels) (q : ℕ) → ltb (q + r) (length (shifted_channels r io).requests) ≡ ltb q (length io.requests)
  unfolding shifted_channels
  more_requests io q =
      let long : length (replicate r [] ++ io.requests) ≡ r + length io.requests = length-append (replicate r []) io.requests ∙ ap (λ n. n + length io.requests) (length-replicate r []) in
      ap (ltb (q + r)) long ∙ grind (arith, nat_tests)

  begin_next-shifted : (t : ℕ) (s : Serve) (e : Environment) → steps.begin_next t (shifted_serve r s) (shifted_environment r e) ≡ shifted_after r (steps.begin_next t s e)
  begin_next-shifted t s e =
      let home = context-shifted r e.world (home_of t) in
      let later : (s.next + r) + 1 ≡ (s.next + 1) + r = omega arith in
      λ i. record {
        thread = record { status = Running; context = record { job = job-shifted s.next i; k = 0 }; regs = (home i).entry; job = job-shifted s.next i; budget = s.budget };
        environment = record { world = begin-shifted r e.world (home_of t) s.next i; channels = shifted_channels r e.channels };
        serve = Some (record (shifted_serve r s) { next = later i });
        finished = None;
      }

  woken-shifted : (t : ℕ) (serve : Option Serve) (e : Environment) (x : Thread) → steps.woken t (option_map (shifted_serve r) serve) (shifted_environment r e) (shifted_thread r x) ≡ shifted_after r (steps.woken t serve e x)
  woken-shifted t None e x = refl
  woken-shifted t (Some s) e x =
      (λ i. cond (more_requests e.channels s.next i) (steps.begin_next t (shifted_serve r s) (shifted_environment r e)) (steps.only (Some (shifted_serve r s)) (steps.unchanged (shifted_environment r e) (steps.with_status (shifted_thread r x) (Done 0)))))
      ∙ pick (shifted_after r) (ltb s.next (length e.channels.requests)) (steps.begin_next t s e) (steps.only (Some s) (steps.unchanged e (steps.with_status x (Done 0)))) _ _ (begin_next-shifted t s e) refl

  pub thread-shifted : (t : ℕ) (e : Environment) (serve : Option Serve) (text : List Instr) (x : Thread) (status : ThreadStatus) → (status ≡ Running → 1 ≤ x.job) →
      thread_outcome guest_calls t (shifted_environment r e) (option_map (shifted_serve r) serve) text (shifted_thread r x) status ≡ option_map (shifted_after r) (thread_outcome guest_calls t e serve text x status)
  thread-shifted t e serve text x Running some =
      let o = steps.advance_outcome guest_calls t e x (advanced text x.regs) in
      let own : 1 ≤ o.thread.job = omega (arith, some refl, advance-job t e x (advanced text x.regs)) in
      ap (λ (u : Outcome). Some (steps.settled t (option_map (shifted_serve r) serve) u)) (advance-shifted r t e x (advanced text x.regs))
      ∙ ap (λ (a : AfterStep). Some a) (settled-shifted t serve o own)
  thread-shifted t e serve text x Idle some = ap (λ (a : AfterStep). Some a) (woken-shifted t serve e x)
  thread-shifted t e serve text x (Done code) some = refl
  thread-shifted t e serve text x (Faulted f) some = refl

  homes-shifted : (serve : Option Serve) → homes (option_map (shifted_serve r) serve) ≡ map (shifted_name r) (homes serve)
  homes-shifted None = refl
  homes-shifted (Some s) = sym (maps home_of (shifted_name r) home_of (λ k. refl) (range_with_len 0 s.workers))

  roots-shifted : (threads : List Thread) (serve : Option Serve) → roots (map (shifted_thread r) threads) (option_map (shifted_serve r) serve) ≡ map (shifted_name r) (roots threads serve)
  roots-shifted threads serve =
      (λ i. (maps (shifted_thread r) (λ (x : Thread). x.context) (λ x. shifted_name r x.context) (λ x. refl) threads ∙ sym (maps (λ (x : Thread). x.context) (shifted_name r) (λ x. shifted_name r x.context) (λ x. refl) threads)) i ++ homes-shifted serve i)
      ∙ sym (map-append (shifted_name r) (contexts_of threads) (homes serve))

  reaped-shifted : (m : Machine) → steps.reap (shifted_machine r m) ≡ shifted_machine r (steps.reap m)
  unfolding shifted_machine
  reaped-shifted m =
      ap (λ names. record (shifted_machine r m) { environment = record { world = life.reap (shifted_world r m.environment.world) names; channels = shifted_channels r m.environment.channels } }) (roots-shifted m.threads m.serve)
      ∙ ap (λ (w : World). record (shifted_machine r m) { environment = record { world = w; channels = shifted_channels r m.environment.channels } }) (reap-shifted r m.environment.world (roots m.threads m.serve))

  after-shifted : (m : Machine) (t : ℕ) (a : Option AfterStep) → after_outcome (shifted_machine r m) t (option_map (shifted_after r) a) ≡ shifted_machine r (after_outcome m t a)
  unfolding shifted_machine
  after-shifted m t None = refl
  after-shifted m t (Some a) =
      ap (λ threads. steps.reap (record (shifted_machine r m) { threads = threads; environment = shifted_environment r a.environment; serve = option_map (shifted_serve r) a.serve })) (set_map (shifted_thread r) m.threads t a.thread)
      ∙ reaped-shifted (record m { threads = slice_set m.threads t a.thread; environment = a.environment; serve = a.serve })

  found-shifted : (m : Machine) (t : ℕ) (found : Option Thread) → ((x : Thread) → found ≡ Some x → x.status ≡ Running → 1 ≤ x.job) →
      after_thread guest_calls (shifted_machine r m) t (option_map (shifted_thread r) found) ≡ shifted_machine r (after_thread guest_calls m t found)
  unfolding shifted_machine
  found-shifted m t None some = refl
  found-shifted m t (Some x) some =
      ap (after_outcome (shifted_machine r m) t) (thread-shifted t m.environment m.serve m.text x x.status (some x refl))
      ∙ after-shifted m t (thread_outcome guest_calls t m.environment m.serve m.text x x.status)

  pub step-shifted : (m : Machine) (t : ℕ) → EachActsForItsJob m → step (shifted_machine r m) t ≡ shifted_machine r (step m t)
  unfolding step_by shifted_machine
  step-shifted m t some = ap (after_thread guest_calls (shifted_machine r m) t) (get_map (shifted_thread r) m.threads t) ∙ found-shifted m t (slice_get m.threads t) (some t)
