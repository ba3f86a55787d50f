-- Lists of workers, before they serve and after.
use Rattle.std.proofs.Common.{◌≡◌, ◌∙◌, ℕ, zero, suc, List, [], ◌∷◌, All, map, true, refl, ap, sym, arith}
use Rattle.std.specs.List.{AllZip}
use Rattle.kernel_core.specs.Machine.{has_ended}
use Rattle.kernel_core.proofs.FinishedBy.{none_yet}
use Rattle.process_core.specs.declared.opened.Opened.{Opened}
use Rattle.lwc_stream.proofs.Turns.{Puts, have_put}
use Rattle.lwc_stream.specs.Workers.{HasServed, HaveServed, IsFresh}
use Rattle.lwc_stream.specs.Queues.{End}
use Rattle.process_core.specs.Running.{Carried, Carries, IsPassOf}
use Rattle.turnstile.specs.Passes.{Lock}

module _ {V T : Type 0} (pass : V → Carried) (outbox : V → T) (turns : T → ℕ) (puts : T → End) (process : Lock Opened) where
  abbrev Turned : V → V → Type 0
  Turned x y = Carries (Puts puts) process (pass x) (outbox x) (pass y) (outbox y)

  abbrev Fresh : V → Type 0
  Fresh x = IsFresh process (pass x) (turns (outbox x)) (puts (outbox x))

  -- the queues stay
  same_queues : (xs ys : List V) → AllZip Turned xs ys → map (λ w. (puts (outbox w)).queue) ys ≡ map (λ w. (puts (outbox w)).queue) xs
  same_queues [] [] all = refl
  same_queues [] (y ∷ ys) all = absurd all
  same_queues (x ∷ xs) [] all = absurd all
  same_queues (x ∷ xs) (y ∷ ys) all =
      let h = have_put puts process (pass x) (outbox x) (pass y) (outbox y) all.0 in
      ap (λ n. n ∷ map (λ w. (puts (outbox w)).queue) ys) h.queue ∙ ap (λ l. (puts (outbox x)).queue ∷ l) (same_queues xs ys all.1)

  -- workers that begin fresh and end have served
  all_served : (xs ys : List V) → AllZip Turned xs ys → All Fresh xs → All (λ w. IsPassOf process (pass w)) ys → All (λ w. has_ended (pass w).last.status ≡ true) ys →
      All (λ w. HasServed process (pass w) (puts (outbox w))) ys
  all_served [] [] all fresh ours ended k d inside = absurd (omega arith)
  all_served [] (y ∷ ys) all fresh ours ended k d inside = absurd all
  all_served (x ∷ xs) [] all fresh ours ended k d inside = absurd all
  all_served (x ∷ xs) (y ∷ ys) all fresh ours ended zero d inside =
      let h = have_put puts process (pass x) (outbox x) (pass y) (outbox y) all.0 in
      let first = fresh 0 x (omega arith) in record {
        ours = ours 0 y (omega arith);
        ended = ended 0 y (omega arith);
        put = h.put (first.empty ∙ sym (none_yet _ _ _ first.unseen));
      }
  all_served (x ∷ xs) (y ∷ ys) all fresh ours ended (suc k) d inside =
      all_served xs ys all.1 (λ j e below. fresh (suc j) e (omega arith)) (λ j e below. ours (suc j) e (omega arith)) (λ j e below. ended (suc j) e (omega arith)) k d (omega arith)

  pub have_served : (xs ys : List V) → AllZip Turned xs ys → All Fresh xs → All (λ w. IsPassOf process (pass w)) ys → All (λ w. has_ended (pass w).last.status ≡ true) ys →
      map (λ w. (pass w).held.number) ys ≡ map (λ w. (pass w).held.number) xs → HaveServed pass (λ w. puts (outbox w)) process xs ys
  have_served xs ys all fresh ours ended numbers = record {
    served = all_served xs ys all fresh ours ended;
    numbers = numbers;
    queues = same_queues xs ys all;
  }
