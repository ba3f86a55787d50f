-- Where the thread of each pass has ended, the history is complete.
use Rattle.std.proofs.Common.{◌≡◌, ◌<◌, ℕ, List, zero, suc, [], ◌∷◌, map, Some, true, subst, ◌∙◌, arith, get_or}
use Rattle.std.specs.Prelude.{All, Contains}
use Rattle.kernel_core.proofs.Others as kernel
use Rattle.kernel_core.specs.Histories.{IsComplete, IsLegal}
use Rattle.kernel_core.specs.Kernel.{CanOpen, History, machine_of, turn}
use Rattle.kernel_core.specs.Machine.{has_ended, is_ended}
use Rattle.kernel_core.specs.Start.{Inputs, start, thread_count}
use Rattle.process_core.proofs.Due.{still_is}
use Rattle.process_core.specs.Running.{AreAllOf, Carried}
use Rattle.process_core.specs.declared.opened.Opened.{Opened}
use Rattle.turnstile.specs.Passes.{Lock}
use Rattle.turnstile.specs.Passes as gates
use Rattle.turnstile.specs.Past.{Knows}
use Rattle.kernel_core.proofs.Others.{ended_by_turn}

-- what holds of all that a list is mapped to holds of what it contains
contained : (passes : List Carried) (t : ℕ) (P : Carried → Type 0) → Contains (map (λ p. p.held.number) passes) t → All P passes → (p : Carried) × (p.held.number ≡ t) × P p
contained [] t P has each = absurd (let below = has.1 in omega arith)
contained (p ∷ ps) t P (zero, below, is) each = (p, is, each 0 p (omega arith))
contained (p ∷ ps) t P (suc k, below, is) each = contained ps t P (k, omega arith, is) (λ j d inside. each (suc j) d (omega arith))

module _ (process : Lock Opened) (passes : List Carried) (k : History) (all : AreAllOf process passes) (same : k.inputs ≡ process.name.inputs)
    (knows : All (λ (p : Carried). Knows k.steps p.held.number p.held.seen) passes) where
  -- the history leaves each pass's last turn of its thread
  pub each_turn : All (λ (p : Carried). turn k p.held.number ≡ Some p.last) passes
  each_turn j d below =
      let p = get_or passes j d in
      still_is k process.name.inputs p.held.seen p.held.number p.last same (knows j d below) (all.ours j d below).leaves

  each_ended : All (λ (p : Carried). has_ended p.last.status ≡ true) passes → (t : ℕ) → t < thread_count process.name.inputs → is_ended (machine_of k) t ≡ true
  each_ended ended t within =
      let at = contained passes t (λ p. is_ended (machine_of k) p.held.number ≡ true) (all.every t within)
      (λ j d below. let p = get_or passes j d in ended_by_turn k p.held.number p.last (each_turn j d below) ∙ ended j d below) in
      subst (λ (n : ℕ). is_ended (machine_of k) n ≡ true) at.1 at.2

  pub completed : CanOpen k.inputs → IsLegal (start k.inputs) k.steps → All (λ (p : Carried). has_ended p.last.status ≡ true) passes → IsComplete (start process.name.inputs) k.steps
  unfolding machine_of
  completed can legal ended =
      subst (λ (i : Inputs). IsComplete (start i) k.steps) same
      (kernel.completed k.inputs k.steps can legal (λ t within. each_ended ended t (subst (λ (i : Inputs). t < thread_count i) same within)))

-- the passes of the lock are all
pub all_held : (process : Lock Opened) (passes : List Carried) → process.seats ≡ thread_count process.name.inputs → AreAllOf process passes → gates.HoldAllOf (λ p. p.held) process passes
all_held process passes seats all = record {
  ours = λ j d below. (all.ours j d below).ours;
  every = λ n below. all.every n (omega (arith, seats));
}
