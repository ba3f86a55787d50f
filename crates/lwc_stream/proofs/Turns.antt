-- What turns add to what the steps of a pass's thread have finished, and to what was put into the queue.
use Rattle.std.proofs.Common.{◌≡◌, ◌++◌, ℕ, List, Some, refl, sym, ap, subst, ◌∙◌}
use Rattle.kernel_core.proofs.FinishedBy.{one_turn}
use Rattle.kernel_core.specs.Histories.{GoesOn, finishes_by, replies_of, turn_after}
use Rattle.kernel_core.specs.Start.{Inputs, start}
use Rattle.kernel_core.specs.declared.thread.Turn.{Turn}
use Rattle.lwc_stream.specs.Queues.{End, end_of}
use Rattle.lwc_stream.specs.Replies.{finished_by}
use Rattle.process_core.specs.Running.{Carried, Carries}
use Rattle.process_core.specs.Running.Carries.{Still, More}
use Rattle.process_core.specs.declared.opened.Opened.{Opened}
use Rattle.snapshot_host.specs.declared.finishing.Finished.{Finished}
use Rattle.turnstile.specs.Passes.{Lock}

-- a pass before a turn and after it
one_turn_more : (inputs : Inputs) (p q : Carried) → q.held.number ≡ p.held.number → GoesOn p.held.number p.held.seen q.held.seen → turn_after inputs q.held.seen q.held.number ≡ Some q.last →
    finished_by inputs q ≡ finished_by inputs p ++ replies_of q.last.finished
one_turn_more inputs p q same on is =
    ap (λ (n : ℕ). finishes_by (start inputs) q.held.seen n) same
    ∙ one_turn inputs p.held.number p.held.seen q.held.seen q.last on (subst (λ (n : ℕ). turn_after inputs q.held.seen n ≡ Some q.last) same is)

-- a turn puts what it finished into the queue
abbrev pub Puts : {T : Type 0} → (T → End) → T → Turn → T → Type 0
Puts puts x left y = puts y ≡ end_of (puts x).queue ((puts x).values ++ replies_of left.finished)

module _ {T : Type 0} (puts : T → End) (process : Lock Opened) (p : Carried) (x : T) where
  -- turns put what they finished into the same queue
  pub record HasPut (q : Carried) (y : T) : Type 0 where
    pub queue : (puts y).queue ≡ (puts x).queue
    pub put : (puts x).values ≡ finished_by process.name.inputs p → (puts y).values ≡ finished_by process.name.inputs q

  pub have_put : (q : Carried) (y : T) → Carries (Puts puts) process p x q y → HasPut q y
  have_put _ _ Still = record { queue = refl; put = λ is. is }
  have_put _ _ (More q r y z before going makes counted) =
      let h = have_put q y before in
      let inputs = process.name.inputs in
      record {
        queue = ap (λ (e : End). e.queue) counted ∙ h.queue;
        put = λ is. ap (λ (e : End). e.values) counted
            ∙ (ap (λ (l : List Finished). l ++ replies_of r.last.finished) (h.put is)
            ∙ sym (one_turn_more inputs q r makes.number (makes.goes_on going) makes.turn_is));
      }
