use Rattle.std.proofs.Common.{◌≡◌, ◌∙◌, ℕ, List, Some, sym, subst, arith, slice_get}
use Rattle.kernel_core.specs.Kernel.{turn}
use Rattle.kernel_core.specs.declared.thread.Turn.{Turn}
use Rattle.process_core.proofs.Handing.{each_push}
use Rattle.process_core.proofs.opening.first_turns.Goals as goal

pub threads-preserved : goal.threads-preserved
threads-preserved g c =
    let h = c.args.kernel.now in
    let last = c.first_turn.result in
    record {
      count = omega (arith, c.in_ok-push.ensures.len, c.threads.invariant.count);
      turns = subst (λ (l : List Turn). (t : ℕ) (x : Turn) → slice_get l t ≡ Some x → turn h t ≡ Some x) (sym c.in_ok-push.ensures.items)
          (each_push (λ t x. turn h t ≡ Some x) c.threads.turns.items last c.threads.invariant.turns
          (λ n is. subst (λ (k : ℕ). turn h k ≡ Some last) (sym (is ∙ c.threads.invariant.count)) c.first_turn.ensures));
    }
