use Rattle.std.proofs.Common.{◌≡◌, ◌+◌, ◌≤◌, ℕ, None, length, ap, subst, sym, ◌∙◌, arith}
use Rattle.kernel_core.specs.Kernel.{machine_of}
use Rattle.lwc_gen.proofs.Gathered.{added_next, added_reply, replies_before}
use Rattle.lwc_gen.specs.Summary.{replies_of, totals_of}
use Rattle.lwc_gen.specs.declared.totals.Totals.{Totals}
use Rattle.snapshot_host.specs.declared.finishing.Finished.{Finished}
use Rattle.lwc_gen.proofs.summing.totals.Goals.{in-None, in-Some}
use Rattle.lwc_gen.proofs.summing.totals.Goals as goal

pub requests-init : goal.requests-init
unfolding totals_of
requests-init g c =
    let none = c.none-totals.ensures in record {
      so_far = none;
      requests = ap (λ (t : Totals). t.requests) none;
      done = omega (arith, ap (λ (t : Totals). t.done) none, ap (λ (t : Totals). t.requests) none);
    }

pub requests-preserved : goal.requests-preserved
requests-preserved g c =
    let m = machine_of c.args.kernel.now in
    let r = c.requests.r in
    let was = c.requests.invariant in
    let one_more = λ (n : ℕ). n + 1 in
    elim c.match-reply.branch [
      | in-None w ↦ record {
        so_far = added_next m r None _ w.in-None.ensures (w.totals-is ∙ w.add.ensures.added (replies_before m r) was.so_far);
        requests = ap (λ (t : Totals). t.requests) w.totals-is ∙ (w.add.ensures.requests ∙ ap one_more was.requests);
        done = subst (λ (t : Totals). t.done ≤ t.requests) (sym w.totals-is) w.add.ensures.done;
      }
      | in-Some w ↦ record {
        so_far = added_reply m r _ _ _ _ w.in-Some.ensures (ap (λ (told : Finished). told.status) w.finished.view_is) (ap (λ (told : Finished). told.bytes) w.finished.view_is) (w.totals-is ∙ w.add-in-Some.ensures.added (replies_before m r) was.so_far);
        requests = ap (λ (t : Totals). t.requests) w.totals-is ∙ (w.add-in-Some.ensures.requests ∙ ap one_more was.requests);
        done = subst (λ (t : Totals). t.done ≤ t.requests) (sym w.totals-is) w.add-in-Some.ensures.done;
      }
    ]

pub returns : goal.returns
unfolding replies_of
returns g c =
    let m = machine_of c.args.kernel.now in
    let all : c.requests.r ≡ length m.environment.channels.requests = omega (arith, c.requests-test.false, c.requests.auto.r-end, c.request_count-r-end.ensures.requests) in
    c.requests.invariant.so_far ∙ ap (λ (n : ℕ). totals_of (replies_before m n)) all
