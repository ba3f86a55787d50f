use Rattle.std.proofs.Common.{◌≡◌, ◌≤◌, ◌*◌, ◌∙◌, IfOk, List, [], ℕ, length, refl, subst, arith}
use Rattle.std.proofs.Math.Nat.{mul-le-mul_left, mul-le-mul_right}
use Rattle.lwc_types.specs.declared.limits.TheConstants.{MOST_BUDGET, MOST_THREADS}
use Rattle.kernel_core.specs.Start.{inputs_of}
use Rattle.lwcrun_core.specs.Works.{IsText, plan_by}
use Rattle.lwcrun_core.specs.Works as works
use Rattle.kernel_core.proofs.Others.{work_at_start}
use Rattle.lwcrun_inputs.proofs.Fetches.{nothing_fetched}
use Rattle.lwcrun_inputs.proofs.Follows.{fetches_on, fetches_stop, reads_on, stops_reading}
use Rattle.lwcrun_core.proofs.running.run.Goals as goal

pub history_text-requires-clause-few : goal.history_text-requires-clause-few
history_text-requires-clause-few g c κs within =
    let budget = c.args.settings.now.budget in
    let threads : length c.in-Ok.image.entries * budget ≤ MOST_THREADS * budget = mul-le-mul_right budget c.in-Ok.ensures.limits.thread_count in
    let steps : MOST_THREADS * budget ≤ MOST_THREADS * MOST_BUDGET = mul-le-mul_left MOST_THREADS c.requires.settings.limits.budget.1 in
    let work = work_at_start (inputs_of c.in-Ok.image c.of-requests.result c.args.settings.now) c.requires.settings.job in
    omega (arith, work, threads, steps)

pub returns-in-Ok-clause-ended : goal.returns-in-Ok-clause-ended
unfolding plan_by
returns-in-Ok-clause-ended g c =
    let none : c.of-requests.result ≡ [] = c.of-requests.ensures ∙ c.new.ensures.items in
    let text = subst (λ (r : List (List ℕ)). IfOk c.history_text.result (λ text. IsText (works.Running (inputs_of c.in-Ok.image r c.args.settings.now)) text.items)) none c.history_text.ensures in
    reads_on IsText _ _ _ _ _ _ _ _ _ _ _ c.in-Ok.ensures.reads c.fitting_image_in.ensures.same (c.write_work.ensures (works.Running (inputs_of c.in-Ok.image [] c.args.settings.now)) _ text)

pub returns-in-Ok-clause-fetches : goal.returns-in-Ok-clause-fetches
unfolding plan_by
returns-in-Ok-clause-fetches g c =
    fetches_on IsText _ _ _ _ _ _ _ _ c.in-Ok.ensures.reads c.fitting_image_in.ensures.same c.in-Ok.ensures.whole (nothing_fetched _ refl)

pub returns-in-Err-clause-ended : goal.returns-in-Err-clause-ended
unfolding plan_by
returns-in-Err-clause-ended g c = stops_reading IsText _ _ _ _ _ _ c.in-Err.ensures.reads refl

pub returns-in-Err-clause-fetches : goal.returns-in-Err-clause-fetches
unfolding plan_by
returns-in-Err-clause-fetches g c = fetches_stop _ _ _ _ _ _ c.fitting_image_in.ensures.fetches
