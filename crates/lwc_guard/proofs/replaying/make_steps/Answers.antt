use Rattle.std.proofs.Common.{◌≡◌, ◌<◌, length, get_or, sym, ◌∙◌, arith}
use Rattle.std.proofs.lemmas.Option.{get_or_from_slice_get}
use Rattle.lwc_guard.proofs.Replays.{runs_on}
use Rattle.lwc_guard.proofs.replaying.make_steps.Goals as goal

pub loop-i-preserved : goal.loop-i-preserved
loop-i-preserved g c =
    let inside : c.loop-i.i < length c.args.schedule.now = omega arith in
    let is : c.from.result ≡ get_or c.args.schedule.now c.loop-i.i 0 =
    c.from.ensures ∙ sym (get_or_from_slice_get c.args.schedule.now c.loop-i.i _ 0 c.get.ensures.step) in
    runs_on _ _ _ _ _ _ c.loop-i.invariant inside is c.in_ok-step.ensures.step
