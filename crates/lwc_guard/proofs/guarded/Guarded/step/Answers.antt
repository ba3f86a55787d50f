use Rattle.std.proofs.Common.{◌∙◌, ◌≡◌, Some, ap, arith, subst, sym}
use Rattle.std.proofs.lemmas.List.{length-set}
use Rattle.guest_isa.specs.Instructions.{IsText}
use Rattle.kernel_core.specs.Kernel.{History}
use Rattle.lwc_guard.proofs.Steadying.{acts, as_seen, few, few_guarded, few_trapped, going, guards_stay, has_steps, kept, live_there, nothing_left, one_longer, rested, steady_as, steady_next, stepped_to, traps_stay, turn_next, used_kept, within}
use Rattle.lwc_guard.specs.Steady.{turn_guarded}
use Rattle.lwc_guard.proofs.guarded.Guarded.step.Goals as goal

pub index-requires : goal.index-requires
index-requires g c = let inside = within _ _ _ _ _ _ _ _ (as_seen _ _ _ _ c.self.view_is c.self.invariant.1) c.args.thread_number c.requires.within in omega arith

pub step_guarded-requires-clause-number : goal.step_guarded-requires-clause-number
step_guarded-requires-clause-number g c κs bounds = omega (arith, within _ _ _ _ _ _ _ _ (as_seen _ _ _ _ c.self.view_is c.self.invariant.1) c.args.thread_number c.requires.within, few _ _ _ _ _ _ _ _ (as_seen _ _ _ _ c.self.view_is c.self.invariant.1))

pub step_guarded-requires-clause-ready : goal.step_guarded-requires-clause-ready
step_guarded-requires-clause-ready g c κs bounds = acts _ _ _ _ _ _ _ _ (as_seen _ _ _ _ c.self.view_is c.self.invariant.1) c.args.thread_number _ c.requires.within c.index.ensures

pub step_guarded-requires-clause-files : goal.step_guarded-requires-clause-files
step_guarded-requires-clause-files g c κs bounds = (kept _ _ _ _ _ _ _ _ (as_seen _ _ _ _ c.self.view_is c.self.invariant.1)).ready.files

pub step_guarded-requires-clause-steps : goal.step_guarded-requires-clause-steps
step_guarded-requires-clause-steps g c κs bounds = has_steps _ _ _ _ _ _ _ _ (as_seen _ _ _ _ c.self.view_is c.self.invariant.1) c.args.thread_number _ c.requires.within c.index.ensures

pub step_guarded-requires-clause-text : goal.step_guarded-requires-clause-text
step_guarded-requires-clause-text g c κs bounds =
    let steady = (as_seen _ _ _ _ c.self.view_is c.self.invariant.1) in subst IsText (sym (kept _ _ _ _ _ _ _ _ steady).ready.text) steady.inputs.image.text

pub step_guarded-requires-clause-room : goal.step_guarded-requires-clause-room
step_guarded-requires-clause-room g c κs bounds = few_trapped _ _ _ _ _ _ _ _ (as_seen _ _ _ _ c.self.view_is c.self.invariant.1)

pub step_guarded-requires-clause-few : goal.step_guarded-requires-clause-few
step_guarded-requires-clause-few g c κs bounds = few_guarded _ _ _ _ _ _ _ _ (as_seen _ _ _ _ c.self.view_is c.self.invariant.1)

pub step_guarded-requires-clause-trapped : goal.step_guarded-requires-clause-trapped
step_guarded-requires-clause-trapped g c κs bounds = (kept _ _ _ _ _ _ _ _ (as_seen _ _ _ _ c.self.view_is c.self.invariant.1)).trapped

pub returns-in_default-clause-step : goal.returns-in_default-clause-step
returns-in_default-clause-step g c =
    let rest = rested _ _ _ _ _ _ _ _ (as_seen _ _ _ _ c.self.view_is c.self.invariant.1) c.args.thread_number _ c.requires.within c.index.ensures _ _ _ _ _ _ c.in_ok-effect.ensures.outcome c.in_ok-effect.ensures.guards c.in_ok-effect.ensures.traps c.in_ok-effect.ensures.kept c.in_default.is in c.self.view_is ∙ sym rest.resting

pub returns-in_default-clause-turn : goal.returns-in_default-clause-turn
returns-in_default-clause-turn g c =
    let rest = rested _ _ _ _ _ _ _ _ (as_seen _ _ _ _ c.self.view_is c.self.invariant.1) c.args.thread_number _ c.requires.within c.index.ensures _ _ _ _ _ _ c.in_ok-effect.ensures.outcome c.in_ok-effect.ensures.guards c.in_ok-effect.ensures.traps c.in_ok-effect.ensures.kept c.in_default.is in
    subst (λ (h : History). turn_guarded h c.args.thread_number ≡ Some c.turn.result) (sym c.self.view_is) (rest.turn ∙ ap Some (sym c.turn.ensures))

pub index_mut-requires : goal.index_mut-requires
index_mut-requires g c = let inside = within _ _ _ _ _ _ _ _ (as_seen _ _ _ _ c.self.view_is c.self.invariant.1) c.args.thread_number c.requires.within in omega arith

pub keep_step-requires-clause-few : goal.keep_step-requires-clause-few
keep_step-requires-clause-few g c κs bounds =
    omega (arith, length-set c.self.inside.parts.threads.items c.args.thread_number c.step_guarded.new.thread, few _ _ _ _ _ _ _ _ (as_seen _ _ _ _ c.self.view_is c.self.invariant.1))

pub keep_step-requires-clause-number : goal.keep_step-requires-clause-number
keep_step-requires-clause-number g c κs bounds = omega (arith, within _ _ _ _ _ _ _ _ (as_seen _ _ _ _ c.self.view_is c.self.invariant.1) c.args.thread_number c.requires.within, few _ _ _ _ _ _ _ _ (as_seen _ _ _ _ c.self.view_is c.self.invariant.1))

pub keep_step-requires-clause-live : goal.keep_step-requires-clause-live
keep_step-requires-clause-live g c κs bounds = live_there _ _ _ _ _ _ _ _ (as_seen _ _ _ _ c.self.view_is c.self.invariant.1) c.args.thread_number _ c.requires.within c.index.ensures _ _ _ _ _ _ c.in_ok-effect.ensures.outcome c.in_ok-effect.ensures.guards c.in_ok-effect.ensures.traps c.in_ok-effect.ensures.kept c.in-Some.effect c.in-Some.is

pub keep_step-requires-clause-uncut : goal.keep_step-requires-clause-uncut
keep_step-requires-clause-uncut g c κs bounds other = nothing_left _ _ _ _ _ _ _ _ (as_seen _ _ _ _ c.self.view_is c.self.invariant.1) c.args.thread_number _ c.requires.within c.index.ensures _ _ _ _ _ _ c.in_ok-effect.ensures.outcome c.in_ok-effect.ensures.guards c.in_ok-effect.ensures.traps c.in_ok-effect.ensures.kept c.in-Some.effect c.in-Some.is other

pub keep_reached-requires-clause-traps : goal.keep_reached-requires-clause-traps
keep_reached-requires-clause-traps g c κs bounds other = traps_stay _ _ _ _ _ _ _ _ (as_seen _ _ _ _ c.self.view_is c.self.invariant.1) c.args.thread_number _ c.requires.within c.index.ensures _ _ _ _ _ _ c.in_ok-effect.ensures.outcome c.in_ok-effect.ensures.guards c.in_ok-effect.ensures.traps c.in_ok-effect.ensures.kept c.in-Some.effect c.in-Some.is _ c.keep_step.ensures.world other

pub keep_reached-requires-clause-guards : goal.keep_reached-requires-clause-guards
keep_reached-requires-clause-guards g c κs bounds other = guards_stay _ _ _ _ _ _ _ _ (as_seen _ _ _ _ c.self.view_is c.self.invariant.1) c.args.thread_number _ c.requires.within c.index.ensures _ _ _ _ _ _ c.in_ok-effect.ensures.outcome c.in_ok-effect.ensures.guards c.in_ok-effect.ensures.traps c.in_ok-effect.ensures.kept c.in-Some.effect c.in-Some.is _ c.keep_step.ensures.world other

pub keep_step-requires-clause-used : goal.keep_step-requires-clause-used
keep_step-requires-clause-used g c κs bounds thread = used_kept _ _ _ _ _ _ _ _ (as_seen _ _ _ _ c.self.view_is c.self.invariant.1) c.args.thread_number _ c.requires.within c.index.ensures _ _ _ _ _ _ c.in_ok-effect.ensures.outcome c.in_ok-effect.ensures.guards c.in_ok-effect.ensures.traps c.in_ok-effect.ensures.kept c.in-Some.effect c.in-Some.is thread

pub keep_step-requires-clause-room : goal.keep_step-requires-clause-room
keep_step-requires-clause-room g c κs bounds = omega (arith, c.requires.room (going _ _ _ _ _ _ _ _ (as_seen _ _ _ _ c.self.view_is c.self.invariant.1) c.args.thread_number _ c.requires.within c.index.ensures _ _ _ _ _ _ c.in_ok-effect.ensures.outcome c.in_ok-effect.ensures.guards c.in_ok-effect.ensures.traps c.in_ok-effect.ensures.kept c.in-Some.effect c.in-Some.is), ap (λ (h : History). h.room) c.self.view_is)

pub invariant_of-self-2 : goal.invariant_of-self-2
invariant_of-self-2 g c =
    let some = c.requires.room (going _ _ _ _ _ _ _ _ (as_seen _ _ _ _ c.self.view_is c.self.invariant.1) c.args.thread_number _ c.requires.within c.index.ensures _ _ _ _ _ _ c.in_ok-effect.ensures.outcome c.in_ok-effect.ensures.guards c.in_ok-effect.ensures.traps c.in_ok-effect.ensures.kept c.in-Some.effect c.in-Some.is) in
    let kept = c.keep_step.ensures in
    let is = one_longer _ _ _ _ _ _ _ _ c.self.view_is kept.steps kept.room in
    (kept.fits, steady_as _ _ _ _ _ _ _ _ _ _ _ _ _ kept.channels kept.threads kept.text kept.peak is (steady_next _ _ _ _ _ _ _ _ (as_seen _ _ _ _ c.self.view_is c.self.invariant.1) c.args.thread_number _ c.requires.within c.index.ensures _ _ _ _ _ _ c.in_ok-effect.ensures.outcome c.in_ok-effect.ensures.guards c.in_ok-effect.ensures.traps c.in_ok-effect.ensures.kept c.in-Some.effect c.in-Some.is _ kept.world _ c.keep_reached.ensures.traps _ c.keep_reached.ensures.guards some))

pub returns-clause-step : goal.returns-clause-step
returns-clause-step g c = one_longer _ _ _ _ _ _ _ _ c.self.view_is c.keep_step.ensures.steps c.keep_step.ensures.room ∙ sym (stepped_to _ _ _ _ _ _ _ _ (as_seen _ _ _ _ c.self.view_is c.self.invariant.1) c.args.thread_number _ c.requires.within c.index.ensures _ _ _ _ _ _ c.in_ok-effect.ensures.outcome c.in_ok-effect.ensures.guards c.in_ok-effect.ensures.traps c.in_ok-effect.ensures.kept c.in-Some.effect c.in-Some.is)

pub returns-clause-turn : goal.returns-clause-turn
returns-clause-turn g c =
    subst (λ (h : History). turn_guarded h c.args.thread_number ≡ Some c.turn-2.result) (sym (one_longer _ _ _ _ _ _ _ _ c.self.view_is c.keep_step.ensures.steps c.keep_step.ensures.room))
    (turn_next _ _ _ _ _ _ _ _ (as_seen _ _ _ _ c.self.view_is c.self.invariant.1) c.args.thread_number _ c.requires.within c.index.ensures _ _ _ _ _ _ c.in_ok-effect.ensures.outcome c.in_ok-effect.ensures.guards c.in_ok-effect.ensures.traps c.in_ok-effect.ensures.kept c.in-Some.effect c.in-Some.is _ c.keep_step.ensures.world _ c.keep_reached.ensures.traps _ c.keep_reached.ensures.guards ∙ ap Some (sym c.turn-2.ensures))
