use Rattle.std.proofs.Common.{◌≡◌, ◌<◌, ◌∙◌, All, IfSome, List, None, Option, ap, arith, refl, subst, sym}
use Rattle.std.specs.Option.{option_map}
use Rattle.std.proofs.lemmas.List.{length-set}
use Rattle.guest_isa.specs.Instructions.{IsText}
use Rattle.guest_isa.specs.declared.instr.Instr.{Instr}
use Rattle.guest_machine.specs.Advances.{advanced}
use Rattle.kernel_core.proofs.Steps.{acts, as_seen, contexts_part, has_steps, homes_part, is_ready, made_here, nothing_left, numbered_here, one_longer, reaped_as, reaped_back, rested_here, serves, steady_as, used_kept, within}
use Rattle.kernel_core.specs.Kernel.{History, machine_of, turn, turn_at}
use Rattle.kernel_core.specs.Machine.{work}
use Rattle.kernel_core.specs.Runs.{last_finished}
use Rattle.kernel_core.specs.Start.{start}
use Rattle.snapshot_host.specs.declared.finishing.Finished.{Finished}
use Rattle.world_face.specs.Calls.{IsLive}
use Rattle.kernel_core.proofs.ReadyRuns.{can_serve}
use Rattle.kernel_core.proofs.kernel.Kernel.make_step.Goals as goal

pub index_mut-thread-requires : goal.index_mut-thread-requires
index_mut-thread-requires g c =
    let few = within _ _ _ (as_seen _ _ _ _ c.self.view_is c.self.invariant.1) c.args.thread_number c.requires.within in omega arith

pub step_thread-requires-clause-ready : goal.step_thread-requires-clause-ready
step_thread-requires-clause-ready g c κs within =
    acts _ _ _ (as_seen _ _ _ _ c.self.view_is c.self.invariant.1) c.args.thread_number _ c.requires.within c.index_mut-thread.ensures.value

pub step_thread-requires-clause-files : goal.step_thread-requires-clause-files
step_thread-requires-clause-files g c κs within =
    (is_ready _ _ _ (as_seen _ _ _ _ c.self.view_is c.self.invariant.1)).files

pub step_thread-requires-clause-steps : goal.step_thread-requires-clause-steps
step_thread-requires-clause-steps g c κs within =
    has_steps _ _ _ (as_seen _ _ _ _ c.self.view_is c.self.invariant.1) c.args.thread_number _ c.requires.within c.index_mut-thread.ensures.value

pub step_thread-requires-clause-proposal : goal.step_thread-requires-clause-proposal
step_thread-requires-clause-proposal g c κs within =
    let ready = is_ready _ _ _ (as_seen _ _ _ _ c.self.view_is c.self.invariant.1) in
    subst (λ (text : List Instr). IfSome c.args.proposal (λ a. a.now ≡ advanced text a.now.before)) (sym ready.text) c.requires.proposal

pub step_thread-requires-clause-text : goal.step_thread-requires-clause-text
step_thread-requires-clause-text g c κs within =
    let steady = as_seen _ _ _ _ c.self.view_is c.self.invariant.1 in
    subst IsText (sym (is_ready _ _ _ steady).text) steady.inputs.image.text

pub returns-in_default-clause-step : goal.returns-in_default-clause-step
returns-in_default-clause-step g c =
    let rest = rested_here _ _ _ (as_seen _ _ _ _ c.self.view_is c.self.invariant.1) c.args.thread_number _ _ _ _ _ _ c.requires.within c.index_mut-thread.ensures.value
    c.in_ok-effect.ensures.outcome c.in_ok-effect.ensures.kept c.in_default.is in
    c.self.view_is ∙ sym rest.kept

pub returns-in_default-clause-turn : goal.returns-in_default-clause-turn
returns-in_default-clause-turn g c =
    let rest = rested_here _ _ _ (as_seen _ _ _ _ c.self.view_is c.self.invariant.1) c.args.thread_number _ _ _ _ _ _ c.requires.within c.index_mut-thread.ensures.value
    c.in_ok-effect.ensures.outcome c.in_ok-effect.ensures.kept c.in_default.is in
    subst (λ (h : History). turn h c.args.thread_number ≡ turn_at (machine_of h) c.args.thread_number None) (sym c.self.view_is) (rest.turn ∙ sym rest.turn_in)

pub returns-in_default-clause-number : goal.returns-in_default-clause-number
returns-in_default-clause-number g c =
    let rest = rested_here _ _ _ (as_seen _ _ _ _ c.self.view_is c.self.invariant.1) c.args.thread_number _ _ _ _ _ _ c.requires.within c.index_mut-thread.ensures.value
    c.in_ok-effect.ensures.outcome c.in_ok-effect.ensures.kept c.in_default.is in
    subst (λ (h : History). None ≡ option_map (λ f. f.request) (last_finished (start h.inputs) h.steps c.args.thread_number None)) (sym c.self.view_is)
    (ap (λ (o : Option Finished). option_map (λ f. f.request) o) (sym rest.finished))

pub returns-in_default-clause-room : goal.returns-in_default-clause-room
returns-in_default-clause-room g c going =
    let rest = rested_here _ _ _ (as_seen _ _ _ _ c.self.view_is c.self.invariant.1) c.args.thread_number _ _ _ _ _ _ c.requires.within c.index_mut-thread.ensures.value
    c.in_ok-effect.ensures.outcome c.in_ok-effect.ensures.kept c.in_default.is in
    cc (rest.ended, going)

pub returns-in_default-clause-work : goal.returns-in_default-clause-work
returns-in_default-clause-work g c going =
    let rest = rested_here _ _ _ (as_seen _ _ _ _ c.self.view_is c.self.invariant.1) c.args.thread_number _ _ _ _ _ _ c.requires.within c.index_mut-thread.ensures.value
    c.in_ok-effect.ensures.outcome c.in_ok-effect.ensures.kept c.in_default.is in
    absurd (cc (rest.ended, going))

pub keep_step-requires-clause-used : goal.keep_step-requires-clause-used
keep_step-requires-clause-used g c κs within thread =
    used_kept _ _ _ (as_seen _ _ _ _ c.self.view_is c.self.invariant.1) c.args.thread_number _ _ _ _ _ _ c.requires.within c.index_mut-thread.ensures.value
    c.in_ok-effect.ensures.outcome c.in_ok-effect.ensures.kept _ c.in-Some.is thread

pub keep_step-requires-clause-room : goal.keep_step-requires-clause-room
keep_step-requires-clause-room g c κs within =
    let made = made_here _ _ _ (as_seen _ _ _ _ c.self.view_is c.self.invariant.1) c.args.thread_number _ _ _ _ _ _ c.requires.within c.index_mut-thread.ensures.value
    c.in_ok-effect.ensures.outcome c.in-Some.effect c.in-Some.is in
    omega (arith, c.requires.room made.going, ap (λ (h : History). h.room) c.self.view_is)

pub keep_step-requires-clause-number : goal.keep_step-requires-clause-number
keep_step-requires-clause-number g c κs bounds =
    let steady = as_seen _ _ _ _ c.self.view_is c.self.invariant.1 in
    let ready = is_ready _ _ _ steady in
    omega (arith, within _ _ _ steady c.args.thread_number c.requires.within, ready.few)

pub invariant_of-self-2 : goal.invariant_of-self-2
invariant_of-self-2 g c =
    let made = made_here _ _ _ (as_seen _ _ _ _ c.self.view_is c.self.invariant.1) c.args.thread_number _ _ _ _ _ _ c.requires.within c.index_mut-thread.ensures.value
    c.in_ok-effect.ensures.outcome c.in-Some.effect c.in-Some.is in
    let some = c.requires.room made.going in
    let kept = c.keep_step.ensures in
    let is = one_longer _ _ _ _ _ _ _ _ _ _ c.self.view_is kept.steps kept.room in
    (kept.fits, steady_as _ _ _ _ _ _ _ _ _ _ _ _ kept.channels kept.threads kept.text kept.peak is (made.steady some _ (reaped_as _ _ _ _ _ _ kept.world refl c.worker_count-workers.ensures.homes)))

pub returns-clause-step : goal.returns-clause-step
returns-clause-step g c =
    let made = made_here _ _ _ (as_seen _ _ _ _ c.self.view_is c.self.invariant.1) c.args.thread_number _ _ _ _ _ _ c.requires.within c.index_mut-thread.ensures.value
    c.in_ok-effect.ensures.outcome c.in-Some.effect c.in-Some.is in
    one_longer _ _ _ _ _ _ _ _ _ _ c.self.view_is c.keep_step.ensures.steps c.keep_step.ensures.room ∙ sym made.kept

pub returns-clause-turn : goal.returns-clause-turn
returns-clause-turn g c =
    let made = made_here _ _ _ (as_seen _ _ _ _ c.self.view_is c.self.invariant.1) c.args.thread_number _ _ _ _ _ _ c.requires.within c.index_mut-thread.ensures.value
    c.in_ok-effect.ensures.outcome c.in-Some.effect c.in-Some.is in
    subst (λ (h : History). turn h c.args.thread_number ≡ turn_at (machine_of h) c.args.thread_number c.in-Some.effect.finished)
    (sym (one_longer _ _ _ _ _ _ _ _ _ _ c.self.view_is c.keep_step.ensures.steps c.keep_step.ensures.room)) (made.turn ∙ sym (made.turn_in c.in-Some.effect.finished))

pub returns-clause-number : goal.returns-clause-number
returns-clause-number g c =
    let made = made_here _ _ _ (as_seen _ _ _ _ c.self.view_is c.self.invariant.1) c.args.thread_number _ _ _ _ _ _ c.requires.within c.index_mut-thread.ensures.value
    c.in_ok-effect.ensures.outcome c.in-Some.effect c.in-Some.is in
    let numbered = numbered_here _ _ c.in_ok-effect.ensures.number c.in-Some.effect c.in-Some.is in
    subst (λ (h : History). c.in-Some.effect.finished ≡ option_map (λ f. f.request) (last_finished (start h.inputs) h.steps c.args.thread_number None))
    (sym (one_longer _ _ _ _ _ _ _ _ _ _ c.self.view_is c.keep_step.ensures.steps c.keep_step.ensures.room))
    (numbered ∙ ap (λ (o : Option Finished). option_map (λ f. f.request) o) (sym made.finished))

pub returns-clause-work : goal.returns-clause-work
returns-clause-work g c going =
    let made = made_here _ _ _ (as_seen _ _ _ _ c.self.view_is c.self.invariant.1) c.args.thread_number _ _ _ _ _ _ c.requires.within c.index_mut-thread.ensures.value
    c.in_ok-effect.ensures.outcome c.in-Some.effect c.in-Some.is in
    subst (λ (h : History). work (machine_of h) < work (machine_of c.args.self.now)) (sym (one_longer _ _ _ _ _ _ _ _ _ _ c.self.view_is c.keep_step.ensures.steps c.keep_step.ensures.room)) made.less

pub keep_step-requires-clause-few : goal.keep_step-requires-clause-few
keep_step-requires-clause-few g c =
    let ready = is_ready _ _ _ (as_seen _ _ _ _ c.self.view_is c.self.invariant.1) in
    omega (arith, length-set c.self.inside.parts.threads.items c.args.thread_number c.step_thread.new.thread, ready.few)

pub keep_step-requires-clause-live : goal.keep_step-requires-clause-live
keep_step-requires-clause-live g c κs inside =
    let made = made_here _ _ _ (as_seen _ _ _ _ c.self.view_is c.self.invariant.1) c.args.thread_number _ _ _ _ _ _ c.requires.within c.index_mut-thread.ensures.value
    c.in_ok-effect.ensures.outcome c.in-Some.effect c.in-Some.is in
    contexts_part (IsLive (g.W.World.seen c.step_thread.new.world)) _ _ made.live

pub keep_step-requires-clause-homes : goal.keep_step-requires-clause-homes
keep_step-requires-clause-homes g c κs inside =
    let made = made_here _ _ _ (as_seen _ _ _ _ c.self.view_is c.self.invariant.1) c.args.thread_number _ _ _ _ _ _ c.requires.within c.index_mut-thread.ensures.value
    c.in_ok-effect.ensures.outcome c.in-Some.effect c.in-Some.is in
    subst (All (IsLive (g.W.World.seen c.step_thread.new.world))) (sym c.worker_count-workers.ensures.homes)
    (homes_part (IsLive (g.W.World.seen c.step_thread.new.world)) _ _ made.live)

pub keep_step-requires-clause-uncut : goal.keep_step-requires-clause-uncut
keep_step-requires-clause-uncut g c κs inside other =
    reaped_back _ _ _ _ _ refl c.worker_count-workers.ensures.homes
    (nothing_left _ _ _ (as_seen _ _ _ _ c.self.view_is c.self.invariant.1) c.args.thread_number _ _ _ _ _ _ c.requires.within c.index_mut-thread.ensures.value
    c.in_ok-effect.ensures.outcome c.in_ok-effect.ensures.kept c.in-Some.effect c.in-Some.is other)

pub step_thread-requires-clause-serve : goal.step_thread-requires-clause-serve
step_thread-requires-clause-serve g c κs within =
    let steady = as_seen _ _ _ _ c.self.view_is c.self.invariant.1 in
    can_serve _ _ _ (is_ready _ _ _ steady)

pub step_thread-requires-clause-worker : goal.step_thread-requires-clause-worker
step_thread-requires-clause-worker g c κs within =
    serves _ _ _ (as_seen _ _ _ _ c.self.view_is c.self.invariant.1) c.args.thread_number _ c.requires.within c.index_mut-thread.ensures.value

pub step_thread-requires-clause-number : goal.step_thread-requires-clause-number
step_thread-requires-clause-number g c κs bounds =
    let steady = as_seen _ _ _ _ c.self.view_is c.self.invariant.1 in
    let ready = is_ready _ _ _ steady in
    omega (arith, within _ _ _ steady c.args.thread_number c.requires.within, ready.few)
