use Rattle.std.proofs.Common.{ap, rules, subst, sym, ◌∙◌, ◌≡◌, ◌⊎◌, None, Option, ℕ, true}
use Rattle.kernel_core.specs.Machine.{Environment}
use Rattle.kernel_core.specs.Step.{beside, unchanged, with_regs}
use Rattle.kernel_core.specs.declared.acting.Change.TheVariants as changes
use Rattle.guest_machine.specs.Advances.{advanced}
use Rattle.lwc_monitor.specs.Steps.{call_next}
use Rattle.lwc_types.specs.declared.fault.ThreadStatus.TheVariants as status
use Rattle.lwc_base.specs.World.{is_live}
use Rattle.lwc_guard.proofs.Courses.{back-guard, back-outcome, made-guard, made-outcome, same-context, same-environment, traps-stay}
use Rattle.lwc_guard.specs.GivingBack.{cause_of, given_back, way_back}
use Rattle.lwc_monitor.specs.Traps.{Traps}
use Rattle.lwc_guard.proofs.stepping.run_guarded.Goals as goal

pub returns-in-None-clause-outcome : goal.returns-in-None-clause-outcome
returns-in-None-clause-outcome g c =
    made-outcome c.args.traps.now c.args.thread_number (beside (g.W.World.seen c.args.world.now) c.args.io.now) c.args.text.now c.args.thread.now c.advance-advance.result c.advance-advance.ensures.exact
    c.args.guard.now (search (rules, c.if-guard-eq0.false)) c.requires.running c.requires.trapped c.in_ok-effect.effect (beside (g.W.World.seen c.run_under.new.world) c.run_under.new.io) c.run_under.new.thread c.in_ok-effect.ensures.outcome (subst (λ (z : Traps). (cause_of c.advance-advance.result.next c.run_under.new.thread.status ≡ None) ⊎ (way_back z (g.W.World.seen c.run_under.new.world) c.run_under.new.thread.context ≡ None))
    (c.in_ok-effect.ensures.traps ∙ traps-stay c.args.traps.now (g.W.World.seen c.args.world.now) (with_regs c.args.thread.now (advanced c.args.text.now c.args.thread.now.regs).after) (call_next (advanced c.args.text.now c.args.thread.now.regs).next) c.requires.trapped) c.in-None.ensures.none)

pub returns-in-None-clause-guard : goal.returns-in-None-clause-guard
returns-in-None-clause-guard g c =
    sym (made-guard c.args.traps.now c.args.thread_number (beside (g.W.World.seen c.args.world.now) c.args.io.now) c.args.text.now c.args.thread.now c.advance-advance.result c.advance-advance.ensures.exact
    c.args.guard.now (search (rules, c.if-guard-eq0.false)) c.requires.running c.requires.trapped c.in_ok-effect.effect (beside (g.W.World.seen c.run_under.new.world) c.run_under.new.io) c.run_under.new.thread c.in_ok-effect.ensures.outcome (subst (λ (z : Traps). (cause_of c.advance-advance.result.next c.run_under.new.thread.status ≡ None) ⊎ (way_back z (g.W.World.seen c.run_under.new.world) c.run_under.new.thread.context ≡ None))
    (c.in_ok-effect.ensures.traps ∙ traps-stay c.args.traps.now (g.W.World.seen c.args.world.now) (with_regs c.args.thread.now (advanced c.args.text.now c.args.thread.now.regs).after) (call_next (advanced c.args.text.now c.args.thread.now.regs).next) c.requires.trapped) c.in-None.ensures.none))

pub returns-in-Some-clause-guard : goal.returns-in-Some-clause-guard
returns-in-Some-clause-guard g c =
    c.hold.ensures ∙ sym (back-guard c.args.traps.now c.args.thread_number (beside (g.W.World.seen c.args.world.now) c.args.io.now) c.args.text.now c.args.thread.now c.advance-advance.result c.advance-advance.ensures.exact
    c.args.guard.now (search (rules, c.if-guard-eq0.false)) c.requires.running c.requires.trapped c.in_ok-effect.effect (beside (g.W.World.seen c.run_under.new.world) c.run_under.new.io) c.run_under.new.thread c.in_ok-effect.ensures.outcome c.in-Some.cause c.in-Some.way c.in-Some.ensures.cause (ap (λ (z : Traps). way_back z (g.W.World.seen c.run_under.new.world) c.run_under.new.thread.context) (sym (c.in_ok-effect.ensures.traps ∙ traps-stay c.args.traps.now (g.W.World.seen c.args.world.now) (with_regs c.args.thread.now (advanced c.args.text.now c.args.thread.now.regs).after) (call_next (advanced c.args.text.now c.args.thread.now.regs).next) c.requires.trapped)) ∙ c.in-Some.ensures.way))

pub returns-in-Some-clause-outcome : goal.returns-in-Some-clause-outcome
returns-in-Some-clause-outcome g c =
    back-outcome c.args.traps.now c.args.thread_number (beside (g.W.World.seen c.args.world.now) c.args.io.now) c.args.text.now c.args.thread.now c.advance-advance.result c.advance-advance.ensures.exact
    c.args.guard.now (search (rules, c.if-guard-eq0.false)) c.requires.running c.requires.trapped c.in_ok-effect.effect (beside (g.W.World.seen c.run_under.new.world) c.run_under.new.io) c.run_under.new.thread c.in_ok-effect.ensures.outcome c.in-Some.cause c.in-Some.way c.in-Some.ensures.cause (ap (λ (z : Traps). way_back z (g.W.World.seen c.run_under.new.world) c.run_under.new.thread.context) (sym (c.in_ok-effect.ensures.traps ∙ traps-stay c.args.traps.now (g.W.World.seen c.args.world.now) (with_regs c.args.thread.now (advanced c.args.text.now c.args.thread.now.regs).after) (call_next (advanced c.args.text.now c.args.thread.now.regs).next) c.requires.trapped)) ∙ c.in-Some.ensures.way) (beside (g.W.World.seen c.give_back.new.world) c.run_under.new.io) c.give_back.new.thread c.set_steps.new.self changes.Links
    (subst (λ (o : Option ℕ). given_back c.in-Some.cause o c.args.thread_number (beside (g.W.World.seen c.run_under.new.world) c.run_under.new.io) (record c.run_under.new.thread { status = status.Running }) c.in-Some.way.0 c.in-Some.way.1 ≡ unchanged (beside (g.W.World.seen c.give_back.new.world) c.run_under.new.io) c.give_back.new.thread)
    c.detail_of-detail.ensures (c.give_back.ensures.outcome c.run_under.new.io)) c.set_steps.ensures

pub give_back-requires-clause-here : goal.give_back-requires-clause-here
give_back-requires-clause-here g c κs within =
    ap (λ (f : Environment). is_live f.world c.run_under.new.thread.context) (same-environment c.args.traps.now c.args.thread_number (beside (g.W.World.seen c.args.world.now) c.args.io.now) c.args.text.now c.args.thread.now c.advance-advance.result c.advance-advance.ensures.exact
    c.args.guard.now (search (rules, c.if-guard-eq0.false)) c.requires.running c.requires.trapped c.in_ok-effect.effect (beside (g.W.World.seen c.run_under.new.world) c.run_under.new.io) c.run_under.new.thread c.in_ok-effect.ensures.outcome c.in-Some.cause c.in-Some.way c.in-Some.ensures.cause (ap (λ (z : Traps). way_back z (g.W.World.seen c.run_under.new.world) c.run_under.new.thread.context) (sym (c.in_ok-effect.ensures.traps ∙ traps-stay c.args.traps.now (g.W.World.seen c.args.world.now) (with_regs c.args.thread.now (advanced c.args.text.now c.args.thread.now.regs).after) (call_next (advanced c.args.text.now c.args.thread.now.regs).next) c.requires.trapped)) ∙ c.in-Some.ensures.way))
    ∙ ap (is_live (g.W.World.seen c.args.world.now)) (same-context c.args.traps.now c.args.thread_number (beside (g.W.World.seen c.args.world.now) c.args.io.now) c.args.text.now c.args.thread.now c.advance-advance.result c.advance-advance.ensures.exact
    c.args.guard.now (search (rules, c.if-guard-eq0.false)) c.requires.running c.requires.trapped c.in_ok-effect.effect (beside (g.W.World.seen c.run_under.new.world) c.run_under.new.io) c.run_under.new.thread c.in_ok-effect.ensures.outcome c.in-Some.cause c.in-Some.way c.in-Some.ensures.cause (ap (λ (z : Traps). way_back z (g.W.World.seen c.run_under.new.world) c.run_under.new.thread.context) (sym (c.in_ok-effect.ensures.traps ∙ traps-stay c.args.traps.now (g.W.World.seen c.args.world.now) (with_regs c.args.thread.now (advanced c.args.text.now c.args.thread.now.regs).after) (call_next (advanced c.args.text.now c.args.thread.now.regs).next) c.requires.trapped)) ∙ c.in-Some.ensures.way)) ∙ c.requires.ready.live
