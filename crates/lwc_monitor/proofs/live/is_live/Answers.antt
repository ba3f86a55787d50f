use Rattle.std.proofs.Common.{arith, sym, ap, ◌∙◌}
use Rattle.lwc_base.specs.World.{is_live}
use Rattle.lwc_types.specs.declared.name.Name.{Name}
use Rattle.lwc_monitor.proofs.Names.{found, is_named, none_left, passed}
use Rattle.lwc_monitor.proofs.Pairs.{alike, same-one}
use Rattle.lwc_monitor.proofs.live.is_live.Goals as goal

pub unreachable-requires : goal.unreachable-requires
unreachable-requires g c =
    is_named (g.W.World.seen c.args.world.now) c.contexts.i (omega (arith, c.contexts-test.true, c.context_count-i-end.ensures)) (sym c.nth_context.ensures ∙ c.in_default.is)

pub returns-then-eq : goal.returns-then-eq
returns-then-eq g c =
    let there = found (g.W.World.seen c.args.world.now) c.contexts.i c.in-Some.name (sym c.nth_context.ensures ∙ c.in-Some.is) in
    sym (ap (λ (n : Name). is_live (g.W.World.seen c.args.world.now) n) (sym (same-one _ _ (sym c.eq.ensures ∙ c.if-eq.true))) ∙ there)

pub contexts-preserved : goal.contexts-preserved
contexts-preserved g c =
    passed (g.W.World.seen c.args.world.now) c.contexts.i c.args.context c.in-Some.name (sym c.nth_context.ensures ∙ c.in-Some.is)
    (sym (alike c.args.context c.in-Some.name) ∙ (sym c.eq.ensures ∙ c.if-eq.false)) c.contexts.invariant

pub returns : goal.returns
returns g c = sym (none_left (g.W.World.seen c.args.world.now) c.contexts.i c.args.context (omega (arith, c.contexts-test.false, c.context_count-i-end.ensures)) c.contexts.invariant)
