use Rattle.std.proofs.Common.{[], Bool, ap, sym, ◌∙◌}
use Rattle.std.specs.List.{list_any}
use Rattle.std.specs.Prelude.{not, ◌||◌}
use Rattle.lwc_monitor.proofs.Pairs.{alike}
use Rattle.lwc_monitor.proofs.Refused.{forbids-is, forbids-none}
use Rattle.lwc_monitor.proofs.forbidding.forbids_overlay.Goals as goal
use Rattle.lwc_monitor.specs.Traps.{shares_slots}
use Rattle.lwc_overlay.specs.Named.{items_of}
use Rattle.res_spec.specs.declared.items.SpecCall.TheVariants as spec_call

pub returns-then-ne : goal.returns-then-ne
returns-then-ne g c =
    let w = g.W.World.seen c.args.world.now in
    let is = forbids-is c.args.traps.now w c.args.context c.args.regs.now c.in-Some.monitor (c.in-Ok.ensures.passed []) (sym c.monitor_of_named.ensures ∙ c.in-Some.is) in
    c.if-ne.true ∙ sym (is ∙ ap (λ (b : Bool). not b || list_any shares_slots (items_of w c.args.context spec_call.Overlay c.args.regs.now)) (sym (alike c.args.context c.in-Some.monitor))
    ∙ ap (λ (b : Bool). b || list_any shares_slots (items_of w c.args.context spec_call.Overlay c.args.regs.now)) (sym c.ne.ensures ∙ c.if-ne.true))

pub returns-else-ne : goal.returns-else-ne
returns-else-ne g c =
    let w = g.W.World.seen c.args.world.now in
    let is = forbids-is c.args.traps.now w c.args.context c.args.regs.now c.in-Some.monitor (c.in-Ok.ensures.passed []) (sym c.monitor_of_named.ensures ∙ c.in-Some.is) in
    sym (is ∙ ap (λ (b : Bool). not b || list_any shares_slots (items_of w c.args.context spec_call.Overlay c.args.regs.now)) (sym (alike c.args.context c.in-Some.monitor))
    ∙ ap (λ (b : Bool). b || list_any shares_slots (items_of w c.args.context spec_call.Overlay c.args.regs.now)) (sym c.ne.ensures ∙ c.if-ne.false)
    ∙ sym (c.share_slots.ensures ∙ ap (λ items. list_any shares_slots items) (c.items.ensures.items ∙ c.in-Ok.ensures.items)))

pub returns-in-Err : goal.returns-in-Err
returns-in-Err g c = sym (forbids-none c.args.traps.now (g.W.World.seen c.args.world.now) c.args.context c.args.regs.now c.in-Err.field-0 (c.in-Err.ensures.refused []))
