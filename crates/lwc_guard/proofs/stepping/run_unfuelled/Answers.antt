use Rattle.std.proofs.Common.{ap, sym, ◌-◌, ◌∙◌, None, Option, ℕ}
use Rattle.kernel_core.specs.Step.{beside, counted, faulted, unchanged}
use Rattle.lwc_guard.specs.GivingBack.{returned}
use Rattle.lwc_guard.specs.declared.numbers.TheConstants.{NO_FUEL}
use Rattle.lwc_types.specs.declared.fault.Fault.TheVariants as fault
use Rattle.lwc_types.specs.declared.name.Name.{Name}
use Rattle.lwc_guard.proofs.stepping.run_unfuelled.Goals as goal

pub returns-in-Some-clause-outcome : goal.returns-in-Some-clause-outcome
returns-in-Some-clause-outcome g c io =
    let e = beside (g.W.World.seen c.args.world.now) io in
    let x = c.args.thread.now in
    ap (λ (o : Option (Name × ℕ)). counted (x.budget - 1) (returned o NO_FUEL None c.args.thread_number e x c.args.guard.now (unchanged e (faulted x fault.Budget))).outcome)
    (sym c.way_back.ensures.found ∙ c.in-Some.is)
    ∙ ap (counted (x.budget - 1)) (c.give_back.ensures.outcome io)
    ∙ ap (unchanged (beside (g.W.World.seen c.give_back.new.world) io)) (sym c.set_steps.ensures)
