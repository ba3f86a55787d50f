use Rattle.std.proofs.Common.{ap, ◌∙◌, Option}
use Rattle.std.specs.Option.{option_map}
use Rattle.lwc_types.specs.declared.name.Name.{Name}
use Rattle.lwc_guard.specs.declared.guard.Guard.{Guard}
use Rattle.lwc_monitor.proofs.Pairs.{get-is}
use Rattle.lwc_guard.proofs.guards.Guards.guard_of.Goals as goal

pub returns-in-Some : goal.returns-in-Some
returns-in-Some c =
    let found = rw (c.in-Some.is, c.as_slice.ensures.value) at c.row_of.ensures in
    rw (← c.self.view_is) (ap (λ (o : Option (Name × Guard)). option_map (λ p. p.1) o) found ∙ get-is _ c.self.invariant.0 c.args.context)

pub returns-in-None : goal.returns-in-None
returns-in-None c =
    let found = rw (c.in-None.is, c.as_slice.ensures.value) at c.row_of.ensures in
    rw (← c.self.view_is) (ap (λ (o : Option (Name × Guard)). option_map (λ p. p.1) o) found ∙ get-is _ c.self.invariant.0 c.args.context)
