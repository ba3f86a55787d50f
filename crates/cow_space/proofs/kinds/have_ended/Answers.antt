use Rattle.std.proofs.Common.{◌-◌, None, arith, get_or, leb-true}
use Rattle.cow_space.specs.declared.page_runs.Origin.TheVariants.{Absent}
use Rattle.cow_space.specs.declared.page_runs.PageRun.{PageRun}
use Rattle.cow_space.proofs.RisingRuns.{ended_before}
use Rattle.cow_space.proofs.kinds.have_ended.Goals as goal

pub returns-then-count-page_runs : goal.returns-then-count-page_runs
returns-then-count-page_runs c = λ on k d early.
    let inside = c.if-count-page_runs.true in
    let some = c.if-count-eq0.false in
    let none : PageRun = record { range = record { from = 0; to = 0 }; origin = Absent; right = None } in
    ended_before c.args.page_runs.now c.requires c.args.page (c.args.count - 1) none (omega (arith, inside, some))
    (leb-true (get_or c.args.page_runs.now (c.args.count - 1) none).range.to c.args.page on) k d (omega (arith, early, some))
