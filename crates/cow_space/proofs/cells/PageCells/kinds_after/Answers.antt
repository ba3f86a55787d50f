use Rattle.std.proofs.Common.{sym, subst, arith}
use Rattle.cow_space.specs.Changes.{changed_states, given_states}
use Rattle.cow_space.specs.Seen.{cells, rights}
use Rattle.cow_space.proofs.KindChanges.{HaveBelow, none-below, stretch-few, stretch-more}
use Rattle.cow_space.proofs.cells.PageCells.kinds_after.Goals as goal

pub stretches-init : goal.stretches-init
stretches-init c =
    let after = changed_states (cells c.args.self.now) (rights c.args.self.now) c.args.place c.args.page_runs.now c.args.reads.now in
    record {
      inside = omega arith;
      have = subst (HaveBelow 0 after) (sym c.empty-kinds.ensures) (none-below after);
    }

pub append_given-requires-clause-origin : goal.append_given-requires-clause-origin
append_given-requires-clause-origin c = c.stretch_at.ensures.origin _ c.requires.place c.requires.page_runs

pub append_given-requires-clause-clear : goal.append_given-requires-clause-clear
append_given-requires-clause-clear c q low = c.stretches.invariant.have.rest q (omega (arith, low, c.stretch_at.ensures.from))

pub append_given-requires-clause-few : goal.append_given-requires-clause-few
append_given-requires-clause-few c =
    let w = c.args.self.now in
    let after = changed_states (cells w) (rights w) c.args.place c.args.page_runs.now c.args.reads.now in
    let stretch = c.stretch_at.ensures in
    let few = stretch-few after c.stretches.p c.stretch_at.result.0.range.to c.stretches.kinds stretch.past stretch.within c.stretches.invariant.have (given_states (cells w) (rights w) c.stretch_at.result.0)
    (stretch.states (cells w) (rights w)) c.stretch_at.result.0.range.from stretch.from in
    omega (arith, few, c.requires.ranges)

pub stretches-preserved : goal.stretches-preserved
stretches-preserved c =
    let w = c.args.self.now in
    let after = changed_states (cells w) (rights w) c.args.place c.args.page_runs.now c.args.reads.now in
    let stretch = c.stretch_at.ensures in
    record {
      inside = stretch.within;
      have = stretch-more after c.stretches.p c.stretch_at.result.0.range.to c.stretches.kinds stretch.past stretch.within c.stretches.invariant.have (given_states (cells w) (rights w) c.stretch_at.result.0)
          (stretch.states (cells w) (rights w)) c.stretch_at.result.0.range.from stretch.from c.append_given.new.kinds c.append_given.ensures;
    }
