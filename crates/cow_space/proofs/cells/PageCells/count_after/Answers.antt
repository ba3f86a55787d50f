use Rattle.std.proofs.Common.{◌∙◌, ap, arith, refl, sym}
use Rattle.range_map.specs.Kinds.{ranges}
use Rattle.range_map.proofs.Ranges.{few_ranges}
use Rattle.cow_space.specs.Changes.{changed_states}
use Rattle.cow_space.specs.Seen.{cells, rights}
use Rattle.cow_space.proofs.cells.PageCells.count_after.Goals as goal

pub stretches-init : goal.stretches-init
unfolding ranges
stretches-init c = record { inside = omega arith; counted = refl; first = λ _. refl; later = λ n is. absurd (omega (arith, is)) }

pub count_given-more-requires-clause-origin : goal.count_given-more-requires-clause-origin
count_given-more-requires-clause-origin c = c.stretch_at.ensures.origin _ c.requires.place c.requires.page_runs

pub overflow_add-count : goal.overflow_add-count
overflow_add-count c =
    let w = c.args.self.now in
    let after = changed_states (cells w) (rights w) c.args.place c.args.page_runs.now c.args.reads.now in
    let stretch = c.stretch_at.ensures in
    let inv = c.stretches.invariant in
    let from = stretch.from in
    let more = c.count_given-more.ensures.counted after (λ q low high. stretch.states (cells w) (rights w) q (omega (arith, low, from)) high)
    (λ zero. inv.first (omega (arith, zero, from))) (λ n is. inv.later n (omega (arith, is, from))) in
    let same = ap (λ n. ranges n after) from in
    let few = few_ranges after c.stretch_at.result.0.range.to in
    omega (arith, few, more, same, inv.counted, stretch.within)

pub stretches-preserved : goal.stretches-preserved
stretches-preserved c =
    let w = c.args.self.now in
    let after = changed_states (cells w) (rights w) c.args.place c.args.page_runs.now c.args.reads.now in
    let stretch = c.stretch_at.ensures in
    let inv = c.stretches.invariant in
    let from = stretch.from in
    let more = c.count_given-more.ensures.counted after (λ q low high. stretch.states (cells w) (rights w) q (omega (arith, low, from)) high)
    (λ zero. inv.first (omega (arith, zero, from))) (λ n is. inv.later n (omega (arith, is, from))) in
    let same = ap (λ n. ranges n after) from in
    record {
      inside = stretch.within;
      counted = omega (arith, more, same, inv.counted);
      first = λ is. absurd (omega (arith, is, stretch.past));
      later = λ n is. c.count_given-more.ensures.last n is ∙ sym (stretch.states (cells w) (rights w) n (omega (arith, is, stretch.past)) (omega (arith, is)));
    }
