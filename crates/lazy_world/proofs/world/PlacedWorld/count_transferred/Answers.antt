use Rattle.std.proofs.Common.{◌≡◌, ◌∙◌, ℕ, ap, arith, refl, sym}
use Rattle.range_map.specs.Kinds.{ranges}
use Rattle.range_map.proofs.Ranges.{few_ranges}
use Rattle.fd_table.specs.Seen as slots_seen
use Rattle.cow_space.specs.Changes.{given_states}
use Rattle.cow_space.specs.Seen as pages_seen
use Rattle.cow_space.specs.declared.page_runs.PageRun.{PageRun}
use Rattle.lazy_world.specs.Cells.{states_of}
use Rattle.lazy_world.specs.Origins.{run_states}
use Rattle.lazy_world.specs.Seen.{count, rights, rows}
use Rattle.lazy_world.specs.declared.places.Places.{Places}
use Rattle.lazy_world.specs.Worlds.{right_transferred, transferred}
use Rattle.lazy_world.proofs.CountedLemmas.{shown_state}
use Rattle.lazy_world.proofs.TakeLemmas.{states-run}
use Rattle.lazy_world.proofs.world.PlacedWorld.count_transferred.Goals as goal

-- the states that a page run gives, by the places and by what they are seen as
run-states : (w : Places) (page_run : PageRun) (q : ℕ) →
    run_states (rows w) (rights w) page_run q ≡ given_states (pages_seen.cells w.pages) (pages_seen.rights w.pages) page_run q
unfolding rows rights
run-states w page_run q = states-run (pages_seen.cells w.pages) (slots_seen.slots w.slots) w.uids.items page_run (pages_seen.rights w.pages) q

pub pages-init : goal.pages-init
unfolding ranges
pages-init c = record { inside = omega arith; modes = c.empty-modes.ensures c.args.spec.now; counted = refl; first = λ _. refl; later = λ n is. absurd (omega (arith, is)) }

pub count_given-more-requires-clause-origin : goal.count_given-more-requires-clause-origin
count_given-more-requires-clause-origin c = c.whole-page_run.ensures.inside (count c.args.self.now.places) c.requires.to c.stretch_from-stretch.ensures.can

pub overflow_add-count : goal.overflow_add-count
overflow_add-count c =
    let w = c.args.self.now in
    let after = states_of (transferred w c.args.transfer c.args.spec.now c.args.from c.args.to) (right_transferred w c.args.transfer c.args.spec.now c.args.from c.args.to) in
    let stretch = c.stretch_from-stretch.ensures in
    let run = c.whole-page_run.ensures in
    let inv = c.pages.invariant in
    let more = c.count_given-more.ensures.counted after
    (λ q low high. shown_state _ _ _ _ _ _ _ (run.gives (rows w.places) q ∙ stretch.gives q (omega (arith, low, run.begin)) (omega (arith, high, run.end))) (stretch.read q (omega (arith, low, run.begin)) (omega (arith, high, run.end)))
    (stretch.rights q (omega (arith, low, run.begin)) (omega (arith, high, run.end))) (run.right (rights w.places) q) ∙ run-states w.places c.whole-page_run.result q)
    (λ zero. inv.first (omega (arith, zero, run.begin))) (λ n is. inv.later n (omega (arith, is, run.begin))) in
    let same = ap (λ n. ranges n after) run.begin in
    let few = few_ranges after c.whole-page_run.result.range.to in
    omega (arith, few, more, same, inv.counted, stretch.within, run.end)

pub pages-preserved : goal.pages-preserved
pages-preserved c =
    let w = c.args.self.now in
    let after = states_of (transferred w c.args.transfer c.args.spec.now c.args.from c.args.to) (right_transferred w c.args.transfer c.args.spec.now c.args.from c.args.to) in
    let stretch = c.stretch_from-stretch.ensures in
    let run = c.whole-page_run.ensures in
    let inv = c.pages.invariant in
    let more = c.count_given-more.ensures.counted after
    (λ q low high. shown_state _ _ _ _ _ _ _ (run.gives (rows w.places) q ∙ stretch.gives q (omega (arith, low, run.begin)) (omega (arith, high, run.end))) (stretch.read q (omega (arith, low, run.begin)) (omega (arith, high, run.end)))
    (stretch.rights q (omega (arith, low, run.begin)) (omega (arith, high, run.end))) (run.right (rights w.places) q) ∙ run-states w.places c.whole-page_run.result q)
    (λ zero. inv.first (omega (arith, zero, run.begin))) (λ n is. inv.later n (omega (arith, is, run.begin))) in
    let same = ap (λ n. ranges n after) run.begin in
    let whole = ap (λ n. ranges n after) run.end in
    record {
      inside = stretch.within;
      modes = stretch.modes;
      counted = omega (arith, more, same, whole, inv.counted);
      first = λ is. absurd (omega (arith, is, stretch.past));
      later = λ n is.
          c.count_given-more.ensures.last n (run.end ∙ is)
          ∙ sym (run-states w.places c.whole-page_run.result n)
          ∙ sym (shown_state _ _ _ _ _ _ _ (run.gives (rows w.places) n ∙ stretch.gives n (omega (arith, is, stretch.past)) (omega (arith, is))) (stretch.read n (omega (arith, is, stretch.past)) (omega (arith, is)))
          (stretch.rights n (omega (arith, is, stretch.past)) (omega (arith, is))) (run.right (rights w.places) n));
    }
