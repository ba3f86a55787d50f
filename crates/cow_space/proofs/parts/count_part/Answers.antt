use Rattle.std.proofs.Common.{◌+◌, ◌∙◌, Some, ap, arith, inl, subst, sym}
use Rattle.std.proofs.lemmas.List.{get_or_default}
use Rattle.range_map.proofs.Edges.{none}
use Rattle.cow_space.specs.Changes.{begun}
use Rattle.cow_space.proofs.PartLemmas.{IsCounted, counted-all, counted-more, ends, few-segments, last-all, none-passed, not-counted, taken}
use Rattle.cow_space.proofs.parts.count_part.Goals as goal
use Rattle.cow_space.proofs.parts.count_part.Goals.{then-segments-test+else-segments-k, else-segments-test}

pub segments-init : goal.segments-init
segments-init c = record {
  passed = none-passed c.args.segments.now c.requires.canonical c.args.right c.args.from c.args.to c.ended_by-k.result c.requires.order c.ended_by-k.ensures.before c.ended_by-k.ensures.after;
  counted = not-counted c.args.segments.now c.args.right c.args.from c.args.to c.args.before;
  few = omega arith;
}

pub overflow_add-count : goal.overflow_add-count
overflow_add-count c =
    let few = few-segments c.args.segments.now c.requires.canonical in
    omega (arith, few, c.segments.invariant.few, c.segments-test.true, c.begun-count.ensures.few)

pub segments-preserved : goal.segments-preserved
segments-preserved c =
    let inv = c.segments.invariant in
    let inside = c.segments-test.true in
    record {
      passed = taken c.args.segments.now c.requires.canonical c.args.right c.args.from c.args.to c.segments.k c.segments.p inv.passed _ inside (get_or_default _ _ _ none inside) c.max-start.result c.min-end.result
          c.max-start.ensures c.min-end.ensures c.if-segments-k.true;
      counted = subst (λ s. IsCounted c.args.segments.now c.args.right c.args.from c.args.to c.args.before c.min-end.result (c.segments.count + c.begun-count.result) (Some s)) (sym c.state_given.ensures)
          (counted-more c.args.segments.now c.requires.canonical c.args.right c.args.from c.args.to c.segments.k c.segments.p inv.passed _ inside (get_or_default _ _ _ none inside) c.max-start.result c.min-end.result
          c.max-start.ensures c.min-end.ensures c.if-segments-k.true c.args.before c.segments.count c.segments.last c.last_before.result inv.counted c.last_before.ensures.gap c.last_before.ensures.meets c.begun-count.result
          (c.begun-count.ensures.begun ∙ ap (λ s. begun c.last_before.result (Some s)) c.state_given.ensures));
      few = omega (arith, inv.few, c.begun-count.ensures.few);
    }

pub returns-clause-counted : goal.returns-clause-counted
returns-clause-counted c =
    let inv = c.segments.invariant in
    counted-all c.args.segments.now c.requires.canonical c.args.right c.args.from c.args.to c.segments.k c.segments.p inv.passed
    (elim c.segments-test.branch [
      | then-segments-test+else-segments-k w ↦ ends c.args.segments.now c.requires.canonical c.args.right c.args.from c.args.to c.segments.k c.segments.p inv.passed _ (get_or_default _ _ _ none w.segments-test.true) w.if-segments-k.false
      | else-segments-test w ↦ inl w.segments-test.false
    ])
    c.requires.order c.args.before c.segments.count c.segments.last c.segments.last inv.counted

pub returns-clause-last : goal.returns-clause-last
returns-clause-last c =
    let inv = c.segments.invariant in
    last-all c.args.segments.now c.requires.canonical c.args.right c.args.from c.args.to c.segments.k c.segments.p inv.passed
    (elim c.segments-test.branch [
      | then-segments-test+else-segments-k w ↦ ends c.args.segments.now c.requires.canonical c.args.right c.args.from c.args.to c.segments.k c.segments.p inv.passed _ (get_or_default _ _ _ none w.segments-test.true) w.if-segments-k.false
      | else-segments-test w ↦ inl w.segments-test.false
    ])
    c.requires.order c.args.before c.segments.count c.segments.last c.last_before-2.result inv.counted c.last_before-2.ensures.gap c.last_before-2.ensures.meets
