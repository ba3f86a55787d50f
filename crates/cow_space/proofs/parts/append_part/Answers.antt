use Rattle.std.proofs.Common.{◌≡◌, ◌≤◌, ℕ, arith, inl, subst, sym}
use Rattle.std.proofs.lemmas.List.{get_or_default}
use Rattle.lwc_types.specs.declared.limits.TheConstants.{MOST_PAGES, MOST_RANGES}
use Rattle.range_map.specs.Kinds.{put_state, ranges, state_at}
use Rattle.range_map.proofs.Edges.{none}
use Rattle.cow_space.proofs.PartLemmas.{append-few, ends, have-all, have-more, taken}
use Rattle.cow_space.proofs.parts.append_part.Goals as goal

pub append-requires-clause-few : goal.append-requires-clause-few
append-requires-clause-few c =
    let inv = c.segments.invariant in
    let inside = c.segments-test.true in
    let few = append-few c.args.segments.now c.requires.canonical c.args.right c.args.from c.args.to c.args.kinds.now c.requires.inside c.requires.clear c.segments.k c.segments.p inv.passed
    c.segments.kinds inv.have _ inside (get_or_default _ _ _ none inside) c.max-start.result c.min-end.result c.max-start.ensures c.min-end.ensures c.if-segments-k.true in
    subst (λ s. ranges MOST_PAGES (put_state (state_at c.segments.kinds) c.max-start.result c.min-end.result s) ≤ MOST_RANGES) (sym c.state_given.ensures) (omega (arith, few, c.requires.few))

pub segments-preserved : goal.segments-preserved
segments-preserved c =
    let inv = c.segments.invariant in
    let inside = c.segments-test.true in
    record {
      passed = taken c.args.segments.now c.requires.canonical c.args.right c.args.from c.args.to c.segments.k c.segments.p inv.passed _ inside (get_or_default _ _ _ none inside) c.max-start.result c.min-end.result
          c.max-start.ensures c.min-end.ensures c.if-segments-k.true;
      have = have-more c.args.segments.now c.requires.canonical c.args.right c.args.from c.args.to c.args.kinds.now c.requires.inside c.requires.clear c.segments.k c.segments.p inv.passed
          c.segments.kinds inv.have _ inside (get_or_default _ _ _ none inside) c.max-start.result c.min-end.result c.max-start.ensures c.min-end.ensures c.if-segments-k.true c.append.new.self
          (subst (λ s. (q : ℕ) → state_at c.append.new.self q ≡ put_state (state_at c.segments.kinds) c.max-start.result c.min-end.result s q) c.state_given.ensures c.append.ensures);
    }

pub returns-else-segments-k : goal.returns-else-segments-k
returns-else-segments-k c =
    let inv = c.segments.invariant in
    have-all c.args.segments.now c.requires.canonical c.args.right c.args.from c.args.to c.args.kinds.now c.requires.inside c.requires.clear c.segments.k c.segments.p inv.passed c.segments.kinds inv.have
    (ends c.args.segments.now c.requires.canonical c.args.right c.args.from c.args.to c.segments.k c.segments.p inv.passed _ (get_or_default _ _ _ none c.segments-test.true) c.if-segments-k.false)

pub returns-after-segments : goal.returns-after-segments
returns-after-segments c =
    let inv = c.segments.invariant in
    have-all c.args.segments.now c.requires.canonical c.args.right c.args.from c.args.to c.args.kinds.now c.requires.inside c.requires.clear c.segments.k c.segments.p inv.passed c.segments.kinds inv.have
    (inl c.segments-test.false)
