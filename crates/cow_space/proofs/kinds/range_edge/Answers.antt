use Rattle.std.proofs.Common.{◌≡◌, arith, false, subst, true}
use Rattle.std.proofs.lemmas.List.{take_all}
use Rattle.std.specs.Prelude.{All}
use Rattle.range_map.proofs.Alike.{HasNoEdge, edge_more, no_edge_more}
use Rattle.cow_space.specs.Changes.{is_range_edge}
use Rattle.cow_space.proofs.KindChanges.{have-alike}
use Rattle.cow_space.proofs.kinds.range_edge.Goals as goal

pub loop-range-preserved : goal.loop-range-preserved
loop-range-preserved c =
    let near = c.sooner_edge-next.ensures in
    let inv = c.loop-range.invariant in
    record {
      past = near.past;
      within = omega (arith, near.within, inv.within);
      none = no_edge_more (λ r. r.from) (λ r. r.to) c.args.page c.loop-range.next c.sooner_edge-next.result c.loop-range.range-index c.args.ranges.now _ c.loop-range-test.true near.within near.alike inv.none;
      edge = edge_more (λ r. r.from) (λ r. r.to) (λ _. false) c.args.ranges.now c.loop-range.range-index _ c.loop-range.next c.sooner_edge-next.result c.args.edge c.loop-range-test.true inv.edge near.within near.one;
    }

pub returns-clause-alike : goal.returns-clause-alike
returns-clause-alike c q low high =
    have-alike c.args.page c.loop-range.next q c.args.ranges.now
    (subst (All (λ r. HasNoEdge c.args.page c.loop-range.next r.from r.to)) (take_all c.loop-range.range-index c.args.ranges.now c.loop-range-test.false) c.loop-range.invariant.none) low high

pub returns-clause-edge : goal.returns-clause-edge
returns-clause-edge c early =
    subst (λ ranges. is_range_edge ranges c.loop-range.next ≡ true) (take_all c.loop-range.range-index c.args.ranges.now c.loop-range-test.false) (c.loop-range.invariant.edge early)
