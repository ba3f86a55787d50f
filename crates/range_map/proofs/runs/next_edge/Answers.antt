use Rattle.std.proofs.Common.{◌≡◌, ◌||◌, true, arith, subst}
use Rattle.std.proofs.lemmas.List.{take_all}
use Rattle.std.specs.Prelude.{All, ◌==◌}
use Rattle.std.specs.List.{list_any}
use Rattle.lwc_types.specs.declared.limits.TheConstants.{MOST_PAGES}
use Rattle.range_map.specs.Kinds.{is_edge}
use Rattle.range_map.proofs.Alike.{HasNoEdge, edge_more, no_edge_more, run_alike}
use Rattle.range_map.proofs.runs.next_edge.Goals as goal

pub loop-change-preserved : goal.loop-change-preserved
loop-change-preserved c =
    let next = c.sooner_edge-edge.ensures in
    let inv = c.loop-change.invariant in
    record {
      past = next.past;
      within = omega (arith, next.within, inv.within);
      alike = λ q low high. inv.alike q low (omega (arith, high, next.within));
      edge = edge_more (λ c. c.from) (λ c. c.to) (is_edge c.args.segments.now) c.args.changes.now c.loop-change.change-index _ c.loop-change.edge c.sooner_edge-edge.result MOST_PAGES c.loop-change-test.true inv.edge next.within next.one;
      clear = no_edge_more (λ s. s.from) (λ s. s.to) c.args.page c.loop-change.edge c.sooner_edge-edge.result c.loop-change.change-index c.args.changes.now _
          c.loop-change-test.true next.within next.alike inv.clear;
    }

pub returns-clause-alike : goal.returns-clause-alike
returns-clause-alike c q low high =
    let inv = c.loop-change.invariant in
    run_alike c.args.changes.now c.args.segments.now c.args.page c.loop-change.edge q (inv.alike q low high)
    (subst (All (λ s. HasNoEdge c.args.page c.loop-change.edge s.from s.to)) (take_all c.loop-change.change-index c.args.changes.now c.loop-change-test.false) inv.clear) low high

pub returns-clause-edge : goal.returns-clause-edge
returns-clause-edge c early =
    let at = c.loop-change.edge in
    subst (λ changes. (is_edge c.args.segments.now at || list_any (λ change. (change.from == at) || (change.to == at)) changes) ≡ true)
    (take_all c.loop-change.change-index c.args.changes.now c.loop-change-test.false) (c.loop-change.invariant.edge early)
