use Rattle.std.proofs.Common.{◌≡◌, List, ap, arith, subst, sym, true, false, ◌∙◌}
use Rattle.std.proofs.lemmas.List.{take_all}
use Rattle.lwc_types.specs.declared.limits.TheConstants.{MOST_PAGES}
use Rattle.range_map.proofs.Alike.{edge_more}
use Rattle.cow_space.specs.declared.page_runs.PageRun.{PageRun}
use Rattle.cow_space.specs.Changes.{is_edge, page_run_at}
use Rattle.cow_space.proofs.KindChanges.{page_run_more}
use Rattle.cow_space.proofs.kinds.page_run_edge.Goals as goal

pub loop-page_run-preserved : goal.loop-page_run-preserved
loop-page_run-preserved c =
    let next = c.sooner_edge-edge.ensures in
    let inv = c.loop-page_run.invariant in
    record {
      past = next.past;
      within = omega (arith, next.within, inv.within);
      alike = λ q low high. page_run_more c.args.page_runs.now c.loop-page_run.page_run-index _ q c.args.page c.loop-page_run-test.true (inv.alike q low (omega (arith, next.within, high))) (next.alike q low high);
      edge = edge_more (λ s. s.range.from) (λ s. s.range.to) (λ _. false) c.args.page_runs.now c.loop-page_run.page_run-index _ c.loop-page_run.edge c.sooner_edge-edge.result MOST_PAGES c.loop-page_run-test.true inv.edge next.within next.one;
    }

pub returns-clause-alike : goal.returns-clause-alike
returns-clause-alike c q low high =
    let all = take_all c.loop-page_run.page_run-index c.args.page_runs.now c.loop-page_run-test.false in
    sym (ap (λ (xs : List PageRun). page_run_at xs q) all) ∙ c.loop-page_run.invariant.alike q low high ∙ ap (λ (xs : List PageRun). page_run_at xs c.args.page) all

pub returns-clause-edge : goal.returns-clause-edge
returns-clause-edge c early =
    subst (λ xs. is_edge xs c.loop-page_run.edge ≡ true) (take_all c.loop-page_run.page_run-index c.args.page_runs.now c.loop-page_run-test.false) (c.loop-page_run.invariant.edge early)
