use Rattle.std.proofs.Common.{◌≡◌, ⊎_elim, arith, ap, drop, subst, sym, take, true, ◌∙◌}
use Rattle.std.specs.Option.{option_or}
use Rattle.std.proofs.lemmas.Bool.{cases_lt}
use Rattle.cow_space.specs.Changes.{is_edge, page_run_at}
use Rattle.cow_space.proofs.RisingRuns.{both_alike, edge_first, edge_last, found_in, last_runs}
use Rattle.cow_space.proofs.kinds.found_run.Goals as goal

pub returns-clause-run : goal.returns-clause-run
returns-clause-run c =
    let runs = c.args.page_runs.now in
    let from = c.args.rising.from in
    c.or.ensures
    ∙ (λ e. option_or (c.run_from-run.ensures.run e) ((c.rising_run-other.ensures.run ∙ ap (λ xs. page_run_at xs c.args.page) (last_runs from runs)) e))
    ∙ sym (found_in from c.args.page runs)

pub returns-clause-alike : goal.returns-clause-alike
returns-clause-alike c q low high =
    let runs = c.args.page_runs.now in
    let from = c.args.rising.from in
    let last = last_runs from runs in
    both_alike from c.args.page q runs (c.run_from-run.ensures.alike q low (omega (arith, high)))
    (sym (ap (λ xs. page_run_at xs q) last) ∙ c.rising_run-other.ensures.alike q low (omega (arith, high)) ∙ ap (λ xs. page_run_at xs c.args.page) last)

pub returns-clause-edge : goal.returns-clause-edge
returns-clause-edge c early =
    let runs = c.args.page_runs.now in
    let from = c.args.rising.from in
    ⊎_elim
    (λ low.
    let is : c.min.result ≡ c.run_from-run.result.1 = omega (arith, c.min.ensures, low) in
    edge_first from c.min.result runs (subst (λ e. is_edge (take from runs) e ≡ true) (sym is) (c.run_from-run.ensures.edge (omega (arith, early, is)))))
    (λ high.
    let is : c.min.result ≡ c.rising_run-other.result.1 = omega (arith, c.min.ensures, high) in
    edge_last from c.min.result runs
    (subst (λ e. is_edge (drop from runs) e ≡ true) (sym is) (subst (λ xs. is_edge xs c.rising_run-other.result.1 ≡ true) (last_runs from runs) (c.rising_run-other.ensures.edge (omega (arith, early, is))))))
    (cases_lt c.run_from-run.result.1 c.rising_run-other.result.1)
