use Rattle.std.proofs.Common.{Some, ap, arith, sym, ◌∙◌}
use Rattle.cow_space.specs.declared.page_runs.PageRun.{PageRun}
use Rattle.cow_space.proofs.RisingRuns.{no_run, none_before, run_within}
use Rattle.cow_space.proofs.kinds.rising_run.Goals as goal

pub returns-in-Some-clause-run : goal.returns-in-Some-clause-run
returns-in-Some-clause-run c =
    let at = c.in-Some.ensures.lookup.3 in
    let from_is = ap (λ (s : PageRun). s.range.from) (at.1 no_run) in
    sym (none_before _ c.requires.rise c.args.page _ c.ended_by-ended.ensures.before c.args.page (omega arith) (λ _. omega (arith, from_is, c.if-page-page_run.true)))

pub returns-in-Some-clause-alike : goal.returns-in-Some-clause-alike
returns-in-Some-clause-alike c q low high =
    let at = c.in-Some.ensures.lookup.3 in
    let from_is = ap (λ (s : PageRun). s.range.from) (at.1 no_run) in
    let none = none_before _ c.requires.rise c.args.page _ c.ended_by-ended.ensures.before in
    none q low (λ _. omega (arith, from_is, high)) ∙ sym (none c.args.page (omega arith) (λ _. omega (arith, from_is, c.if-page-page_run.true)))

pub returns-in-Some-2-clause-run : goal.returns-in-Some-2-clause-run
returns-in-Some-2-clause-run c =
    let at = c.in-Some.ensures.lookup.3 in
    let from_is = ap (λ (s : PageRun). s.range.from) (at.1 no_run) in
    ap Some (at.1 no_run) ∙ sym (run_within _ c.requires.rise c.args.page _ c.ended_by-ended.ensures.before at.0 c.args.page (omega arith) (omega (arith, from_is, c.if-page-page_run.false)) (c.ended_by-ended.ensures.after no_run at.0))

pub returns-in-Some-2-clause-alike : goal.returns-in-Some-2-clause-alike
returns-in-Some-2-clause-alike c q low high =
    let at = c.in-Some.ensures.lookup.3 in
    let from_is = ap (λ (s : PageRun). s.range.from) (at.1 no_run) in
    let to_is = ap (λ (s : PageRun). s.range.to) (at.1 no_run) in
    let own = run_within _ c.requires.rise c.args.page _ c.ended_by-ended.ensures.before at.0 in
    own q low (omega (arith, low, from_is, c.if-page-page_run.false)) (omega (arith, to_is, high)) ∙ sym (own c.args.page (omega arith) (omega (arith, from_is, c.if-page-page_run.false)) (c.ended_by-ended.ensures.after no_run at.0))

pub returns-in-None-clause-run : goal.returns-in-None-clause-run
returns-in-None-clause-run c =
    let past = c.in-None.ensures.lookup.3 in
    sym (none_before _ c.requires.rise c.args.page _ c.ended_by-ended.ensures.before c.args.page (omega arith) (λ inside. absurd (omega (arith, inside, past))))

pub returns-in-None-clause-alike : goal.returns-in-None-clause-alike
returns-in-None-clause-alike c q low high =
    let past = c.in-None.ensures.lookup.3 in
    let none = none_before _ c.requires.rise c.args.page _ c.ended_by-ended.ensures.before in
    none q low (λ inside. absurd (omega (arith, inside, past))) ∙ sym (none c.args.page (omega arith) (λ inside. absurd (omega (arith, inside, past))))
