use Rattle.std.proofs.Common.{Some, ap, arith, sym, ◌∙◌}
use Rattle.range_map.specs.declared.segment.Segment.{Segment}
use Rattle.range_map.proofs.Built.{segments_inside}
use Rattle.range_map.proofs.Edges.{none}
use Rattle.range_map.proofs.Halved.{absent_after, absent_before, state_within}
use Rattle.range_map.proofs.runs.run_at.Goals as goal

pub returns-in-Some-clause-within : goal.returns-in-Some-clause-within
returns-in-Some-clause-within c =
    let at = c.in-Some.ensures.lookup.3 in
    let here = segments_inside _ c.requires.canonical _ none at.0 in
    let is = ap (λ (s : Segment). s.from) (at.1 none) in
    omega (arith, here.some, here.inside, is)

pub returns-in-Some-clause-alike : goal.returns-in-Some-clause-alike
returns-in-Some-clause-alike c q low high =
    let at = c.in-Some.ensures.lookup.3 in
    let absent = absent_before _ c.requires.canonical _ _ c.ended_by.ensures.before _ at.0 (at.1 none) in
    absent q low high ∙ sym (absent c.args.page (omega arith) c.if-page-segment.true)

pub returns-in-Some-2-clause-within : goal.returns-in-Some-2-clause-within
returns-in-Some-2-clause-within c =
    let at = c.in-Some.ensures.lookup.3 in
    let here = segments_inside _ c.requires.canonical _ none at.0 in
    let is = ap (λ (s : Segment). s.to) (at.1 none) in
    omega (arith, here.inside, is)

pub returns-in-Some-2-clause-alike : goal.returns-in-Some-2-clause-alike
returns-in-Some-2-clause-alike c q low high =
    let at = c.in-Some.ensures.lookup.3 in
    let own = state_within _ c.requires.canonical _ _ c.ended_by.ensures.before _ at.0 (at.1 none) in
    own q (omega (arith, low, c.if-page-segment.false)) high ∙ sym (own c.args.page c.if-page-segment.false (omega (arith, low, high)))

pub returns-in-None-clause-alike : goal.returns-in-None-clause-alike
returns-in-None-clause-alike c q low high =
    let absent = absent_after _ c.requires.canonical _ _ c.ended_by.ensures.before in
    absent q c.in-None.ensures.lookup.3 low ∙ sym (absent c.args.page c.in-None.ensures.lookup.3 (omega arith))

pub returns-in-Some-clause-state : goal.returns-in-Some-clause-state
returns-in-Some-clause-state c =
    let at = c.in-Some.ensures.lookup.3 in
    sym (absent_before _ c.requires.canonical _ _ c.ended_by.ensures.before _ at.0 (at.1 none) c.args.page (omega arith) c.if-page-segment.true)

pub returns-in-Some-2-clause-state : goal.returns-in-Some-2-clause-state
returns-in-Some-2-clause-state c =
    let at = c.in-Some.ensures.lookup.3 in
    let past = c.ended_by.ensures.after none at.0 in
    let to_is = ap (λ (s : Segment). s.to) (at.1 none) in
    ap Some c.state.ensures ∙ sym (state_within _ c.requires.canonical _ _ c.ended_by.ensures.before _ at.0 (at.1 none) c.args.page c.if-page-segment.false (omega (arith, past, to_is)))

pub returns-in-None-clause-state : goal.returns-in-None-clause-state
returns-in-None-clause-state c =
    sym (absent_after _ c.requires.canonical _ _ c.ended_by.ensures.before c.args.page c.in-None.ensures.lookup.3 (omega arith))
