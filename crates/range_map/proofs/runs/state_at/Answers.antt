use Rattle.std.proofs.Common.{Some, ap, arith, sym, ◌∙◌}
use Rattle.range_map.specs.declared.segment.Segment.{Segment}
use Rattle.range_map.proofs.Edges.{none}
use Rattle.range_map.proofs.Halved.{absent_after, absent_before, state_within}
use Rattle.range_map.proofs.runs.state_at.Goals as goal

pub returns-in_err-segment : goal.returns-in_err-segment
returns-in_err-segment c =
    c.from_residual.ensures ∙ sym (absent_after _ c.requires _ _ c.ended_by.ensures.before c.args.page c.in_err-segment.ensures.lookup.3 (omega arith))

pub returns-then-segment-page : goal.returns-then-segment-page
returns-then-segment-page c =
    let at = c.in_ok-segment.ensures.lookup.3 in
    let past = c.ended_by.ensures.after none at.0 in
    let to_is = ap (λ (s : Segment). s.to) (at.1 none) in
    ap Some c.state.ensures ∙ sym (state_within _ c.requires _ _ c.ended_by.ensures.before _ at.0 (at.1 none) c.args.page c.if-segment-page.true (omega (arith, past, to_is)))

pub returns-else-segment-page : goal.returns-else-segment-page
returns-else-segment-page c =
    let at = c.in_ok-segment.ensures.lookup.3 in
    sym (absent_before _ c.requires _ _ c.ended_by.ensures.before _ at.0 (at.1 none) c.args.page (omega arith) c.if-segment-page.false)
