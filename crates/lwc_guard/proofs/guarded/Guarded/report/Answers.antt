use Rattle.std.proofs.Common.{ap, ◌∙◌}
use Rattle.kernel_core.specs.Kernel.{History}
use Rattle.lwc_guard.proofs.Steadying.{as_seen, report-is}
use Rattle.lwc_guard.proofs.guarded.Guarded.report.Goals as goal

pub returns : goal.returns
returns g c =
    report-is _ _ _ _ _ _ _ _ (as_seen _ _ _ _ c.self.view_is c.self.invariant.1) _ _ _ _ _ _ _ _ _ c.in_ok-text.ensures c.in_ok-context_lines.ensures.ok c.in_ok-guard_lines.ensures
    c.in_ok-groups_line.ensures.ok c.group_count.ensures c.in_ok-tail_lines.ensures.ok c.console.ensures.bytes c.used.ensures (c.as_slice.ensures.value ∙ ap (λ (h : History). h.steps) c.self.view_is)
