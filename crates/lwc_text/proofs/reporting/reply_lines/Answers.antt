use Rattle.lwc_text.proofs.Machines.{more_replies}
use Rattle.lwc_text.proofs.reporting.reply_lines.Goals as goal

pub requests-preserved : goal.requests-preserved
requests-preserved g c = more_replies _ _ _ _ _ _ c.reply.ensures c.requests.invariant c.in_ok-reply_line.ensures.ok
