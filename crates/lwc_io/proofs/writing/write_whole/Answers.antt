use Rattle.lwc_io.proofs.Outputs.{more_taken}
use Rattle.lwc_io.proofs.writing.write_whole.Goals as goal

pub loop-at-preserved : goal.loop-at-preserved
loop-at-preserved g c =
    more_taken _ _ _ _ _ _ c.loop-at.invariant c.in_ok-at.ensures.count c.in_ok-at.ensures.appended c.in_ok-at.ensures.no_fault
