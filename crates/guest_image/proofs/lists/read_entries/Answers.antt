use Rattle.std.proofs.lemmas.Result.{err_from_is_err_and}
use Rattle.guest_image.specs.Reading.{next_entry}
use Rattle.guest_image.proofs.Loops.{continues, ends, is_done}
use Rattle.guest_image.proofs.lists.read_entries.Goals as goal

pub returns-in_err-read_number_below : goal.returns-in_err-read_number_below
returns-in_err-read_number_below c =
    let p = err_from_is_err_and c.from_residual.result c.from_residual.ensures.1 in
    rw (p.1, p.2) (ends (next_entry c.args.instructions) _ _ _ _ _ c.loop.invariant _ c.loop-test.true c.in_err-read_number_below.ensures.read)

pub loop-preserved : goal.loop-preserved
loop-preserved c =
    rw c.in_ok-push.ensures.items (continues (next_entry c.args.instructions) _ _ _ _ _ c.loop.invariant _ _ c.loop-test.true c.in_ok-read_number_below.ensures.read)

pub returns : goal.returns
returns c = rw c.of.ensures (is_done (next_entry c.args.instructions) _ _ _ _ _ c.loop.invariant c.loop-test.false)
