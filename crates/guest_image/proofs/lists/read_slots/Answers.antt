use Rattle.std.proofs.Common.{sym}
use Rattle.std.proofs.lemmas.Result.{err_from_is_err_and}
use Rattle.guest_image.specs.Reading.{next_slot}
use Rattle.guest_image.proofs.Loops.{continues, ends, is_done}
use Rattle.guest_image.proofs.Push.{last_slot}
use Rattle.guest_image.proofs.lists.read_slots.Goals as goal
use Rattle.lwc_types.specs.Outcomes.{Fails}

pub returns-in_err-slot : goal.returns-in_err-slot
returns-in_err-slot c =
    let p = err_from_is_err_and c.from_residual.result c.from_residual.ensures.1 in
    let failed : Fails c.in_err-slot.field-0.0 (next_slot c.args.files c.loop.slots.items c.loop.reader) = rw (← c.loop.invariant.last) c.in_err-slot.ensures in
    rw (p.1, p.2) (ends (next_slot c.args.files) _ _ _ _ _ c.loop.invariant.read _ c.loop-test.true failed)

pub loop-preserved : goal.loop-preserved
loop-preserved c =
    let read = rw c.loop.invariant.last at c.in_ok-slot.ensures in
    rw c.in_ok-push.ensures.items (record {
      read = continues (next_slot c.args.files) _ _ _ _ _ c.loop.invariant.read _ _ c.loop-test.true read;
      last = rw c.from.ensures (sym (last_slot c.loop.slots.items c.in_ok-slot.slot));
    })

pub returns : goal.returns
returns c = rw c.of.ensures (is_done (next_slot c.args.files) _ _ _ _ _ c.loop.invariant.read c.loop-test.false)
