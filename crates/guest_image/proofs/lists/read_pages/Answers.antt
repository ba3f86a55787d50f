use Rattle.std.proofs.Common.{sym, refl}
use Rattle.std.proofs.lemmas.Result.{err_from_is_err_and}
use Rattle.guest_image.specs.Reading.{next_page}
use Rattle.guest_image.proofs.Loops.{continues, ends, is_done}
use Rattle.guest_image.proofs.Push.{last_page, page_ranges}
use Rattle.guest_image.proofs.lists.read_pages.Goals as goal
use Rattle.lwc_types.specs.Outcomes.{Fails}

pub returns-in_err-page : goal.returns-in_err-page
returns-in_err-page c =
    let p = err_from_is_err_and c.from_residual.result c.from_residual.ensures.1 in
    let failed : Fails c.in_err-page.field-0.0 (next_page c.args.form c.loop.pages.items c.loop.reader) = rw (← c.loop.invariant.last, ← c.loop.invariant.ranges) c.in_err-page.ensures.read in
    rw (p.1, p.2) (ends (next_page c.args.form) _ _ _ _ _ c.loop.invariant.read _ c.loop-test.true failed)

pub loop-preserved : goal.loop-preserved
loop-preserved c =
    let read = rw (c.loop.invariant.last, c.loop.invariant.ranges) at c.in_ok-page.ensures.read in
    rw c.in_ok-push.ensures.items (record {
      read = continues (next_page c.args.form) _ _ _ _ _ c.loop.invariant.read _ _ c.loop-test.true read;
      last = sym (last_page c.loop.pages.items c.in_ok-page.page);
      ranges = rw (page_ranges, ← c.loop.invariant.last, ← c.loop.invariant.ranges, c.ranges_with-ranges.ensures, c.from.ensures) refl;
      room = rw (c.ranges_with-ranges.ensures, c.from.ensures) c.in_ok-page.ensures.room;
    })

pub returns : goal.returns
returns c = rw c.of.ensures (is_done (next_page c.args.form) _ _ _ _ _ c.loop.invariant.read c.loop-test.false)
