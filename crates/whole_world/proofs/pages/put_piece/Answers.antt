use Rattle.std.proofs.Common.{◌≡◌, ◌∙◌, ap, arith, ◌+◌, ◌*◌, length, length-set, get_or}
use Rattle.lwc_base.specs.Store.{byte_after, bytes_after}
use Rattle.lwc_types.specs.declared.page.TheConstants.{PAGE_BYTES}
use Rattle.whole_world.proofs.Places.{written_more, written_all}
use Rattle.whole_world.proofs.pages.put_piece.Goals as goal

pub loop-i-preserved : goal.loop-i-preserved
loop-i-preserved c = record {
  written = written_more _ _ _ c.loop-i.page _ _ c.loop-i.invariant.written (omega (arith, c.loop-i.invariant.whole, c.loop-i-test.true)) c.put.ensures
      (c.byte_with.ensures ∙ ap (λ l. byte_after (record { at = c.args.at; bytes = c.args.piece.now }) (c.args.page_number * PAGE_BYTES + c.loop-i.i) (get_or l c.loop-i.i 0)) c.as_slice.ensures.bytes);
  whole = ap length c.put.ensures ∙ length-set c.loop-i.page c.loop-i.i _ ∙ c.loop-i.invariant.whole;
}

pub returns : goal.returns
unfolding bytes_after
returns c =
    let whole : length c.as_slice-count.result.now ≡ length c.args.page.now = ap length c.as_slice-count.ensures.bytes in
    written_all _ c.args.page.now c.loop-i.i c.loop-i.page c.loop-i.invariant.written (c.loop-i.invariant.whole ∙ whole) (omega (arith, whole, c.loop-i-test.false))
