use Rattle.std.proofs.Common.{◌≡◌, ◌+◌, ◌*◌, length}
use Rattle.lwc_base.specs.Store.{byte_after}
use Rattle.lwc_types.specs.declared.page.TheConstants.{PAGE_BYTES}
use Rattle.whole_world.proofs.Places.{IsWrittenBelow}
use Rattle.whole_world.proofs.pages.put_piece.Given as goal

abbrev pub invariant-loop-i : goal.invariant-loop-i
invariant-loop-i l = record {
  written : IsWrittenBelow (λ i old. byte_after (record { at = l.at; bytes = l.piece }) (l.page_number * PAGE_BYTES + i) old) l.initial.page l.i l.page;
  whole : length l.page ≡ l.count;
}
