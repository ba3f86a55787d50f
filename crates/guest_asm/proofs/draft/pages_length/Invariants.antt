use Rattle.std.proofs.Common.{◌≡◌, ◌≤◌, ◌*◌, length, take}
use Rattle.std.specs.List.{flat_map}
use Rattle.guest_asm.specs.Drafts.{page}
use Rattle.guest_asm.proofs.draft.pages_length.Given as goal

abbrev pub invariant-loop-page : goal.invariant-loop-page
invariant-loop-page l = record {
  length : l.length ≡ length (flat_map page (take l.page-index l.pages));
  few : l.length ≤ 18446744073709555712 * l.page-index;
}
