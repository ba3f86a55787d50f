use Rattle.std.proofs.Common.{◌≡◌, ◌≤◌, ◌*◌, length, take}
use Rattle.std.specs.List.{flat_map}
use Rattle.guest_asm.specs.Drafts.{file}
use Rattle.guest_asm.proofs.draft.files_length.Given as goal

abbrev pub invariant-loop-file : goal.invariant-loop-file
invariant-loop-file l = record {
  length : l.length ≡ length (flat_map file (take l.file-index l.files));
  few : l.length ≤ 18446744073709555712 * l.file-index;
}
