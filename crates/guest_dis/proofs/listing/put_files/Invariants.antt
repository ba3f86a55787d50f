use Rattle.std.proofs.Common.{◌≡◌, ◌<◌, ◌++◌, take, All}
use Rattle.std.specs.List.{flat_map}
use Rattle.guest_dis.specs.Listing.{file_line}
use Rattle.guest_dis.proofs.listing.put_files.Given as goal

abbrev pub invariant-loop-file : goal.invariant-loop-file
invariant-loop-file l = record {
  lines : l.out.items ≡ l.fn.out.items ++ flat_map file_line (take l.file-index l.files);
  bytes : All (λ x. All (λ b. b < 256) x.bytes) (take l.file-index l.files);
}
