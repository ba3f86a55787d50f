use Rattle.std.proofs.Common.{◌≡◌, take}
use Rattle.std.specs.List.{list_all}
use Rattle.guest_asm.specs.Views.{is_clean}
use Rattle.guest_asm.proofs.words.all_clean.Given as goal

abbrev pub invariant-bytes : goal.invariant-bytes
invariant-bytes l = l.clean ≡ list_all is_clean (take l.byte-index l.bytes)
