use Rattle.std.proofs.Common.{◌≡◌, map}
use Rattle.std.specs.List.{range_with_len}
use Rattle.lwc_gen.specs.Generated.{numbered_page}
use Rattle.lwc_gen.proofs.generating.numbered_pages.Given as goal

abbrev pub invariant-loop-number : goal.invariant-loop-number
invariant-loop-number l = l.pages.items ≡ map numbered_page (range_with_len 0 l.number)
