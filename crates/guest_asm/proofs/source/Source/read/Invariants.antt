use Rattle.std.proofs.Common.{◌≡◌, ◌-◌, ◌+◌, ◌≤◌, length, true}
use Rattle.std.specs.List.{list_all}
use Rattle.guest_asm.specs.Lexis.{lines}
use Rattle.guest_asm.specs.Sources.{nothing, with_lines}
use Rattle.guest_asm.specs.Views.{is_clean, source_in}
use Rattle.guest_asm.proofs.source.Source.read.Given as goal

abbrev pub invariant-loop-rest : goal.invariant-loop-rest
invariant-loop-rest l = record {
  read : with_lines (length l.bytes - length l.rest) (lines l.rest) (source_in l.source) ≡ with_lines 0 (lines l.bytes) nothing;
  clean : l.clean ≡ true → list_all is_clean l.rest ≡ true;
  within : length l.rest ≤ length l.bytes;
  count : length l.source.text.items + length l.rest ≤ length l.bytes;
}

abbrev pub decreases-loop-rest : goal.decreases-loop-rest
decreases-loop-rest l = length l.rest
