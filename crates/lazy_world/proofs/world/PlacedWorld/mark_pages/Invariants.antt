use Rattle.std.proofs.Common.{take}
use Rattle.std.specs.List.{list_any}
use Rattle.lazy_world.specs.Reaping.{AddsMarks, is_of}
use Rattle.lazy_world.proofs.world.PlacedWorld.mark_pages.Given as goal

abbrev pub invariant-loop-segment : goal.invariant-loop-segment
invariant-loop-segment l =
    AddsMarks l.self.groups.places (λ g. list_any (λ s. is_of s.kind g) (take l.segment-index l.segment-items)) l.initial.marks l.marks
