use Rattle.std.proofs.Common.{◌≡◌, take}
use Rattle.std.specs.List.{flat_map}
use Rattle.lwc_debug.proofs.debugging.joined.Given as goal

-- the texts of the answers so far
abbrev pub invariant-answers : goal.invariant-answers
invariant-answers l = l.text.items ≡ flat_map (λ a. a.text.items) (take l.answer-index l.answers)
