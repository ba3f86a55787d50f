use Rattle.std.proofs.Common.{◌≡◌, drop, map, find}
use Rattle.std.specs.Prelude.{not, is_some}
use Rattle.guest_asm.specs.Sources.{Use}
use Rattle.guest_asm.specs.Views.{label_at, use_in}
use Rattle.guest_asm.proofs.draft.check_labels.Given as goal

abbrev pub invariant-loop-label : goal.invariant-loop-label
invariant-loop-label l =
    find (λ (u : Use). not (is_some (label_at l.source.labels u.name))) (map use_in (drop l.label-index l.source.uses.items)) ≡ find (λ (u : Use). not (is_some (label_at l.source.labels u.name))) (map use_in l.source.uses.items)
