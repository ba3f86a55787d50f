use Rattle.std.proofs.Common.{◌≡◌, ◌++◌, take}
use Rattle.std.specs.List.{flat_map}
use Rattle.guest_image.specs.Spelling.{number}
use Rattle.guest_asm.specs.Drafts.{value_of}
use Rattle.guest_asm.specs.Views.{immediate_in, label_at}
use Rattle.guest_asm.proofs.draft.put_entries.Given as goal

abbrev pub invariant-loop-entry : goal.invariant-loop-entry
invariant-loop-entry l =
    l.out.items ≡ l.fn.out.items ++ flat_map (λ e. number (value_of (label_at l.source.labels) (immediate_in e))) (take l.entry-index l.source.entries.items)
