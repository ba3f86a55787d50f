use Rattle.std.proofs.Common.{◌≡◌, ◌++◌, ap, ◌∙◌, sym, arith, take, map}
use Rattle.std.proofs.lemmas.Grind.{common_steps}
use Rattle.std.specs.List.{flat_map}
use Rattle.std.proofs.lemmas.List.Folds.{flat_map-map}
use Rattle.guest_image.specs.Spelling.{number}
use Rattle.guest_asm.specs.Drafts.{value_of}
use Rattle.guest_asm.specs.Views.{immediate_in, label_at}
use Rattle.guest_asm.proofs.draft.put_entries.Goals as goal

pub returns : goal.returns
returns c =
    let items = c.args.source.now.entries.items in
    let labels = label_at c.args.source.now.labels in
    let whole : take c.loop-entry.entry-index items ≡ items = grind (arith, common_steps) in
    c.loop-entry.invariant ∙ ap (λ xs. c.args.out.now.items ++ xs) (ap (flat_map (λ e. number (value_of labels (immediate_in e)))) whole ∙ sym (flat_map-map number (value_of labels) (map immediate_in items) ∙ flat_map-map (λ n. number (value_of labels n)) immediate_in items))
