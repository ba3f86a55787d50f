use Rattle.std.proofs.Common.{◌≡◌, ◌++◌, ap, ◌∙◌, sym, arith, take, map}
use Rattle.std.proofs.lemmas.Grind.{common_steps}
use Rattle.std.specs.List.{flat_map}
use Rattle.std.proofs.lemmas.List.Folds.{flat_map-map}
use Rattle.guest_isa.specs.Spelling.{spelling}
use Rattle.guest_asm.specs.Drafts.{instruction_with}
use Rattle.guest_asm.specs.Views.{coded_in, label_at}
use Rattle.guest_asm.proofs.draft.put_text.Goals as goal

pub returns : goal.returns
returns c =
    let items = c.args.source.now.text.items in
    let labels = label_at c.args.source.now.labels in
    let whole : take c.loop-instr.instr-index items ≡ items = grind (arith, common_steps) in
    c.loop-instr.invariant ∙ ap (λ xs. c.args.out.now.items ++ xs) (ap (flat_map (λ i. spelling (instruction_with labels (coded_in i)))) whole ∙ sym (flat_map-map spelling (instruction_with labels) (map coded_in items) ∙ flat_map-map (λ n. spelling (instruction_with labels n)) coded_in items))
