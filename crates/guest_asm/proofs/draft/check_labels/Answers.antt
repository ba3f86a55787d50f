use Rattle.std.proofs.Common.{◌≡◌, ◌∙◌, sym, ap, true, [], length, get_or, arith}
use Rattle.std.specs.Prelude.{is_some}
use Rattle.std.proofs.lemmas.Grind.{common_steps}
use Rattle.guest_asm.specs.Views.{label_at}
use Rattle.guest_asm.proofs.Labels.{known_next}
use Rattle.guest_asm.proofs.draft.check_labels.Goals as goal

pub loop-label-preserved : goal.loop-label-preserved
loop-label-preserved c =
    let items = c.args.source.now.uses.items in
    let same : c.deref-label-items.result.now ≡ items = c.deref-label-items.ensures.value in
    let is : c.contains_key.result ≡ true = grind (arith, common_steps) in
    let known : is_some (label_at c.args.source.now.labels (get_or items c.loop-label.label-index (record { at = 0; name = record { ref_ptr = (0, 0); now = [] } })).name.now) ≡ true = rw same at (sym c.contains_key.ensures ∙ is) in
    sym (known_next (label_at c.args.source.now.labels) items c.loop-label.label-index (record { at = 0; name = record { ref_ptr = (0, 0); now = [] } }) (omega (arith, ap length same, c.loop-label-test.true)) known) ∙ c.loop-label.invariant
