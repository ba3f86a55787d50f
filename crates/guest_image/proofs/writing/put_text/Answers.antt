use Rattle.std.proofs.Common.{◌++◌, take, ap, ◌∙◌}
use Rattle.std.specs.List.{flat_map}
use Rattle.guest_isa.specs.Spelling.{spelling}
use Rattle.guest_image.proofs.Writes.{spell_next}
use Rattle.guest_image.proofs.writing.put_text.Goals as goal

pub loop-i-preserved : goal.loop-i-preserved
loop-i-preserved c =
    let written = c.in_ok-extend_from_slice.ensures.items ∙ ap (λ t. t ++ c.encode.result) c.loop-i.invariant in
    written ∙ ap (λ t. (c.args.out.now.items ++ flat_map spelling (take c.loop-i.i c.args.text.now)) ++ t) c.encode.ensures.bytes ∙ spell_next spelling c.args.out.now.items c.args.text.now c.loop-i.i c.get.result.now c.get.ensures.value
