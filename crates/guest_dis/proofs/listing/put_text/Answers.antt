use Rattle.std.proofs.Common.{◌++◌, ap, ◌∙◌}
use Rattle.guest_dis.specs.Listing.{instruction_line}
use Rattle.guest_dis.proofs.Texts.{line_next}
use Rattle.guest_dis.proofs.listing.put_text.Goals as goal

pub loop-i-preserved : goal.loop-i-preserved
loop-i-preserved c =
    c.in_ok-put_instruction.ensures ∙ ap (λ t. t ++ instruction_line c.get.result.now) c.loop-i.invariant
    ∙ line_next instruction_line c.args.out.now.items c.args.text.now c.loop-i.i c.get.result.now c.get.ensures.value
