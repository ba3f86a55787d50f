use Rattle.std.proofs.Common.{subst, sym}
use Rattle.guest_isa.specs.Instructions.{IsText}
use Rattle.lwc_gen.proofs.Images.{handler_is_text}
use Rattle.lwc_gen.proofs.generating.handler.Goals as goal

pub of-requires : goal.of-requires
of-requires c = subst IsText (sym c.in_ok-from_slice.ensures.items) handler_is_text
