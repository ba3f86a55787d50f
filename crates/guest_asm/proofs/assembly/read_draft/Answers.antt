use Rattle.std.proofs.Common.{ap, arith}
use Rattle.guest_image.proofs.WholeLaws.{too_long}
use Rattle.guest_asm.specs.Drafts.{draft_bytes, draft_of, of_image}
use Rattle.guest_asm.specs.Views.{source_in}
use Rattle.guest_asm.proofs.assembly.read_draft.Goals as goal

pub returns-then-draft_length-clause-exact : goal.returns-then-draft_length-clause-exact
returns-then-draft_length-clause-exact c =
    ap of_image (too_long (draft_bytes (draft_of (source_in c.args.source))) (omega (arith, c.draft_length.ensures, c.if-draft_length.true)))
