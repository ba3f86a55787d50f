use Rattle.std.proofs.Common.{◌∙◌, ◌++◌, ap, append_assoc, sym}
use Rattle.std.specs.Prelude.{codes, decimal}
use Rattle.lwc_debug.specs.Transcript.{slot_text}
use Rattle.lwc_debug.proofs.answering.slot_text.Goals as goal

pub returns-in_ok-format-in-File : goal.returns-in_ok-format-in-File
unfolding slot_text
returns-in_ok-format-in-File c =
    rw c.in-File.is (c.in_ok-format-in-File.ensures.ok ∙ ap (λ l. codes "file " ++ l) (sym (append_assoc (decimal c.in-File.file) (codes " at ") (decimal c.in-File.at))))

pub returns-in_ok-format-in-Request : goal.returns-in_ok-format-in-Request
unfolding slot_text
returns-in_ok-format-in-Request c =
    rw c.in-Request.is (c.in_ok-format-in-Request.ensures.ok ∙ ap (λ l. codes "request " ++ l) (sym (append_assoc (decimal c.in-Request.r) (codes " at ") (decimal c.in-Request.at))))
