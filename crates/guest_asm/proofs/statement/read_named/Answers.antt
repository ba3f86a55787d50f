use Rattle.std.proofs.Common.{sym, ◌∙◌}
use Rattle.guest_asm.specs.Lexis.{words}
use Rattle.guest_asm.specs.Views.{Gives, statement_in}
use Rattle.guest_asm.proofs.Finds.{no_directive}
use Rattle.guest_asm.proofs.statement.read_named.Goals as goal

pub returns-else-is_dotted : goal.returns-else-is_dotted
returns-else-is_dotted c =
    rw (no_directive (record { uid = c.args.has_uid; form = c.args.has_form }) c.args.name.now (words c.args.text.now) (sym c.is_dotted.ensures ∙ c.if-is_dotted.false)) c.read_operation.ensures
