use Rattle.std.proofs.Common.{◌∙◌, ap, sym}
use Rattle.lwc_base.specs.Sharing.{is_moved}
use Rattle.whole_world.specs.Holders.{same_holder}
use Rattle.whole_world.specs.declared.holder.Holder.TheVariants.{Own}
use Rattle.whole_world.specs.Rows.{context_of}
use Rattle.whole_world.proofs.Keyed.{own-holder}
use Rattle.whole_world.proofs.context_row.ContextRow.is_moved.Goals as goal

pub returns-in-Share : goal.returns-in-Share
returns-in-Share c =
    c.is_own.ensures ∙ ap (λ h. same_holder h Own) c.holder.ensures ∙ own-holder c.args.key ((context_of c.args.self.now).cell c.args.key)
    ∙ sym (ap (λ mode. is_moved mode c.args.key ((context_of c.args.self.now).cell c.args.key)) c.in-Share.is)
