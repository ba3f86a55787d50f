use Rattle.std.proofs.Common.{◌≡◌, ◌∙◌, ap, subst, sym}
use Rattle.whole_world.specs.Holders.{holder, holder_of}
use Rattle.whole_world.specs.Rows.{context_of}
use Rattle.whole_world.proofs.context_row.ContextRow.holder.Goals as goal

pub returns-in-Page : goal.returns-in-Page
returns-in-Page c = subst (λ k. c.page_holder.result ≡ holder_of k ((context_of c.args.self.now).cell k)) (sym c.in-Page.is) c.page_holder.ensures

pub returns-in-Slot : goal.returns-in-Slot
returns-in-Slot c =
    subst (λ k. c.holder_of.result ≡ holder_of k ((context_of c.args.self.now).cell k)) (sym c.in-Slot.is) (c.holder_of.ensures ∙ ap holder c.slot.ensures)

pub returns-in-Cred : goal.returns-in-Cred
returns-in-Cred c =
    subst (λ k. c.holder_of-in-Cred.result ≡ holder_of k ((context_of c.args.self.now).cell k)) (sym c.in-Cred.is) (c.holder_of-in-Cred.ensures ∙ ap holder c.uid.ensures)
