use Rattle.std.proofs.Common.{◌≡◌, subst, sym, vec_len}
use Rattle.std.specs.Vec.{with_item}
use Rattle.lwc_base.specs.declared.cell.Cell.TheVariants.{Common}
use Rattle.lwc_base.specs.Cells.{with_cell}
use Rattle.whole_world.specs.Rows.{context_of}
use Rattle.whole_world.specs.Sound.{HasKey}
use Rattle.whole_world.proofs.Rows.{context-cred, context-page, context-slot}
use Rattle.whole_world.proofs.context_row.ContextRow.join.Goals as goal

pub returns-in-Page-clause-context : goal.returns-in-Page-clause-context
returns-in-Page-clause-context c =
    subst (λ k. context_of (record c.args.self.now { pages = with_item c.args.self.now.pages c.in-Page.p (Common c.args.group) }) ≡ with_cell k (Common c.args.group) (context_of c.args.self.now)) (sym c.in-Page.is)
    (context-page c.args.self.now c.in-Page.p (Common c.args.group) (subst (HasKey (vec_len c.args.self.now.pages) (vec_len c.args.self.now.slots)) c.in-Page.is c.requires))

pub returns-in-Slot-clause-context : goal.returns-in-Slot-clause-context
returns-in-Slot-clause-context c =
    subst (λ k. context_of (record c.args.self.now { slots = with_item c.args.self.now.slots c.in-Slot.n (Common c.args.group) }) ≡ with_cell k (Common c.args.group) (context_of c.args.self.now)) (sym c.in-Slot.is)
    (context-slot c.args.self.now c.in-Slot.n (Common c.args.group) (subst (HasKey (vec_len c.args.self.now.pages) (vec_len c.args.self.now.slots)) c.in-Slot.is c.requires))

pub returns-in-Cred-clause-context : goal.returns-in-Cred-clause-context
returns-in-Cred-clause-context c =
    subst (λ k. context_of (record c.args.self.now { uid = Common c.args.group }) ≡ with_cell k (Common c.args.group) (context_of c.args.self.now)) (sym c.in-Cred.is) (context-cred c.args.self.now (Common c.args.group))
