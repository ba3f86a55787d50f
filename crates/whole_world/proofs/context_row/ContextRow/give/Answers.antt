use Rattle.std.proofs.Common.{◌≡◌, ◌∙◌, ap, subst, sym, true, vec_len}
use Rattle.std.specs.Vec.{with_item}
use Rattle.lwc_base.specs.declared.cell.Cell.TheVariants.{Common}
use Rattle.lwc_base.specs.Cells.{with_cell}
use Rattle.lwc_base.specs.Sharing.{has_own}
use Rattle.lwc_types.specs.declared.key.Key.TheVariants.{Cred, Page, Slot}
use Rattle.whole_world.specs.Holders.{holder}
use Rattle.whole_world.specs.Rows.{cell_of, context_of}
use Rattle.whole_world.specs.Sound.{HasKey}
use Rattle.whole_world.proofs.Keyed.{cell-page, cell-slot, own-cell}
use Rattle.whole_world.proofs.Rows.{context-cred, context-page, context-slot}
use Rattle.whole_world.proofs.context_row.ContextRow.give.Goals as goal

pub give-requires : goal.give-requires
give-requires c =
    ap holder (cell-page c.args.self.now c.in-Page.p _ (subst (HasKey (vec_len c.args.self.now.pages) (vec_len c.args.self.now.slots)) c.in-Page.is c.requires.place) c.index_mut.ensures.value)
    ∙ own-cell (Page c.in-Page.p) _ (subst (λ k. has_own k ((context_of c.args.self.now).cell k) ≡ true) c.in-Page.is c.requires.own)

pub returns-in-Page-clause-value : goal.returns-in-Page-clause-value
returns-in-Page-clause-value c = sym (cell-page c.args.self.now c.in-Page.p _ (subst (HasKey (vec_len c.args.self.now.pages) (vec_len c.args.self.now.slots)) c.in-Page.is c.requires.place) c.index_mut.ensures.value) ∙ c.give.ensures.value

pub returns-in-Page-clause-context : goal.returns-in-Page-clause-context
returns-in-Page-clause-context c =
    subst (λ k. context_of (record c.args.self.now { pages = with_item c.args.self.now.pages c.in-Page.p c.give.new.cell }) ≡ with_cell k (Common c.args.group) (context_of c.args.self.now)) (sym c.in-Page.is)
    (ap (λ cell. context_of (record c.args.self.now { pages = with_item c.args.self.now.pages c.in-Page.p cell })) c.give.ensures.cell
    ∙ context-page c.args.self.now c.in-Page.p (Common c.args.group) (subst (HasKey (vec_len c.args.self.now.pages) (vec_len c.args.self.now.slots)) c.in-Page.is c.requires.place))

pub give-requires-in-Slot : goal.give-requires-in-Slot
give-requires-in-Slot c =
    ap holder (cell-slot c.args.self.now c.in-Slot.n _ (subst (HasKey (vec_len c.args.self.now.pages) (vec_len c.args.self.now.slots)) c.in-Slot.is c.requires.place) c.index_mut-in-Slot.ensures.value)
    ∙ own-cell (Slot c.in-Slot.n) _ (subst (λ k. has_own k ((context_of c.args.self.now).cell k) ≡ true) c.in-Slot.is c.requires.own)

pub returns-in-Slot-clause-value : goal.returns-in-Slot-clause-value
returns-in-Slot-clause-value c = sym (cell-slot c.args.self.now c.in-Slot.n _ (subst (HasKey (vec_len c.args.self.now.pages) (vec_len c.args.self.now.slots)) c.in-Slot.is c.requires.place) c.index_mut-in-Slot.ensures.value) ∙ c.give-in-Slot.ensures.value

pub returns-in-Slot-clause-context : goal.returns-in-Slot-clause-context
returns-in-Slot-clause-context c =
    subst (λ k. context_of (record c.args.self.now { slots = with_item c.args.self.now.slots c.in-Slot.n c.give-in-Slot.new.cell }) ≡ with_cell k (Common c.args.group) (context_of c.args.self.now)) (sym c.in-Slot.is)
    (ap (λ cell. context_of (record c.args.self.now { slots = with_item c.args.self.now.slots c.in-Slot.n cell })) c.give-in-Slot.ensures.cell
    ∙ context-slot c.args.self.now c.in-Slot.n (Common c.args.group) (subst (HasKey (vec_len c.args.self.now.pages) (vec_len c.args.self.now.slots)) c.in-Slot.is c.requires.place))

pub give-requires-in-Cred : goal.give-requires-in-Cred
unfolding context_of cell_of
give-requires-in-Cred c = own-cell Cred _ (subst (λ k. has_own k ((context_of c.args.self.now).cell k) ≡ true) c.in-Cred.is c.requires.own)

pub returns-in-Cred-clause-value : goal.returns-in-Cred-clause-value
unfolding context_of cell_of
returns-in-Cred-clause-value c = c.give-in-Cred.ensures.value

pub returns-in-Cred-clause-context : goal.returns-in-Cred-clause-context
returns-in-Cred-clause-context c =
    subst (λ k. context_of (record c.args.self.now { uid = c.give-in-Cred.new.cell }) ≡ with_cell k (Common c.args.group) (context_of c.args.self.now)) (sym c.in-Cred.is)
    (ap (λ cell. context_of (record c.args.self.now { uid = cell })) c.give-in-Cred.ensures.cell ∙ context-cred c.args.self.now (Common c.args.group))
