use Rattle.std.proofs.Common.{◌≡◌, subst, sym, vec_len}
use Rattle.std.specs.Vec.{with_item}
use Rattle.lwc_base.specs.Cells.{with_value}
use Rattle.whole_world.specs.KeyValues.{key_in, value_in}
use Rattle.whole_world.specs.Rows.{group_of}
use Rattle.whole_world.specs.Sound.{HasKey}
use Rattle.whole_world.proofs.Rows.{group-cred, group-page, group-slot}
use Rattle.whole_world.proofs.group_row.GroupRow.put.Goals as goal

pub returns-in-Page-clause-group : goal.returns-in-Page-clause-group
returns-in-Page-clause-group c =
    subst (λ v. group_of (record c.args.self.now { pages = with_item c.args.self.now.pages c.in-Page.p c.in-Page.value }) ≡ with_value (key_in v) (value_in v) (group_of c.args.self.now)) (sym c.in-Page.is)
    (group-page c.args.self.now c.in-Page.p c.in-Page.value (subst (λ v. HasKey (vec_len c.args.self.now.pages) (vec_len c.args.self.now.slots) (key_in v)) c.in-Page.is c.requires))

pub returns-in-Slot-clause-group : goal.returns-in-Slot-clause-group
returns-in-Slot-clause-group c =
    subst (λ v. group_of (record c.args.self.now { slots = with_item c.args.self.now.slots c.in-Slot.n c.in-Slot.value }) ≡ with_value (key_in v) (value_in v) (group_of c.args.self.now)) (sym c.in-Slot.is)
    (group-slot c.args.self.now c.in-Slot.n c.in-Slot.value (subst (λ v. HasKey (vec_len c.args.self.now.pages) (vec_len c.args.self.now.slots) (key_in v)) c.in-Slot.is c.requires))

pub returns-in-Cred-clause-group : goal.returns-in-Cred-clause-group
returns-in-Cred-clause-group c =
    subst (λ v. group_of (record c.args.self.now { uid = c.in-Cred.uid }) ≡ with_value (key_in v) (value_in v) (group_of c.args.self.now)) (sym c.in-Cred.is) (group-cred c.args.self.now c.in-Cred.uid)
