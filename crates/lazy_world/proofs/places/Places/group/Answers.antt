use Rattle.std.proofs.Common.{◌≡◌, ◌∙◌, ap, refl, subst, sym, Bool, false, Option, Some, None}
use Rattle.lwc_base.specs.declared.cell.Cell.{Cell}
use Rattle.lwc_base.specs.declared.cell.Cell.TheVariants.{Own, Common}
use Rattle.lwc_base.specs.declared.descriptor.Descriptor.{Descriptor}
use Rattle.lwc_types.specs.declared.key.Key.TheVariants.{Slot}
use Rattle.lwc_types.specs.declared.name.Name.{Name}
use Rattle.fd_table.specs.Slots.{cell_of, is_common}
use Rattle.lazy_world.specs.declared.key_value.KeyValue.{KeyValue}
use Rattle.lazy_world.specs.Cells.{Row}
use Rattle.lazy_world.specs.KeyValues.{group_in, key_in}
use Rattle.lazy_world.specs.Seen.{rows}
use Rattle.lazy_world.proofs.places.Places.group.Goals as goal

at_key : (row : Row) (o : Option Name) (v w : KeyValue) → v ≡ w → o ≡ group_in (row (key_in w)) → o ≡ group_in (row (key_in v))
at_key row o v w is same = subst (λ x. o ≡ group_in (row (key_in x))) (sym is) same

-- a slot of the place's own names none
no-group : (cell : Cell Descriptor) (common : Bool) → common ≡ is_common cell → common ≡ false → None ≡ group_in cell
no-group (Own value) common is off = refl
no-group (Common g) common is off = absurd cc

pub returns-then-not-is_common : goal.returns-then-not-is_common
returns-then-not-is_common c =
    at_key (rows c.args.self.now c.args.place) None _ _ c.in-Slot.is (no-group (rows c.args.self.now c.args.place (Slot c.in-Slot.n)) c.is_common.result c.is_common.ensures c.if-not-is_common.true)

pub returns-in-Own : goal.returns-in-Own
returns-in-Own c = at_key (rows c.args.self.now c.args.place) None _ _ c.in-Slot.is (ap group_in (ap cell_of (sym c.in-Own.is) ∙ c.slot.ensures))

pub returns-in-Common : goal.returns-in-Common
returns-in-Common c = at_key (rows c.args.self.now c.args.place) (Some c.in-Common.g) _ _ c.in-Slot.is (ap group_in (ap cell_of (sym c.in-Common.is) ∙ c.slot.ensures))

pub returns-in-Own-uid : goal.returns-in-Own-uid
returns-in-Own-uid c = at_key (rows c.args.self.now c.args.place) None _ _ c.in-Cred.is (ap group_in (sym c.in-Own-uid.is ∙ c.uid.ensures))

pub returns-in-Common-uid : goal.returns-in-Common-uid
returns-in-Common-uid c = at_key (rows c.args.self.now c.args.place) (Some c.in-Common-uid.g) _ _ c.in-Cred.is (ap group_in (sym c.in-Common-uid.is ∙ c.uid.ensures))
