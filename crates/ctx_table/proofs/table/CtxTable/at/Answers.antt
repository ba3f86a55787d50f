use Rattle.std.proofs.Common.{◌∙◌, sym, ap, arith, refl}
use Rattle.ctx_table.specs.Slots.{name_in}
use Rattle.ctx_table.proofs.Taken.{name_live, place_name, slot-read}
use Rattle.ctx_table.proofs.table.CtxTable.at.Goals as goal

pub returns-then-place-len-clause-name : goal.returns-then-place-len-clause-name
returns-then-place-len-clause-name g c =
    c.name.ensures ∙ ap name_in (sym (slot-read _ _ c.self.view_is c.args.place c.index.result.now _ c.index.ensures (omega arith) refl)) ∙ sym (place_name _ _ c.self.view_is c.args.place)

pub returns-then-place-len-clause-live : goal.returns-then-place-len-clause-live
returns-then-place-len-clause-live g c = name_live _ _ c.self.view_is _ c.self.invariant c.args.place c.name.result
    (c.name.ensures ∙ ap name_in (sym (slot-read _ _ c.self.view_is c.args.place c.index.result.now _ c.index.ensures (omega arith) refl)) ∙ sym (place_name _ _ c.self.view_is c.args.place))
