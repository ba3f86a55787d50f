use Rattle.std.proofs.Common.{◌∙◌, ap, sym, List}
use Rattle.std.specs.List.{slice_get}
use Rattle.ctx_table.proofs.Alike.{same_names}
use Rattle.ctx_table.proofs.Taken.{live}
use Rattle.lwc_types.specs.declared.name.Name.{Name}
use Rattle.ctx_table.proofs.table.CtxTable.nth.Goals as goal

pub returns : goal.returns
returns g c =
    rw (← c.self.view_is) (c.nth.ensures ∙ ap (λ (names : List Name). slice_get names c.args.index)
    (sym (same_names _ _ (live _ _ c.self.invariant))))
