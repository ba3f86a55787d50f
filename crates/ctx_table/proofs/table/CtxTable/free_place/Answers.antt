use Rattle.std.proofs.Common.{◌∙◌, sym}
use Rattle.ctx_table.proofs.Taken.{found_free, names_are, no_free}
use Rattle.ctx_table.proofs.table.CtxTable.free_place.Goals as goal

pub unreachable-requires : goal.unreachable-requires
unreachable-requires g c = no_free _ _ (names_are _ _ c.self.view_is) (rw c.deref.ensures.value at (sym c.first_free.ensures ∙ c.in-None.is)) c.requires

pub returns : goal.returns
returns g c = found_free _ _ c.in-Some.place (names_are _ _ c.self.view_is) (rw c.deref.ensures.value at (sym c.first_free.ensures ∙ c.in-Some.is))
