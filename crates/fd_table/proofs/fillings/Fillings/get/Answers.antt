use Rattle.std.proofs.Common.{◌∙◌, ap, arith}
use Rattle.lwc_base.specs.declared.cell.Cell.{Cell}
use Rattle.lwc_base.specs.declared.descriptor.Descriptor.{Descriptor}
use Rattle.fd_table.proofs.FillingLemmas.{stored-at, stored-length}
use Rattle.fd_table.proofs.fillings.Fillings.get.Goals as goal

pub index-stored-requires : goal.index-stored-requires
index-stored-requires c =
    omega (arith, c.requires, stored-length _ _ _ (λ i. (c.self.view_is i).slots) c.self.invariant.beside, c.self.inside.stored.ok)

pub index-requires : goal.index-requires
index-requires c =
    omega (arith, c.requires, stored-length _ _ _ (λ i. (c.self.view_is i).slots) c.self.invariant.beside, c.self.invariant.beside, c.self.inside.words.ok)

pub returns : goal.returns
returns c =
    ap (λ (cell : Cell Descriptor). record { cell = cell; target = c.index-stored.result.now.target }) c.lend.ensures
    ∙ stored-at _ _ _ (λ i. (c.self.view_is i).slots) c.self.invariant.beside _ _ _ c.requires c.index-stored.ensures c.index.ensures
