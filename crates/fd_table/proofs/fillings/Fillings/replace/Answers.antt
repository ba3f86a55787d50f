use Rattle.std.proofs.Common.{◌∙◌, ap, sym, set, arith}
use Rattle.std.specs.Option.{option_copied}
use Rattle.lwc_base.specs.Capabilities.{empty_cap}
use Rattle.fd_table.proofs.FillingLemmas.{filled-beside, filled-words, stored-beside, stored-length, stored-set}
use Rattle.fd_table.proofs.fillings.Fillings.replace.Goals as goal

pub index_mut-requires : goal.index_mut-requires
index_mut-requires c =
    omega (arith, c.requires, stored-length _ _ _ (λ i. (c.self.view_is i).slots) c.self.invariant.beside, c.self.inside.stored.ok)

pub index_mut-requires-in-Some : goal.index_mut-requires-in-Some
index_mut-requires-in-Some c =
    omega (arith, c.requires, stored-length _ _ _ (λ i. (c.self.view_is i).slots) c.self.invariant.beside, c.self.invariant.beside, c.self.inside.words.ok)

pub returns-in-Some-clause-slots : goal.returns-in-Some-clause-slots
returns-in-Some-clause-slots c =
    stored-set _ _ _ (λ i. (c.self.view_is i).slots) c.self.invariant.beside _ _ c.in-Some.words.now
    ∙ ap (set c.args.self.now.slots c.args.place) (filled-words c.args.filling.now _ c.from_cell.ensures c.in-Some.words.now (sym c.words_of.ensures ∙ ap option_copied c.in-Some.is))

pub returns-in_default-clause-slots : goal.returns-in_default-clause-slots
returns-in_default-clause-slots c =
    stored-beside _ _ _ (λ i. (c.self.view_is i).slots) c.self.invariant.beside _ _ empty_cap
    ∙ ap (set c.args.self.now.slots c.args.place) (filled-beside c.args.filling.now _ c.from_cell.ensures _ (sym c.words_of.ensures ∙ ap option_copied c.in_default.is))
