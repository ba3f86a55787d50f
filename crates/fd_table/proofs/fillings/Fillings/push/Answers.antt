use Rattle.std.proofs.Common.{◌∙◌, ◌++◌, ◌∷◌, [], ap, sym, arith}
use Rattle.std.specs.Option.{option_copied}
use Rattle.fd_table.specs.Fillings.{slots_in}
use Rattle.fd_table.specs.Slots.{Slot}
use Rattle.fd_table.proofs.FillingLemmas.{filled-beside, filled-words, stored-length, stored-push}
use Rattle.fd_table.proofs.fillings.Fillings.push.Goals as goal

pub push_reserved-requires : goal.push_reserved-requires
push_reserved-requires c =
    omega (arith, c.requires, stored-length _ _ _ (λ i. (c.self.view_is i).slots) c.self.invariant.beside, c.self.inside.stored.ok, c.self.invariant.room, ap (λ s. s.room) c.self.view_is)

pub push_reserved-requires-in-Some : goal.push_reserved-requires-in-Some
push_reserved-requires-in-Some c =
    omega (arith, c.requires, stored-length _ _ _ (λ i. (c.self.view_is i).slots) c.self.invariant.beside, c.self.invariant.beside, c.self.inside.words.ok, c.self.invariant.words_room, ap (λ s. s.room) c.self.view_is)

pub push_reserved-requires-in-None : goal.push_reserved-requires-in-None
push_reserved-requires-in-None c =
    omega (arith, c.requires, stored-length _ _ _ (λ i. (c.self.view_is i).slots) c.self.invariant.beside, c.self.invariant.beside, c.self.inside.words.ok, c.self.invariant.words_room, ap (λ s. s.room) c.self.view_is)

pub returns-in-Some-clause-slots : goal.returns-in-Some-clause-slots
returns-in-Some-clause-slots c =
    (λ i. slots_in (c.push_reserved.ensures.items i) (c.push_reserved-in-Some.ensures.items i))
    ∙ stored-push _ _ _ (λ i. (c.self.view_is i).slots) c.self.invariant.beside _ c.in-Some.words.now
    ∙ ap (λ (slot : Slot). c.args.self.now.slots ++ slot ∷ [])
    (filled-words c.args.filling.now _ c.from_cell.ensures c.in-Some.words.now (sym c.words_of.ensures ∙ ap option_copied c.in-Some.is))

pub returns-in-None-clause-slots : goal.returns-in-None-clause-slots
returns-in-None-clause-slots c =
    (λ i. slots_in (c.push_reserved.ensures.items i) (c.push_reserved-in-None.ensures.items i))
    ∙ stored-push _ _ _ (λ i. (c.self.view_is i).slots) c.self.invariant.beside _ _
    ∙ ap (λ (slot : Slot). c.args.self.now.slots ++ slot ∷ [])
    (filled-beside c.args.filling.now _ c.from_cell.ensures _ (sym c.words_of.ensures ∙ ap option_copied c.in-None.is))
