use Rattle.page_tree.proofs.EnterLemmas.{IsSound-swapped, IsOwned-swapped, IsLoose-swapped, Moves-swapped}
use Rattle.page_tree.proofs.store.Store.swap.Goals as goal

pub returns-clause-sound : goal.returns-clause-sound
returns-clause-sound c =
    rw c.set_entry.ensures.entered (IsSound-swapped _ _ _ c.requires.sound _ _ _ c.requires.own c.requires.place c.requires.inner c.requires.narrow c.requires.loose)

pub returns-clause-own : goal.returns-clause-own
returns-clause-own c =
    rw c.set_entry.ensures.entered (IsOwned-swapped _ _ _ c.requires.sound _ _ _ c.requires.own c.requires.place c.requires.inner c.requires.narrow c.requires.loose)

pub returns-clause-loose : goal.returns-clause-loose
returns-clause-loose c =
    rw (c.set_entry.ensures.entered, c.entry-old.ensures) (IsLoose-swapped _ _ _ c.requires.sound _ _ _ c.requires.own c.requires.place c.requires.inner c.requires.narrow c.requires.loose)

pub returns-clause-moves : goal.returns-clause-moves
returns-clause-moves c =
    rw (c.set_entry.ensures.entered, c.entry-old.ensures) (Moves-swapped _ _ _ c.requires.sound _ _ _ c.requires.own c.requires.place c.requires.inner c.requires.narrow c.requires.loose)
