use Rattle.page_tree.proofs.RenodeLemmas.{IsSound-taken, Moves-taken, IsOwned-taken, empty-taken, free-taken}
use Rattle.page_tree.proofs.store.Store.take.Goals as goal

pub returns-clause-sound : goal.returns-clause-sound
returns-clause-sound c =
    let inside = rw c.unwrap.ensures at c.take.ensures.inside in
    let free = rw c.unwrap.ensures at c.take.ensures.was_free in
    rw (rw c.unwrap.ensures at c.take.ensures.taken) (IsSound-taken _ _ _ _ c.requires.sound inside free c.requires.low c.requires.high)

pub returns-clause-moves : goal.returns-clause-moves
returns-clause-moves c =
    let inside = rw c.unwrap.ensures at c.take.ensures.inside in
    let free = rw c.unwrap.ensures at c.take.ensures.was_free in
    rw (rw c.unwrap.ensures at c.take.ensures.taken) (Moves-taken _ _ _ _ c.requires.sound inside free c.requires.low c.requires.high)

pub returns-clause-own : goal.returns-clause-own
returns-clause-own c =
    let inside = rw c.unwrap.ensures at c.take.ensures.inside in
    let free = rw c.unwrap.ensures at c.take.ensures.was_free in
    rw (rw c.unwrap.ensures at c.take.ensures.taken) (IsOwned-taken _ _ _ _ c.requires.sound inside free c.requires.low c.requires.high)

pub returns-clause-empty : goal.returns-clause-empty
returns-clause-empty c = λ i.
    let inside = rw c.unwrap.ensures at c.take.ensures.inside in
    let free = rw c.unwrap.ensures at c.take.ensures.was_free in
    rw (rw c.unwrap.ensures at c.take.ensures.taken) (empty-taken _ _ _ _ c.requires.sound inside free c.requires.low c.requires.high i)

pub returns-clause-free : goal.returns-clause-free
returns-clause-free c =
    let inside = rw c.unwrap.ensures at c.take.ensures.inside in
    let free = rw c.unwrap.ensures at c.take.ensures.was_free in
    rw (rw c.unwrap.ensures at c.take.ensures.taken) (free-taken _ _ _ _ c.requires.sound inside free c.requires.low c.requires.high)
