use Rattle.std.proofs.Common.{◌∙◌, refl}
use Rattle.lwc_debug.proofs.Telling.{answers_there, as_many, nothing_told, tells_all, tells_more, written_back}
use Rattle.lwc_debug.proofs.debugging.answers.Goals as goal

pub places-init : goal.places-init
places-init g c = nothing_told _ _ _ _ _ c.in_ok-answers.ensures refl c.requires.fresh c.requires.room

pub go_on-requires-clause-there : goal.go_on-requires-clause-there
go_on-requires-clause-there g c κs within = c.in-Some.ensures.there _ (rw c.as_slice.ensures.value (answers_there _ _ _ _ _ _ c.places.invariant))

pub places-preserved : goal.places-preserved
places-preserved g c =
    let news = c.answer_here.new.answers in
    let olds = c.places.answers.items in
    let tells = rw c.deref_mut.ensures.value at c.in_ok-answer_here.ensures in
    rw (written_back c.places.answers.len olds news c.places.answers.ok.0 (as_many _ _ _ olds news tells))
    (tells_more _ _ _ _ _ _ c.places.invariant c.in-Some.place news c.go_on.new.kernel c.in-Some.ensures.onward
    (c.in-Some.ensures.there _ (rw c.as_slice.ensures.value (answers_there _ _ _ _ _ _ c.places.invariant)))
    (rw c.as_slice.ensures.value at c.in-Some.ensures.next)
    (c.in_ok-go_on.ensures.inputs ∙ c.places.invariant.given) c.in_ok-go_on.ensures.steps c.in_ok-go_on.ensures.room tells)

pub returns : goal.returns
returns g c = tells_all _ _ _ _ _ _ c.places.invariant _ (rw c.as_slice.ensures.value at c.in_default.ensures.next) (rw c.as_slice-2.ensures.value at c.in_ok-text.ensures)
