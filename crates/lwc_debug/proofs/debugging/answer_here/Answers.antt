use Rattle.std.proofs.Common.{◌≡◌, ◌<◌, ◌∙◌, ◌++◌, ap, arith, get_or, length, refl}
use Rattle.kernel_core.specs.Kernel.{machine_of}
use Rattle.lwc_debug.specs.Transcript.{answer}
use Rattle.lwc_debug.proofs.Telling.{same_item, told_elsewhere, told_next}
use Rattle.lwc_debug.proofs.debugging.answer_here.Goals.{then-answers-i+in_ok-answer, else-answers-i}
use Rattle.lwc_debug.proofs.debugging.answer_here.Goals as goal

pub answers-preserved : goal.answers-preserved
answers-preserved g c =
    let xs = c.answers.answers in
    let i = c.answers.i in
    let inside : i < length xs = omega (arith, c.answers-test.true, c.answers.auto.answers) in
    elim c.if-answers-i.branch [
      | then-answers-i+in_ok-answer w ↦
          let d = w.index-answers-i-then-answers-i-2.result in
          let second : get_or xs i w.index-answers-i-then-answers-i.result ≡ get_or xs i d = same_item xs i _ d inside in
          told_next _ _ _ _ _ _ c.answers.invariant inside d _ c.if-answers-i.answers w.answers-is
          (ap (λ a. a.place) (same_item xs i d c.index-answers-i.result inside) ∙ w.if-answers-i.true) refl refl
          (w.in_ok-answer.ensures.ok ∙ ap (λ a. (get_or xs i d).text.items ++ answer (machine_of c.args.kernel.now) c.args.count c.args.place a.command) second)
      | else-answers-i w ↦
          let d = c.index-answers-i.result in
          rw w.answers-is (told_elsewhere _ _ _ _ _ _ c.answers.invariant inside d w.if-answers-i.false)
    ]
