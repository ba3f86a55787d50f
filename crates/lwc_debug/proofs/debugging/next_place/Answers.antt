use Rattle.std.proofs.Common.{◌∙◌, sym}
use Rattle.lwc_debug.proofs.Telling.{comes_first, comes_later, passed_over}
use Rattle.lwc_debug.proofs.debugging.next_place.Goals.{then-from-answer+then-is_before, else-from-answer, else-from-answer-via-then-from-answer+else-is_before, else-from-answer-via-else-from-answer}
use Rattle.lwc_debug.proofs.debugging.next_place.Goals as goal

pub answers-preserved : goal.answers-preserved
answers-preserved c =
    elim c.if-from-answer.branch [
      | then-from-answer+then-is_before w ↦
          rw w.next-is (comes_first c.args.from c.args.answers.now c.answers.answer-index c.answer-item.result c.answers-test.true (sym c.answer-item.is)
          w.if-from-answer.true c.answers.next (sym w.is_before.ensures ∙ w.if-is_before.true) c.answers.invariant)
      | else-from-answer w ↦
          rw w.next-is (elim w.else-from-answer.branch [
            | else-from-answer-via-then-from-answer+else-is_before v ↦
                comes_later c.args.from c.args.answers.now c.answers.answer-index c.answer-item.result c.answers-test.true (sym c.answer-item.is) c.answers.next (sym v.is_before.ensures ∙ v.if-is_before.false) c.answers.invariant
            | else-from-answer-via-else-from-answer v ↦
                passed_over c.args.from c.args.answers.now c.answers.answer-index c.answer-item.result c.answers-test.true (sym c.answer-item.is) v.if-from-answer.false c.answers.next c.answers.invariant
          ])
    ]
