use Rattle.std.proofs.Common.{◌∙◌, arith, rules, sym}
use Rattle.std.proofs.lemmas.Option.{slice_get-get_or}
use Rattle.lazy_world.proofs.notes.Notes.for_read.Goals as goal

pub returns-then-note-page-clause-noted : goal.returns-then-note-page-clause-noted
returns-then-note-page-clause-noted c =
    (c.note_of-k.result, (slice_get-get_or c.args.self.now.notes c.note_of-k.result _ (search rules), sym c.has_bit.ensures ∙ c.if-has_bit.true))
