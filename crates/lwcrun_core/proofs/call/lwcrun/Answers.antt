use Rattle.lwcrun_line.proofs.Accepted.{accepted_is_within}
use Rattle.lwcrun_core.proofs.Clauses.{complete, ends_by, fetches_named, headline, no_fault, nothing, read_fault, refused, usage, usage_only, write_fault}
use Rattle.lwcrun_core.proofs.call.lwcrun.Goals as goal

pub returns-clause-headline : goal.returns-clause-headline
returns-clause-headline g c command bytes =
    let a = c.answer.ensures.answers in
    headline _ _ _ a.0 a.1 a.2.by command bytes (accepted_is_within _)

pub returns-clause-usage_only : goal.returns-clause-usage_only
returns-clause-usage_only g c = let a = c.answer.ensures.answers in usage_only _ _ _ a.0 a.1 a.2.by

pub returns-clause-usage : goal.returns-clause-usage
returns-clause-usage g c = let a = c.answer.ensures.answers in usage _ _ _ a.0 a.1 a.2.by

pub returns-clause-read_fault : goal.returns-clause-read_fault
returns-clause-read_fault g c = let a = c.answer.ensures.answers in read_fault _ _ _ a.0 a.1 a.2.by

pub returns-clause-write_fault : goal.returns-clause-write_fault
returns-clause-write_fault g c = let a = c.answer.ensures.answers in write_fault _ _ _ a.0 a.1 a.2.by

pub returns-clause-refused : goal.returns-clause-refused
returns-clause-refused g c = let a = c.answer.ensures.answers in refused _ _ _ a.0 a.1 a.2.by

pub returns-clause-ends : goal.returns-clause-ends
returns-clause-ends g c = let a = c.answer.ensures.answers in ends_by _ _ _ a.0 a.1 a.2.by

pub returns-clause-complete : goal.returns-clause-complete
returns-clause-complete g c = let a = c.answer.ensures.answers in complete _ _ _ a.0 a.1 a.2.by

pub returns-clause-nothing : goal.returns-clause-nothing
returns-clause-nothing g c = let a = c.answer.ensures.answers in nothing _ _ _ a.0 a.1 a.2.by

pub returns-clause-no_fault : goal.returns-clause-no_fault
returns-clause-no_fault g c = let a = c.answer.ensures.answers in no_fault _ _ _ a.0 a.1 a.2.by

pub returns-clause-no_other_file : goal.returns-clause-no_other_file
returns-clause-no_other_file g c = fetches_named _ _ _ c.answer.ensures.fetches
