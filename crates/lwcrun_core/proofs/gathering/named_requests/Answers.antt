use Rattle.std.proofs.Common.{◌≡◌, ◌∙◌, []}
use Rattle.lwcrun_core.specs.Works.{IsText, scheduled}
use Rattle.lwcrun_inputs.proofs.Follows.{gathers_all, gathers_last}
use Rattle.lwcrun_core.proofs.gathering.named_requests.Goals as goal

pub returns-in-Some-clause-gathers : goal.returns-in-Some-clause-gathers
returns-in-Some-clause-gathers g c =
    λ settings work image steps. rw c.in-Some.is (gathers_last IsText _ _ _ (λ asked. work (record (scheduled image steps) { requests = asked })) _ _ _ _ c.requests_in.ensures.reads)

pub returns-in-None-clause-gathers : goal.returns-in-None-clause-gathers
returns-in-None-clause-gathers g c =
    let none : c.of.result ≡ [] = c.of.ensures ∙ c.new.ensures.items in
    λ settings work image steps. rw (c.in-None.is, none) (gathers_all _ _ _)
