use Rattle.std.proofs.Common.{◌≡◌, ◌∙◌, ap, get_or}
use Rattle.std.proofs.lemmas.List.{get_or_read}
use Rattle.process_core.specs.Running.{Carried}
use Rattle.stream_suite.proofs.Changing.{all_after}
use Rattle.stream_suite.proofs.passes.steps_so_far.Goals as goal

pub returns-clause-all : goal.returns-clause-all
returns-clause-all c =
    let passes = c.args.passes.now.items in
    let i = c.args.index in
    let after = c.steps_seen.new.pass in
    let number : after.held.number ≡ (get_or passes i after).held.number = ap (λ (p : Carried). p.held.number) c.steps_seen.ensures.pass ∙ ap (λ (p : Carried). p.held.number) (get_or_read passes i c.index_mut.result.now c.requires.within c.index_mut.ensures.value after) in
    all_after c.args.process.now passes i after c.requires.within c.steps_seen.ensures.ours number c.requires.all
