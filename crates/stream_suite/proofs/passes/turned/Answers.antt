use Rattle.std.proofs.Common.{◌≡◌, ◌∙◌, ap, get_or}
use Rattle.std.proofs.lemmas.List.{get_or_read}
use Rattle.process_core.specs.Running.{Carried}
use Rattle.stream_suite.proofs.Changing.{all_after}
use Rattle.stream_suite.proofs.passes.turned.Goals as goal

pub returns-clause-all : goal.returns-clause-all
returns-clause-all g c =
    let passes = c.args.passes.now.items in
    let i = c.args.index in
    let after = c.turn-turn.new.pass in
    let number : after.held.number ≡ (get_or passes i after).held.number = c.turn-turn.ensures.makes.number ∙ ap (λ (p : Carried). p.held.number) (get_or_read passes i c.index_mut-pass.result.now c.requires.within c.index_mut-pass.ensures.value after) in
    all_after c.args.process.now passes i after c.requires.within c.turn-turn.ensures.makes.ours number c.requires.all
