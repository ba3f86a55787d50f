use Rattle.std.proofs.Common.{◌≡◌, subst, sym}
use Rattle.guest_machine.specs.Advances.{advanced}
use Rattle.guest_machine.specs.declared.progress.Advance.{Advance}
use Rattle.process_core.proofs.Offered.{all_there}
use Rattle.process_core.specs.Running.{AreAdvances}
use Rattle.process_core.specs.declared.opened.Opened.{Opened}
use Rattle.turnstile.specs.Passes.{Lock}
use Rattle.process_core.proofs.process.Process.turn_inside.Goals as goal

pub take_turn-left-requires-clause-proposal : goal.take_turn-left-requires-clause-proposal
take_turn-left-requires-clause-proposal g c κs within =
    let text = c.args.self.now.name.inputs.image.text in
    let all = all_there (λ (a : Advance). a ≡ advanced text a.before) (λ a. a.now) c.args.proposal c.requires.proposal in
    subst (λ (l : Lock Opened). AreAdvances l.name.inputs.image.text c.slice_of.result.now) (sym c.self.view_is) (subst (AreAdvances text) (sym c.slice_of.ensures) all)
