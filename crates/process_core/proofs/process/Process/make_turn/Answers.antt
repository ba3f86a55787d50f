use Rattle.process_core.proofs.Sends.{guarded_send, guarded_sync}
use Rattle.std.proofs.Crossing.{crosses}
use denote.Param.Send.{sendable}
use Rattle.guest_machine.specs.Advances.{advanced}
use Rattle.guest_machine.specs.declared.progress.Advance.{Advance}
use Rattle.std.proofs.Common.{rules, ◌≡◌, refl, arith}
use Rattle.process_core.proofs.Offered.{offered_holds, shown_holds}
use Rattle.process_core.proofs.process.Process.make_turn.Goals as goal

pub mutex-requires-send-S : goal.mutex-requires-send-S
mutex-requires-send-S g c κs within = let s = c.type_bounds.send-W in search (sendable, crosses, guarded_send) depth 80 fits 20000

pub mutex-requires-sync-S : goal.mutex-requires-sync-S
mutex-requires-sync-S g c κs within = let s = c.type_bounds.sync-W in search (sendable, crosses, guarded_sync) depth 80 fits 20000

pub mutex-requires-then-not-goes_on-send-S : goal.mutex-requires-then-not-goes_on-send-S
mutex-requires-then-not-goes_on-send-S g c κs within = let s = c.type_bounds.send-W in search (sendable, crosses, guarded_send) depth 80 fits 20000

pub mutex-requires-then-not-goes_on-sync-S : goal.mutex-requires-then-not-goes_on-sync-S
mutex-requires-then-not-goes_on-sync-S g c κs within = let s = c.type_bounds.sync-W in search (sendable, crosses, guarded_sync) depth 80 fits 20000

pub turn_inside-requires-clause-proposal : goal.turn_inside-requires-clause-proposal
turn_inside-requires-clause-proposal g c κs within =
    let s = c.args.stay.now in
    let P = λ (a : Advance). a ≡ advanced c.args.self.now.name.inputs.image.text a.before in
    shown_holds P (λ a. a.now) c.proposal.result _ c.proposal.ensures (offered_holds P s.places s.count s.made c.requires.fits)

pub returns-then-has_ended-clause-notes : goal.returns-then-has_ended-clause-notes
returns-then-has_ended-clause-notes g c =
    let none : c.args.stay.now.made ≡ 0 = c.is_inside.ensures.outside (search rules) in
    record { kept = refl; inside = λ some. absurd (omega (arith, none, some)) }
