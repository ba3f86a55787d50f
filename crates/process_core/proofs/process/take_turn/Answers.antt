use Rattle.process_core.proofs.Sends.{guarded_send, guarded_sync}
use Rattle.std.proofs.Crossing.{crosses}
use denote.Param.Send.{sendable}
use Rattle.std.proofs.Common.{◌≡◌, ◌∙◌, ◌++◌, ◌∷◌, [], ap, sym, subst, arith, ℕ}
use Rattle.kernel_core.specs.Kernel.{History}
use Rattle.process_core.proofs.Due.{after_turn, named, ready}
use Rattle.process_core.specs.Running.{AreAdvances, Leaves}
use Rattle.process_core.specs.declared.opened.Opened.{Opened}
use Rattle.turnstile.specs.Past.{Knows}
use Rattle.process_core.proofs.process.take_turn.Goals as goal

pub number-t-requires-send-S : goal.number-t-requires-send-S
number-t-requires-send-S g c κs within = let s = c.type_bounds.send-W in search (sendable, crosses, guarded_send, guarded_sync) depth 80 fits 20000

pub number-t-requires-sync-S : goal.number-t-requires-sync-S
number-t-requires-sync-S g c κs within = let s = c.type_bounds.sync-W in search (sendable, crosses, guarded_send, guarded_sync) depth 80 fits 20000

pub turn_inside-requires-send-S : goal.turn_inside-requires-send-S
turn_inside-requires-send-S g c κs within = let s = c.type_bounds.send-W in search (sendable, crosses, guarded_send, guarded_sync) depth 80 fits 20000

pub turn_inside-requires-sync-S : goal.turn_inside-requires-sync-S
turn_inside-requires-sync-S g c κs within = let s = c.type_bounds.sync-W in search (sendable, crosses, guarded_send, guarded_sync) depth 80 fits 20000

pub turn_inside-requires-clause-callable : goal.turn_inside-requires-clause-callable
turn_inside-requires-clause-callable g c κs lives x due p is =
    let e : p.now.kernel.value ≡ x.kernel.value = cc in
    let s = c.type_bounds.send-W in
    let y = c.type_bounds.sync-W in (
      ready p.now.kernel.value c.args.gate.now.name.inputs c.args.pass.now.seen c.args.pass.now.number c.number-t.result c.args.last.value (λ i. AreAdvances i.image.text c.args.proposal.now)
          (ap (λ (h : History). h.inputs) e ∙ ap (λ (o : Opened). o.inputs) due.0) (subst (λ (h : History). Knows h.steps c.args.pass.now.number c.args.pass.now.seen) (sym e) due.1)
          c.requires.knows c.requires.going c.requires.within c.requires.proposal c.number-t.ensures,
      (search (sendable, crosses, guarded_send, guarded_sync) depth 80 fits 20000, search (sendable, crosses, guarded_send, guarded_sync) depth 80 fits 20000),
    )

pub turn_inside-requires-clause-moves : goal.turn_inside-requires-clause-moves
turn_inside-requires-clause-moves g c κs lives x y r due f =
    let number = c.number-t.ensures in
    let e : x.kernel.value ≡ f.shown.now.kernel.value = cc in
    let d : y.kernel.value ≡ f.left.now.kernel.value = cc in
    let inputs : y.kernel.value.inputs ≡ x.kernel.value.inputs = ap (λ (h : History). h.inputs) d ∙ (f.met.0 ∙ sym (ap (λ (h : History). h.inputs) e)) in
    let room : y.first_room.value ≡ x.first_room.value = cc in (
      named inputs room,
      ap (λ (h : History). h.steps) d ∙ (f.met.2 ∙ (ap (λ (n : ℕ). f.shown.now.kernel.value.steps ++ n ∷ []) number ∙ ap (λ (h : History). h.steps ++ c.args.pass.now.number ∷ []) (sym e))),
    )

pub returns-clause-leaves : goal.returns-clause-leaves
returns-clause-leaves g c =
    let call = c.turn_inside.ensures.called in
    let f = call.3 in
    let e : f.shown.now.kernel.value ≡ call.0.kernel.value = cc in
    let d : call.1.kernel.value ≡ f.left.now.kernel.value = cc in
    let after = after_turn c.args.gate.now.name.inputs c.args.pass.now.number c.number-t.result c.args.pass.now.seen c.turn_inside.new.pass.seen f.shown.now.kernel.value f.left.now.kernel.value c.turn_inside.result.value
    (ap (λ (h : History). h.inputs) e ∙ ap (λ (o : Opened). o.inputs) call.2.0) (subst (λ (h : History). Knows h.steps c.args.pass.now.number c.args.pass.now.seen) (sym e) call.2.1)
    f.met.0 f.met.2 f.met.3 c.number-t.ensures f.left.now.legal (omega (arith, f.left.now.whole, f.left.now.few)) (call.4 ∙ ap (λ (h : History). h.steps) d) in
    subst (λ (n : ℕ). Leaves c.args.gate.now.name.inputs n c.turn_inside.new.pass.seen c.turn_inside.result.value) (sym c.turn_inside.ensures.number) after.leaves

pub returns-clause-goes_on : goal.returns-clause-goes_on
returns-clause-goes_on g c =
    let call = c.turn_inside.ensures.called in
    let f = call.3 in
    let e : f.shown.now.kernel.value ≡ call.0.kernel.value = cc in
    let d : call.1.kernel.value ≡ f.left.now.kernel.value = cc in
    let after = after_turn c.args.gate.now.name.inputs c.args.pass.now.number c.number-t.result c.args.pass.now.seen c.turn_inside.new.pass.seen f.shown.now.kernel.value f.left.now.kernel.value c.turn_inside.result.value
    (ap (λ (h : History). h.inputs) e ∙ ap (λ (o : Opened). o.inputs) call.2.0) (subst (λ (h : History). Knows h.steps c.args.pass.now.number c.args.pass.now.seen) (sym e) call.2.1)
    f.met.0 f.met.2 f.met.3 c.number-t.ensures f.left.now.legal (omega (arith, f.left.now.whole, f.left.now.few)) (call.4 ∙ ap (λ (h : History). h.steps) d) in
    after.went
