use Rattle.std.proofs.Common.{◌≡◌, ◌<◌, ap, arith, subst}
use Rattle.kernel_core.specs.Kernel.{History, machine_of, stepped}
use Rattle.kernel_core.specs.Machine.{work}
use Rattle.process_core.proofs.Stepping.{stepped_inputs, stepped_steps, stays_legal, stays_whole}
use Rattle.process_core.proofs.guarded.Guarded.make_step.Goals as goal

pub returns-clause-inputs : goal.returns-clause-inputs
returns-clause-inputs g c =
    let next = c.step_kernel.new.kernel in
    stepped_inputs _ _ _ c.requires.going (subst (λ (h : History). next ≡ stepped h c.args.thread) c.deref_mut.ensures.value c.step_kernel.ensures.step)

pub returns-clause-steps : goal.returns-clause-steps
returns-clause-steps g c =
    let next = c.step_kernel.new.kernel in
    stepped_steps _ _ _ c.requires.going (subst (λ (h : History). next ≡ stepped h c.args.thread) c.deref_mut.ensures.value c.step_kernel.ensures.step)

pub invariant_of-self : goal.invariant_of-self
invariant_of-self g c =
    let h = c.args.self.now.kernel.value in
    let next = c.step_kernel.new.kernel in
    let same = c.deref_mut.ensures.value in
    let room_same = ap (λ (k : History). k.room) same in
    let going = c.requires.going in
    let done = c.step_kernel.ensures in
    let step = subst (λ (k : History). next ≡ stepped k c.args.thread) same done.step in
    let less = subst (λ (k : History). work (machine_of next) < work (machine_of k)) same done.work in
    record {
      legal = stays_legal h _ _ going step c.args.self.now.legal;
      room = omega (arith, done.room, room_same, less, c.args.self.now.room);
      whole = stays_whole h _ _ going step _ (subst (λ (k : History). 0 < k.room) same done.some) c.args.self.now.whole;
      few = c.args.self.now.few;
      roomy = c.args.self.now.roomy;
    }
