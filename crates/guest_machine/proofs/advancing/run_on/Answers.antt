use Rattle.std.proofs.Common.{◌≡◌, Some, arith, get_or, slice_get}
use Rattle.guest_isa.specs.declared.op.Op.TheVariants.{Li}
use Rattle.guest_isa.specs.declared.instr.Instr.{Instr}
use Rattle.lwc_types.specs.declared.regs.Regs.{Regs}
use Rattle.guest_machine.specs.declared.progress.Next.TheVariants.{BadPc, Shared}
use Rattle.guest_machine.proofs.Runs.{begins, goes_on, paused, read_at, stop_past, stop_private, stop_shared, stopped}
use Rattle.guest_machine.proofs.advancing.run_on.Goals as goal

-- what a read past the end would give
none_there : Instr
none_there = record { op = Li; rd = 0; ra = 0; rb = 0; imm = 0 }

pub loop-done-init : goal.loop-done-init
loop-done-init c = begins c.args.text.now c.args.regs.now

pub loop-done-preserved : goal.loop-done-preserved
unfolding none_there
loop-done-preserved c =
    let i = get_or c.as_slice-code.result.now c.loop-done.pc none_there in
    let found : slice_get c.args.text.now c.loop-done.pc ≡ Some i =
    read_at c.args.text.now c.as_slice-code.result.now c.loop-done.pc none_there c.as_slice-code.ensures.value (omega arith) in
    let t : Regs = record { r = c.loop-done.regs.r; pc = c.loop-done.pc } in
    goes_on c.args.text.now c.args.regs.now t (record { r = c.after_private.new.r; pc = c.in-Some.next }) c.loop-done._done i
    c.loop-done.invariant found (stop_private c.args.text.now t i found c.in-Some.ensures.private) c.in-Some.ensures.done

pub returns-then-pc-code-clause-exact : goal.returns-then-pc-code-clause-exact
returns-then-pc-code-clause-exact c =
    let t : Regs = record { r = c.loop-done.regs.r; pc = c.loop-done.pc } in
    stopped c.args.text.now c.args.regs.now t c.loop-done._done BadPc c.loop-done.invariant (omega arith)
    (stop_past c.args.text.now c.as_slice-code.result.now t c.as_slice-code.ensures.value (omega arith))

pub returns-in-None-clause-exact : goal.returns-in-None-clause-exact
unfolding none_there
returns-in-None-clause-exact c =
    let i = get_or c.as_slice-code.result.now c.loop-done.pc none_there in
    let found : slice_get c.args.text.now c.loop-done.pc ≡ Some i =
    read_at c.args.text.now c.as_slice-code.result.now c.loop-done.pc none_there c.as_slice-code.ensures.value (omega arith) in
    let t : Regs = record { r = c.loop-done.regs.r; pc = c.loop-done.pc } in
    rw c.in-None.ensures.kept
    (stopped c.args.text.now c.args.regs.now t c.loop-done._done (Shared i) c.loop-done.invariant (omega arith)
    (stop_shared c.args.text.now t i found c.in-None.ensures.shared))

pub returns-clause-exact : goal.returns-clause-exact
returns-clause-exact c =
    paused c.args.text.now c.args.regs.now (record { r = c.loop-done.regs.r; pc = c.loop-done.pc }) c.loop-done._done c.next_at.result
    c.loop-done.invariant (omega arith) (omega arith) c.next_at.ensures.value
