use Rattle.std.proofs.Common.{◌∙◌, None, Some, arith, ap, cond, get_or, sym}
use Rattle.std.proofs.lemmas.List.{get_or_default}
use Rattle.lwc_types.specs.Registers.{fresh_registers}
use Rattle.lazy_world.specs.Registers.{KeptRegisters}
use Rattle.lazy_world.proofs.RegisterLemmas.{read-there}
use Rattle.lazy_world.proofs.registers.Registers.saved.Goals as goal

pub returns-then-self-thread : goal.returns-then-self-thread
returns-then-self-thread c =
    let r = c.self.inside in
    ap Some (get_or_default r.saved c.args.thread _ (fresh_registers 0) (omega (arith, c.requires, c.self.invariant.saved)))
    ∙ ap (λ b. cond b (Some (get_or r.saved c.args.thread (fresh_registers 0))) None) (sym c.if-self-thread.true)
    ∙ sym (read-there r.kept r.saved c.args.thread c.requires)
    ∙ ap (λ (k : KeptRegisters). get_or k.saved c.args.thread None) c.self.view_is

pub returns-else-self-thread : goal.returns-else-self-thread
returns-else-self-thread c =
    let r = c.self.inside in
    ap (λ b. cond b (Some (get_or r.saved c.args.thread (fresh_registers 0))) None) (sym c.if-self-thread.false)
    ∙ sym (read-there r.kept r.saved c.args.thread c.requires)
    ∙ ap (λ (k : KeptRegisters). get_or k.saved c.args.thread None) c.self.view_is
