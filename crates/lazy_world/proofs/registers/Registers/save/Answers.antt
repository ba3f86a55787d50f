use Rattle.std.proofs.Common.{◌∙◌, Some, ap, set}
use Rattle.lazy_world.specs.Registers.{KeptRegisters}
use Rattle.lazy_world.proofs.RegisterLemmas.{put-there}
use Rattle.lazy_world.proofs.registers.Registers.save.Goals as goal

pub returns-clause-saved : goal.returns-clause-saved
returns-clause-saved c =
    let r = c.self.inside in
    ap (λ s. record { entry = r.entry; saved = s }) (put-there r.kept r.saved c.args.thread c.args.regs.now c.requires c.self.invariant.kept c.self.invariant.saved)
    ∙ ap (λ (k : KeptRegisters). record { entry = k.entry; saved = set k.saved c.args.thread (Some c.args.regs.now) }) c.self.view_is
