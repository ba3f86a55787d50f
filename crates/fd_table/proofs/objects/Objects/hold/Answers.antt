use Rattle.std.proofs.Common.{arith}
use Rattle.fd_table.proofs.ObjectLemmas.{counted-hold}
use Rattle.fd_table.proofs.objects.Objects.hold.Goals as goal

pub invariant_of-self : goal.invariant_of-self
invariant_of-self c =
    record { counted = counted-hold c.args.self.now.pool _ _ c.args.object _ c.args.self.now.counted c.requires.held (omega arith) c.hold.ensures }
