-- Each call from outside is the same call where one context is blank.
use Rattle.std.proofs.Common.{ℕ, Bool}
use Rattle.lwc_base.specs.Channels.{Channels}
use Rattle.lwc_base.specs.World.{World}
use Rattle.lwc_types.specs.declared.name.Name.{Name}
use Rattle.world_views.proofs.BlankCalls.{create-blank, overlay-blank, restrict-blank, switch-blank}
use Rattle.world_views.proofs.BlankPlainly.{plain-blank, syscall-blank}
use Rattle.world_views.specs.Outside.{CallsAlike, IsOutside}

pub calls-alike : (keep : Bool) (v c : Name) (own t : ℕ) (w : World) (io : Channels) → IsOutside v c own w → CallsAlike keep v c own t w io
calls-alike keep v c own t w io outside = record {
  create = create-blank keep v c own w outside;
  restrict = restrict-blank keep v c own w outside;
  overlay = overlay-blank keep v c own w outside;
  switch = λ regs. switch-blank keep v c own w outside regs t;
  plain = λ three call args are. plain-blank keep v w io own three are call args;
  syscall = syscall-blank keep v c own w io outside;
}
