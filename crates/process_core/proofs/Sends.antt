-- What is under the lock and passes of a process may go from thread to thread, and threads may share a process.
use Rattle.std.proofs.Crossing.{crosses}
use denote.RattleType.{RattleType}
use denote.Param.Send.{IsSend, IsSync, sendable}
use Rattle.turnstile.specs.declared.states.Turned.{Ghosts}
use Rattle.world_face.specs.declared.world.World as world
use Rattle.turnstile.specs.contracts.passes.Pass as pass
use Rattle.turnstile.specs.contracts.lock.Turnstile as lock
use Rattle.guest_isa.specs.contracts.text.Text as text
use Rattle.kernel_core.specs.contracts.kernel.Kernel as kernel
use Rattle.lwc_base.specs.contracts.channels.Channels as channels
use Rattle.kernel_core.specs.contracts.thread.Turn as turn
use Rattle.process_core.specs.contracts.guarded.Guarded as guarded
use Rattle.process_core.specs.contracts.passes.ProcessPass as carried
use Rattle.process_core.specs.contracts.process.Process as process
use Rattle.atomic_table.proofs.send_lease.SendLease.TheSendSync as lease
use Rattle.atomic_table.proofs.shared.Seat.TheSendSync as seat
use Rattle.atomic_table.proofs.shared.Shared.TheSendSync as shared

channels_send : IsSend channels.the_row
channels_send = search (sendable, crosses) depth 80 fits 20000

channels_sync : IsSync channels.the_row
channels_sync = search (sendable, crosses) depth 80 fits 20000

-- a kernel over a world that may, and the kernel under the lock
kernel_send : (W : RattleType) (g : world.Ghosts W.Denot) → IsSend W → IsSend (kernel.the_row W g)
kernel_send W g s = search (sendable, crosses, channels_send) depth 80 fits 20000

kernel_sync : (W : RattleType) (g : world.Ghosts W.Denot) → IsSync W → IsSync (kernel.the_row W g)
kernel_sync W g s = search (sendable, crosses, channels_sync) depth 80 fits 20000

pub guarded_send : (W : RattleType) (g : world.Ghosts W.Denot) → IsSend W → IsSend (guarded.the_row W g)
guarded_send W g s = search (sendable, crosses, kernel_send) depth 80 fits 20000

pub guarded_sync : (W : RattleType) (g : world.Ghosts W.Denot) → IsSync W → IsSync (guarded.the_row W g)
guarded_sync W g s = search (sendable, crosses, kernel_sync) depth 80 fits 20000

-- of a turnstile
pass_send : (S N : RattleType) (g : Ghosts S.Denot N.Denot) → IsSend S → IsSend (pass.the_row S N g)
pass_send S N g s = search (sendable, crosses, seat.the_send) depth 80 fits 20000

lock_sync : (S N : RattleType) (g : Ghosts S.Denot N.Denot) → IsSend S → IsSync (lock.the_row S N g)
lock_sync S N g s = search (sendable, crosses, shared.the_sync, lease.the_sync) depth 80 fits 20000

-- of a process
turn_send : IsSend turn.the_row
turn_send = search (sendable, crosses) depth 80 fits 20000

pub carried_send : (W : RattleType) (g : world.Ghosts W.Denot) → IsSend W → IsSend (carried.the_row W g)
carried_send W g s = search (sendable, crosses, pass_send, guarded_send, turn_send) depth 80 fits 20000

text_sync : IsSync text.the_row
text_sync = search (sendable, crosses) depth 80 fits 20000

gate_sync : (W : RattleType) (g : world.Ghosts W.Denot) (N : RattleType) (h : Ghosts (guarded.the_row W g).Denot N.Denot) → IsSend W → IsSync (lock.the_row (guarded.the_row W g) N h)
gate_sync W g N h s = lock_sync (guarded.the_row W g) N h (guarded_send W g s)

pub process_sync : (W : RattleType) (g : world.Ghosts W.Denot) → IsSend W → IsSync (process.the_row W g)
process_sync W g s = search (sendable, gate_sync, text_sync) depth 20 fits 20000
