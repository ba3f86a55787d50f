-- Workers may go from thread to thread, and threads may share the signal.
use Rattle.std.proofs.Crossing.{crosses}
use denote.Ref.{NamedLft}
use denote.Param.Send.{IsSend, IsSync, sendable}
use Rattle.atomic_table.proofs.send_lease.SendLease.TheSendSync as lease
use Rattle.atomic_table.proofs.shared.Seat.TheSendSync as seat
use Rattle.atomic_table.proofs.shared.Shared.TheSendSync as shared
use Rattle.lwc_stream.specs.contracts.ends.Puts as puts
use Rattle.lwc_stream.specs.contracts.signal.Signal as signal
use Rattle.lwc_stream.specs.contracts.worker.Outbox as outbox

puts_send : (κ : NamedLft) → IsSend (puts.the_row κ)
puts_send κ = search (sendable, crosses, seat.the_send, shared.the_send, shared.the_sync, lease.the_send, lease.the_sync) depth 80 fits 20000

pub signal_sync : IsSync signal.the_row
signal_sync = search (sendable, crosses) depth 80 fits 20000

pub outbox_send : (κ : NamedLft) → IsSend (outbox.the_row κ)
outbox_send κ = search (sendable, crosses, puts_send, signal_sync) depth 80 fits 20000
