use Rattle.process_core.proofs.Sends.{guarded_send, guarded_sync}
use Rattle.std.proofs.Crossing.{crosses}
use denote.Param.Send.{sendable}
use Rattle.process_core.proofs.process.Process.turn.Goals as goal

pub mutex-requires-then-not-has_ended-send-S : goal.mutex-requires-then-not-has_ended-send-S
mutex-requires-then-not-has_ended-send-S g c κs within = let s = c.type_bounds.send-W in search (sendable, crosses, guarded_send) depth 80 fits 20000

pub mutex-requires-then-not-has_ended-sync-S : goal.mutex-requires-then-not-has_ended-sync-S
mutex-requires-then-not-has_ended-sync-S g c κs within = let s = c.type_bounds.send-W in search (sendable, crosses, guarded_sync) depth 80 fits 20000

pub mutex-requires-send-S : goal.mutex-requires-send-S
mutex-requires-send-S g c κs within = let s = c.type_bounds.send-W in search (sendable, crosses, guarded_send) depth 80 fits 20000

pub mutex-requires-sync-S : goal.mutex-requires-sync-S
mutex-requires-sync-S g c κs within = let s = c.type_bounds.send-W in search (sendable, crosses, guarded_sync) depth 80 fits 20000
