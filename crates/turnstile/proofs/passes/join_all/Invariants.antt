use Rattle.std.proofs.Common.{◌≡◌, ◌++◌, [], map}
use Rattle.turnstile.specs.Passes.{joined_of}
use Rattle.turnstile.proofs.passes.join_all.Given as goal

abbrev pub invariant-loop-other : goal.invariant-loop-other
invariant-loop-other g l = record {
  table : l.seat.table_id ≡ l.initial.seat.table_id;
  joined : l.seat.me ≡ (record l.initial.seat.me.0 { joined = l.initial.seat.me.0.joined ++ map (λ p. joined_of (g.P.HoldsPass.held p)) l.yielded }, []);
}
