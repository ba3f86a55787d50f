use Rattle.std.proofs.Common.{inl, inr, sym}
use Rattle.lwcrun_inputs.specs.Ends.{End, Outside}
use Rattle.lwcrun_core.specs.StreamEnds.{StreamEnded}
use Rattle.lwcrun_core.specs.Works.{plan_of}
use Rattle.lwcrun_inputs.specs.declared.ending.Rejection.{Rejection}
use Rattle.lwcrun_line.specs.Lines as commands
use Rattle.lwcrun_line.specs.Lines.{Command, IsStream}
use Rattle.lwcrun_inputs.proofs.Fetches.{nothing_fetched}
use Rattle.lwcrun_inputs.proofs.Follows.{no_fetches}
use Rattle.lwcrun_core.specs.Calls.{CommandEnded}
use Rattle.lwcrun_core.proofs.call.carry_out.Goals as goal

pub returns-in-Gen-clause-fetches : goal.returns-in-Gen-clause-fetches
returns-in-Gen-clause-fetches g c = nothing_fetched _ (no_fetches _ _)

pub returns-in-Run-clause-ended : goal.returns-in-Run-clause-ended
returns-in-Run-clause-ended g c = rw c.in-Run.is (rw (sym c.deref.ensures) (inl c.run.ensures.ended))

pub returns-in-Serve-clause-ended : goal.returns-in-Serve-clause-ended
returns-in-Serve-clause-ended g c =
    rw c.in-Serve.is (rw (sym c.deref-in-Serve.ensures) (rw (sym c.deref-in-Serve-2.ensures) (inl c.serve.ensures.ended)))

pub returns-in-Gen-clause-ended : goal.returns-in-Gen-clause-ended
returns-in-Gen-clause-ended g c = rw c.in-Gen.is (inl (c.serve_generated.ensures _))

stream_ended : (o : Outside) (command : Command) (e : End Rejection) → IsStream command → StreamEnded o (plan_of command) e → CommandEnded o command e
stream_ended o command e stream (inl h) = inl h
stream_ended o command e stream (inr h) = inr (stream, h.0, h.1)

pub returns-in-Stream-clause-ended : goal.returns-in-Stream-clause-ended
returns-in-Stream-clause-ended g c =
    let command = commands.Stream c.deref-in-Stream.result.now c.deref-in-Stream-2.result.now c.in-Stream.settings in
    rw c.in-Stream.is (rw (sym c.deref-in-Stream.ensures) (rw (sym c.deref-in-Stream-2.ensures) (stream_ended _ command _ tt c.stream.ensures.ended)))
