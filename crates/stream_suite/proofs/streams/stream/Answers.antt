use Rattle.std.proofs.lemmas.Option.{slice_get-get_or}
use Rattle.stream_suite.proofs.streams.stream.Goals as goal

pub stream_all-streamed-requires-clause-fresh : goal.stream_all-streamed-requires-clause-fresh
stream_all-streamed-requires-clause-fresh g c κs within =
    let passes = c.in_ok-process.passes.items in
    λ k d inside. (c.in_ok-process.ensures.passes k _ (slice_get-get_or passes k d inside)).new.2
