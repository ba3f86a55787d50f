use Rattle.std.proofs.Common.{◌≡◌, ◌∷◌, ◌++◌, Bool, List, length}
use Rattle.lwc_io.specs.Outside.{SinkView}
use Rattle.lwc_stream.specs.Streams.{HasShown}
use Rattle.snapshot_host.specs.declared.finishing.Finished.{Finished}
use Rattle.lwc_stream.proofs.collector.take_rest.Given as goal

abbrev pub invariant-rest : goal.invariant-rest
invariant-rest g l = record {
  put : l.ends.put ≡ l.fn.puts.values;
  shown : (done rest : List (List Finished)) (failed : Bool) (before now : SinkView) →
      HasShown (done ++ l.fn.takes.values ∷ rest) l.fn.waiting failed before now → HasShown (done ++ l.ends.taken ∷ rest) l.waiting failed before now;
  places : length l.waiting.places ≡ length l.fn.waiting.places;
}
