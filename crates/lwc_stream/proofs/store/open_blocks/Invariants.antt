use Rattle.std.proofs.Common.{All}
use Rattle.lwc_stream.specs.Blocks.{HaveRoom}
use Rattle.lwc_stream.proofs.store.open_blocks.Given as goal

abbrev pub invariant-workers : goal.invariant-workers
invariant-workers l = record { room : All (HaveRoom l.replies) l.blocks.items }
