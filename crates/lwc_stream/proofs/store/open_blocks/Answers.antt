use Rattle.std.proofs.Common.{All, subst, sym}
use Rattle.std.proofs.lemmas.List.Elements.{All-push}
use Rattle.lwc_stream.specs.Blocks.{HaveRoom}
use Rattle.lwc_stream.proofs.store.open_blocks.Goals as goal

pub workers-preserved : goal.workers-preserved
workers-preserved c = record {
  room = subst (All (HaveRoom c.args.replies)) (sym c.in_ok-push.ensures.items)
      (All-push (HaveRoom c.args.replies) c.workers.blocks.items _ c.workers.invariant.room c.in_ok-blocks_for.ensures.room);
}
