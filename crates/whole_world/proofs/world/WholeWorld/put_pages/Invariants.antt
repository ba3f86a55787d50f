use Rattle.std.proofs.Common.{◌≡◌, IsTrue}
use Rattle.lwc_base.specs.Store.{put_pages}
use Rattle.lwc_base.specs.World.{is_live}
use Rattle.whole_world.specs.Worlds.{seen}
use Rattle.whole_world.proofs.world.WholeWorld.put_pages.Given as goal

abbrev pub invariant-loop-p : goal.invariant-loop-p
invariant-loop-p l = record {
  left : put_pages (seen l.self) l.context l.p-iterator.rest.items ≡ put_pages (seen l.initial.self) l.context l.fn.values.items;
  live : IsTrue (is_live (seen l.self) l.context);
}
