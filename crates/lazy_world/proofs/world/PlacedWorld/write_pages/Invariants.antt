use Rattle.std.proofs.Common.{◌≡◌, ◌+◌, ◌-◌, ◌≤◌, true}
use Rattle.std.specs.Prelude.{count_by, is_some}
use Rattle.std.specs.List.{list_all, range_with_len}
use Rattle.lwc_base.specs.Cells.{page_at}
use Rattle.lwc_base.specs.Frames.{used}
use Rattle.world_face.specs.Calls.{IsLive}
use Rattle.lazy_world.specs.Stores.{parts_at, store_pages}
use Rattle.lazy_world.specs.Worlds.{seen}
use Rattle.lazy_world.proofs.world.PlacedWorld.write_pages.Given as goal

abbrev pub invariant-loop-p : goal.invariant-loop-p
invariant-loop-p l = record {
  live : IsLive (seen l.self) l.context;
  there : list_all (λ q. is_some (page_at (seen l.self) l.context q)) (range_with_len l.p (l.fn.pages.to - l.p)) ≡ true;
  size : (seen l.self).size ≡ (seen l.fn.self).size;
  tags : ((seen l.self).next l.job).tags + l.fn.pages.from ≤ ((seen l.fn.self).next l.job).tags + l.p;
  enough : used (seen l.self) + count_by (parts_at (seen l.self) l.context) (range_with_len l.p (l.fn.pages.to - l.p)) ≤ (seen l.self).size.frames;
  stored : store_pages (seen l.self) l.context l.job (record { at = l.at; bytes = l.piece }) (range_with_len l.p (l.fn.pages.to - l.p))
      ≡ store_pages (seen l.fn.self) l.context l.job (record { at = l.at; bytes = l.piece }) (range_with_len l.fn.pages.from (l.fn.pages.to - l.fn.pages.from));
}
