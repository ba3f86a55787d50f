use Rattle.std.proofs.Common.{◌≡◌, ◌+◌, ◌-◌, ◌≤◌, ◌++◌}
use Rattle.std.specs.List.{range_with_len}
use Rattle.lwc_base.specs.Store.{stored_pages}
use Rattle.whole_world.specs.Worlds.{seen}
use Rattle.whole_world.proofs.world.WholeWorld.stored_pages.Given as goal

abbrev pub invariant-loop-p : goal.invariant-loop-p
invariant-loop-p l = record {
  put_so_far : l.values.items ++ stored_pages (seen l.self) l.context l.job (record { at = l.at; bytes = l.piece }) l.k (range_with_len l.p (l.fn.pages.to - l.p))
      ≡ stored_pages (seen l.self) l.context l.job (record { at = l.at; bytes = l.piece }) l.initial.k (range_with_len l.fn.pages.from (l.fn.pages.to - l.fn.pages.from));
  few : l.k + l.fn.pages.from ≤ l.initial.k + l.p;
}
