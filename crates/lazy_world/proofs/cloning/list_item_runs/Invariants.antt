use Rattle.std.proofs.Common.{◌≡◌, ◌≢◌, ◌<◌, ◌≤◌, ℕ, length, take}
use Rattle.std.specs.Prelude.{All}
use Rattle.lwc_base.specs.Modes.{mode}
use Rattle.lwc_types.specs.declared.key.Key.TheVariants.{Page}
use Rattle.cow_space.specs.Changes.{IsPageRun}
use Rattle.lazy_world.specs.Clones.{item_gift}
use Rattle.lazy_world.specs.Origins.{gift_at}
use Rattle.lazy_world.proofs.cloning.list_item_runs.Given as goal

abbrev pub invariant-loop-item : goal.invariant-loop-item
invariant-loop-item l = record {
  gifts : (q : ℕ) → gift_at l.page_runs.items q ≡ item_gift l.from (mode (take l.item-index l.item-items) (Page q));
  few : length l.page_runs.items ≤ l.item-index;
  given : (count to : ℕ) → l.from < count → l.from ≢ to → All (IsPageRun count to) l.page_runs.items;
}
