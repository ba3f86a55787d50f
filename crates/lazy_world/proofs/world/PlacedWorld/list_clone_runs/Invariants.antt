use Rattle.std.proofs.Common.{◌≡◌, ◌≢◌, ◌+◌, ◌<◌, ◌≤◌, ℕ, length, take}
use Rattle.std.specs.Prelude.{All}
use Rattle.std.specs.Option.{option_map, option_or}
use Rattle.lwc_base.specs.Modes.{mode}
use Rattle.lwc_types.specs.declared.key.Key.TheVariants.{Page}
use Rattle.range_map.specs.Kinds.{state_at}
use Rattle.cow_space.specs.Changes.{IsPageRun}
use Rattle.lazy_world.specs.Clones.{item_gift, state_gift}
use Rattle.lazy_world.specs.Seen.{count}
use Rattle.lazy_world.specs.Origins.{gift_at}
use Rattle.lazy_world.specs.Worlds.{parts}
use Rattle.lazy_world.proofs.world.PlacedWorld.list_clone_runs.Given as goal

abbrev pub invariant-loop-segment : goal.invariant-loop-segment
invariant-loop-segment l = record {
  gifts : (q : ℕ) → gift_at l.page_runs.items q
      ≡ option_or (item_gift l.from (mode l.spec (Page q))) (option_map (state_gift (parts l.self) l.from) (state_at (take l.segment-index l.segment-items) q));
  few : length l.page_runs.items ≤ length l.spec + l.segment-index;
  given : (to : ℕ) → l.from ≢ to → to < (parts l.self).size.contexts → All (IsPageRun (count l.self.places) to) l.page_runs.items;
}
