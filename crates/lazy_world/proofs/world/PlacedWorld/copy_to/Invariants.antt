use Rattle.std.proofs.Common.{◌≡◌, ℕ, ◌+◌, ◌-◌, ◌/◌, ◌<◌, get_or}
use Rattle.std.specs.Option.{option_copied}
use Rattle.cow_space.specs.Maps.{data_of}
use Rattle.lwc_types.specs.declared.page.TheConstants.{PAGE_BYTES}
use Rattle.lazy_world.specs.Memory.{byte_in, page_in}
use Rattle.lazy_world.specs.Seen.{rows}
use Rattle.lazy_world.specs.Worlds.{seen}
use Rattle.lazy_world.proofs.world.PlacedWorld.copy_to.Given as goal

abbrev pub invariant-loop-k : goal.invariant-loop-k
invariant-loop-k l =
    ((j : ℕ) → j < l.k → get_or l.out j 0 ≡ byte_in (seen l.self) (rows l.self.places l.place) (l.at + j))
    × (0 < l.k → option_copied l.page ≡ data_of (page_in (seen l.self) (rows l.self.places l.place) ((l.at + l.k - 1) / PAGE_BYTES)))
