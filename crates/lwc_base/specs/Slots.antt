-- The empty slots of a context.
use Rattle.std.specs.Prelude.{ℕ, Option}
use Rattle.std.specs.List.{find, range_with_len}
use Rattle.lwc_base.specs.Cells.{slot_at}
use Rattle.lwc_base.specs.Summaries.{is_empty}
use Rattle.lwc_base.specs.World.{World}
use Rattle.lwc_types.specs.declared.key.TheConstants.{SLOTS}
use Rattle.lwc_types.specs.declared.name.Name.{Name}

-- the lowest slot of a context that is empty, if one is
unfoldable pub lowest_empty : World → Name → Option ℕ
lowest_empty w c = find (λ n. is_empty (slot_at w c n)) (range_with_len 0 SLOTS)
