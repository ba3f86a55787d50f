-- What a report says of a context.
use Rattle.std.specs.Prelude.{Bool, true, false, count_by, is_some, not}
use Rattle.std.specs.List.{range_with_len}
use Rattle.lwc_base.specs.declared.descriptor.Descriptor.{Descriptor}
use Rattle.lwc_base.specs.declared.descriptor.Descriptor.TheVariants.{Empty}
use Rattle.lwc_base.specs.Cells.{page_at, slot_at, uid_at}
use Rattle.lwc_base.specs.World.{World}
use Rattle.lwc_types.specs.declared.key.TheConstants.{SLOTS}
use Rattle.lwc_types.specs.declared.name.Name.{Name}
use Rattle.lwc_types.specs.declared.size.Summary.{Summary}

-- whether a slot is empty
abbrev pub is_empty : Descriptor → Bool
is_empty Empty = true
is_empty _ = false

-- the number of pages that are present, the number of slots that are not empty, and the uid
unfoldable pub summary_of : World → Name → Summary
summary_of w c = record {
  pages = count_by (λ p. is_some (page_at w c p)) (range_with_len 0 w.size.pages);
  slots = count_by (λ n. not (is_empty (slot_at w c n))) (range_with_len 0 SLOTS);
  uid = uid_at w c;
}
