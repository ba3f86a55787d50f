use Rattle.std.proofs.Common.{◌≡◌, ◌≤◌, ◌*◌}
use Rattle.std.specs.Prelude.{map}
use Rattle.std.specs.List.{filter_map, range_with_len}
use Rattle.arrayvec.specs.ArrayVec.{array_vec_len}
use Rattle.res_spec.specs.Items.{item_of, spelled_at}
use Rattle.res_spec.specs.declared.items.TheConstants.{ITEM_BYTES}
use Rattle.res_spec.proofs.items.items_in.Given as goal

abbrev pub invariant-loop-i : goal.invariant-loop-i
invariant-loop-i l = record {
  so_far : l.items.items ≡ filter_map (item_of l.call) (map (λ i. spelled_at l.bytes (i * ITEM_BYTES)) (range_with_len 0 l.i));
  few : array_vec_len l.items ≤ l.i;
}
