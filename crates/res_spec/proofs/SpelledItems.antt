-- Items as they are spelled, one after another.
use Rattle.std.proofs.Common.{◌≡◌, ◌∙◌, ◌+◌, ◌*◌, ◌/◌, ◌++◌, ℕ, List, [], ◌∷◌, Option, Some, None, ap, append-nil, length, arith, refl, sym}
use Rattle.std.specs.Prelude.{is_some, map}
use Rattle.std.specs.List.{cons_option, filter_map, list_all, range_with_len}
use Rattle.std.proofs.lemmas.List.Elements.{filter_map-append}
use Rattle.std.proofs.lemmas.List.Folds.{list_all-map}
use Rattle.std.proofs.lemmas.List.FromFn.{map-range_with_len_more}
use Rattle.res_spec.specs.declared.items.SpecCall.{SpecCall}
use Rattle.res_spec.specs.Items.{all_taken, item_of, spelled, spelled_at}
use Rattle.res_spec.specs.declared.items.TheConstants.{ITEM_BYTES}

-- whether a call takes each item is tested place by place
pub all_taken_by_place : (call : SpecCall) (bytes : List ℕ) →
    list_all (λ i. is_some (item_of call (spelled_at bytes (i * ITEM_BYTES)))) (range_with_len 0 (length bytes / ITEM_BYTES)) ≡ all_taken call bytes
unfolding all_taken spelled
all_taken_by_place call bytes = sym (list_all-map (λ s. is_some (item_of call s)) (λ i. spelled_at bytes (i * ITEM_BYTES)) (range_with_len 0 (length bytes / ITEM_BYTES)))

-- what is kept of the first places, and of one more
kept_more : {X Y : Type 0} (h : X → Option Y) (g : ℕ → X) (i : ℕ) →
    filter_map h (map g (range_with_len 0 (i + 1))) ≡ filter_map h (map g (range_with_len 0 i)) ++ cons_option (h (g i)) []
kept_more h g i = ap (filter_map h) (map-range_with_len_more g 0 i i (omega arith)) ∙ filter_map-append h (map g (range_with_len 0 i)) (g i ∷ [])

-- one more place gives something, and it is appended
pub keeps_one : {X Y : Type 0} (h : X → Option Y) (g : ℕ → X) (i : ℕ) (y : Y) (kept : List Y) → h (g i) ≡ Some y →
    kept ≡ filter_map h (map g (range_with_len 0 i)) → kept ++ y ∷ [] ≡ filter_map h (map g (range_with_len 0 (i + 1)))
keeps_one h g i y kept gives so_far = rw (kept_more h g i, gives, so_far) refl

-- one more place gives nothing
pub keeps_none : {X Y : Type 0} (h : X → Option Y) (g : ℕ → X) (i : ℕ) (kept : List Y) → h (g i) ≡ None →
    kept ≡ filter_map h (map g (range_with_len 0 i)) → kept ≡ filter_map h (map g (range_with_len 0 (i + 1)))
keeps_none h g i kept gives so_far = rw (kept_more h g i, gives, append-nil) so_far
