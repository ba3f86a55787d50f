-- What a load gives where all its pages are present, and where one is absent.
use Rattle.std.proofs.Common.{◌≡◌, ℕ, refl, sym, Bool, true, false, Some, None, map}
use Rattle.std.specs.Prelude.{if◌then◌else◌}
use Rattle.std.proofs.lemmas.Bool.{false≢true}
use Rattle.std.specs.List.{range_with_len}
use Rattle.lwc_base.specs.Memory.{byte_at, is_present, load}
use Rattle.lwc_base.specs.World.{World}
use Rattle.lwc_types.specs.declared.name.Name.{Name}

load_where : {A : Type 0} (present : Bool) (x : A) → present ≡ true → (if present then Some x else None) ≡ Some x
load_where true x there = refl
load_where false x there = absurd (false≢true there)

none_where : {A : Type 0} (present : Bool) (x : A) → present ≡ false → (if present then Some x else None) ≡ None
none_where true x absent = absurd (false≢true (sym absent))
none_where false x absent = refl

-- a load of pages that are all present
pub load-present : (w : World) (c : Name) (at count : ℕ) → is_present w c at count ≡ true → load w c at count ≡ Some (map (byte_at w c) (range_with_len at count))
unfolding load
load-present w c at count there = load_where (is_present w c at count) (map (byte_at w c) (range_with_len at count)) there

-- a load where a page is absent
pub load-absent : (w : World) (c : Name) (at count : ℕ) → is_present w c at count ≡ false → load w c at count ≡ None
unfolding load
load-absent w c at count absent = none_where (is_present w c at count) (map (byte_at w c) (range_with_len at count)) absent
