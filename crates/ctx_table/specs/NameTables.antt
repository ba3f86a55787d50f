-- Names, each at a place.
use Rattle.std.specs.Prelude.{◌≡◌, ◌↔◌, ℕ, ◌<◌, List, Option, Some, None, length, refl, slice_index_or}
use Rattle.std.specs.Coded.{Coded, code_by, coded×, coded_ℕ, coded_list, coded_option}
use Rattle.std.specs.FinMap as fm
use Rattle.lwc_types.specs.declared.name.Name.{Name}
use Rattle.lwc_types.specs.contracts.name.Name.{the_row}
use Rattle.lwc_types.specs.Names.{name_cmp}

-- the place of each name, and the name at each place, if there is one
pub record NameTable : Type 0 where
  pub map : fm.FinMap name_cmp ℕ
  pub places : List (Option Name)

-- they are stored as a pair
abbrev pub name_table_code : Coded NameTable
name_table_code =
    code_by (fm.FinMap name_cmp ℕ × List (Option Name))
    (coded× (fm.code the_row.coded coded_ℕ) (coded_list (coded_option the_row.coded)))
    (λ t. (t.map, t.places)) (λ p. record { map = p.0; places = p.1 }) (λ _. refl)

-- each name stands at its place and nowhere else
pub record ArePlaced (table : NameTable) : Type 0 where
  pub at : (name : Name) (p : ℕ) → (fm.get table.map name ≡ Some p) ↔ (slice_index_or table.places p None ≡ Some name)
  pub within : (name : Name) (p : ℕ) → fm.get table.map name ≡ Some p → p < length table.places
