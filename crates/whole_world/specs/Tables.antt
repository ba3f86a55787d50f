-- Rows by name.
use Rattle.std.specs.Prelude.{Bool, List, map}
use Rattle.std.specs.FinMap as fm
use Rattle.std.specs.Ordering.{is_eq, is_lt}
use Rattle.lwc_types.specs.declared.name.Name.{Name}
use Rattle.lwc_types.specs.Names.{name_cmp}

-- whether a row has the name
abbrev pub has_name : {T : Type 0} → Name → Name × T → Bool
has_name c row = is_eq (name_cmp row.0 c)

-- whether a row's name is past a name
abbrev pub is_past : {T : Type 0} → Name → Name × T → Bool
is_past c row = is_lt (name_cmp c row.0)

-- the map that rows in the order of their names stand for
abbrev pub map_of : {T X : Type 0} → (T → X) → List (Name × T) → fm.FinMap name_cmp X
map_of value rows = fm.from_sorted (map (λ row. (row.0, value row.1)) rows)
