-- Names and their places.
use Rattle.std.specs.Prelude.{◌≡◌, ℕ, ◌<◌, ◌≤◌, List, length, refl, slice_index_or}
use Rattle.std.specs.Coded.{Coded, code_by, coded×, coded_ℕ}
use Rattle.std.specs.FinMap as fm
use Rattle.std.specs.declared.cmp.Ordering.TheVariants.{Less, Greater}
use Rattle.lwc_types.specs.declared.name.Name.{Name}
use Rattle.lwc_types.specs.contracts.name.Name.{the_row}
use Rattle.lwc_types.specs.Names.{name_cmp}

-- the place of each name, and the number of names that there is memory for
pub record Places : Type 0 where
  pub map : fm.FinMap name_cmp ℕ
  pub room : ℕ

-- they are stored as a pair
abbrev pub places_code : Coded Places
places_code = code_by (fm.FinMap name_cmp ℕ × ℕ) (coded× (fm.code the_row.coded coded_ℕ) coded_ℕ)
    (λ p. (p.map, p.room)) (λ p. record { map = p.0; room = p.1 }) (λ _. refl)

-- a row has the name
pub record IsAt (rows : List (Name × ℕ)) (name : Name) (i : ℕ) : Type 0 where
  pub within : i < length rows
  pub same : (d : Name × ℕ) → (slice_index_or rows i d).0 ≡ name

-- a name would go before a row: those before it are of lower names, and it and those behind it of higher ones
pub record IsGap (rows : List (Name × ℕ)) (name : Name) (i : ℕ) : Type 0 where
  pub within : i ≤ length rows
  pub lower : (k : ℕ) (d : Name × ℕ) → k < i → name_cmp (slice_index_or rows k d).0 name ≡ Less
  pub higher : (k : ℕ) (d : Name × ℕ) → i ≤ k → k < length rows → name_cmp (slice_index_or rows k d).0 name ≡ Greater
