-- What a put, a mapping and a store leave as it was: no name is new or gone.
use Rattle.std.proofs.Common.{◌≡◌, ℕ, true, false, List, [], ◌∷◌, arith, rules}
use Rattle.lwc_base.specs.declared.cell.Cell.TheVariants.{Own, Common}
use Rattle.lwc_base.specs.Cells.{put_at, put_page, with_cell, with_value}
use Rattle.lwc_base.specs.Facts.{KeepsNames, TakesTags}
use Rattle.lwc_base.specs.Keys.{ValueOf, is_there}
use Rattle.lwc_base.specs.Store.{Piece, after_store, parting_count, put_pages}
use Rattle.lwc_base.specs.World.{World, context, is_live, change_context, change_counters, change_group}
use Rattle.lwc_base.proofs.Lookups.{context-dead, keeps_names-itself, keeps_names-then, changes-change_context, changes-change_group}
use Rattle.lwc_types.specs.declared.key.Key.{Key}
use Rattle.lwc_types.specs.declared.key.Key.TheVariants.{Page}
use Rattle.lwc_types.specs.declared.name.Name.{Name}
use Rattle.lwc_types.specs.declared.page.PageValue.{PageValue}

-- a context that names a group is live
pub live_of_common : (w : World) (c : Name) (k : Key) (g : Name) → (context w c).cell k ≡ Common g → is_live w c ≡ true
live_of_common w c k g is = grind (arith, context-dead)

-- what is so once the value is put: at an absent page nothing changes, and else a context's own cell or a group has the value
pub after_put_at : (P : World → Type 0) (w : World) (c : Name) (k : Key) (value : ValueOf k) →
    ((old : ValueOf k) → (context w c).cell k ≡ Own old → is_there k old ≡ false → P w) →
    ((old : ValueOf k) → (context w c).cell k ≡ Own old → is_there k old ≡ true → P (change_context w c (with_cell k (Own value)))) →
    ((g : Name) → (context w c).cell k ≡ Common g → P (change_group w g (with_value k value))) → P (put_at w c k value)
unfolding put_at
after_put_at P w c k value absent own common = grind arith

pub names-put_at : (w : World) (c : Name) (k : Key) (value : ValueOf k) → KeepsNames w (put_at w c k value)
names-put_at w c k value =
    after_put_at (KeepsNames w) w c k value (λ _ _ _. keeps_names-itself w)
    (λ _ _ _. (changes-change_context w c _).names) (λ g _. (changes-change_group w g _).names)

pub names-put_pages : (w : World) (c : Name) (values : List (ℕ × PageValue)) → KeepsNames w (put_pages w c values)
names-put_pages w c [] = keeps_names-itself w
names-put_pages w c (v ∷ vs) =
    keeps_names-then w (put_page w c v.0 v.1) _ (names-put_at w c (Page v.0) _) (names-put_pages (put_page w c v.0 v.1) c vs)

pub takes-after_store : (w : World) (c : Name) (job : ℕ) (piece : Piece) → TakesTags w job (parting_count w c piece) (after_store w c job piece)
unfolding after_store change_counters
takes-after_store w c job piece = search (rules, names-put_pages)
