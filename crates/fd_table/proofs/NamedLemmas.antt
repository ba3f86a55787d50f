-- A place is named by a held object exactly where a slot names it.
use Rattle.std.proofs.Common.{◌≡◌, ℕ, ◌+◌, ◌-◌, ◌<◌, ⊎_elim, Bool, true, false, ◌&&◌, eqb, ltb, List, length, get_or, refl, sym, ◌∙◌, ap, arith, Option, None, Some}
use Rattle.std.specs.List.{count_by}
use Rattle.std.proofs.lemmas.List.{get_or_past}
use Rattle.std.proofs.lemmas.List.Sums.{get_or-le-sum_by}
use Rattle.std.proofs.lemmas.Bool.{cases_lt, eq-eqb, eqb-true, false≢true, lt-ltb, ltb-true}
use Rattle.fd_table.specs.declared.table.Table.{Table}
use Rattle.fd_table.specs.Slots.{Slot, no_slots, row_of}
use Rattle.fd_table.specs.Pools.{Held, no_held, held_at, count_of, slot_at}
use Rattle.fd_table.specs.Objects.{is_target, is_naming}
use Rattle.fd_table.specs.Tables.{times, naming, rows, no_table, table_at}
use Rattle.fd_table.specs.Kept.{IsKept}
use Rattle.fd_table.proofs.ObjectLemmas.{one_if, counts-held, held-in, none-some}
use Rattle.fd_table.proofs.SlotLemmas.{entry-empty, entry-some, slots-at, length-rows, row-at}
use Rattle.fd_table.proofs.ChangeLemmas.{entry-held}
use Rattle.lwc_types.proofs.Small.{sum-some}

one-some : (b : Bool) → 0 < one_if b → b ≡ true
one-some true some = refl
one-some false some = absurd (omega (arith, some))

and-left : (a b : Bool) → a && b ≡ true → a ≡ true
and-left true b is = refl
and-left false b is = is

and-right : (a b : Bool) → a && b ≡ true → b ≡ true
and-right true b is = is
and-right false b is = absurd (false≢true is)

is-some : (place : ℕ) (target : Option ℕ) → is_target place target ≡ true → target ≡ Some place
is-some place None is = absurd (false≢true is)
is-some place (Some t) is = ap Some (eqb-true t place is)

pub named-some : (pool : List Held) (tables : List Table) (place : ℕ) → IsKept pool tables → ltb 0 (count_by (is_naming place) pool) ≡ true → (i : ℕ) × (n : ℕ) × ((row_of (rows pool tables) i n).target ≡ Some place)
unfolding naming times
named-some pool tables place kept is_it =
    let object = sum-some (λ held. one_if (is_naming place held)) pool no_held (ltb-true 0 (count_by (is_naming place) pool) is_it) in
    let o = object.0 in
    let naming_it = one-some (is_naming place (held_at pool o)) object.1.1 in
    let held = ltb-true 0 (count_of pool o) (and-left (ltb 0 (count_of pool o)) (is_target place (slot_at pool o).target) naming_it) in
    let target = is-some place (slot_at pool o).target (and-right (ltb 0 (count_of pool o)) (is_target place (slot_at pool o).target) naming_it) in
    let table = sum-some (λ (t : Table). times o t.entries) tables no_table (omega (arith, held, kept.exact o)) in
    let i = table.0 in
    let entry = sum-some (λ e. one_if (eqb e (o + 1))) (table_at tables i).entries 0 table.1.1 in
    let n = entry.0 in
    let is = eqb-true (get_or (table_at tables i).entries n 0) (o + 1) (one-some (eqb (get_or (table_at tables i).entries n 0) (o + 1)) entry.1.1) in
    let back : get_or (table_at tables i).entries n 0 - 1 ≡ o = omega (arith, is) in (
      i,
      n,
      ap (λ (row : ℕ → Slot). (row n).target) (row-at pool tables i table.1.0)
          ∙ ap (λ (s : Slot). s.target) (slots-at pool (table_at tables i).entries n ∙ entry-some pool (get_or (table_at tables i).entries n 0) (omega (arith, is)) ∙ ap (slot_at pool) back)
          ∙ target,
    )

pub some-named : (pool : List Held) (tables : List Table) (place i n : ℕ) → IsKept pool tables → (row_of (rows pool tables) i n).target ≡ Some place → ltb 0 (count_by (is_naming place) pool) ≡ true
some-named pool tables place i n kept target =
    ⊎_elim
    (λ lt.
    let here = ap (λ (row : ℕ → Slot). (row n).target) (sym (row-at pool tables i lt)) ∙ target in
    let e = get_or (table_at tables i).entries n 0 in
    ⊎_elim
    (λ some.
    let o = e - 1 in
    let held = entry-held pool tables i n kept lt some in
    let named = sym (ap (λ (s : Slot). s.target) (slots-at pool (table_at tables i).entries n ∙ entry-some pool e some)) ∙ here in
    let counts = counts-held place (held_at pool o) held ∙ ap (λ t. one_if (is_target place t)) named ∙ ap one_if (eq-eqb place place refl) in
    let one = get_or-le-sum_by (λ x. one_if (is_naming place x)) pool o no_held (held-in pool o held) in
    lt-ltb 0 (count_by (is_naming place) pool) (omega (arith, counts, one)))
    (λ none. none-some place (sym (ap (λ (s : Slot). s.target) (slots-at pool (table_at tables i).entries n ∙ entry-empty pool e (omega (arith, none)))) ∙ here))
    (cases_lt 0 e))
    (λ past. none-some place (sym (ap (λ (row : ℕ → Slot). (row n).target) (get_or_past (rows pool tables) i no_slots (omega (arith, past, length-rows pool tables)))) ∙ target))
    (cases_lt i (length tables))
