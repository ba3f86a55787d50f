-- What a call makes of the tables and their rows: an entry is another, a table is copied, a table is emptied.
use Rattle.std.proofs.Common.{◌≡◌, ℕ, ◌+◌, ◌-◌, ◌<◌, ◌≤◌, ⊎_elim, Bool, cond, eqb, ltb, List, [], ◌∷◌, length, get_or, set, sym, ◌∙◌, ap, arith}
use Rattle.std.proofs.lemmas.List.{get_or_read}
use Rattle.std.proofs.lemmas.Bool.{cases_eq}
use Rattle.lwc_base.specs.Capabilities.{has_bit}
use Rattle.fd_table.specs.declared.table.Table.{Table}
use Rattle.fd_table.specs.Slots.{Slot, empty_slot, no_slots, row_of, put_slot, is_filled, is_common}
use Rattle.fd_table.specs.Pools.{Held, count_of, slot_at}
use Rattle.fd_table.specs.Objects.{HoldsMore, HoldsLess, Takes}
use Rattle.fd_table.specs.Tables.{times, entry_slot, slots_of, rows, no_table, table_at, IsTable}
use Rattle.fd_table.specs.Kept.{IsKept}
use Rattle.fd_table.proofs.ObjectLemmas.{one_if, one-yes, one-no, times-one, times-set}
use Rattle.fd_table.proofs.SlotLemmas.{entry-some, slots-at, slots-same, slots-set, slots-none, no-entries, times-zeros, row-at, rows-set, naming-some, naming-at, table-same, table-empty, table-set, kept-set, zero-no}

-- the table that was read
pub table-read : (tables : List Table) (i : ℕ) (table : Table) → i < length tables → table ≡ get_or tables i table → table ≡ table_at tables i
table-read tables i table lt is = get_or_read tables i table lt is no_table

-- an object that an entry names is held
pub entry-held : (pool : List Held) (tables : List Table) (i n : ℕ) → IsKept pool tables → i < length tables → 0 < get_or (table_at tables i).entries n 0 → 0 < count_of pool (get_or (table_at tables i).entries n 0 - 1)
entry-held pool tables i n kept lt some =
    let o = get_or (table_at tables i).entries n 0 - 1 in
    let named = naming-some tables o i n lt (omega (arith, some)) in
    omega (arith, named, kept.exact o)

-- where no object stands for another slot, no table does
pub slots-all : (pool pool' : List Held) (entries : List ℕ) → ((o : ℕ) → slot_at pool' o ≡ slot_at pool o) → slots_of pool' entries ≡ slots_of pool entries
slots-all pool pool' entries same = slots-same pool pool' entries (λ n _. same (get_or entries n 0 - 1))

-- where a free object is taken, no table stands for other slots
pub takes-same : (pool pool' : List Held) (tables : List Table) (p : ℕ) (slot : Slot) → IsKept pool tables → Takes pool pool' p slot → (j : ℕ) → j < length tables → slots_of pool' (table_at tables j).entries ≡ slots_of pool (table_at tables j).entries
takes-same pool pool' tables p slot kept takes j lt =
    slots-same pool pool' (table_at tables j).entries (λ n some.
    let o = get_or (table_at tables j).entries n 0 - 1 in
    let held = entry-held pool tables j n kept lt some in
    ap (λ (h : Held). h.slot) (takes.others o (λ is. absurd (let free = ap (count_of pool) is ∙ takes.was_free in omega (arith, free, held)))))

-- ---- an entry is another

module _ (pool pool' : List Held) (tables : List Table) (i n e : ℕ) (table' : Table) (common : Bool) (kept : IsKept pool tables) (lt : i < length tables) (n_in : n < 64) (same : (j : ℕ) → j < length tables → slots_of pool' (table_at tables j).entries ≡ slots_of pool (table_at tables j).entries) (entries : table'.entries ≡ set (table_at tables i).entries n e) where
  set-slots : slots_of pool' table'.entries ≡ put_slot (slots_of pool (table_at tables i).entries) n (entry_slot pool' e)
  set-slots =
      ap (slots_of pool') entries ∙ slots-set pool' (table_at tables i).entries n e (omega (arith, n_in, (kept.each i lt).long))
      ∙ ap (λ row. put_slot row n (entry_slot pool' e)) (same i lt)

  pub set-rows : rows pool' (set tables i table') ≡ set (rows pool tables) i (put_slot (row_of (rows pool tables) i) n (entry_slot pool' e))
  set-rows =
      rows-set pool pool' tables i table' (λ j j_in _. same j j_in)
      ∙ ap (set (rows pool tables) i) (set-slots ∙ ap (λ row. put_slot row n (entry_slot pool' e)) (sym (row-at pool tables i lt)))

  pub set-kept : length pool' ≡ length pool → ((o : ℕ) → count_of pool' o + one_if (eqb (get_or (table_at tables i).entries n 0) (o + 1)) ≡ count_of pool o + one_if (eqb e (o + 1)))
      → ((m : ℕ) → m < 64 → has_bit table'.filled m ≡ cond (eqb m n) (ltb 0 e) (has_bit (table_at tables i).filled m))
      → ((m : ℕ) → m < 64 → has_bit table'.common m ≡ cond (eqb m n) common (has_bit (table_at tables i).common m))
      → is_filled (entry_slot pool' e).cell ≡ ltb 0 e → common ≡ is_common (entry_slot pool' e).cell → IsKept pool' (set tables i table')
  set-kept size counts filled_bits common_bits real is_it =
      kept-set pool pool' tables i table' kept lt size
      (λ o.
      let change = times-set o (table_at tables i).entries n e (omega (arith, n_in, (kept.each i lt).long)) in
      let now = ap (times o) entries in
      omega (arith, change, now, counts o))
      (table-set pool pool' (table_at tables i) table' n e common n_in (kept.each i lt) set-slots entries filled_bits common_bits real is_it)
      (λ j j_in _. same j j_in)

-- a slot is emptied
pub empty-counts : (pool pool' : List Held) (e : ℕ) → HoldsLess pool pool' (e ∷ []) → (o : ℕ) → count_of pool' o + one_if (eqb e (o + 1)) ≡ count_of pool o + one_if (eqb 0 (o + 1))
empty-counts pool pool' e less o =
    let one = times-one o e in
    let none = one-no 0 (o + 1) (λ is. absurd (omega (arith, is))) in
    omega (arith, less.counts o, one, none)

pub empty-may : (pool : List Held) (tables : List Table) (i n : ℕ) → IsKept pool tables → i < length tables → n < 64 → (o : ℕ) → times o (get_or (table_at tables i).entries n 0 ∷ []) ≤ count_of pool o
empty-may pool tables i n kept lt n_in o =
    let one = times-one o (get_or (table_at tables i).entries n 0) in
    let change = times-set o (table_at tables i).entries n 0 (omega (arith, n_in, (kept.each i lt).long)) in
    let none = one-no 0 (o + 1) (λ is. absurd (omega (arith, is))) in
    omega (arith, one, change, none, naming-at tables o i lt, kept.exact o)

-- an empty slot is filled
pub fill-entry : (pool pool' : List Held) (p : ℕ) (slot : Slot) → Takes pool pool' p slot → entry_slot pool' (p + 1) ≡ slot
fill-entry pool pool' p slot takes =
    let back : p + 1 - 1 ≡ p = omega arith in
    entry-some pool' (p + 1) (omega arith) ∙ ap (slot_at pool') back ∙ ap (λ (h : Held). h.slot) takes.here

pub fill-counts : (pool pool' : List Held) (p e : ℕ) (slot : Slot) → e ≡ 0 → Takes pool pool' p slot → (o : ℕ) → count_of pool' o + one_if (eqb e (o + 1)) ≡ count_of pool o + one_if (eqb (p + 1) (o + 1))
fill-counts pool pool' p e slot none takes o =
    let old = one-no e (o + 1) (λ is. absurd (omega (arith, is, none))) in
    ⊎_elim
    (λ here.
    let yes = one-yes (p + 1) (o + 1) (omega (arith, here)) in
    let was = ap (count_of pool) here ∙ takes.was_free in
    let now = ap (count_of pool') here ∙ ap (λ (h : Held). h.count) takes.here in
    omega (arith, old, yes, was, now))
    (λ off.
    let new = one-no (p + 1) (o + 1) (λ is. off (omega (arith, is))) in
    let now = ap (λ (h : Held). h.count) (takes.others o off) in
    omega (arith, old, new, now))
    (cases_eq o p)

-- the entries of slots that are all empty are 0
pub no-slots-zeros : (pool : List Held) (table : Table) → IsTable pool table → slots_of pool table.entries ≡ no_slots → (n : ℕ) → get_or table.entries n 0 ≡ 0
no-slots-zeros pool table is none n =
    zero-no (get_or table.entries n 0) (sym (is.real n) ∙ ap (λ (row : ℕ → Slot). is_filled (row n).cell) none)

-- a slot that is empty has the entry 0
pub empty-zero : (pool : List Held) (tables : List Table) (i n : ℕ) → IsKept pool tables → i < length tables → row_of (rows pool tables) i n ≡ empty_slot → get_or (table_at tables i).entries n 0 ≡ 0
empty-zero pool tables i n kept lt none =
    zero-no (get_or (table_at tables i).entries n 0)
    (sym ((kept.each i lt).real n) ∙ ap (λ (row : ℕ → Slot). is_filled (row n).cell) (sym (row-at pool tables i lt)) ∙ ap (λ (slot : Slot). is_filled slot.cell) none)

-- ---- a table is copied

pub clone-kept : (pool pool' : List Held) (tables : List Table) (to from : ℕ) (used : List ℕ) → IsKept pool tables → to < length tables → from < length tables → row_of (rows pool tables) to ≡ no_slots → HoldsMore pool pool' used → ((o : ℕ) → times o used ≡ times o (table_at tables from).entries) → IsKept pool' (set tables to (table_at tables from))
clone-kept pool pool' tables to from used kept to_in from_in none more same =
    kept-set pool pool' tables to (table_at tables from) kept to_in more.size
    (λ o.
    let zeros = times-zeros o (table_at tables to).entries (no-slots-zeros pool (table_at tables to) (kept.each to to_in) (sym (row-at pool tables to to_in) ∙ none)) in
    omega (arith, zeros, more.counts o, same o))
    (table-same pool pool' (table_at tables from) (slots-all pool pool' (table_at tables from).entries more.same) (kept.each from from_in))
    (λ j _ _. slots-all pool pool' (table_at tables j).entries more.same)

pub clone-rows : (pool pool' : List Held) (tables : List Table) (to from : ℕ) (used : List ℕ) → from < length tables → HoldsMore pool pool' used → rows pool' (set tables to (table_at tables from)) ≡ set (rows pool tables) to (row_of (rows pool tables) from)
clone-rows pool pool' tables to from used from_in more =
    rows-set pool pool' tables to (table_at tables from) (λ j _ _. slots-all pool pool' (table_at tables j).entries more.same)
    ∙ ap (set (rows pool tables) to) (slots-all pool pool' (table_at tables from).entries more.same ∙ sym (row-at pool tables from from_in))

pub clone-held : (pool : List Held) (tables : List Table) (from o : ℕ) → IsKept pool tables → from < length tables → 0 < times o (table_at tables from).entries → 0 < count_of pool o
clone-held pool tables from o kept from_in some = omega (arith, naming-at tables o from from_in, kept.exact o, some)

-- ---- a table is emptied

pub clear-kept : (pool pool' : List Held) (tables : List Table) (i : ℕ) (used : List ℕ) → IsKept pool tables → i < length tables → HoldsLess pool pool' used → ((o : ℕ) → times o used ≡ times o (table_at tables i).entries) → IsKept pool' (set tables i no_table)
clear-kept pool pool' tables i used kept lt less same =
    kept-set pool pool' tables i no_table kept lt less.size
    (λ o. let zeros = times-zeros o no_table.entries no-entries in omega (arith, zeros, less.counts o, same o))
    (table-empty pool')
    (λ j _ _. slots-all pool pool' (table_at tables j).entries less.same)

pub clear-rows : (pool pool' : List Held) (tables : List Table) (i : ℕ) (used : List ℕ) → HoldsLess pool pool' used → rows pool' (set tables i no_table) ≡ set (rows pool tables) i no_slots
clear-rows pool pool' tables i used less =
    rows-set pool pool' tables i no_table (λ j _ _. slots-all pool pool' (table_at tables j).entries less.same)
    ∙ ap (set (rows pool tables) i) (slots-none pool' no_table.entries no-entries)

-- ---- a slot is shared

entry-same : (pool pool' : List Held) (e : ℕ) → ((o : ℕ) → slot_at pool' o ≡ slot_at pool o) → entry_slot pool' e ≡ entry_slot pool e
entry-same pool pool' e same = ap (λ s. cond (eqb e 0) empty_slot s) (same (e - 1))

pub share-counts : (pool mid new : List Held) (was e : ℕ) → HoldsMore pool mid (e ∷ []) → HoldsLess mid new (was ∷ []) → (o : ℕ) → count_of new o + one_if (eqb was (o + 1)) ≡ count_of pool o + one_if (eqb e (o + 1))
share-counts pool mid new was e more less o = omega (arith, more.counts o, less.counts o, times-one o e, times-one o was)

-- a shared entry stands for what it stood for
pub share-entry : (pool pool' : List Held) (tables : List Table) (from n : ℕ) → from < length tables → ((o : ℕ) → slot_at pool' o ≡ slot_at pool o) → entry_slot pool' (get_or (table_at tables from).entries n 0) ≡ row_of (rows pool tables) from n
share-entry pool pool' tables from n lt same =
    entry-same pool pool' (get_or (table_at tables from).entries n 0) same ∙ sym (slots-at pool (table_at tables from).entries n) ∙ ap (λ (row : ℕ → Slot). row n) (sym (row-at pool tables from lt))

pub share-filled : (pool : List Held) (tables : List Table) (from n : ℕ) → IsKept pool tables → from < length tables → is_filled (row_of (rows pool tables) from n).cell ≡ ltb 0 (get_or (table_at tables from).entries n 0)
share-filled pool tables from n kept lt =
    ap (λ (row : ℕ → Slot). is_filled (row n).cell) (row-at pool tables from lt) ∙ (kept.each from lt).real n

pub share-common : (pool : List Held) (tables : List Table) (from n : ℕ) → IsKept pool tables → from < length tables → n < 64 → has_bit (table_at tables from).common n ≡ is_common (row_of (rows pool tables) from n).cell
share-common pool tables from n kept lt n_in =
    (kept.each from lt).common n n_in ∙ ap (λ (row : ℕ → Slot). is_common (row n).cell) (sym (row-at pool tables from lt))
