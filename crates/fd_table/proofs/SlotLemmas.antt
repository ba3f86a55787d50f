-- The tables of places over a pool: what their entries stand for, what a change of one table does, and that an object is free.
use Rattle.std.proofs.Common.{◌≡◌, ◌≢◌, ℕ, zero, suc, ◌+◌, ◌-◌, ◌*◌, ◌<◌, ◌≤◌, ⊎_elim, Bool, true, false, cond, eqb, ltb, List, [], ◌∷◌, length, get_or, set, map, take, replicate, refl, sym, ◌∙◌, ap, subst, arith, length-set, get_or-set_same, get_or-set_other}
use Rattle.std.specs.List.{sum_by, count_by}
use Rattle.std.proofs.lemmas.List.{map-set, get_or-map, length-map, length-replicate, get_or-replicate, get_or_past}
use Rattle.std.proofs.lemmas.List.Sums.{sum_by-cons, sum_by-set, sum_by-le-sum_by, get_or-le-sum_by, count_by-le-length}
use Rattle.std.proofs.lemmas.Bool.{cases_eq, cases_lt, eq-eqb, ne_eqb, false≢true}
use Rattle.std.proofs.lemmas.Bool.Decides.{nat_tests}
use Rattle.std.proofs.lemmas.Nat.Bits.{bit_at-zero}
use Rattle.pool_base.proofs.Totals.{total, total-same, total-zero, total-add, total-list, total-once}
use Rattle.lwc_base.specs.Capabilities.{has_bit}
use Rattle.fd_table.specs.declared.table.Table.{Table}
use Rattle.fd_table.specs.Slots.{Slot, empty_slot, no_slots, row_of, put_slot, is_filled, is_common}
use Rattle.fd_table.specs.Pools.{Held, no_held, count_of, slot_at, free_of}
use Rattle.fd_table.specs.Tables.{times, naming, entry_slot, slots_of, rows, no_table, table_at, IsTable}
use Rattle.fd_table.specs.Kept.{IsKept}
use Rattle.fd_table.proofs.ObjectLemmas.{one_if, one-yes, one-no, times-some}
use Rattle.lwc_types.proofs.Small.{at-new, map-replicate, set-again, set-map_same}

-- ---- lists in which one element changes

-- ---- what entries stand for

pub entry-empty : (pool : List Held) (e : ℕ) → e ≡ 0 → entry_slot pool e ≡ empty_slot
entry-empty pool e none = ap (λ b. cond b empty_slot (slot_at pool (e - 1))) (eq-eqb e 0 none)

pub entry-some : (pool : List Held) (e : ℕ) → 0 < e → entry_slot pool e ≡ slot_at pool (e - 1)
entry-some pool e some = ap (λ b. cond b empty_slot (slot_at pool (e - 1))) (ne_eqb e 0 (λ is. absurd (omega (arith, is, some))))

pub slots-at : (pool : List Held) (entries : List ℕ) (n : ℕ) → slots_of pool entries n ≡ entry_slot pool (get_or entries n 0)
unfolding slots_of
slots-at pool entries n = refl

-- entries whose objects stand for the same slots in another pool
pub slots-same : (pool pool' : List Held) (entries : List ℕ) → ((n : ℕ) → 0 < get_or entries n 0 → slot_at pool' (get_or entries n 0 - 1) ≡ slot_at pool (get_or entries n 0 - 1)) → slots_of pool' entries ≡ slots_of pool entries
slots-same pool pool' entries same = λ i n. at n i
  where
    at : (n : ℕ) → slots_of pool' entries n ≡ slots_of pool entries n
    at n =
        ⊎_elim
        (λ none.
        slots-at pool' entries n ∙ entry-empty pool' (get_or entries n 0) none ∙ sym (entry-empty pool (get_or entries n 0) none) ∙ sym (slots-at pool entries n))
        (λ off.
        let some : 0 < get_or entries n 0 = omega (arith, off) in
        slots-at pool' entries n ∙ entry-some pool' (get_or entries n 0) some ∙ same n some ∙ sym (entry-some pool (get_or entries n 0) some) ∙ sym (slots-at pool entries n))
        (cases_eq (get_or entries n 0) 0)

-- one entry is another
pub slots-set : (pool : List Held) (entries : List ℕ) (n e : ℕ) → n < length entries → slots_of pool (set entries n e) ≡ put_slot (slots_of pool entries) n (entry_slot pool e)
slots-set pool entries n e lt = λ i m. at m i
  where
    at : (m : ℕ) → slots_of pool (set entries n e) m ≡ put_slot (slots_of pool entries) n (entry_slot pool e) m
    at m =
        ⊎_elim
        (λ is.
        slots-at pool (set entries n e) m ∙ ap (λ k. entry_slot pool (get_or (set entries n e) k 0)) is ∙ ap (entry_slot pool) (get_or-set_same entries n e 0 lt)
        ∙ sym (ap (λ b. cond b (entry_slot pool e) (slots_of pool entries m)) (eq-eqb m n is)))
        (λ off.
        slots-at pool (set entries n e) m ∙ ap (entry_slot pool) (get_or-set_other entries n m e 0 off) ∙ sym (slots-at pool entries m)
        ∙ sym (ap (λ b. cond b (entry_slot pool e) (slots_of pool entries m)) (ne_eqb m n off)))
        (cases_eq m n)

pub no-entries : (n : ℕ) → get_or no_table.entries n 0 ≡ 0
no-entries n = ⊎_elim (λ lt. get_or-replicate 64 n 0 0 lt) (λ past. get_or_past no_table.entries n 0 past) (cases_lt n 64)

pub slots-none : (pool : List Held) (entries : List ℕ) → ((n : ℕ) → get_or entries n 0 ≡ 0) → slots_of pool entries ≡ no_slots
slots-none pool entries none = λ i n. (slots-at pool entries n ∙ entry-empty pool (get_or entries n 0) (none n)) i

-- entries that are all 0 name nothing
pub times-zeros : (o : ℕ) (entries : List ℕ) → ((n : ℕ) → get_or entries n 0 ≡ 0) → times o entries ≡ 0
unfolding times
times-zeros o [] none = refl
times-zeros o (e ∷ es) none =
    let tail = times-zeros o es (λ n. none (suc n)) in
    let head = one-no e (o + 1) (λ is. absurd (let zero = none 0 in omega (arith, is, zero))) in
    omega (arith, tail, head, sum_by-cons (λ x. one_if (eqb x (o + 1))) e es)

-- the entries up to the last that is not 0 name what all name
pub times-front : (o : ℕ) (entries : List ℕ) (m : ℕ) → ((n : ℕ) → m ≤ n → get_or entries n 0 ≡ 0) → times o (take m entries) ≡ times o entries
unfolding times
times-front o [] zero none = refl
times-front o [] (suc m) none = refl
times-front o (e ∷ es) zero none = sym (times-zeros o (e ∷ es) (λ n. none n (omega arith)))
times-front o (e ∷ es) (suc m) none =
    let tail = times-front o es m (λ n le. none (suc n) (omega (arith, le))) in
    omega (arith, tail, sum_by-cons (λ x. one_if (eqb x (o + 1))) e es, sum_by-cons (λ x. one_if (eqb x (o + 1))) e (take m es))

-- ---- the rows of all places

pub length-rows : (pool : List Held) (tables : List Table) → length (rows pool tables) ≡ length tables
unfolding rows
length-rows pool tables = length-map tables (λ table. slots_of pool table.entries)

pub row-at : (pool : List Held) (tables : List Table) (i : ℕ) → i < length tables → row_of (rows pool tables) i ≡ slots_of pool (table_at tables i).entries
unfolding rows
row-at pool tables i lt = get_or-map (λ table. slots_of pool table.entries) tables i no_table no_slots lt

-- one table is another now, and what all others stand for is what they stood for
pub rows-set : (pool pool' : List Held) (tables : List Table) (i : ℕ) (table : Table) → ((j : ℕ) → j < length tables → j ≢ i → slots_of pool' (table_at tables j).entries ≡ slots_of pool (table_at tables j).entries) → rows pool' (set tables i table) ≡ set (rows pool tables) i (slots_of pool' table.entries)
unfolding rows
rows-set pool pool' tables i table same =
    map-set (λ t. slots_of pool' t.entries) tables i table
    ∙ set-map_same (λ t. slots_of pool' t.entries) (λ t. slots_of pool t.entries) tables i (slots_of pool' table.entries) no_table same

-- ---- how often tables name an object

pub naming-some : (tables : List Table) (o k n : ℕ) → k < length tables → get_or (table_at tables k).entries n 0 ≡ o + 1 → 0 < naming tables o
unfolding naming
naming-some tables o k n lt is =
    let inside : n < length (table_at tables k).entries = ⊎_elim (λ l. l) (λ past. absurd (let none = get_or_past (table_at tables k).entries n 0 past in omega (arith, none, is))) (cases_lt n (length (table_at tables k).entries)) in
    let one = times-some o (table_at tables k).entries n inside is in
    let at = get_or-le-sum_by (λ table. times o table.entries) tables k no_table lt in
    omega (arith, one, at)

naming-set : (tables : List Table) (o i : ℕ) (table : Table) → i < length tables → naming (set tables i table) o + times o (table_at tables i).entries ≡ naming tables o + times o table.entries
unfolding naming
naming-set tables o i table lt = sum_by-set (λ t. times o t.entries) tables i table no_table lt

pub naming-at : (tables : List Table) (o i : ℕ) → i < length tables → times o (table_at tables i).entries ≤ naming tables o
unfolding naming
naming-at tables o i lt = get_or-le-sum_by (λ t. times o t.entries) tables i no_table lt

-- ---- a table whose slots stand for the same in another pool, and a table with another entry

pub table-same : (pool pool' : List Held) (table : Table) → slots_of pool' table.entries ≡ slots_of pool table.entries → IsTable pool table → IsTable pool' table
table-same pool pool' table same is =
    record {
      long = is.long;
      filled = is.filled;
      common = λ n lt. is.common n lt ∙ sym (ap (λ (row : ℕ → Slot). is_common (row n).cell) same);
      real = λ n. ap (λ (row : ℕ → Slot). is_filled (row n).cell) same ∙ is.real n;
    }

no-bit : (n : ℕ) → has_bit 0 n ≡ false
no-bit n = ap (λ b. eqb b 1) (bit_at-zero n)

pub table-empty : (pool : List Held) → IsTable pool no_table
table-empty pool =
    record {
      long = length-replicate {A = ℕ} 64 0;
      filled = λ n lt. no-bit n ∙ sym (ap (λ e. ltb 0 e) (no-entries n));
      common = λ n lt. no-bit n ∙ sym (ap (λ (row : ℕ → Slot). is_common (row n).cell) (slots-none pool no_table.entries no-entries));
      real = λ n. ap (λ (row : ℕ → Slot). is_filled (row n).cell) (slots-none pool no_table.entries no-entries) ∙ sym (ap (λ e. ltb 0 e) (no-entries n));
    }

pub table-set : (pool pool' : List Held) (table table' : Table) (n e : ℕ) (common : Bool) → n < 64 → IsTable pool table
    → slots_of pool' table'.entries ≡ put_slot (slots_of pool table.entries) n (entry_slot pool' e)
    → table'.entries ≡ set table.entries n e
    → ((m : ℕ) → m < 64 → has_bit table'.filled m ≡ cond (eqb m n) (ltb 0 e) (has_bit table.filled m))
    → ((m : ℕ) → m < 64 → has_bit table'.common m ≡ cond (eqb m n) common (has_bit table.common m))
    → is_filled (entry_slot pool' e).cell ≡ ltb 0 e → common ≡ is_common (entry_slot pool' e).cell → IsTable pool' table'
table-set pool pool' table table' n e common n_in is slots entries filled_bits common_bits real is_it =
    let here = get_or-set_same table.entries n e 0 (omega (arith, n_in, is.long)) in
    record {
      long = ap length entries ∙ length-set table.entries n e ∙ is.long;
      filled = λ m lt.
          filled_bits m lt
          ∙ ⊎_elim
          (λ same.
          ap (λ b. cond b (ltb 0 e) (has_bit table.filled m)) (eq-eqb m n same)
          ∙ sym (ap (λ es. ltb 0 (get_or es m 0)) entries ∙ ap (λ k. ltb 0 (get_or (set table.entries n e) k 0)) same ∙ ap (λ x. ltb 0 x) here))
          (λ off.
          ap (λ b. cond b (ltb 0 e) (has_bit table.filled m)) (ne_eqb m n off) ∙ is.filled m lt
          ∙ sym (ap (λ es. ltb 0 (get_or es m 0)) entries ∙ ap (λ x. ltb 0 x) (get_or-set_other table.entries n m e 0 off)))
          (cases_eq m n);
      common = λ m lt.
          common_bits m lt
          ∙ ⊎_elim
          (λ same.
          ap (λ b. cond b common (has_bit table.common m)) (eq-eqb m n same) ∙ is_it
          ∙ sym (ap (λ (row : ℕ → Slot). is_common (row m).cell) slots ∙ ap (λ b. is_common (cond b (entry_slot pool' e) (slots_of pool table.entries m)).cell) (eq-eqb m n same)))
          (λ off.
          ap (λ b. cond b common (has_bit table.common m)) (ne_eqb m n off) ∙ is.common m lt
          ∙ sym (ap (λ (row : ℕ → Slot). is_common (row m).cell) slots ∙ ap (λ b. is_common (cond b (entry_slot pool' e) (slots_of pool table.entries m)).cell) (ne_eqb m n off)))
          (cases_eq m n);
      real = λ m.
          ap (λ (row : ℕ → Slot). is_filled (row m).cell) slots
          ∙ ⊎_elim
          (λ same.
          ap (λ b. is_filled (cond b (entry_slot pool' e) (slots_of pool table.entries m)).cell) (eq-eqb m n same) ∙ real
          ∙ sym (ap (λ es. ltb 0 (get_or es m 0)) entries ∙ ap (λ k. ltb 0 (get_or (set table.entries n e) k 0)) same ∙ ap (λ x. ltb 0 x) here))
          (λ off.
          ap (λ b. is_filled (cond b (entry_slot pool' e) (slots_of pool table.entries m)).cell) (ne_eqb m n off) ∙ is.real m
          ∙ sym (ap (λ es. ltb 0 (get_or es m 0)) entries ∙ ap (λ x. ltb 0 x) (get_or-set_other table.entries n m e 0 off)))
          (cases_eq m n);
    }

-- ---- one table is another, and the counts go with it

pub kept-set : (pool pool' : List Held) (tables : List Table) (i : ℕ) (table : Table) → IsKept pool tables → i < length tables → length pool' ≡ length pool
    → ((o : ℕ) → count_of pool' o + times o (table_at tables i).entries ≡ count_of pool o + times o table.entries)
    → IsTable pool' table
    → ((j : ℕ) → j < length tables → j ≢ i → slots_of pool' (table_at tables j).entries ≡ slots_of pool (table_at tables j).entries)
    → IsKept pool' (set tables i table)
kept-set pool pool' tables i table kept lt size counts is others =
    let long = length-set tables i table in
    record {
      exact = λ o. let change = naming-set tables o i table lt in omega (arith, change, counts o, kept.exact o);
      room = omega (arith, size, kept.room, long);
      few = omega (arith, kept.few, long);
      each = λ j j_in.
          ⊎_elim
          (λ here. subst (IsTable pool') (sym (ap (table_at (set tables i table)) here ∙ get_or-set_same tables i table no_table lt)) is)
          (λ off.
          subst (IsTable pool') (sym (get_or-set_other tables i j table no_table off))
          (table-same pool pool' (table_at tables j) (others j (omega (arith, j_in, long)) off) (kept.each j (omega (arith, j_in, long)))))
          (cases_eq j i);
    }

-- ---- an object is free where a slot is empty

-- all objects that are held are counted
free-all : (pool : List Held) → length pool ≤ free_of pool + sum_by (λ held. held.count) pool
free-all [] = omega arith
free-all (h ∷ pool) =
    let tail = free-all pool in
    let free = sum_by-cons (λ (held : Held). one_if (eqb held.count 0)) h pool in
    let held = sum_by-cons (λ (held : Held). held.count) h pool in
    ⊎_elim
    (λ none. let one = one-yes h.count 0 none in omega (arith, tail, free, held, one))
    (λ off. omega (arith, tail, free, held, off))
    (cases_eq h.count 0)

-- how many entries name an object
abbrev filled_of : List ℕ → ℕ
filled_of entries = count_by (λ e. ltb 0 e) entries

one-entry : (e n : ℕ) → total (λ o. one_if (eqb e (o + 1))) n ≤ one_if (ltb 0 e)
one-entry e n =
    ⊎_elim
    (λ none. let nothing = total-same (λ o. one_if (eqb e (o + 1))) (λ o. 0) n (λ o _. one-no e (o + 1) (λ is. absurd (omega (arith, is, none)))) ∙ total-zero n in omega (arith, nothing))
    (λ off. let once = total-once e n in let yes : one_if (ltb 0 e) ≡ 1 = grind (arith, nat_tests) in omega (arith, once, yes))
    (cases_eq e 0)

times-total : (entries : List ℕ) (n : ℕ) → total (λ o. times o entries) n ≤ filled_of entries
unfolding times
times-total [] n = omega (arith, total-zero n)
times-total (e ∷ es) n =
    let tail = times-total es n in
    let split = total-same (λ o. times o (e ∷ es)) (λ o. one_if (eqb e (o + 1)) + times o es) n (λ o _. sum_by-cons (λ x. one_if (eqb x (o + 1))) e es) in
    let add = total-add (λ o. one_if (eqb e (o + 1))) (λ o. times o es) n in
    omega (arith, tail, split, add, one-entry e n, sum_by-cons (λ x. one_if (ltb 0 x)) e es)

naming-total : (tables : List Table) (n : ℕ) → total (λ o. naming tables o) n ≤ sum_by (λ table. filled_of table.entries) tables
unfolding naming
naming-total [] n = omega (arith, total-zero n)
naming-total (t ∷ ts) n =
    let tail = naming-total ts n in
    let split = total-same (λ o. naming (t ∷ ts) o) (λ o. times o t.entries + naming ts o) n (λ o _. sum_by-cons (λ table. times o table.entries) t ts) in
    let add = total-add (λ o. times o t.entries) (λ o. naming ts o) n in
    omega (arith, tail, split, add, times-total t.entries n, sum_by-cons (λ (table : Table). filled_of table.entries) t ts)

filled-le : (tables : List Table) → ((k : ℕ) → k < length tables → length (table_at tables k).entries ≡ 64) → sum_by (λ table. filled_of table.entries) tables ≤ 64 * length tables
filled-le [] long = omega arith
filled-le (t ∷ ts) long =
    let tail = filled-le ts (λ k lt. long (suc k) (omega (arith, lt))) in
    let head = count_by-le-length (λ e. ltb 0 e) t.entries in
    omega (arith, tail, head, long 0 (omega arith), sum_by-cons (λ (table : Table). filled_of table.entries) t ts)

filled-lt : (tables : List Table) (i : ℕ) → i < length tables → ((k : ℕ) → k < length tables → length (table_at tables k).entries ≡ 64) → filled_of (table_at tables i).entries < 64 → sum_by (λ table. filled_of table.entries) tables < 64 * length tables
filled-lt [] i lt long less = absurd (omega (arith, lt))
filled-lt (t ∷ ts) zero lt long less =
    let tail = filled-le ts (λ k k_in. long (suc k) (omega (arith, k_in))) in
    omega (arith, tail, less, sum_by-cons (λ (table : Table). filled_of table.entries) t ts)
filled-lt (t ∷ ts) (suc i) lt long less =
    let tail = filled-lt ts i (omega (arith, lt)) (λ k k_in. long (suc k) (omega (arith, k_in))) less in
    let head = count_by-le-length (λ e. ltb 0 e) t.entries in
    omega (arith, tail, head, long 0 (omega arith), sum_by-cons (λ (table : Table). filled_of table.entries) t ts)

-- entries of which one is 0 do not all name an object
filled-less : (entries : List ℕ) (n : ℕ) → n < length entries → get_or entries n 0 ≡ 0 → filled_of entries < length entries
filled-less entries n lt none =
    let change = sum_by-set (λ e. one_if (ltb 0 e)) entries n 1 0 lt in
    let was = ap (λ e. one_if (ltb 0 e)) none in
    let most = count_by-le-length (λ e. ltb 0 e) (set entries n 1) in
    omega (arith, change, was, most, length-set entries n 1)

pub free-some : (pool : List Held) (tables : List Table) (i n : ℕ) → IsKept pool tables → i < length tables → n < 64 → get_or (table_at tables i).entries n 0 ≡ 0 → 0 < free_of pool
free-some pool tables i n kept lt n_in none =
    let long = λ (k : ℕ) (k_in : k < length tables). (kept.each k k_in).long in
    let here = filled-less (table_at tables i).entries n (omega (arith, n_in, long i lt)) none in
    let less = filled-lt tables i lt long (omega (arith, here, long i lt)) in
    let held = total-list (λ (h : Held). h.count) pool no_held in
    let named = total-same (λ o. count_of pool o) (λ o. naming tables o) (length pool) (λ o _. kept.exact o) in
    omega (arith, free-all pool, held, named, naming-total tables (length pool), less, kept.room)

-- a number is 0 where the test says so
pub zero-no : (e : ℕ) → ltb 0 e ≡ false → e ≡ 0
zero-no e is = ⊎_elim (λ lt. absurd (false≢true (sym is ∙ (let yes : ltb 0 e ≡ true = grind (arith, nat_tests) in yes)))) (λ le. omega (arith, le)) (cases_lt 0 e)

times-filled : (o : ℕ) (entries : List ℕ) → times o entries ≤ filled_of entries
unfolding times
times-filled o [] = omega arith
times-filled o (e ∷ es) =
    let tail = times-filled o es in
    let head : one_if (eqb e (o + 1)) ≤ one_if (ltb 0 e) = grind (arith, nat_tests) in
    omega (arith, tail, head, sum_by-cons (λ x. one_if (eqb x (o + 1))) e es, sum_by-cons (λ x. one_if (ltb 0 x)) e es)

naming-filled : (tables : List Table) (o : ℕ) → naming tables o ≤ sum_by (λ table. filled_of table.entries) tables
unfolding naming
naming-filled tables o = sum_by-le-sum_by (λ (t : Table). times o t.entries) (λ (t : Table). filled_of t.entries) tables (λ t. times-filled o t.entries)

-- no object is held more often than there are slots
pub count-few : (pool : List Held) (tables : List Table) (o : ℕ) → IsKept pool tables → count_of pool o ≤ 64 * length tables
count-few pool tables o kept =
    omega (arith, kept.exact o, naming-filled tables o, filled-le tables (λ k lt. (kept.each k lt).long))

-- a slot that is put twice has what was put last
put-again : (b : Bool) (x y z : Slot) → cond b x (cond b y z) ≡ cond b x z
put-again true x y z = refl
put-again false x y z = refl

pub put-twice : (all : List (ℕ → Slot)) (i n : ℕ) (x y : Slot) → i < length all → set (set all i (put_slot (row_of all i) n x)) i (put_slot (row_of (set all i (put_slot (row_of all i) n x)) i) n y) ≡ set all i (put_slot (row_of all i) n y)
put-twice all i n x y lt =
    set-again all i (put_slot (row_of all i) n x) (put_slot (row_of (set all i (put_slot (row_of all i) n x)) i) n y)
    ∙ ap (λ row. set all i (put_slot row n y)) (get_or-set_same all i (put_slot (row_of all i) n x) no_slots lt)
    ∙ ap (set all i) (λ j m. put-again (eqb m n) y x (row_of all i m) j)

-- ---- places where all slots are empty

pub rows-new : (pool : List Held) (tables : List Table) (places : ℕ) → tables ≡ replicate places no_table → rows pool tables ≡ replicate places no_slots
unfolding rows
rows-new pool tables places are =
    ap (map (λ (t : Table). slots_of pool t.entries)) are ∙ map-replicate (λ (t : Table). slots_of pool t.entries) places no_table
    ∙ ap (replicate places) (slots-none pool no_table.entries no-entries)

naming-none : (places o : ℕ) → naming (replicate places no_table) o ≡ 0
unfolding naming
naming-none zero o = refl
naming-none (suc places) o =
    omega (arith, naming-none places o, times-zeros o no_table.entries no-entries, sum_by-cons (λ (t : Table). times o t.entries) no_table (replicate places no_table))

pub kept-new : (pool : List Held) (tables : List Table) (places : ℕ) → pool ≡ replicate (64 * places) no_held → tables ≡ replicate places no_table → places ≤ 65536 → IsKept pool tables
kept-new pool tables places objects are few =
    let long = ap length are ∙ length-replicate places no_table in
    record {
      exact = λ o. ap (λ p. count_of p o) objects ∙ ap (λ (h : Held). h.count) (at-new (64 * places) o no_held) ∙ sym (ap (λ t. naming t o) are ∙ naming-none places o);
      room = let size = ap length objects ∙ length-replicate (64 * places) no_held in omega (arith, size, long);
      few = omega (arith, long, few);
      each = λ i _. subst (IsTable pool) (sym (ap (λ t. table_at t i) are ∙ at-new places i no_table)) (table-empty pool);
    }
