-- What changes of the counts and of the slots are in the list of objects.
use Rattle.std.proofs.Common.{◌≡◌, ℕ, ◌<◌, ◌≤◌, ⊎_elim, cond, eqb, List, length, get_or, set, refl, sym, ◌∙◌, ap, arith, length-set, get_or-set_other}
use Rattle.std.proofs.lemmas.List.{set-get_or, get_or_past}
use Rattle.std.proofs.lemmas.Bool.{cases_lt}
use Rattle.pool_base.specs.HoldCounts.{Places, free_count}
use Rattle.pool_base.specs.Padded.{padded}
use Rattle.pool_base.specs.Paired.{paired}
use Rattle.pool_base.proofs.PaddedLemmas.{length-padded, get_or-padded}
use Rattle.pool_base.proofs.PairedLemmas.{length-paired, get_or-paired, paired-set, sum_by-paired}
use Rattle.fd_table.specs.Slots.{Slot, empty_slot}
use Rattle.fd_table.specs.Pools.{Held, no_held, held_at, count_of, slot_at, recount, free_of, seen_held, seen_pool, IsWhole}

module _ (places : Places) (slots : List Slot) (pool : List Held) (v : seen_pool places slots ≡ pool) (whole : IsWhole places slots) where
  abbrev size : ℕ
  size = length places.counts

  abbrev all : List Slot
  all = padded size empty_slot slots

  length-all : length all ≡ size
  length-all = length-padded size empty_slot slots (omega (arith, whole.filled, whole.within))

  pub seen_length : length pool ≡ size
  seen_length = ap (λ ns. length ns) (sym v) ∙ length-paired seen_held places.counts all (sym length-all)

  held_at-all : (n : ℕ) → n < size → held_at pool n ≡ seen_held (get_or places.counts n 0) (get_or all n empty_slot)
  held_at-all n lt =
      ap (λ ns. held_at ns n) (sym v) ∙ get_or-paired seen_held places.counts all n 0 empty_slot no_held lt (omega (arith, length-all, lt))

  pub seen_count : (n : ℕ) → get_or places.counts n 0 ≡ count_of pool n
  seen_count n =
      ⊎_elim
      (λ lt. sym (ap (λ held. held.count) (held_at-all n lt)))
      (λ past.
      let past_pool : length pool ≤ n = omega (arith, seen_length, past) in
      get_or_past places.counts n 0 past ∙ sym (ap (λ held. held.count) (get_or_past pool n no_held past_pool)))
      (cases_lt n size)

  -- an object that is held was taken
  pub seen_inside : (n : ℕ) → 0 < count_of pool n → n < places.taken
  seen_inside n held =
      ⊎_elim (λ lt. lt) (λ late. absurd (let none = whole.fresh n late in let same = seen_count n in omega (arith, none, same, held))) (cases_lt n places.taken)

  pub seen_slot_at : (n : ℕ) → n < places.taken → get_or slots n empty_slot ≡ slot_at pool n
  seen_slot_at n lt =
      sym (get_or-padded size empty_slot slots n empty_slot (omega (arith, whole.filled, lt)))
      ∙ sym (ap (λ held. held.slot) (held_at-all n (omega (arith, whole.within, lt))))

  -- one object is held more or less often
  pub seen_recount : (places' : Places) (n c : ℕ) → n < places.taken → places'.counts ≡ set places.counts n c → seen_pool places' slots ≡ recount pool n c
  seen_recount places' n c lt is =
      let put = paired-set seen_held places.counts all n c (get_or all n empty_slot) in
      let same = set-get_or all n empty_slot in
      let long : length places'.counts ≡ size = ap length is ∙ length-set places.counts n c in
      let put_back : seen_held c (get_or all n empty_slot) ≡ record (held_at pool n) { count = c } = ap (λ (x : Held). record x { count = c }) (sym (held_at-all n (omega (arith, whole.within, lt)))) in
      ap (λ cs. paired seen_held cs (padded (length places'.counts) empty_slot slots)) is
      ∙ ap (λ k. paired seen_held (set places.counts n c) (padded k empty_slot slots)) long
      ∙ ap (λ xs. paired seen_held (set places.counts n c) xs) (sym same) ∙ put ∙ ap (λ ns. set ns n (seen_held c (get_or all n empty_slot))) v ∙ ap (λ x. set pool n x) put_back

  pub seen_free : free_of pool ≡ free_count places.counts
  seen_free = ap (λ ns. free_of ns) (sym v) ∙ sum_by-paired seen_held (λ held. cond (eqb held.count 0) 1 0) (λ c. cond (eqb c 0) 1 0) places.counts all (λ _ _. refl) (sym length-all)

  -- one object has another count and filling
  pub seen_taken : (places' : Places) (slots' : List Slot) (n c : ℕ) (x : Slot) → places'.counts ≡ set places.counts n c → padded size empty_slot slots' ≡ set all n x → seen_pool places' slots' ≡ set pool n (seen_held c x)
  seen_taken places' slots' n c x is filled =
      let long : length places'.counts ≡ size = ap length is ∙ length-set places.counts n c in
      ap (λ cs. paired seen_held cs (padded (length places'.counts) empty_slot slots')) is
      ∙ ap (λ k. paired seen_held (set places.counts n c) (padded k empty_slot slots')) long
      ∙ ap (λ xs. paired seen_held (set places.counts n c) xs) filled
      ∙ paired-set seen_held places.counts all n c x ∙ ap (λ ns. set ns n (seen_held c x)) v

  -- one object that was taken is held more or less often
  pub whole-recount : (places' : Places) (n c : ℕ) → n < places.taken → places'.counts ≡ set places.counts n c → places'.taken ≡ places.taken → IsWhole places' slots
  whole-recount places' n c lt is same =
      record {
        filled = whole.filled ∙ sym same;
        within = omega (arith, ap length is, length-set places.counts n c, whole.within, same);
        fresh = λ m late. ap (λ cs. get_or cs m 0) is ∙ get_or-set_other places.counts n m c 0 (λ e. absurd (omega (arith, e, late, same, lt))) ∙ whole.fresh m (omega (arith, late, same));
      }
