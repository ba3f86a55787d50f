-- The bits of a word from one on, and how many it has.
use Rattle.std.proofs.Common.{◌≡◌, ℕ, zero, suc, ◌+◌, ◌-◌, ◌/◌, ◌%◌, ◌^◌, ◌<◌, ◌≤◌, ⊎_elim, Bool, false, eqb, refl, sym, ◌∙◌, ap, arith, w64}
use lib.Count.{ones, ones_step}
use Rattle.std.specs.List.{count_by, range_with_len}
use Rattle.std.specs.Int.{bit_at, trailing_zeros}
use Rattle.std.proofs.Math.Nat.{pow-suc}
use Rattle.std.proofs.lemmas.Bool.{cases_eq, cases_lt, eq-eqb, ne_eqb}
use Rattle.std.proofs.lemmas.List.Sums.{sum_by-cons}
use Rattle.std.proofs.lemmas.Nat.{shr-shr, ones_le_self}
use Rattle.std.proofs.lemmas.Nat.Bits.{bit_at_lowest, bit_at-suc, bit_at-zero, bit_at_above, bit_at-trailing_zeros}
use Rattle.pool_base.proofs.Totals.{total, total-same}
use Rattle.lwc_base.specs.Capabilities.{has_bit}
use Rattle.fd_table.specs.Bits.{IsLowestBit}
use Rattle.fd_table.proofs.ObjectLemmas.{one_if}

-- a bit of what is left of a word
bit-rest : (word from n : ℕ) → from ≤ n → bit_at (word / 2 ^ from) (n - from) ≡ bit_at word n
bit-rest word from n le =
    ap (λ q. q % 2) (shr-shr word from (n - from)) ∙ ap (λ k. word / 2 ^ k % 2) (let back : from + (n - from) ≡ n = omega (arith, le) in back)

pub none-left : (word from : ℕ) → word / 2 ^ from ≡ 0 → (n : ℕ) → from ≤ n → has_bit word n ≡ false
none-left word from none n le =
    ap (λ b. eqb b 1) (sym (bit-rest word from n le) ∙ ap (λ rest. bit_at rest (n - from)) none ∙ bit_at-zero (n - from))

pub lowest-left : (word from : ℕ) → word < 2 ^ 64 → word / 2 ^ from < 2 ^ 64 → 0 < word / 2 ^ from → IsLowestBit word from (from + trailing_zeros w64 (word / 2 ^ from))
lowest-left word from fits rest_fits some =
    let low = bit_at-trailing_zeros w64 (word / 2 ^ from) some rest_fits in
    let zeros = trailing_zeros w64 (word / 2 ^ from) in
    let back : from + zeros - from ≡ zeros = omega arith in
    let here = sym (bit-rest word from (from + zeros) (omega arith)) ∙ ap (bit_at (word / 2 ^ from)) back ∙ low.1 in
    record {
      after = omega arith;
      below = ⊎_elim (λ lt. lt) (λ past. absurd (let none = bit_at_above word 64 (from + zeros) fits past in omega (arith, none, here))) (cases_lt (from + zeros) 64);
      has = ap (λ b. eqb b 1) here;
      lowest = λ m le m_lt. ap (λ b. eqb b 1) (sym (bit-rest word from m le) ∙ low.2 (m - from) (omega (arith, le, m_lt)));
    }

-- ---- how many bits a word has

bit-one : (n i : ℕ) → bit_at n i < 2 → one_if (has_bit n i) ≡ bit_at n i
bit-one n i lt =
    ⊎_elim
    (λ one. ap one_if (eq-eqb (bit_at n i) 1 one) ∙ sym one)
    (λ off. ap one_if (ne_eqb (bit_at n i) 1 off) ∙ (let none : 0 ≡ bit_at n i = omega (arith, off, lt) in none))
    (cases_eq (bit_at n i) 1)

pub ones-total : (width n : ℕ) → n < 2 ^ width → ones n ≡ total (λ i. one_if (has_bit n i)) width
ones-total zero n lt = omega (arith, ones_le_self n, lt)
ones-total (suc width) n lt =
    let half : n / 2 < 2 ^ width = omega (arith, pow-suc 2 width, lt) in
    let tail = ones-total width (n / 2) half in
    let head = bit-one n 0 (omega (arith, bit_at_lowest n)) ∙ bit_at_lowest n in
    let rest = total-same (λ i. one_if (has_bit n (suc i))) (λ i. one_if (has_bit (n / 2) i)) width (λ i _. ap (λ b. one_if (eqb b 1)) (bit_at-suc n i)) in
    omega (arith, ones_step n, tail, head, rest)

pub range-total : (p : ℕ → Bool) (a width : ℕ) → count_by p (range_with_len a width) ≡ total (λ i. one_if (p (a + i))) width
range-total p a zero = refl
range-total p a (suc width) =
    let tail = range-total p (a + 1) width in
    let rest = total-same (λ i. one_if (p (a + 1 + i))) (λ i. one_if (p (a + suc i))) width (λ i _. ap (λ k. one_if (p k)) (let same : a + 1 + i ≡ a + suc i = omega arith in same)) in
    let head = ap (λ k. one_if (p k)) (let same : a + 0 ≡ a = omega arith in same) in
    omega (arith, tail, rest, head, sum_by-cons (λ k. one_if (p k)) a (range_with_len (a + 1) width))

-- a word has as many bits as there are numbers that pass the test of its bits
pub ones-count : (word : ℕ) (p : ℕ → Bool) → word < 2 ^ 64 → ((n : ℕ) → n < 64 → has_bit word n ≡ p n) → ones word ≡ count_by p (range_with_len 0 64)
ones-count word p fits same =
    ones-total 64 word fits
    ∙ total-same (λ i. one_if (has_bit word i)) (λ i. one_if (p (0 + i))) 64 (λ i lt. ap one_if (same i lt) ∙ ap (λ k. one_if (p k)) (let back : i ≡ 0 + i = omega arith in back))
    ∙ sym (range-total p 0 64)
