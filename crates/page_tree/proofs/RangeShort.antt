-- How many nodes a range takes: the nodes that it meets in part, of what a link leads to.
use Rattle.std.proofs.Common.{◌≡◌, ◌≢◌, ℕ, zero, suc, ◌+◌, ◌-◌, ◌*◌, ◌/◌, ◌^◌, ◌<◌, ◌≤◌, ◌⊎◌, inl, inr, ⊎_elim, min, cond, eqb, ltb, not, ◌&&◌, Bool, true, false, List, get_or, refl, sym, ◌∙◌, ap, arith, subst}
use Rattle.std.specs.List.{range_with_len, sum_by}
use Rattle.std.proofs.Math.Nat.{mul-le-mul_left}
use Rattle.std.proofs.lemmas.Nat.{div_below, le-div}
use Rattle.std.proofs.lemmas.List.FromFn.{get_or-range_with_len, length-range_with_len}
use Rattle.std.proofs.lemmas.Bool.{and_from, and_left, and_right, cases_eq, cases_lt, cond-false, cond-true, eq-eqb, le-ltb, lt-ltb, ne_eqb}
use Rattle.node_pool.specs.Nodes.{Node, count_of, entry_of}
use Rattle.page_tree.specs.Pages.{entries_of, link_of}
use Rattle.page_tree.specs.Short.{cut_at, entry_short, is_part, own_entry, part_below, range_below, link_short}
use Rattle.page_tree.specs.Steps.{IsWay}
use Rattle.page_tree.proofs.CostLemmas.{pow-pos, pow-step}
use Rattle.page_tree.proofs.LinkLemmas.{link-same, link_short-cases, link_short-le, link_short-none, link_short-once}
use Rattle.page_tree.proofs.LoneLemmas.{way-here}
use Rattle.page_tree.proofs.RangeLemmas.{cut-none, cut-some}
use Rattle.pool_base.proofs.Totals.{total, total-add, total-le, total-list, total-same, total-zero}

-- sums over the entries of a node

pub sum-total : (f : ℕ → ℕ) → sum_by f (range_with_len 0 32) ≡ total f 32
sum-total f =
    total-list f (range_with_len 0 32) 0
    ∙ ap (λ n. total (λ k. f (get_or (range_with_len 0 32) k 0)) n) (length-range_with_len 0 32)
    ∙ total-same (λ k. f (get_or (range_with_len 0 32) k 0)) f 32 (λ k lt. ap f (get_or-range_with_len 0 32 k 0 lt ∙ omega arith))

pub total-next : (f : ℕ → ℕ) (n : ℕ) → total f (n + 1) ≡ total f n + f n
total-next f zero = omega arith
total-next f (suc n) =
    let more : suc n + 1 ≡ suc (n + 1) = omega arith in
    let tail = total-next (λ k. f (suc k)) n in
    let e = ap (total f) more in
    omega (arith, tail, e)

pub total-more : (f : ℕ → ℕ) (m n : ℕ) → m ≤ n → total f m ≤ total f n
total-more f zero n le = omega arith
total-more f (suc m) zero le = absurd (omega (arith, le))
total-more f (suc m) (suc n) le = let tail = total-more (λ k. f (suc k)) m n (omega (arith, le)) in omega (arith, tail)

-- what is so much at one place alone
total-spot : (x a n : ℕ) → total (λ i. cond (eqb i x) a 0) n ≤ a
total-spot x a zero = omega arith
total-spot zero a (suc n) =
    let tail = total-same (λ i. cond (eqb (suc i) 0) a 0) (λ i. 0) n (λ i _. cond-false (eqb (suc i) 0) a 0 (ne_eqb (suc i) 0 (λ is. absurd (omega (arith, is))))) in
    let none = total-zero n in
    let head = cond-true (eqb 0 0) a 0 (eq-eqb 0 0 refl) in
    omega (arith, tail, none, head)
total-spot (suc x) a (suc n) =
    let same = total-same (λ i. cond (eqb (suc i) (suc x)) a 0) (λ i. cond (eqb i x) a 0) n (λ i _. ap (λ b. cond b a 0) (next-same i x)) in
    let tail = total-spot x a n in
    let head = cond-false (eqb 0 (suc x)) a 0 (ne_eqb 0 (suc x) (λ is. absurd (omega (arith, is)))) in
    omega (arith, same, tail, head)
  where
    next-same : (i x : ℕ) → eqb (suc i) (suc x) ≡ eqb i x
    next-same i x =
        ⊎_elim
        (λ is. eq-eqb (suc i) (suc x) (omega (arith, is)) ∙ sym (eq-eqb i x is))
        (λ off. ne_eqb (suc i) (suc x) (λ is. off (omega (arith, is))) ∙ sym (ne_eqb i x off))
        (cases_eq i x)

-- parts

pub part-none : (nodes : List Node) (k link from to : ℕ) → (to ≤ from) ⊎ ((from ≡ 0) × (to ≡ 32 ^ k)) → part_below nodes k link from to ≡ 0
part-none nodes k link from to why =
    cond-false (is_part (32 ^ k) from to) (range_below nodes k link from to) 0
    (⊎_elim
    (λ le. and_left (ltb from to) (not (eqb from 0 && eqb to (32 ^ k))) (le-ltb from to le))
    (λ all. and_right (ltb from to) (not (eqb from 0 && eqb to (32 ^ k))) (ap not (and_from (eqb from 0) (eqb to (32 ^ k)) (eq-eqb from 0 all.0) (eq-eqb to (32 ^ k) all.1))))
    why)

pub part-some : (nodes : List Node) (k link from to : ℕ) → from < to → (from ≢ 0) ⊎ (to ≢ 32 ^ k) → part_below nodes k link from to ≡ range_below nodes k link from to
part-some nodes k link from to lt why =
    cond-true (is_part (32 ^ k) from to) (range_below nodes k link from to) 0
    (and_from (ltb from to) (not (eqb from 0 && eqb to (32 ^ k))) (lt-ltb from to lt)
    (ap not (⊎_elim (λ off. and_left (eqb from 0) (eqb to (32 ^ k)) (ne_eqb from 0 off)) (λ off. and_right (eqb from 0) (eqb to (32 ^ k)) (ne_eqb to (32 ^ k) off)) why)))

pub part-le : (old new : List Node) (k link link' from to : ℕ) → range_below new k link' from to ≤ range_below old k link from to → part_below new k link' from to ≤ part_below old k link from to
part-le old new k link link' from to le = cond-le (is_part (32 ^ k) from to) (range_below new k link' from to) (range_below old k link from to) le
  where
    cond-le : (b : Bool) (m n : ℕ) → m ≤ n → cond b m 0 ≤ cond b n 0
    cond-le true m n le = le
    cond-le false m n le = omega arith

-- one level lower

abbrev part_at : List Node → ℕ → ℕ → ℕ → ℕ → ℕ → ℕ
part_at nodes k link from to i = part_below nodes k (own_entry nodes link i) (from - i * 32 ^ k) (min (32 ^ k) (to - i * 32 ^ k))

range-step : (nodes : List Node) (k link from to : ℕ) → range_below nodes (suc k) link from to ≡ link_short nodes link + total (part_at nodes k link from to) 32
unfolding range_below
range-step nodes k link from to = ap (λ n. link_short nodes link + n) (sum-total (part_at nodes k link from to))

own_entry-own : (nodes : List Node) (link i : ℕ) → link_short nodes link ≡ 0 → own_entry nodes link i ≡ link_of nodes link i
own_entry-own nodes link i own = cond-true (eqb (link_short nodes link) 0) (link_of nodes link i) 0 (eq-eqb (link_short nodes link) 0 own)

own_entry-short : (nodes : List Node) (link i : ℕ) → link_short nodes link ≡ 1 → own_entry nodes link i ≡ 0
own_entry-short nodes link i short = cond-false (eqb (link_short nodes link) 0) (link_of nodes link i) 0 (ne_eqb (link_short nodes link) 0 (λ is. absurd (omega (arith, is, short))))

-- nothing takes most
pub range-most : (nodes nodes' : List Node) (k link from to : ℕ) → range_below nodes k link from to ≤ range_below nodes' k 0 from to
unfolding range_below
range-most nodes nodes' zero link from to = omega arith
range-most nodes nodes' (suc k) link from to =
    let root = link_short-le nodes link in
    let none = link_short-none nodes' in
    let parts = total-le (part_at nodes k link from to) (part_at nodes' k 0 from to) 32
    (λ i _.
    part-le nodes' nodes k (own_entry nodes' 0 i) (own_entry nodes link i) (from - i * 32 ^ k) (min (32 ^ k) (to - i * 32 ^ k))
    (let most = range-most nodes nodes' k (own_entry nodes link i) (from - i * 32 ^ k) (min (32 ^ k) (to - i * 32 ^ k)) in
    let same = ap (λ l. range_below nodes' k l (from - i * 32 ^ k) (min (32 ^ k) (to - i * 32 ^ k))) (own_entry-short nodes' 0 i none) in omega (arith, most, same))) in
    omega (arith, range-step nodes k link from to, range-step nodes' k 0 from to, root, none, parts)

-- where ways of which nobody else holds a node stay so, no more is taken
pub range-lone : (old new : List Node) (k link from to : ℕ) → ((m : ℕ) → IsWay (λ x. count_of old x ≡ 1) old k link m → (count_of new m ≡ 1) × (entries_of new m ≡ entries_of old m)) → range_below new k link from to ≤ range_below old k link from to
unfolding range_below IsWay
range-lone old new zero link from to same = omega arith
range-lone old new (suc k) link from to same =
    ⊎_elim
    (λ own.
    let m = own.1.0 in
    let here = same m (way-here (λ x. count_of old x ≡ 1) old (suc k) link m (omega arith) own.1.1.0 own.1.1.1) in
    let root : link_short new link ≡ 0 = ap (link_short new) own.1.1.0 ∙ link_short-once new m here.0 in
    let links : (i : ℕ) → own_entry new link i ≡ own_entry old link i = λ i.
    own_entry-own new link i root
    ∙ link-same old new link i (λ y is. let e : y ≡ m = omega (arith, is, own.1.1.0) in ap (entries_of new) e ∙ here.1 ∙ ap (entries_of old) (sym e))
    ∙ sym (own_entry-own old link i own.0) in
    let parts = total-le (part_at new k link from to) (part_at old k link from to) 32
    (λ i _.
    part-le old new k (own_entry old link i) (own_entry new link i) (from - i * 32 ^ k) (min (32 ^ k) (to - i * 32 ^ k))
    (let least = range-lone old new k (own_entry old link i) (from - i * 32 ^ k) (min (32 ^ k) (to - i * 32 ^ k))
    (λ y w. same y (m, (own.1.1.0, (own.1.1.1, inr (i, subst (λ l. IsWay (λ x. count_of old x ≡ 1) old k l y) (own_entry-own old link i own.0) w))))) in
    let e = ap (λ l. range_below new k l (from - i * 32 ^ k) (min (32 ^ k) (to - i * 32 ^ k))) (links i) in omega (arith, least, e))) in
    omega (arith, range-step new k link from to, range-step old k link from to, root, own.0, parts))
    (λ short.
    let root = link_short-le new link in
    let parts = total-le (part_at new k link from to) (part_at old k link from to) 32
    (λ i _.
    part-le old new k (own_entry old link i) (own_entry new link i) (from - i * 32 ^ k) (min (32 ^ k) (to - i * 32 ^ k))
    (let most = range-most new old k (own_entry new link i) (from - i * 32 ^ k) (min (32 ^ k) (to - i * 32 ^ k)) in
    let e = ap (λ l. range_below old k l (from - i * 32 ^ k) (min (32 ^ k) (to - i * 32 ^ k))) (own_entry-short old link i short) in omega (arith, most, e))) in
    omega (arith, range-step new k link from to, range-step old k link from to, root, short, parts))
    (link_short-cases old link)

-- a link is made a node of its own, with its entries
pub range-own : (old a : List Node) (level link n from to : ℕ) → 0 < level → (link_short old link ≡ 0 → a ≡ old) → ((i : ℕ) → entry_of a n i ≡ link_of old link i) → link_short old link + total (entry_short a level n from to) 32 ≤ range_below old level link from to
range-own old a zero link n from to some same entries = absurd (omega (arith, some))
range-own old a (suc k) link n from to some same entries =
    let less : suc k - 1 ≡ k = omega arith in
    let parts = total-le (entry_short a (suc k) n from to) (part_at old k link from to) 32
    (λ i _.
    let low = ap (λ l. part_below a l (entry_of a n i) (from - i * 32 ^ l) (min (32 ^ l) (to - i * 32 ^ l))) less in
    let le = part-le old a k (own_entry old link i) (entry_of a n i) (from - i * 32 ^ k) (min (32 ^ k) (to - i * 32 ^ k))
    (⊎_elim
    (λ own.
    let e : range_below a k (entry_of a n i) (from - i * 32 ^ k) (min (32 ^ k) (to - i * 32 ^ k)) ≡ range_below old k (own_entry old link i) (from - i * 32 ^ k) (min (32 ^ k) (to - i * 32 ^ k)) =
    ap (λ ns. range_below ns k (entry_of a n i) (from - i * 32 ^ k) (min (32 ^ k) (to - i * 32 ^ k))) (same own.0)
    ∙ ap (λ l. range_below old k l (from - i * 32 ^ k) (min (32 ^ k) (to - i * 32 ^ k))) (entries i ∙ sym (own_entry-own old link i own.0)) in
    omega (arith, e))
    (λ short.
    let most = range-most a old k (entry_of a n i) (from - i * 32 ^ k) (min (32 ^ k) (to - i * 32 ^ k)) in
    let e = ap (λ l. range_below old k l (from - i * 32 ^ k) (min (32 ^ k) (to - i * 32 ^ k))) (own_entry-short old link i short) in omega (arith, most, e))
    (link_short-cases old link)) in
    omega (arith, low, le)) in
    omega (arith, range-step old k link from to, parts)

-- what a link leads to is among them
pub range-root : (nodes : List Node) (level link from to : ℕ) → 0 < level → link_short nodes link ≤ range_below nodes level link from to
range-root nodes zero link from to some = absurd (omega (arith, some))
range-root nodes (suc k) link from to some = omega (arith, range-step nodes k link from to)

-- at most two ends

cut-cases : (level at edge : ℕ) → ((at ≡ edge) × (cut_at level at edge ≡ 0)) ⊎ ((at ≢ edge) × (cut_at level at edge ≡ level - 1))
cut-cases level at edge = ⊎_elim (λ is. inl (is, cut-none level at edge is)) (λ off. inr (off, cut-some level at edge off)) (cases_eq at edge)

-- a cell takes none
pub range-none : (nodes : List Node) (k link from to : ℕ) → k ≡ 0 → range_below nodes k link from to ≡ 0
unfolding range_below
range-none nodes zero link from to none = refl
range-none nodes (suc k) link from to none = absurd (omega (arith, none))

pub range-le : (nodes : List Node) (k link from to : ℕ) → range_below nodes k link from to ≤ link_short nodes link + (cut_at k from 0 + cut_at k to (32 ^ k))
unfolding range_below
range-le nodes zero link from to = omega arith
range-le nodes (suc k) link from to =
    let w = 32 ^ k in
    let pos = pow-pos k in
    let step = pow-step (suc k) (omega arith) in
    let power : 32 ^ (suc k - 1) ≡ 32 ^ k = ap (λ l. 32 ^ l) (let less : suc k - 1 ≡ k = omega arith in less) in
    let each : (i : ℕ) → i < 32 → part_at nodes k link from to i ≤ cond (eqb i (from / 32 ^ k)) (cut_at (suc k) from 0) 0 + cond (eqb i (to / 32 ^ k)) (cut_at (suc k) to (32 ^ suc k)) 0 = λ i inside.
    let low = from - i * 32 ^ k in
    let high = min (32 ^ k) (to - i * 32 ^ k) in
    ⊎_elim
    (λ lt.
    let begins : from - i * 32 ^ k ≢ 0 → k ≤ cond (eqb i (from / 32 ^ k)) (cut_at (suc k) from 0) 0 = λ off.
    let at : i ≡ from / 32 ^ k = let up = le-div i from (32 ^ k) pos (omega (arith, off)) in let down = div_below from (32 ^ k) (i + 1) pos (omega (arith, lt)) in omega (arith, up, down) in
    let c = cond-true (eqb i (from / 32 ^ k)) (cut_at (suc k) from 0) 0 (eq-eqb i (from / 32 ^ k) at) in
    let cut = cut-some (suc k) from 0 (λ is. absurd (omega (arith, is, off))) in
    omega (arith, c, cut) in
    let ends : min (32 ^ k) (to - i * 32 ^ k) ≢ 32 ^ k → k ≤ cond (eqb i (to / 32 ^ k)) (cut_at (suc k) to (32 ^ suc k)) 0 = λ off.
    let high' = mul-le-mul_left (32 ^ k) (let le : i + 1 ≤ 32 = omega (arith, inside) in le) in
    let at : i ≡ to / 32 ^ k = let up = le-div i to (32 ^ k) pos (omega (arith, off, lt)) in let down = div_below to (32 ^ k) (i + 1) pos (omega (arith, off)) in omega (arith, up, down) in
    let c = cond-true (eqb i (to / 32 ^ k)) (cut_at (suc k) to (32 ^ suc k)) 0 (eq-eqb i (to / 32 ^ k) at) in
    let cut = cut-some (suc k) to (32 ^ suc k) (λ is. absurd (omega (arith, is, off, high', step, power))) in
    omega (arith, c, cut) in
    let rest = range-le nodes k (own_entry nodes link i) (from - i * 32 ^ k) (min (32 ^ k) (to - i * 32 ^ k)) in
    let root = link_short-le nodes (own_entry nodes link i) in
    let some : (range_below nodes k (own_entry nodes link i) (from - i * 32 ^ k) (min (32 ^ k) (to - i * 32 ^ k)) ≡ 0) ⊎ (0 < k) = ⊎_elim (λ up. inr up) (λ low. inl (range-none nodes k (own_entry nodes link i) (from - i * 32 ^ k) (min (32 ^ k) (to - i * 32 ^ k)) (omega (arith, low)))) (cases_lt 0 k) in
    ⊎_elim
    (λ a.
    ⊎_elim
    (λ b. let none = part-none nodes k (own_entry nodes link i) (from - i * 32 ^ k) (min (32 ^ k) (to - i * 32 ^ k)) (inr (a.0, b.0)) in omega (arith, none))
    (λ b. let all = part-some nodes k (own_entry nodes link i) (from - i * 32 ^ k) (min (32 ^ k) (to - i * 32 ^ k)) lt (inr b.0) in let e = ends b.0 in omega (arith, all, rest, root, a.1, b.1, e, some))
    (cut-cases k (min (32 ^ k) (to - i * 32 ^ k)) (32 ^ k)))
    (λ a.
    let all = part-some nodes k (own_entry nodes link i) (from - i * 32 ^ k) (min (32 ^ k) (to - i * 32 ^ k)) lt (inl a.0) in
    let s = begins a.0 in
    ⊎_elim
    (λ b. omega (arith, all, rest, root, a.1, b.1, s, some))
    (λ b. let e = ends b.0 in omega (arith, all, rest, root, a.1, b.1, s, e, some))
    (cut-cases k (min (32 ^ k) (to - i * 32 ^ k)) (32 ^ k)))
    (cut-cases k (from - i * 32 ^ k) 0))
    (λ le. let none = part-none nodes k (own_entry nodes link i) (from - i * 32 ^ k) (min (32 ^ k) (to - i * 32 ^ k)) (inl le) in omega (arith, none))
    (cases_lt (from - i * 32 ^ k) (min (32 ^ k) (to - i * 32 ^ k))) in
    let parts = total-le (part_at nodes k link from to) (λ i. cond (eqb i (from / 32 ^ k)) (cut_at (suc k) from 0) 0 + cond (eqb i (to / 32 ^ k)) (cut_at (suc k) to (32 ^ suc k)) 0) 32 each in
    let sums = total-add (λ i. cond (eqb i (from / 32 ^ k)) (cut_at (suc k) from 0) 0) (λ i. cond (eqb i (to / 32 ^ k)) (cut_at (suc k) to (32 ^ suc k)) 0) 32 in
    let a = total-spot (from / 32 ^ k) (cut_at (suc k) from 0) 32 in
    let b = total-spot (to / 32 ^ k) (cut_at (suc k) to (32 ^ suc k)) 32 in
    omega (arith, range-step nodes k link from to, parts, sums, a, b)
