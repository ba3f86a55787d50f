-- Numbers: powers, and sums of node steps.
use Rattle.std.proofs.Common.{◌≡◌, ◌≢◌, ℕ, zero, suc, ◌+◌, ◌-◌, ◌*◌, ◌/◌, ◌^◌, ◌<◌, ◌≤◌, ⊎_elim, min, eqb, ◌∙◌, ap, arith}
use Rattle.std.proofs.Math.Nat.{mul-le-mul_left, mul-le-mul_right, pow-suc}
use Rattle.std.proofs.lemmas.Nat.{div_below}
use Rattle.std.proofs.lemmas.Bool.{cases_eq, cases_lt, eq-eqb, ne_eqb, cond-true, cond-false}
use Rattle.page_tree.specs.Costs.{copy_steps, entries_in, entry_steps, most_nodes, share_steps, way_steps}

pub pow-pos : (k : ℕ) → 0 < 32 ^ k
pow-pos zero = omega arith
pow-pos (suc k) = let rest = pow-pos k in let step = pow-suc 32 k in omega (arith, rest, step)

pub pow-step : (level : ℕ) → 0 < level → 32 ^ level ≡ 32 ^ (level - 1) * 32
pow-step zero some = absurd (omega (arith, some))
pow-step (suc k) some =
    let less : k ≡ suc k - 1 = omega arith in
    let power = ap (λ j. 32 ^ j) less in
    let step = pow-suc 32 k in
    omega (arith, step, power)

-- a page of a node is in one of its entries
pub page-place : (level p w : ℕ) → 0 < level → w ≡ 32 ^ (level - 1) → p < 32 ^ level → p / w < 32
page-place level p w some w_is page =
    let step = pow-step level some in
    let pos = pow-pos (level - 1) in
    div_below p w 32 (omega (arith, pos, w_is)) (omega (arith, step, w_is, page))

pub entries_in-root : (level : ℕ) → level ≡ 3 → entries_in level ≡ 16
entries_in-root level is = cond-true (eqb level 3) 16 32 (eq-eqb level 3 is)

pub entries_in-other : (level : ℕ) → level ≢ 3 → entries_in level ≡ 32
entries_in-other level off = cond-false (eqb level 3) 16 32 (ne_eqb level 3 off)

pub most-step : (level : ℕ) → 0 < level → most_nodes level ≡ 1 + entries_in level * most_nodes (level - 1)
most-step zero some = absurd (omega (arith, some))
most-step (suc k) some = let less : k ≡ suc k - 1 = omega arith in ap (λ l. 1 + entries_in (suc k) * most_nodes l) less

pub way-step : (level : ℕ) → 0 < level → way_steps level ≡ copy_steps level + way_steps (level - 1)
way-step zero some = absurd (omega (arith, some))
way-step (suc k) some = let less : k ≡ suc k - 1 = omega arith in ap (λ l. copy_steps (suc k) + way_steps l) less

-- one more of so many entries takes its steps
pub more-steps : (i k m s0 s s' : ℕ) → s ≤ s0 + min i k * m → s' ≤ s + m → (k ≤ i → s' ≡ s) → s' ≤ s0 + min (i + 1) k * m
more-steps i k m s0 s s' sum one past =
    ⊎_elim
    (λ lt.
    let a : min i k ≡ i = omega (arith, lt) in
    let b : min (i + 1) k ≡ i + 1 = omega (arith, lt) in
    let a' = ap (λ x. x * m) a in
    let b' = ap (λ x. x * m) b in
    omega (arith, sum, one, a', b'))
    (λ le.
    let a : min i k ≡ k = omega (arith, le) in
    let b : min (i + 1) k ≡ k = omega (arith, le) in
    let a' = ap (λ x. x * m) a in
    let b' = ap (λ x. x * m) b in
    let same = past le in
    omega (arith, sum, same, a', b'))
    (cases_lt i k)

-- so many entries that take no step are passed over
pub passed-steps : (i j k m s0 s : ℕ) → i ≤ j → s ≤ s0 + min i k * m → s ≤ s0 + min j k * m
passed-steps i j k m s0 s order sum =
    let more : min i k ≤ min j k = omega (arith, order) in
    let product = mul-le-mul_right m more in
    omega (arith, sum, product)

-- entries of the root past its last one are not in use
pub unused : (level i entry : ℕ) → (level ≡ 3 → 16 ≤ i → entry ≡ 0) → i < 32 → entries_in level ≤ i → entry ≡ 0
unused level i entry narrow inside past =
    ⊎_elim
    (λ top. let k = entries_in-root level top in narrow top (omega (arith, k, past)))
    (λ off. absurd (let k = entries_in-other level off in omega (arith, k, past, inside)))
    (cases_eq level 3)

pub share-step : (level : ℕ) → 0 < level → share_steps level ≡ copy_steps level + entries_in level * entry_steps level + 2 * share_steps (level - 1)
share-step zero some = absurd (omega (arith, some))
share-step (suc k) some = let less : k ≡ suc k - 1 = omega arith in ap (λ l. copy_steps (suc k) + entries_in (suc k) * entry_steps (suc k) + 2 * share_steps l) less

-- another link in an entry
pub put-steps : (level s s' : ℕ) → s' ≤ s + (1 + most_nodes (level - 1)) → (level ≡ 1 → s' ≡ s) → s' ≤ s + entry_steps level
put-steps level s s' most leaf =
    ⊎_elim
    (λ is. let same = leaf is in omega (arith, same))
    (λ off. let k = cond-false (eqb level 1) 0 (1 + most_nodes (level - 1)) (ne_eqb level 1 off) in omega (arith, most, k))
    (cases_eq level 1)

-- the entries of a range, from a to z, of which all but the first and the last are whole
pub steps-next : (i a z each part t0 t t' : ℕ) → a ≤ i → i < z + 1 → (i ≤ a → t ≡ t0) → (i ≤ z → t ≤ t0 + ((i - a) * each + part)) → t' ≤ t + (each + part) → (a < i → i + 1 ≤ z → t' ≤ t + each) →
    (i + 1 ≤ z → t' ≤ t0 + ((i + 1 - a) * each + part)) × (t' ≤ t0 + ((i + 1 - a) * each + 2 * part))
steps-next i a z each part t0 t t' from_on below start middle one whole =
    ⊎_elim
    (λ past.
    let more : i + 1 - a ≡ (i - a) + 1 = omega (arith, past) in
    let product = ap (λ x. x * each) more in
    let sum = middle (omega (arith, below)) in
    ((λ lt. let w = whole past lt in omega (arith, product, sum, w)), omega (arith, product, sum, one)))
    (λ here.
    let more : i + 1 - a ≡ 1 = omega (arith, here, from_on) in
    let product = ap (λ x. x * each) more in
    let same = start (omega (arith, here)) in
    ((λ lt. omega (arith, product, same, one)), omega (arith, product, same, one)))
    (cases_lt a i)

-- a range has at most the entries of its node
pub steps-all : (level first end i w each part t0 t : ℕ) → 0 < w → w ≡ 32 ^ (level - 1) → 1 ≤ level → first < end → end ≤ 32 ^ level → (level ≡ 3 → end ≤ 16384) → i ≤ (end - 1) / w + 1 → t ≤ t0 + ((i - first / w) * each + 2 * part) → t ≤ t0 + (entries_in level * each + 2 * part)
steps-all level first end i w each part t0 t pos w_is some order page inside le sum =
    let step = pow-step level (omega (arith, some)) in
    let few : (end - 1) / w + 1 ≤ entries_in level =
    ⊎_elim
    (λ top.
    let k = entries_in-root level top in
    let width : w ≡ 1024 = w_is ∙ ap (λ l. 32 ^ (l - 1)) top in
    let below = div_below (end - 1) w 16 pos (omega (arith, order, width, inside top)) in
    omega (arith, k, below))
    (λ off. let k = entries_in-other level off in let below = div_below (end - 1) w 32 pos (omega (arith, order, page, step, w_is)) in omega (arith, k, below))
    (cases_eq level 3) in
    let product = mul-le-mul_left each (let most : i - first / w ≤ entries_in level = omega (arith, few, le) in most) in
    omega (arith, product, sum)
