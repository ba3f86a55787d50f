-- A range of the pages of an open node: what one more entry takes, and what all take.
use Rattle.std.proofs.Common.{◌≡◌, ◌≢◌, ℕ, zero, suc, ◌+◌, ◌-◌, ◌*◌, ◌/◌, ◌%◌, ◌^◌, ◌<◌, ◌≤◌, ⊎_elim, max, min, cond, eqb, List, refl, sym, ◌∙◌, ap, arith, subst}
use Rattle.std.proofs.lemmas.Bool.{cases_eq, cases_lt, eq-eqb, ne_eqb, cond-true, cond-false}
use Rattle.std.proofs.Math.Nat.{div-add-mod, mul-le-mul_left}
use Rattle.std.proofs.lemmas.Nat.{div_below, mod_below, le-div}
use Rattle.node_pool.specs.Nodes.{Node, entry_of, free_of}
use Rattle.page_tree.specs.Changes.{IsBelow}
use Rattle.page_tree.specs.Costs.{open_steps}
use Rattle.page_tree.specs.Open.{IsOpen, IsOpenBelow, IsOpenNode, passed_below}
use Rattle.page_tree.specs.Pages.{link_of}
use Rattle.page_tree.specs.Short.{cut_at, edge_below, edge_short, open_cuts, link_short}
use Rattle.page_tree.proofs.CostLemmas.{pow-pos}
use Rattle.page_tree.proofs.LinkLemmas.{below-none, link_of-node, link_of-none, link_short-le, link_short-none}
use Rattle.page_tree.proofs.OpenLemmas.{edge_short-first, edge_short-inner, open-first, edge-first, edge-moved, edge-step, open-cases, open-goes, open-none}
use Rattle.page_tree.proofs.RangeLemmas.{InRange, cut-none, cut-some, first-or-later}

passed-step : (level p : ℕ) → 1 < level → passed_below level p ≡ p / 32 ^ (level - 1) + passed_below (level - 1) (p % 32 ^ (level - 1))
passed-step zero p up = absurd (omega (arith, up))
passed-step (suc zero) p up = absurd (omega (arith, up))
passed-step (suc (suc k)) p up =
    let less : suc k ≡ suc (suc k) - 1 = omega arith in
    ap (λ l. p / 32 ^ l + passed_below l (p % 32 ^ l)) less

pub passed-first : (level p : ℕ) → p ≡ 0 → passed_below level p ≡ 0
passed-first zero p begins = refl
passed-first (suc zero) p begins = refl
passed-first (suc (suc k)) p begins =
    let at : p / 32 ^ suc k ≡ 0 = ap (λ x. x / 32 ^ suc k) begins ∙ omega arith in
    let within : p % 32 ^ suc k ≡ 0 = ap (λ x. x % 32 ^ suc k) begins ∙ omega arith in
    omega (arith, at, passed-first (suc k) (p % 32 ^ suc k) within)

open_steps-step : (level : ℕ) → 1 < level → open_steps level ≡ 2 * open_steps (level - 1) + passed_below (level - 1) (32 ^ (level - 1))
open_steps-step zero up = absurd (omega (arith, up))
open_steps-step (suc zero) up = absurd (omega (arith, up))
open_steps-step (suc (suc k)) up =
    let less : suc k ≡ suc (suc k) - 1 = omega arith in
    ap (λ l. 2 * open_steps l + passed_below l (32 ^ l)) less

pub open_steps-some : (level : ℕ) → 0 < level → 1 ≤ open_steps level
open_steps-some zero up = absurd (omega (arith, up))
open_steps-some (suc zero) up = omega arith
open_steps-some (suc (suc k)) up = let rest = open_steps-some (suc k) (omega arith) in omega (arith, rest)

-- the first entries of an open node have what they are given
pub record Opens (level first end i : ℕ) (s0 s : List Node) (n t0 t : ℕ) : Type 0 where
  pub start : i ≤ first / 32 ^ (level - 1) → (s ≡ s0) × (t ≡ t0)
  pub rest : (k : ℕ) → i ≤ k → first / 32 ^ (level - 1) < k → entry_of s n k ≡ 0
  pub cost : first / 32 ^ (level - 1) < i → i ≤ (end - 1) / 32 ^ (level - 1) →
      t + (first / 32 ^ (level - 1) + passed_below (level - 1) (first % 32 ^ (level - 1))) + 1 ≤ t0 + i + open_steps (level - 1) + passed_below (level - 1) (32 ^ (level - 1))
  pub free : first / 32 ^ (level - 1) < i → i ≤ (end - 1) / 32 ^ (level - 1) →
      free_of s0 ≤ free_of s + edge_below s0 (level - 1) (entry_of s0 n (first / 32 ^ (level - 1))) (first % 32 ^ (level - 1))
  pub open_end : (end - 1) / 32 ^ (level - 1) < i → IsOpenNode s level n end
  pub edge_end : (end - 1) / 32 ^ (level - 1) < i → edge_below s level (n + 1) end ≡ 0
  pub free_end : (end - 1) / 32 ^ (level - 1) < i →
      free_of s0 ≤ free_of s + (edge_below s0 (level - 1) (entry_of s0 n (first / 32 ^ (level - 1))) (first % 32 ^ (level - 1)) + cut_at level end (32 ^ level))
  pub cost_end : (end - 1) / 32 ^ (level - 1) < i → t + passed_below level first + 1 ≤ t0 + passed_below level end + open_steps level

pub opens-start : (level first end i : ℕ) (s : List Node) (n t : ℕ) → i ≤ first / 32 ^ (level - 1) → first < end → IsOpenNode s level n first → Opens level first end i s s n t t
opens-start level first end i s n t le order is_open =
    let pos = pow-pos (level - 1) in
    let down : first / 32 ^ (level - 1) ≤ (end - 1) / 32 ^ (level - 1) = order-div first (end - 1) (32 ^ (level - 1)) pos (omega (arith, order)) in
    record {
      start = λ _. (refl, refl);
      rest = λ k _ past. is_open.later k past;
      cost = λ past _. absurd (omega (arith, past, le));
      free = λ past _. absurd (omega (arith, past, le));
      open_end = λ past. absurd (omega (arith, past, le, down));
      edge_end = λ past. absurd (omega (arith, past, le, down));
      free_end = λ past. absurd (omega (arith, past, le, down));
      cost_end = λ past. absurd (omega (arith, past, le, down));
    }
  where
    order-div : (p q w : ℕ) → 0 < w → p ≤ q → p / w ≤ q / w
    order-div p q w pos le = let split = div-add-mod p w in le-div (p / w) q w pos (omega (arith, split, le))

module _ (level first end i low high : ℕ) (s0 s s' : List Node) (n t0 t t' : ℕ) (some : 1 ≤ level) (at : InRange level first end i (32 ^ (level - 1)))
    (from_on : first / 32 ^ (level - 1) ≤ i) (below : i < (end - 1) / 32 ^ (level - 1) + 1)
    (low_is : low + i * 32 ^ (level - 1) ≡ max first (i * 32 ^ (level - 1))) (high_is : high + i * 32 ^ (level - 1) ≡ min end (i * 32 ^ (level - 1) + 32 ^ (level - 1)))
    (order : first < end) (page : end ≤ 32 ^ level) (is_open : IsOpenNode s0 level n first) (inv : Opens level first end i s0 s n t0 t) (own : link_short s' (n + 1) ≡ 0)
    (others : (k : ℕ) → k ≢ i → entry_of s' n k ≡ entry_of s n k)
    (opens : IsOpenBelow s (level - 1) (entry_of s n i) low → high ≢ 32 ^ (level - 1) → IsOpenBelow s' (level - 1) (entry_of s' n i) high)
    (edges : IsOpenBelow s (level - 1) (entry_of s n i) low → high ≢ 32 ^ (level - 1) → edge_below s' (level - 1) (entry_of s' n i) high ≡ 0)
    (free_part : IsOpenBelow s (level - 1) (entry_of s n i) low → free_of s ≤ free_of s' + open_cuts s (level - 1) (entry_of s n i) low high)
    (free_whole : low ≡ 0 → high ≡ 32 ^ (level - 1) → free_of s ≤ free_of s')
    (cost_part : IsOpenBelow s (level - 1) (entry_of s n i) low → t' + passed_below (level - 1) low ≤ t + passed_below (level - 1) high + open_steps (level - 1))
    (cost_whole : IsOpenBelow s (level - 1) (entry_of s n i) low → low ≡ 0 → high ≡ 32 ^ (level - 1) → t' ≤ t + 1)
    (cost_leaf : level ≡ 1 → t' ≡ t0) where
  abbrev w : ℕ
  w = 32 ^ (level - 1)

  pos : 0 < w
  pos = pow-pos (level - 1)

  split_first : w * (first / w) + first % w ≡ first
  split_first = div-add-mod first w

  split_end : w * ((end - 1) / w) + (end - 1) % w ≡ end - 1
  split_end = div-add-mod (end - 1) w

  -- the first entry, and later ones
  low_first : i ≡ first / w → low ≡ first % w
  low_first here = let e = ap (λ x. w * x) here in omega (arith, split_first, e, low_is)

  low_later : first / w < i → low ≡ 0
  low_later past = let rest = mod_below first w pos in let up = mul-le-mul_left w (let le : first / w + 1 ≤ i = omega (arith, past) in le) in omega (arith, split_first, rest, up, low_is)

  -- an earlier entry than the last, and the last
  high_earlier : i + 1 ≤ (end - 1) / w → high ≡ w
  high_earlier lt = let up = mul-le-mul_left w lt in omega (arith, split_end, up, high_is)

  -- the entry is open where its range begins
  here : IsOpenBelow s (level - 1) (entry_of s n i) low
  here =
      ⊎_elim
      (λ is.
      let same = (inv.start (omega (arith, is))).0 in
      let e : entry_of s n i ≡ entry_of s0 n (first / w) = (λ k. entry_of (same k) n (is k)) in
      subst (λ x. IsOpenBelow x (level - 1) (entry_of s n i) low) (sym same)
      (subst (λ x. IsOpenBelow s0 (level - 1) x low) (sym e) (subst (λ x. IsOpenBelow s0 (level - 1) (entry_of s0 n (first / w)) x) (sym (low_first is)) is_open.way)))
      (λ past. open-none s (level - 1) (entry_of s n i) low (inv.rest i (omega arith) past))
      (first-or-later (first / w) i from_on)

  rest' : (k : ℕ) → i + 1 ≤ k → first / w < k → entry_of s' n k ≡ 0
  rest' k le past = others k (λ is. absurd (omega (arith, is, le))) ∙ inv.rest k (omega (arith, le)) past

  cost' : first / w < i + 1 → i + 1 ≤ (end - 1) / w → t' + (first / w + passed_below (level - 1) (first % w)) + 1 ≤ t0 + (i + 1) + open_steps (level - 1) + passed_below (level - 1) w
  cost' _ lt =
      let ends = ap (passed_below (level - 1)) (high_earlier lt) in
      ⊎_elim
      (λ is.
      let begins = ap (passed_below (level - 1)) (low_first is) in
      let same = (inv.start (omega (arith, is))).1 in
      let part = cost_part here in
      omega (arith, begins, ends, same, part, is))
      (λ past. let sum = inv.cost past (omega (arith, lt)) in let one = cost_whole here (low_later past) (high_earlier lt) in omega (arith, sum, one))
      (first-or-later (first / w) i from_on)

  abbrev begins_with : ℕ
  begins_with = edge_below s0 (level - 1) (entry_of s0 n (first / w)) (first % w)

  -- what the first entry takes
  takes_first : i ≡ first / w → free_of s0 ≤ free_of s' + (begins_with + cond (eqb low 0) 1 0 + cut_at (level - 1) high w)
  takes_first is =
      let same = (inv.start (omega (arith, is))).0 in
      let e : edge_below s (level - 1) (entry_of s n i) low ≡ begins_with = (λ k. edge_below (same k) (level - 1) (entry_of (same k) n (is k)) (low_first is k)) in
      let part = free_part here in
      let free = ap (λ x. free_of x) same in
      omega (arith, part, free, e)

  -- what a later entry takes, of which the range has no page at its end
  takes_later : first / w < i → free_of s ≤ free_of s' + (1 + cut_at (level - 1) high w)
  takes_later past =
      let begins = low_later past in
      let none = edge-first s (level - 1) (entry_of s n i) low begins in
      let one = cond-true {A = ℕ} (eqb low 0) 1 0 (eq-eqb low 0 begins) in
      let part = free_part here in
      omega (arith, part, none, one)

  free' : first / w < i + 1 → i + 1 ≤ (end - 1) / w → free_of s0 ≤ free_of s' + begins_with
  free' _ lt =
      ⊎_elim
      (λ is.
      ⊎_elim
      (λ begins. let same = ap (λ x. free_of x) (inv.start (omega (arith, is))).0 in let whole = free_whole begins (high_earlier lt) in omega (arith, same, whole))
      (λ inner.
      let takes = takes_first is in
      let none = cut-none (level - 1) high w (high_earlier lt) in
      let off = cond-false {A = ℕ} (eqb low 0) 1 0 (ne_eqb low 0 inner) in
      omega (arith, takes, none, off))
      (cases_eq low 0))
      (λ past. let sum = inv.free past (omega (arith, lt)) in let whole = free_whole (low_later past) (high_earlier lt) in omega (arith, sum, whole))
      (first-or-later (first / w) i from_on)

  -- the last entry
  module _ (last : (end - 1) / w < i + 1) where
    i_is : i ≡ (end - 1) / w
    i_is = omega (arith, last, below)

    -- the end is within the entry, or right after it
    end_at : (high ≢ w → (end / w ≡ i) × (end % w ≡ high)) × (high ≡ w → (end / w ≡ i + 1) × (end % w ≡ 0))
    end_at =
        let e = ap (λ x. w * x) i_is in
        let rest = mod_below (end - 1) w pos in
        let sum : w * i + high ≡ end = omega (arith, high_is, split_end, e, rest, order) in (
          (λ inner. let lt : high < w = omega (arith, high_is, inner) in div-mod-is end w i high sum lt),
          (λ ends. div-mod-is end w (i + 1) 0 (omega (arith, sum, ends)) pos),
        )
      where
        div-mod-is : (p w a r : ℕ) → w * a + r ≡ p → r < w → (p / w ≡ a) × (p % w ≡ r)
        div-mod-is p w a r sum lt =
            let up : a ≤ p / w = le-div a p w (omega (arith, lt)) (omega (arith, sum)) in
            let down : p / w < a + 1 = div_below p w (a + 1) (omega (arith, lt)) (omega (arith, sum, lt)) in
            let is : p / w ≡ a = omega (arith, up, down) in
            let split = div-add-mod p w in
            let e = ap (λ x. w * x) is in
            (is, omega (arith, split, e, sum))

    open_end' : IsOpenNode s' level n end
    open_end' =
        ⊎_elim
        (λ ends.
        let e = end_at.1 ends in
        record {
          later = λ k past. rest' k (omega (arith, past, e.0)) (omega (arith, past, e.0, from_on));
          way = open-none s' (level - 1) (entry_of s' n (end / w)) (end % w) (rest' (end / w) (omega (arith, e.0)) (omega (arith, e.0, from_on)));
        })
        (λ inner.
        let e = end_at.0 inner in
        record {
          later = λ k past. rest' k (omega (arith, past, e.0)) (omega (arith, past, e.0, from_on));
          way = subst (λ x. IsOpenBelow s' (level - 1) (entry_of s' n x) (end % w)) (sym e.0) (subst (λ x. IsOpenBelow s' (level - 1) (entry_of s' n i) x) (sym e.1) (opens here inner));
        })
        (cases_eq high w)

    edge_end' : edge_below s' level (n + 1) end ≡ 0
    edge_end' =
        let step = edge-step s' level (n + 1) end (omega (arith, some)) (λ is. absurd (omega (arith, is, order))) in
        ⊎_elim
        (λ ends. let none = edge-first s' (level - 1) (link_of s' (n + 1) (end / w)) (end % w) (end_at.1 ends).1 in omega (arith, step, own, none))
        (λ inner.
        let e = end_at.0 inner in
        let entry : link_of s' (n + 1) (end / w) ≡ entry_of s' n i = link_of-node s' n (end / w) ∙ ap (entry_of s' n) e.0 in
        let none : edge_below s' (level - 1) (link_of s' (n + 1) (end / w)) (end % w) ≡ 0 = (λ k. edge_below s' (level - 1) (entry k) (e.1 k)) ∙ edges here inner in
        omega (arith, step, own, none))
        (cases_eq high w)

    -- where the end is within the entry, nodes are cut there
    cut_end : high ≢ w → (cut_at level end (32 ^ level) ≡ level - 1) × (cut_at (level - 1) high w ≡ level - 1 - 1)
    cut_end inner =
        (cut-some level end (32 ^ level) (λ is. absurd (omega (arith, is, high_is, at.fits, inner))), cut-some (level - 1) high w inner)

    upper : high ≢ w → 1 < level
    upper inner =
        ⊎_elim (λ up. up)
        (λ leaf.
        let one : w ≡ 1 = ap (λ l. 32 ^ (l - 1)) (let is : level ≡ 1 = omega (arith, leaf, some) in is) in
        absurd (inner (omega (arith, one, high_is, at.within))))
        (cases_lt 1 level)

    free_end' : free_of s0 ≤ free_of s' + (begins_with + cut_at level end (32 ^ level))
    free_end' =
        ⊎_elim
        (λ is.
        ⊎_elim
        (λ ends.
        ⊎_elim
        (λ begins. let same = ap (λ x. free_of x) (inv.start (omega (arith, is))).0 in let whole = free_whole begins ends in omega (arith, same, whole))
        (λ inner.
        let takes = takes_first is in
        let none = cut-none (level - 1) high w ends in
        let off = cond-false {A = ℕ} (eqb low 0) 1 0 (ne_eqb low 0 inner) in
        omega (arith, takes, none, off))
        (cases_eq low 0))
        (λ inner.
        let takes = takes_first is in
        let cut = cut_end inner in
        let up = upper inner in
        let one : cond (eqb low 0) 1 0 ≤ 1 = ⊎_elim (λ b. let x = cond-true {A = ℕ} (eqb low 0) 1 0 (eq-eqb low 0 b) in omega (arith, x)) (λ b. let x = cond-false {A = ℕ} (eqb low 0) 1 0 (ne_eqb low 0 b) in omega (arith, x)) (cases_eq low 0) in
        omega (arith, takes, cut.0, cut.1, up, one))
        (cases_eq high w))
        (λ past.
        let sum = inv.free past (omega (arith, i_is)) in
        ⊎_elim
        (λ ends. let whole = free_whole (low_later past) ends in omega (arith, sum, whole))
        (λ inner. let takes = takes_later past in let cut = cut_end inner in let up = upper inner in omega (arith, sum, takes, cut.0, cut.1, up))
        (cases_eq high w))
        (first-or-later (first / w) i from_on)

    cost_end' : t' + passed_below level first + 1 ≤ t0 + passed_below level end + open_steps level
    cost_end' =
        ⊎_elim
        (λ up.
        let a = passed-step level first up in
        let b = passed-step level end up in
        let k = open_steps-step level up in
        let more = open_steps-some (level - 1) (omega (arith, up)) in
        ⊎_elim
        (λ is.
        let begins = ap (passed_below (level - 1)) (low_first is) in
        let same = (inv.start (omega (arith, is))).1 in
        let part = cost_part here in
        ⊎_elim
        (λ ends.
        let e = end_at.1 ends in
        let none = passed-first (level - 1) (end % w) e.1 in
        let high_w = ap (passed_below (level - 1)) ends in
        omega (arith, a, b, k, begins, same, part, e.0, none, high_w, is, more))
        (λ inner.
        let e = end_at.0 inner in
        let ends = ap (passed_below (level - 1)) e.1 in
        omega (arith, a, b, k, begins, same, part, e.0, ends, is, more))
        (cases_eq high w))
        (λ past.
        let sum = inv.cost past (omega (arith, i_is)) in
        ⊎_elim
        (λ ends.
        let e = end_at.1 ends in
        let none = passed-first (level - 1) (end % w) e.1 in
        let one = cost_whole here (low_later past) ends in
        omega (arith, a, b, k, sum, one, e.0, none, more))
        (λ inner.
        let e = end_at.0 inner in
        let ends = ap (passed_below (level - 1)) e.1 in
        let zero_is = passed-first (level - 1) low (low_later past) in
        let part = cost_part here in
        omega (arith, a, b, k, sum, part, e.0, ends, zero_is, more))
        (cases_eq high w))
        (first-or-later (first / w) i from_on))
        (λ leaf.
        let one : level ≡ 1 = omega (arith, leaf, some) in
        let same = cost_leaf one in
        let a = ap (λ l. passed_below l first) one in
        let b = ap (λ l. passed_below l end) one in
        let k = ap open_steps one in
        omega (arith, same, a, b, k))
        (cases_lt 1 level)

  pub opens-next : Opens level first end (i + 1) s0 s' n t0 t'
  opens-next =
      record {
        start = λ early. absurd (omega (arith, early, from_on));
        rest = rest';
        cost = cost';
        free = free';
        open_end = open_end';
        edge_end = edge_end';
        free_end = free_end';
        cost_end = cost_end';
      }

-- an open link is made a node of its own
module _ (level first end : ℕ) (old a : List Node) (link n t0 t : ℕ) (some : 1 ≤ level) (is_open : IsOpenBelow old level link first) (same : link_short old link ≡ 0 → a ≡ old) (entries : (i : ℕ) → entry_of a n i ≡ link_of old link i) where
  pub own-open : IsOpenNode a level n first
  own-open =
      ⊎_elim
      (λ none.
      let nothing : (i : ℕ) → entry_of a n i ≡ 0 = λ i. entries i ∙ ap (λ l. link_of old l i) none ∙ link_of-none old i in
      record { later = λ i _. nothing i; way = open-none a (level - 1) (entry_of a n (first / 32 ^ (level - 1))) (first % 32 ^ (level - 1)) (nothing (first / 32 ^ (level - 1))) })
      (λ goes.
      record {
        later = λ i past. entries i ∙ goes.later i past;
        way = subst (λ l. IsOpenBelow a (level - 1) l (first % 32 ^ (level - 1))) (sym (entries (first / 32 ^ (level - 1))))
            (subst (λ ns. IsOpenBelow ns (level - 1) (link_of old link (first / 32 ^ (level - 1))) (first % 32 ^ (level - 1))) (sym (same goes.own)) goes.way);
      })
      (open-cases old level link first (omega (arith, some)) is_open)

  own-edge : edge_below a (level - 1) (entry_of a n (first / 32 ^ (level - 1))) (first % 32 ^ (level - 1)) ≡ edge_below old (level - 1) (link_of old link (first / 32 ^ (level - 1))) (first % 32 ^ (level - 1))
  own-edge =
      ap (λ l. edge_below a (level - 1) l (first % 32 ^ (level - 1))) (entries (first / 32 ^ (level - 1)))
      ∙ ⊎_elim
      (λ none.
      let nothing = ap (λ l. link_of old l (first / 32 ^ (level - 1))) none ∙ link_of-none old (first / 32 ^ (level - 1)) in
      edge-moved old a (level - 1) (link_of old link (first / 32 ^ (level - 1))) (first % 32 ^ (level - 1)) (λ m w. absurd (below-none old (level - 1) m (subst (λ l. IsBelow old (level - 1) l m) nothing w))))
      (λ goes. ap (λ ns. edge_below ns (level - 1) (link_of old link (first / 32 ^ (level - 1))) (first % 32 ^ (level - 1))) (same goes.own))
      (open-cases old level link first (omega (arith, some)) is_open)

  -- what a range takes from there on
  pub own-free : (cut free0 free1 free2 : ℕ) → free0 ≤ free1 + link_short old link → free1 ≤ free2 + (edge_below a (level - 1) (entry_of a n (first / 32 ^ (level - 1))) (first % 32 ^ (level - 1)) + cut) → free0 ≤ free2 + (edge_below old level link first + cond (eqb first 0) 1 0 + cut)
  own-free cut free0 free1 free2 takes rest =
      let root = link_short-le old link in
      ⊎_elim
      (λ begins.
      let none = edge-first a (level - 1) (entry_of a n (first / 32 ^ (level - 1))) (first % 32 ^ (level - 1)) (ap (λ x. x % 32 ^ (level - 1)) begins ∙ omega arith) in
      let one = cond-true {A = ℕ} (eqb first 0) 1 0 (eq-eqb first 0 begins) in
      omega (arith, takes, rest, root, none, one))
      (λ inner. let step = edge-step old level link first (omega (arith, some)) inner in omega (arith, takes, rest, step, own-edge))
      (cases_eq first 0)

  pub own-free_none : (cut free0 free1 : ℕ) → free0 ≤ free1 + link_short old link → free0 ≤ free1 + (edge_below old level link first + cond (eqb first 0) 1 0 + cut)
  own-free_none cut free0 free1 takes = own-free cut free0 free1 free1 takes (omega arith)

  pub own-cost : (link_short old link ≡ 0 → t ≡ t0) → (link ≡ 0 → t ≤ t0 + 1) → t ≤ t0 + 1
  own-cost own none = ⊎_elim (λ is. none is) (λ goes. let same' = own goes.own in omega (arith, same')) (open-cases old level link first (omega (arith, some)) is_open)

-- an owned node that is open is an open link
pub node-open : (level : ℕ) (nodes : List Node) (n p : ℕ) → 1 ≤ level → 0 < p → link_short nodes (n + 1) ≡ 0 → IsOpenNode nodes level n p → IsOpenBelow nodes level (n + 1) p
node-open level nodes n p up some own is_open =
    open-goes nodes level (n + 1) p (omega (arith, up))
    (record {
      some = some;
      own = own;
      later = λ i past. link_of-node nodes n i ∙ is_open.later i past;
      way = subst (λ l. IsOpenBelow nodes (level - 1) l (p % 32 ^ (level - 1))) (sym (link_of-node nodes n (p / 32 ^ (level - 1)))) is_open.way;
    })

-- a range of an open tree takes what its beginning takes, and two nodes at its end
pub open-takes : (nodes : List Node) (tree from to : ℕ) → IsOpen nodes tree from → open_cuts nodes 3 tree from to ≤ edge_short nodes tree from + 2
open-takes nodes tree from to is_open =
    let cut : cut_at 3 to 32768 ≤ 2 = ⊎_elim (λ is. let c = cut-none 3 to 32768 is in omega (arith, c)) (λ off. let c = cut-some 3 to 32768 off in omega (arith, c)) (cases_eq to 32768) in
    ⊎_elim
    (λ begins.
    let none = edge-first nodes 3 tree from begins in
    let one = cond-true {A = ℕ} (eqb from 0) 1 0 (eq-eqb from 0 begins) in
    let root = edge_short-first nodes tree from begins ∙ ap (link_short nodes) (open-first nodes 3 tree from begins is_open) ∙ link_short-none nodes in
    omega (arith, none, one, root, cut))
    (λ inner.
    let off = cond-false {A = ℕ} (eqb from 0) 1 0 (ne_eqb from 0 inner) in
    let same = edge_short-inner nodes tree from inner in
    omega (arith, off, same, cut))
    (cases_eq from 0)
