-- A range of pages of one node becomes that of a link beside it.
use Rattle.std.proofs.Common.{◌≡◌, ◌≢◌, ℕ, zero, suc, ◌+◌, ◌-◌, ◌*◌, ◌/◌, ◌%◌, ◌^◌, ◌<◌, ◌≤◌, ◌⊎◌, inl, inr, ⊎_elim, max, min, eqb, List, refl, sym, ◌∙◌, ap, arith, subst}
use Rattle.std.proofs.lemmas.Bool.{cases_eq, cases_lt, eq-eqb, ne_eqb, cond-true, cond-false}
use Rattle.std.proofs.Math.Nat.{div-add-mod, mul-le-mul_left}
use Rattle.std.proofs.lemmas.Nat.{div_below, mod_below}
use Rattle.frame_pool.specs.Frame.{Frame, frame_count}
use Rattle.node_pool.specs.Nodes.{Node, count_of, level_of, entry_of}
use Rattle.page_tree.specs.Pages.{entries_of, entry_below, link_of}
use Rattle.page_tree.specs.Short.{cut_at}
use Rattle.page_tree.specs.Sound.{IsSoundTo}
use Rattle.page_tree.specs.Changes.{IsBelow}
use Rattle.page_tree.specs.Steps.{IsBeside, Moves}
use Rattle.page_tree.proofs.LinkLemmas.{zero_or_more, link_of-node, link_of-none, link-same, entry-moved, below-none, below-here, below-entry, below-kind}
use Rattle.page_tree.proofs.EnterLemmas.{named-held}
use Rattle.page_tree.proofs.MoveLemmas.{other-stays, other-below}
use Rattle.page_tree.proofs.CostLemmas.{pow-pos, pow-step}
use Rattle.page_tree.proofs.ChildLemmas.{entry-step, set-page, set-pages}

below-back : (old new : List Node) (k link n : ℕ) → ((m : ℕ) → IsBelow old k link m → entries_of new m ≡ entries_of old m) → IsBelow new k link n → IsBelow old k link n
below-back old new zero link n same way = way
below-back old new (suc k) link n same way =
    ⊎_elim
    (λ here. inl here)
    (λ lower.
    inr (
      lower.0,
      below-back old new k (link_of old link lower.0) n (λ m w. same m (inr (lower.0, w)))
          (subst (λ e. IsBelow new k e n) (link-same old new link lower.0 (λ m is. same m (inl is))) lower.1),
    ))
    way

-- fewer holds may be given up
pub beside-less : (nodes : List Node) (out out' : ℕ → ℕ) (k link : ℕ) → ((n : ℕ) → out' n ≤ out n) → IsBeside nodes out k link → IsBeside nodes out' k link
beside-less nodes out out' k link less beside =
    record {
      level_is = beside.level_is;
      above = λ n way. let at = beside.above n way in (at.0, (let le = less at.0 in omega (arith, at.1.0, le), at.1.1));
    }

module _ (top level k : ℕ) (old new : List Node) (frames frames' : List Frame) (out come : ℕ → ℕ) (link : ℕ) (some : 0 < k) (sound : IsSoundTo top old frames) (moves : Moves level old new frames frames' out come) (beside : IsBeside old out k link) where
  kept : (m : ℕ) → IsBelow old k link m → entries_of new m ≡ entries_of old m
  kept m way = let at = beside.above m way in (moves.same at.0 m at.1.0 at.1.1).entries

  pub beside-back : (m : ℕ) → IsBelow new k link m → IsBelow old k link m
  beside-back m way = below-back old new k link m kept way

  pub beside-map : (q : ℕ) → entry_below new k link q ≡ entry_below old k link q
  beside-map q = entry-moved old new k link q kept

  pub beside-moved : IsBeside new come k link
  beside-moved =
      record {
        level_is = λ n is. let at = beside.above n (below-here old k link n some is) in (moves.same at.0 n at.1.0 at.1.1).level_is ∙ beside.level_is n is;
        above = λ n way.
            let at = beside.above n (below-back old new k link n kept way) in
            (at.0, (other-stays top level old new frames frames' out come sound moves at.0 at.1.0, other-below top level old new frames frames' out come sound moves at.0 at.1.0 n at.1.1));
      }

module _ (top level : ℕ) (nodes : List Node) (frames : List Frame) (out : ℕ → ℕ) (link : ℕ) (sound : IsSoundTo top nodes frames) (some : 0 < level) (beside : IsBeside nodes out level link) where
  pub beside-held : (n : ℕ) → link ≡ n + 1 → (level_of nodes n ≡ level) × (0 < count_of nodes n)
  beside-held n is =
      let at = beside.above n (below-here nodes level link n some is) in
      (beside.level_is n is, (below-kind top nodes frames sound (level_of nodes at.0) at.0 n refl (omega (arith, at.1.0)) at.1.1).1.0)

  pub beside-entry : 1 < level → (i : ℕ) → IsBeside nodes out (level - 1) (link_of nodes link i)
  beside-entry up i =
      record {
        level_is = λ n is.
            ⊎_elim
            (λ none. absurd (let z = ap (λ e. link_of nodes e i) none ∙ link_of-none nodes i in omega (arith, z, is)))
            (λ node.
            let at = beside-held node.0 node.1 in
            let entry = sym (link_of-node nodes node.0 i) ∙ ap (λ e. link_of nodes e i) (sym node.1) ∙ is in
            let next = sound.below node.0 i n (omega (arith, at.0, up)) entry in
            omega (arith, next, at.0))
            (zero_or_more link);
        above = λ n way.
            ⊎_elim
            (λ none. absurd (below-none nodes (level - 1) n (subst (λ e. IsBelow nodes (level - 1) e n) (ap (λ e. link_of nodes e i) none ∙ link_of-none nodes i) way)))
            (λ node.
            beside.above n (subst (λ e. IsBelow nodes level e n) (sym node.1) (below-entry nodes level node.0 i n some (subst (λ e. IsBelow nodes (level - 1) e n) (ap (λ e. link_of nodes e i) node.1 ∙ link_of-node nodes node.0 i) way))))
            (zero_or_more link);
      }

-- numbers of nodes

pub cut-none : (level at edge : ℕ) → at ≡ edge → cut_at level at edge ≡ 0
cut-none level at edge is = cond-true (eqb at edge) 0 (level - 1) (eq-eqb at edge is)

pub cut-some : (level at edge : ℕ) → at ≢ edge → cut_at level at edge ≡ level - 1
cut-some level at edge off = cond-false (eqb at edge) 0 (level - 1) (ne_eqb at edge off)

-- one more entry of a node has what a link has for its part of a range
module _ (level : ℕ) (s0 s s' : List Node) (n i from link first end low high w : ℕ) (some : 0 < level) (w_is : w ≡ 32 ^ (level - 1))
    (low_is : low + i * w ≡ max first (i * w)) (high_is : high + i * w ≡ min end (i * w + w)) (link_is : link ≡ link_of s from i)
    (same : (q : ℕ) → entry_below s level from q ≡ entry_below s0 level from q)
    (put_in : (r : ℕ) → low ≤ r → r < high → entry_below s' (level - 1) (entry_of s' n i) r ≡ entry_below s (level - 1) link r)
    (put_out : (r : ℕ) → r < 32 ^ (level - 1) → (r < low) ⊎ (high ≤ r) → entry_below s' (level - 1) (entry_of s' n i) r ≡ entry_below s (level - 1) (entry_of s n i) r)
    (there : (k r : ℕ) → k ≢ i → entry_below s' (level - 1) (entry_of s' n k) r ≡ entry_below s (level - 1) (entry_of s n k) r) where
  -- a page of the entry, by its place there
  place : (q : ℕ) → q / w ≡ i → q ≡ i * w + q % w
  place q at = let split = div-add-mod q w in let e = ap (λ k. w * k) at in omega (arith, split, e)

  inside : (q : ℕ) → q % w < w
  inside q = mod_below q w (let pos = pow-pos (level - 1) in omega (arith, w_is, pos))

  in_w : (q : ℕ) → q / 32 ^ (level - 1) ≡ q / w
  in_w q = ap (λ x. q / x) (sym w_is)

  of_w : (q : ℕ) → q % 32 ^ (level - 1) ≡ q % w
  of_w q = ap (λ x. q % x) (sym w_is)

  -- a page of another entry is as it was
  other-entry : (q : ℕ) → q / w ≢ i → entry_below s' level (n + 1) q ≡ entry_below s level (n + 1) q
  other-entry q off = set-pages level s s' n i (entry_of s' n i) q some refl there (λ is. absurd (off (sym (in_w q) ∙ is)))

  pub range-within : ((q : ℕ) → first ≤ q → q < end → q / 32 ^ (level - 1) < i → entry_below s level (n + 1) q ≡ entry_below s0 level from q) → (q : ℕ) → first ≤ q → q < end → q / 32 ^ (level - 1) < i + 1 → entry_below s' level (n + 1) q ≡ entry_below s0 level from q
  range-within before q from_on below lt =
      ⊎_elim
      (λ here.
      let at = place q here in
      let r = inside q in
      set-page level s' n i q (entry_of s' n i) (entry_below s (level - 1) link (q % w)) some (sym here ∙ sym (in_w q)) refl
      (ap (entry_below s' (level - 1) (entry_of s' n i)) (of_w q) ∙ put_in (q % w) (omega (arith, at, from_on, low_is, r)) (omega (arith, at, below, high_is, r)))
      ∙ ap (λ l. entry_below s (level - 1) l (q % w)) (link_is ∙ ap (link_of s from) (sym here ∙ sym (in_w q)))
      ∙ ap (entry_below s (level - 1) (link_of s from (q / 32 ^ (level - 1)))) (sym (of_w q))
      ∙ sym (entry-step s level from q some)
      ∙ same q)
      (λ off. other-entry q off ∙ before q from_on below (let e = in_w q in omega (arith, lt, off, e)))
      (cases_eq (q / w) i)

  pub range-rest : ((q : ℕ) → q < 32 ^ level → (q < first) ⊎ ((end ≤ q) ⊎ (i ≤ q / 32 ^ (level - 1))) → entry_below s level (n + 1) q ≡ entry_below s0 level (n + 1) q) → (q : ℕ) → q < 32 ^ level → (q < first) ⊎ ((end ≤ q) ⊎ (i + 1 ≤ q / 32 ^ (level - 1))) → entry_below s' level (n + 1) q ≡ entry_below s0 level (n + 1) q
  range-rest before q lt out =
      ⊎_elim
      (λ here.
      let at = place q here in
      let r = inside q in
      let beyond : (q % w < low) ⊎ (high ≤ q % w) = ⊎_elim
      (λ early. inl (omega (arith, at, early, low_is)))
      (λ later. ⊎_elim (λ late. inr (omega (arith, at, late, high_is))) (λ next. absurd (let e = in_w q in omega (arith, next, here, e))) later)
      out in
      set-pages level s s' n i (entry_of s' n i) q some refl there
      (λ is. ap (entry_below s' (level - 1) (entry_of s' n i)) (of_w q) ∙ put_out (q % w) (omega (arith, r, w_is)) beyond ∙ ap (entry_below s (level - 1) (entry_of s n i)) (sym (of_w q)))
      ∙ before q lt (⊎_elim (λ early. inl early) (λ later. ⊎_elim (λ late. inr (inl late)) (λ next. inr (inr (omega (arith, next)))) later) out))
      (λ off. other-entry q off ∙ before q lt (⊎_elim (λ early. inl early) (λ later. ⊎_elim (λ late. inr (inl late)) (λ next. inr (inr (omega (arith, next)))) later) out))
      (cases_eq (q / w) i)

-- an entry of which a range has some pages and not all is above the leaves
pub not-whole : (level first end : ℕ) → (first ≢ 0) ⊎ (end ≢ 32 ^ (level - 1)) → first < end → end ≤ 32 ^ (level - 1) → 1 ≤ level → 1 < level
not-whole level first end why order page some =
    ⊎_elim (λ up. up) (λ low. absurd (let leaf : level - 1 ≡ 0 = omega (arith, low) in let power = ap (λ k. 32 ^ k) leaf in ⊎_elim (λ off. off (omega (arith, power, order, page))) (λ off. off (omega (arith, power, order, page))) why)) (cases_lt 1 level)

pub width-le : (level : ℕ) → 1 ≤ level → level ≤ 3 → (32 ^ (level - 1) ≤ 1024) × (32 ^ level ≤ 32768)
width-le zero some most = absurd (omega (arith, some))
width-le (suc zero) some most = (omega arith, omega arith)
width-le (suc (suc zero)) some most = (omega arith, omega arith)
width-le (suc (suc (suc zero))) some most = (omega arith, omega arith)
width-le (suc (suc (suc (suc k)))) some most = absurd (omega (arith, most))

-- the places of an entry in a range: where it begins, and that it is within
pub record InRange (level first end i w : ℕ) : Type 0 where
  pub within : i * w < end
  pub meets : first < i * w + w
  pub low : i < 32
  pub fits : i * w + w ≤ 32 ^ level

pub in-range : (level first end i w : ℕ) → 1 ≤ level → w ≡ 32 ^ (level - 1) → first / w ≤ i → i < (end - 1) / w + 1 → first < end → end ≤ 32 ^ level → InRange level first end i w
in-range level first end i w some w_is from_on below order page =
    let pos : 0 < w = let p = pow-pos (level - 1) in omega (arith, p, w_is) in
    let step = pow-step level (omega (arith, some)) in
    let split = div-add-mod (end - 1) w in
    let split' = div-add-mod first w in
    let rest = mod_below first w pos in
    let up = mul-le-mul_left w (let le : i ≤ (end - 1) / w = omega (arith, below) in le) in
    let down = mul-le-mul_left w from_on in
    let few : (end - 1) / w < 32 = div_below (end - 1) w 32 pos (omega (arith, order, page, step, w_is)) in
    let most : i < 32 = omega (arith, few, below) in
    let high = mul-le-mul_left w (let le : i + 1 ≤ 32 = omega (arith, most) in le) in
    record {
      within = omega (arith, split, up, order);
      meets = omega (arith, split', rest, down);
      low = most;
      fits = omega (arith, high, step, w_is);
    }

-- an entry between the first and the last one is whole
pub part-whole : (first end i w low high : ℕ) → 0 < w → low + i * w ≡ max first (i * w) → high + i * w ≡ min end (i * w + w) → first / w < i → i + 1 ≤ (end - 1) / w → (low ≡ 0) × (high ≡ w)
part-whole first end i w low high pos low_is high_is past lt =
    let split = div-add-mod first w in
    let rest = mod_below first w pos in
    let up = mul-le-mul_left w (let le : first / w + 1 ≤ i = omega (arith, past) in le) in
    let split' = div-add-mod (end - 1) w in
    let up' = mul-le-mul_left w lt in
    (omega (arith, split, rest, up, low_is), omega (arith, split', up', high_is))

-- the root has no entry for pages past the last
pub root-entries : (level end i w : ℕ) → level ≡ 3 → w ≡ 32 ^ (level - 1) → end ≤ 16384 → i * w < end → i < 16
root-entries level end i w top w_is inside within =
    let width : w ≡ 1024 = w_is ∙ ap (λ l. 32 ^ (l - 1)) top in
    let product = ap (λ x. i * x) width in
    omega (arith, product, inside, within)

-- a cell of a leaf that a link leads to has a held frame
pub named-of : (level : ℕ) (nodes : List Node) (frames : List Frame) (from i link f : ℕ) → IsSoundTo level nodes frames → level ≡ 1 → ((m : ℕ) → from ≡ m + 1 → level_of nodes m ≡ level) → link ≡ link_of nodes from i → link ≡ f + 2 → 0 < frame_count frames f
named-of level nodes frames from i link f sound leaf at link_is is =
    ⊎_elim
    (λ none. absurd (let z = ap (λ e. link_of nodes e i) none ∙ link_of-none nodes i in omega (arith, z, link_is, is)))
    (λ node. named-held level nodes frames node.0 i f sound (at node.0 node.1 ∙ leaf) (sym (link_of-node nodes node.0 i) ∙ ap (λ e. link_of nodes e i) (sym node.1) ∙ sym link_is ∙ is))
    (zero_or_more from)

pub first-or-later : (a i : ℕ) → a ≤ i → (i ≡ a) ⊎ (a < i)
first-or-later a i le = ⊎_elim (λ lt. inr lt) (λ no. inl (omega (arith, no, le))) (cases_lt a i)

-- the places of an entry in a range, from where it begins there
pub part-order : (level first end i w low high : ℕ) → 1 ≤ level → w ≡ 32 ^ (level - 1) → InRange level first end i w → low + i * w ≡ max first (i * w) → high + i * w ≡ min end (i * w + w) → first < end → (low < high) × (high ≤ w)
part-order level first end i w low high some w_is at low_is high_is order =
    let pos : 0 < w = let p = pow-pos (level - 1) in omega (arith, p, w_is) in
    (omega (arith, low_is, high_is, at.within, at.meets, order, pos), omega (arith, high_is))
