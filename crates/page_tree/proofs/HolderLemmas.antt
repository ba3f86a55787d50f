-- A frame is held exactly where some tree has it at some page: ways down, and up from an entry to a tree.
use Rattle.std.proofs.Common.{◌≡◌, ℕ, zero, suc, ◌+◌, ◌-◌, ◌*◌, ◌/◌, ◌%◌, ◌^◌, ◌<◌, ◌≤◌, ◌⊎◌, inl, inr, ⊎_elim, Bool, true, cond, eqb, List, [], ◌∷◌, length, get_or, refl, sym, ◌∙◌, ap, arith, subst}
use Rattle.std.proofs.lemmas.List.Sums.{get_or-le-sum_by, sum_by-cons}
use Rattle.std.proofs.lemmas.Bool.{cases_eq, cases_lt, ne_eqb, cond-false}
use Rattle.std.proofs.Math.Nat.{div-add-mod, mul-le-mul_left}
use Rattle.std.proofs.lemmas.Nat.{div_below, le-div}
use Rattle.frame_pool.specs.Frame.{Frame, frame_count}
use Rattle.node_pool.specs.Nodes.{Node, no_node, node_at, count_of, level_of, entry_of}
use Rattle.page_tree.specs.declared.cell.PageCell.TheVariants.{Absent, Zero}
use Rattle.page_tree.specs.declared.cell.PageCell.TheVariants as cell
use Rattle.page_tree.specs.Pages.{cell_of, entries_of, entry_below, entry_for, link_of, page}
use Rattle.page_tree.specs.Sound.{IsTree, is_inner, is_leaf, is_root, one_if, trees_at, uses, uses_in}
use Rattle.page_tree.specs.Tied.{having, IsTied, HasFrame}
use Rattle.page_tree.proofs.UsesLemmas.{inner-is, leaf-is, one_if-le, tested, uses_in-no, uses_in-yes}
use Rattle.pool_base.proofs.Totals.{one_if-no, one_if-yes}
use Rattle.page_tree.proofs.CostLemmas.{pow-step}
use Rattle.page_tree.proofs.LinkLemmas.{link_of-node}
use Rattle.page_tree.proofs.NodeLemmas.{entry-none}
use Rattle.page_tree.proofs.ChildLemmas.{entry-leaf, entry-step}
use Rattle.page_tree.proofs.TreeLemmas.{entry-held, entry_for-cell_of, trees-is, trees-root}
use Rattle.pool_base.proofs.Totals.{none_or_some, total-list, total-some}

-- an entry that says that a page has a frame
pub entry-of_cell : (e f : ℕ) → cell_of e ≡ cell.Frame (record { n = f }) → e ≡ f + 2
entry-of_cell e f is = sym (entry_for-cell_of e) ∙ ap entry_for is

pub cell_of-entry : (e f : ℕ) → e ≡ f + 2 → cell_of e ≡ cell.Frame (record { n = f })
cell_of-entry e f is =
    cond-false (eqb e 0) Absent (cond (eqb e 1) Zero (cell.Frame (record { n = e - 2 }))) (ne_eqb e 0 (λ z. absurd (omega (arith, z, is))))
    ∙ cond-false (eqb e 1) Zero (cell.Frame (record { n = e - 2 })) (ne_eqb e 1 (λ z. absurd (omega (arith, z, is))))
    ∙ ap (λ n. cell.Frame (record { n = n })) (omega (arith, is))

-- on the way down from a link of a level by a page, what is met at a lower level, and the page there
abbrev pub IsMet : List Node → ℕ → ℕ → ℕ → ℕ → ℕ → ℕ → Type 0
IsMet nodes zero low link p at r = ⊥
IsMet nodes (suc k) low link p at r =
    ((suc k ≡ low) × ((link ≡ at) × (p ≡ r))) ⊎ ((low < suc k) × IsMet nodes k low (link_of nodes link (p / 32 ^ k)) (p % 32 ^ k) at r)

-- it is one
pub met-same : (nodes : List Node) (level low link p a r b s : ℕ) → IsMet nodes level low link p a r → IsMet nodes level low link p b s → (a ≡ b) × (r ≡ s)
met-same nodes zero low link p a r b s one two = absurd one
met-same nodes (suc k) low link p a r b s one two =
    ⊎_elim
    (λ here. ⊎_elim (λ there. (sym here.1.0 ∙ there.1.0, sym here.1.1 ∙ there.1.1)) (λ lower. absurd (omega (arith, here.0, lower.0))) two)
    (λ lower. ⊎_elim (λ there. absurd (omega (arith, there.0, lower.0))) (λ lower'. met-same nodes k low (link_of nodes link (p / 32 ^ k)) (p % 32 ^ k) a r b s lower.1 lower'.1) two)
    one

-- the page is the same one
pub met-entry : (nodes : List Node) (level low link p a r : ℕ) → IsMet nodes level low link p a r → entry_below nodes level link p ≡ entry_below nodes low a r
unfolding entry_below
met-entry nodes zero low link p a r met = absurd met
met-entry nodes (suc k) low link p a r met =
    ⊎_elim
    (λ here. (λ x. entry_below nodes (here.0 x) (here.1.0 x) (here.1.1 x)))
    (λ lower. met-entry nodes k low (link_of nodes link (p / 32 ^ k)) (p % 32 ^ k) a r lower.1)
    met

-- one level lower
pub met-next : (nodes : List Node) (level low link p a r : ℕ) → 0 < low → IsMet nodes level (low + 1) link p a r → IsMet nodes level low link p (link_of nodes a (r / 32 ^ low)) (r % 32 ^ low)
met-next nodes zero low link p a r some met = absurd met
met-next nodes (suc k) low link p a r some met =
    ⊎_elim
    (λ here.
    let same : k ≡ low = omega (arith, here.0) in
    inr (
      omega (arith, same),
      subst (λ j. IsMet nodes k low (link_of nodes link (p / 32 ^ j)) (p % 32 ^ j) (link_of nodes a (r / 32 ^ low)) (r % 32 ^ low)) (sym same)
          (subst (λ l. IsMet nodes k low (link_of nodes l (p / 32 ^ low)) (p % 32 ^ low) (link_of nodes a (r / 32 ^ low)) (r % 32 ^ low)) (sym here.1.0)
          (subst (λ q. IsMet nodes k low (link_of nodes a (q / 32 ^ low)) (q % 32 ^ low) (link_of nodes a (r / 32 ^ low)) (r % 32 ^ low)) (sym here.1.1)
          (met-here nodes k low (link_of nodes a (r / 32 ^ low)) (r % 32 ^ low) same some))),
    ))
    (λ lower. inr (omega (arith, lower.0), met-next nodes k low (link_of nodes link (p / 32 ^ k)) (p % 32 ^ k) a r some lower.1))
    met
  where
    met-here : (nodes : List Node) (k low link p : ℕ) → k ≡ low → 0 < low → IsMet nodes k low link p link p
    met-here nodes zero low link p same some = absurd (omega (arith, same, some))
    met-here nodes (suc k) low link p same some = inl (same, (refl, refl))

pub met-top : (nodes : List Node) (level link p : ℕ) → 0 < level → IsMet nodes level level link p link p
met-top nodes zero link p some = absurd (omega (arith, some))
met-top nodes (suc k) link p some = inl (refl, (refl, refl))

-- a place in an entry of a node, by its parts
pub part-of : (w i r : ℕ) → r < w → ((i * w + r) / w ≡ i) × ((i * w + r) % w ≡ r)
part-of w i r lt =
    let up : i ≤ (i * w + r) / w = le-div i (i * w + r) w (omega (arith, lt)) (omega arith) in
    let down : (i * w + r) / w < i + 1 = div_below (i * w + r) w (i + 1) (omega (arith, lt)) (omega (arith, lt)) in
    let is : (i * w + r) / w ≡ i = omega (arith, up, down) in
    let split = div-add-mod (i * w + r) w in
    let e = ap (λ x. w * x) is in
    (is, omega (arith, split, e))

module _ (nodes : List Node) (frames : List Frame) (trees : List ℕ) (tied : IsTied nodes frames trees) where
  -- a tree of the trees is empty or has a held root
  pub root-there : (k root : ℕ) → k < length trees → get_or trees k 0 ≡ root + 1 → 0 < trees_at nodes root
  root-there k root lt is =
      let one = one_if-yes (get_or trees k 0) (root + 1) is in
      let some = get_or-le-sum_by (λ tree. is_root tree root) trees k 0 lt in
      let rooted = tied.rooted root in
      omega (arith, one, some, rooted)

  pub root-held : (k root : ℕ) → k < length trees → get_or trees k 0 ≡ root + 1 → (level_of nodes root ≡ 3) × (0 < count_of nodes root)
  root-held k root lt is =
      let some = root-there k root lt is in
      let level = trees-root nodes root some in
      let trees_is = trees-is nodes root level in
      (level, omega (arith, some, trees_is))

  -- a frame that a tree has is held
  pub held-frame : (f : ℕ) → HasFrame nodes trees f → 0 < frame_count frames f
  unfolding page
  held-frame f has =
      entry-held 3 nodes frames tied.sound 3 (get_or trees has.k 0) has.p f (omega arith) (λ n is. root-held has.k n has.inside is) (entry-of_cell _ f has.has)

  pub held-level : (n i e : ℕ) → entry_of nodes n i ≡ e → 0 < e → 0 < count_of nodes n
  held-level n i e at some = ⊎_elim (λ free. absurd (let clean = tied.sound.clean n i free in omega (arith, clean, at, some))) (λ held. held) (none_or_some (count_of nodes n))

  -- an entry that is in use is at some place
  pub entry-used : (test : ℕ → Bool) (e : ℕ) → 0 < uses test nodes e → (n : ℕ) × ((j : ℕ) × ((test (level_of nodes n) ≡ true) × ((j < 32) × (entry_of nodes n j ≡ e))))
  unfolding uses
  entry-used test e some =
      let places = total-list (uses_in test e) nodes no_node in
      let node = total-some (λ n. uses_in test e (node_at nodes n)) (length nodes) (omega (arith, some, places)) in
      ⊎_elim
      (λ is.
      let own = uses_in-yes test e (node_at nodes node.0) is in
      let entries = total-list (λ x. one_if (eqb x e)) (entries_of nodes node.0) 0 in
      let entry = total-some (λ j. one_if (eqb (entry_of nodes node.0 j) e)) (length (entries_of nodes node.0)) (omega (arith, own, entries, node.1.1)) in
      let shape = tied.sound.shape node.0 node.1.0 in
      (node.0, (entry.0, (is, (omega (arith, shape, entry.1.0), one-of (entry_of nodes node.0 entry.0) entry.1.1)))))
      (λ off. absurd (let none = uses_in-no test e (node_at nodes node.0) off in omega (arith, none, node.1.1)))
      (tested (test (level_of nodes node.0)))
    where
      one-of : (x : ℕ) → 0 < one_if (eqb x e) → x ≡ e
      one-of x more = ⊎_elim (λ is. is) (λ off. absurd (let zero_is = one_if-no x e off in omega (arith, zero_is, more))) (cases_eq x e)

  -- a tree that has a root
  pub tree-of_root : (n a : ℕ) → 0 < is_root (get_or trees a 0) n → get_or trees a 0 ≡ n + 1
  tree-of_root n a some = ⊎_elim (λ is. is) (λ off. absurd (let none = one_if-no (get_or trees a 0) (n + 1) off in omega (arith, none, some))) (cases_eq (get_or trees a 0) (n + 1))

  -- where a tree has the pages of a node of a level
  pub record Spot (level m : ℕ) : Type 0 where
    pub k : ℕ
    pub b : ℕ
    pub inside : k < length trees
    pub below : (r : ℕ) → r < 32 ^ level → 0 < entry_below nodes level (m + 1) r → b + r < 16384
    pub met : (r : ℕ) → r < 32 ^ level → IsMet nodes 3 level (get_or trees k 0) (b + r) (m + 1) r

  spot-root : (m : ℕ) → level_of nodes m ≡ 3 → 0 < count_of nodes m → Spot 3 m
  spot-root m level held =
      let trees_is = trees-is nodes m level in
      let rooted = tied.rooted m in
      let places = total-list (λ tree. is_root tree m) trees 0 in
      let at = total-some (λ k. is_root (get_or trees k 0) m) (length trees) (omega (arith, places, rooted, trees_is, held)) in
      record {
        k = at.0;
        b = 0;
        inside = at.1.0;
        below = λ r lt some.
            ⊎_elim (λ low. omega (arith, low))
            (λ past.
            let narrow = tied.sound.narrow m (r / 1024) level (le-div 16 r 1024 (omega arith) (omega (arith, past))) in
            let none = entry-step nodes 3 (m + 1) r (omega arith) ∙ ap (λ l. entry_below nodes 2 l (r % 1024)) (link_of-node nodes m (r / 1024) ∙ narrow) ∙ entry-none nodes 2 (r % 1024) in
            absurd (omega (arith, none, some)))
            (cases_lt r 16384);
        met = λ r lt. inl (refl, (tree-of_root m at.0 at.1.1, omega arith));
      }

  -- from a node to what its entry leads to
  spot-child : (level m n i : ℕ) → 0 < level → i < 32 → entry_of nodes n i ≡ m + 1 → Spot (level + 1) n → Spot level m
  spot-child level m n i some inside leads spot =
      let step = pow-step (level + 1) (omega arith) in
      let less : level + 1 - 1 ≡ level = omega arith in
      let power = ap (λ l. 32 ^ l) less in
      let within : (r : ℕ) → r < 32 ^ level → i * 32 ^ level + r < 32 ^ (level + 1) = λ r lt.
      let up = mul-le-mul_left (32 ^ level) (let le : i + 1 ≤ 32 = omega (arith, inside) in le) in omega (arith, step, power, up, lt) in
      let same : (r : ℕ) → r < 32 ^ level → entry_below nodes (level + 1) (n + 1) (i * 32 ^ level + r) ≡ entry_below nodes level (m + 1) r = λ r lt.
      let part = part-of (32 ^ level) i r lt in
      entry-step nodes (level + 1) (n + 1) (i * 32 ^ level + r) (omega arith)
      ∙ ap (λ l. entry_below nodes l (link_of nodes (n + 1) ((i * 32 ^ level + r) / 32 ^ l)) ((i * 32 ^ level + r) % 32 ^ l)) less
      ∙ (λ x. entry_below nodes level (link_of nodes (n + 1) (part.0 x)) (part.1 x))
      ∙ ap (λ l. entry_below nodes level l r) (link_of-node nodes n i ∙ leads) in
      record {
        k = spot.k;
        b = spot.b + i * 32 ^ level;
        inside = spot.inside;
        below = λ r lt named. let e = same r lt in let lower = spot.below (i * 32 ^ level + r) (within r lt) (omega (arith, e, named)) in omega (arith, lower);
        met = λ r lt.
            let part = part-of (32 ^ level) i r lt in
            let sum : spot.b + (i * 32 ^ level + r) ≡ spot.b + i * 32 ^ level + r = omega arith in
            let lower = met-next nodes 3 level (get_or trees spot.k 0) (spot.b + (i * 32 ^ level + r)) (n + 1) (i * 32 ^ level + r) some (spot.met (i * 32 ^ level + r) (within r lt)) in
            subst (λ p. IsMet nodes 3 level (get_or trees spot.k 0) p (m + 1) r) sum
            (subst (λ l. IsMet nodes 3 level (get_or trees spot.k 0) (spot.b + (i * 32 ^ level + r)) l r) (ap (link_of nodes (n + 1)) part.0 ∙ link_of-node nodes n i ∙ leads)
            (subst (λ x. IsMet nodes 3 level (get_or trees spot.k 0) (spot.b + (i * 32 ^ level + r)) (link_of nodes (n + 1) ((i * 32 ^ level + r) / 32 ^ level)) x) part.1 lower));
      }

  -- each held node is at some place of a tree
  pub spot-of : (up level m : ℕ) → level + up ≡ 3 → 0 < level → level_of nodes m ≡ level → 0 < count_of nodes m → Spot level m
  spot-of zero level m sum some is held =
      let top : level ≡ 3 = omega (arith, sum) in
      subst (λ l. Spot l m) (sym top) (spot-root m (is ∙ top) held)
  spot-of (suc up) level m sum some is held =
      let counted = tied.sound.counted m (omega (arith, is, sum)) in
      let at = entry-used is_inner (m + 1) (omega (arith, counted, held)) in
      let n = at.0 in
      let next = tied.sound.below n at.1.0 m (inner-is (level_of nodes n) at.1.1.0) at.1.1.1.1 in
      spot-child level m n at.1.0 some at.1.1.1.0 at.1.1.1.1
      (spot-of up (level + 1) n (omega (arith, sum)) (omega arith) (omega (arith, next, is)) (held-level n at.1.0 (m + 1) at.1.1.1.1 (omega arith)))

  -- a tree has what an entry of a leaf has
  pub spot-page : (level m r f : ℕ) (spot : Spot level m) → r < 32 ^ level → entry_below nodes level (m + 1) r ≡ f + 2 → (spot.b + r < 16384) × (page nodes (get_or trees spot.k 0) (spot.b + r) ≡ cell.Frame (record { n = f }))
  unfolding page
  spot-page level m r f spot lt is = (
    spot.below r lt (omega (arith, is)),
    cell_of-entry (entry_below nodes 3 (get_or trees spot.k 0) (spot.b + r)) f (met-entry nodes 3 level (get_or trees spot.k 0) (spot.b + r) (m + 1) r (spot.met r lt) ∙ is),
  )

  pub leaf-entry : (n j : ℕ) → entry_below nodes 1 (n + 1) j ≡ entry_of nodes n j
  leaf-entry n j = entry-leaf nodes (n + 1) j ∙ link_of-node nodes n j

  pub holder-of_held : (f : ℕ) → 0 < frame_count frames f → HasFrame nodes trees f
  holder-of_held f held =
      let exact = tied.exact f in
      let at = entry-used is_leaf (f + 2) (omega (arith, exact, held)) in
      let spot = spot-of 2 1 at.0 refl (omega arith) (leaf-is (level_of nodes at.0) at.1.1.0) (held-level at.0 at.1.0 (f + 2) at.1.1.1.1 (omega arith)) in
      let has = spot-page 1 at.0 at.1.0 f spot (omega (arith, at.1.1.1.0)) (leaf-entry at.0 at.1.0 ∙ at.1.1.1.1) in
      record { k = spot.k; p = spot.b + at.1.0; inside = spot.inside; below = has.0; has = has.1 }

pub having-le : (trees : List ℕ) (n : ℕ) → having trees n ≤ length trees
having-le [] n = omega arith
having-le (t ∷ ts) n = let tail = having-le ts n in omega (arith, sum_by-cons (λ tree. is_root tree n) t ts, tail, one_if-le (eqb t (n + 1)))

-- each of the trees is a tree of the store
pub tied-tree : (nodes : List Node) (frames : List Frame) (trees : List ℕ) (i : ℕ) → IsTied nodes frames trees → i < length trees → length trees ≤ 65536 → IsTree nodes (get_or trees i 0)
tied-tree nodes frames trees i tied lt few n is =
    let some = root-there nodes frames trees tied i n lt is in
    let most = having-le trees n in
    let rooted = tied.rooted n in
    (some, omega (arith, rooted, most, few))
