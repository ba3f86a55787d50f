-- How many nodes are free, where the held roots are those of the trees.
use Rattle.std.proofs.Common.{◌≡◌, ℕ, zero, suc, ◌+◌, ◌*◌, ◌<◌, ◌≤◌, ⊎_elim, Bool, true, cond, eqb, List, [], ◌∷◌, length, get_or, ◌∙◌, ap, arith}
use Rattle.std.specs.List.{count_by}
use Rattle.std.proofs.Math.Nat.{mul-le-mul_left}
use Rattle.std.proofs.lemmas.List.{get_or_past}
use Rattle.std.proofs.lemmas.List.Sums.{sum_by-cons}
use Rattle.std.proofs.lemmas.Bool.{cases_eq, cases_lt, cond-false, cond-true, eq-eqb, ne_eqb}
use Rattle.frame_pool.specs.Frame.{Frame}
use Rattle.node_pool.specs.Nodes.{Node, no_node, node_at, count_of, level_of, entry_of, free_of}
use Rattle.page_tree.specs.declared.store.TheConstants.{TREE_NODES}
use Rattle.page_tree.specs.Pages.{entries_of}
use Rattle.page_tree.specs.Sound.{IsSound, one_if, is_inner, is_root, leading_to, trees_at, uses, uses_in}
use Rattle.page_tree.specs.Tied.{having, IsTied}
use Rattle.page_tree.proofs.UsesLemmas.{count_by-none, inner-is, tested, uses-none, uses_in-no, uses_in-yes}
use Rattle.pool_base.proofs.Totals.{one_if-yes}
use Rattle.page_tree.proofs.TreeLemmas.{trees-is}
use Rattle.pool_base.proofs.Totals.{total, total-le, total-same, total-zero, total-one, total-add, total-times, total-swap, total-list, total-once, none_or_some}

-- nodes of this level
abbrev at_level : ℕ → ℕ → Bool
at_level l level = eqb level l

-- each tree has at most one root
having-total : (trees : List ℕ) (n : ℕ) → total (λ k. having trees k) n ≤ length trees
having-total [] n = let z = total-zero n in omega (arith, z)
having-total (t ∷ ts) n =
    let parts = total-same (λ k. having (t ∷ ts) k) (λ k. is_root t k + having ts k) n (λ k _. sum_by-cons (λ tree. is_root tree k) t ts) in
    let sums = total-add (λ k. is_root t k) (λ k. having ts k) n in
    let one = total-once t n in
    let rest = having-total ts n in
    omega (arith, parts, sums, one, rest)

-- each entry leads to at most one node, and entries from one on to none
entries-total : (es : List ℕ) (m n : ℕ) → ((i : ℕ) → m ≤ i → get_or es i 0 ≡ 0) → total (λ k. count_by (λ x. eqb x (k + 1)) es) n ≤ m
entries-total [] m n none = let z = total-zero n in omega (arith, z)
entries-total (e ∷ es) zero n none =
    let parts = total-same (λ k. count_by (λ x. eqb x (k + 1)) (e ∷ es)) (λ k. 0) n (λ k _. count_by-none (e ∷ es) (k + 1) (λ i _ is. let z = none i (omega arith) in absurd (omega (arith, z, is)))) in
    let z = total-zero n in
    omega (arith, parts, z)
entries-total (e ∷ es) (suc m) n none =
    let parts = total-same (λ k. count_by (λ x. eqb x (k + 1)) (e ∷ es)) (λ k. one_if (eqb e (k + 1)) + count_by (λ x. eqb x (k + 1)) es) n (λ k _. sum_by-cons (λ x. one_if (eqb x (k + 1))) e es) in
    let sums = total-add (λ k. one_if (eqb e (k + 1))) (λ k. count_by (λ x. eqb x (k + 1)) es) n in
    let one = total-once e n in
    let rest = entries-total es m n (λ i le. none (suc i) (omega (arith, le))) in
    omega (arith, parts, sums, one, rest)

-- what one node of a level leads to: at most so many nodes where it is held, as often as this says
level-total : (nodes : List Node) (frames : List Frame) (l width held r n : ℕ) → IsSound nodes frames → (level_of nodes r ≡ l → (i : ℕ) → width ≤ i → entry_of nodes r i ≡ 0) → (level_of nodes r ≡ l → 0 < count_of nodes r → 1 ≤ held) → total (λ k. uses_in (at_level l) (k + 1) (node_at nodes r)) n ≤ width * held
level-total nodes frames l width held r n sound narrow some =
    ⊎_elim
    (λ here.
    let passes = eq-eqb (level_of nodes r) l here in
    ⊎_elim
    (λ free.
    let none = total-same (λ k. uses_in (at_level l) (k + 1) (node_at nodes r)) (λ k. 0) n (λ k _. uses_in-yes (at_level l) (k + 1) (node_at nodes r) passes ∙ count_by-none (entries_of nodes r) (k + 1) (λ i _ is. let c = sound.clean r i free in absurd (omega (arith, c, is)))) in
    let z = total-zero n in
    omega (arith, none, z))
    (λ is_held.
    let same = total-same (λ k. uses_in (at_level l) (k + 1) (node_at nodes r)) (λ k. count_by (λ x. eqb x (k + 1)) (entries_of nodes r)) n (λ k _. uses_in-yes (at_level l) (k + 1) (node_at nodes r) passes) in
    let most = entries-total (entries_of nodes r) width n (narrow here) in
    let one = some here is_held in
    let product = mul-le-mul_left width one in
    omega (arith, same, most, product))
    (none_or_some (count_of nodes r)))
    (λ off.
    let none = total-same (λ k. uses_in (at_level l) (k + 1) (node_at nodes r)) (λ k. 0) n (λ k _. uses_in-no (at_level l) (k + 1) (node_at nodes r) (ne_eqb (level_of nodes r) l off)) in
    let z = total-zero n in
    omega (arith, none, z))
    (cases_eq (level_of nodes r) l)

-- what all nodes of a level lead to
levels-total : (nodes : List Node) (frames : List Frame) (l width n : ℕ) (held : ℕ → ℕ) → IsSound nodes frames → ((r : ℕ) → level_of nodes r ≡ l → (i : ℕ) → width ≤ i → entry_of nodes r i ≡ 0) → ((r : ℕ) → level_of nodes r ≡ l → 0 < count_of nodes r → 1 ≤ held r) → total (λ k. uses (at_level l) nodes (k + 1)) n ≤ width * total held (length nodes)
unfolding uses
levels-total nodes frames l width n held sound narrow some =
    let lists = total-same (λ k. uses (at_level l) nodes (k + 1)) (λ k. total (λ r. uses_in (at_level l) (k + 1) (node_at nodes r)) (length nodes)) n (λ k _. total-list (uses_in (at_level l) (k + 1)) nodes no_node) in
    let swapped = total-swap (λ k r. uses_in (at_level l) (k + 1) (node_at nodes r)) n (length nodes) in
    let each = total-le (λ r. total (λ k. uses_in (at_level l) (k + 1) (node_at nodes r)) n) (λ r. width * held r) (length nodes) (λ r lt. level-total nodes frames l width (held r) r n sound (narrow r) (some r)) in
    let times = total-times width held (length nodes) in
    omega (arith, lists, swapped, each, times)

-- a node that is led to is led to by roots, or by nodes one level lower
leading-le : (nodes : List Node) (frames : List Frame) (k : ℕ) → IsSound nodes frames → leading_to nodes k ≤ uses (at_level 3) nodes (k + 1) + uses (at_level 2) nodes (k + 1)
unfolding uses
leading-le nodes frames k sound =
    let a = total-list (uses_in is_inner (k + 1)) nodes no_node in
    let b = total-list (uses_in (at_level 3) (k + 1)) nodes no_node in
    let c = total-list (uses_in (at_level 2) (k + 1)) nodes no_node in
    let sums = total-add (λ r. uses_in (at_level 3) (k + 1) (node_at nodes r)) (λ r. uses_in (at_level 2) (k + 1) (node_at nodes r)) (length nodes) in
    let each = total-le (λ r. uses_in is_inner (k + 1) (node_at nodes r)) (λ r. uses_in (at_level 3) (k + 1) (node_at nodes r) + uses_in (at_level 2) (k + 1) (node_at nodes r)) (length nodes) (λ r _. node-le r) in
    omega (arith, a, b, c, sums, each)
  where
    inner-le : (r l : ℕ) → level_of nodes r ≡ l → uses_in is_inner (k + 1) (node_at nodes r) ≤ uses_in (at_level l) (k + 1) (node_at nodes r)
    inner-le r l is =
        ⊎_elim
        (λ inner. let x = uses_in-yes is_inner (k + 1) (node_at nodes r) inner in let y = uses_in-yes (at_level l) (k + 1) (node_at nodes r) (eq-eqb (level_of nodes r) l is) in omega (arith, x, y))
        (λ low. let x = uses_in-no is_inner (k + 1) (node_at nodes r) low in omega (arith, x))
        (tested (is_inner (level_of nodes r)))

    node-le : (r : ℕ) → uses_in is_inner (k + 1) (node_at nodes r) ≤ uses_in (at_level 3) (k + 1) (node_at nodes r) + uses_in (at_level 2) (k + 1) (node_at nodes r)
    node-le r =
        ⊎_elim
        (λ root. let le = inner-le r 3 root in omega (arith, le))
        (λ off.
        ⊎_elim
        (λ middle. let le = inner-le r 2 middle in omega (arith, le))
        (λ off'.
        ⊎_elim
        (λ inner.
        ⊎_elim
        (λ free. let none = uses_in-yes is_inner (k + 1) (node_at nodes r) inner ∙ count_by-none (entries_of nodes r) (k + 1) (λ i _ is. let c = sound.clean r i free in absurd (omega (arith, c, is))) in omega (arith, none))
        (λ held. absurd (let l = sound.levels r held in let up = inner-is (level_of nodes r) inner in omega (arith, l.1, up, off, off')))
        (none_or_some (count_of nodes r)))
        (λ low. let none = uses_in-no is_inner (k + 1) (node_at nodes r) low in omega (arith, none))
        (tested (is_inner (level_of nodes r))))
        (cases_eq (level_of nodes r) 2))
        (cases_eq (level_of nodes r) 3)

-- how often a node between the roots and the leaves is held
abbrev middle_at : List Node → ℕ → ℕ
middle_at nodes n = cond (eqb (level_of nodes n) 2) (count_of nodes n) 0

middle-le : (nodes : List Node) (frames : List Frame) (k : ℕ) → IsSound nodes frames → middle_at nodes k ≤ uses (at_level 3) nodes (k + 1)
middle-le nodes frames k sound =
    ⊎_elim
    (λ here.
    let count = cond-true (eqb (level_of nodes k) 2) (count_of nodes k) 0 (eq-eqb (level_of nodes k) 2 here) in
    let counted = sound.counted k (omega (arith, here)) in
    let le = leading-le nodes frames k sound in
    let none = uses-none (at_level 2) nodes (k + 1) (λ n i passes is. let l = level-is (level_of nodes n) 2 passes in let next = sound.below n i k (omega (arith, l)) is in absurd (omega (arith, l, next, here))) in
    omega (arith, count, counted, le, none))
    (λ off. let count = cond-false (eqb (level_of nodes k) 2) (count_of nodes k) 0 (ne_eqb (level_of nodes k) 2 off) in omega (arith, count))
    (cases_eq (level_of nodes k) 2)
  where
    level-is : (l m : ℕ) → eqb l m ≡ true → l ≡ m
    level-is l m passes = ⊎_elim (λ is. is) (λ off. absurd (let fails = ne_eqb l m off in cc (fails, passes))) (cases_eq l m)

-- a node is free, or a root, or entries lead to it
node-kind : (nodes : List Node) (frames : List Frame) (k : ℕ) → IsSound nodes frames → 1 ≤ one_if (eqb (count_of nodes k) 0) + (trees_at nodes k + (uses (at_level 3) nodes (k + 1) + uses (at_level 2) nodes (k + 1)))
node-kind nodes frames k sound =
    ⊎_elim
    (λ free. let one = one_if-yes (count_of nodes k) 0 free in omega (arith, one))
    (λ held.
    ⊎_elim
    (λ root. let trees = trees-is nodes k root in omega (arith, trees, held))
    (λ off. let l = sound.levels k held in let counted = sound.counted k (omega (arith, l.1, off)) in let le = leading-le nodes frames k sound in omega (arith, counted, le, held))
    (cases_eq (level_of nodes k) 3))
    (none_or_some (count_of nodes k))

-- each tree holds at most so many nodes
pub node_bound : (nodes : List Node) (frames : List Frame) (trees : List ℕ) → IsTied nodes frames trees → length nodes ≤ free_of nodes + TREE_NODES * length trees
node_bound nodes frames trees tied =
    let sound = tied.sound in
    let n = length nodes in
    let all = total-one n in
    let kinds = total-le (λ k. 1) (λ k. one_if (eqb (count_of nodes k) 0) + (trees_at nodes k + (uses (at_level 3) nodes (k + 1) + uses (at_level 2) nodes (k + 1)))) n (λ k _. node-kind nodes frames k sound) in
    let parts = total-add (λ k. one_if (eqb (count_of nodes k) 0)) (λ k. trees_at nodes k + (uses (at_level 3) nodes (k + 1) + uses (at_level 2) nodes (k + 1))) n in
    let more = total-add (λ k. trees_at nodes k) (λ k. uses (at_level 3) nodes (k + 1) + uses (at_level 2) nodes (k + 1)) n in
    let both = total-add (λ k. uses (at_level 3) nodes (k + 1)) (λ k. uses (at_level 2) nodes (k + 1)) n in
    let free : free_of nodes ≡ total (λ k. one_if (eqb (count_of nodes k) 0)) n = total-list (λ node. one_if (eqb node.count 0)) nodes no_node in
    let by_roots = levels-total nodes frames 3 16 n (trees_at nodes) sound (λ r root i past. sound.narrow r i root past) (λ r root held. let trees_is = trees-is nodes r root in omega (arith, trees_is, held)) in
    let by_middle = levels-total nodes frames 2 32 n (middle_at nodes) sound (λ r _ i past. past-entries r i past)
    (λ r here held. let count = cond-true (eqb (level_of nodes r) 2) (count_of nodes r) 0 (eq-eqb (level_of nodes r) 2 here) in omega (arith, count, held)) in
    let middle = total-le (middle_at nodes) (λ k. uses (at_level 3) nodes (k + 1)) n (λ k _. middle-le nodes frames k sound) in
    let rooted = total-same (λ k. trees_at nodes k) (λ k. having trees k) n (λ k _. tied.rooted k) in
    let most = having-total trees n in
    omega (arith, all, kinds, parts, more, both, free, by_roots, by_middle, middle, rooted, most)
  where
    past-entries : (r i : ℕ) → 32 ≤ i → entry_of nodes r i ≡ 0
    past-entries r i past =
        ⊎_elim
        (λ lt. let shape = tied.sound.shape r lt in get_or_past (entries_of nodes r) i 0 (omega (arith, shape, past)))
        (λ out. let none = ap (λ y. y.entries) (get_or_past nodes r no_node out) in ap (λ es. get_or es i 0) none)
        (cases_lt r (length nodes))
