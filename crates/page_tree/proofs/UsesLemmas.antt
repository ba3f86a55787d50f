-- How often entries are in use: what a change of one node, or of one entry, does to it.
use Rattle.std.proofs.Common.{◌≡◌, ◌≢◌, ℕ, suc, ◌+◌, ◌*◌, ◌<◌, ◌≤◌, ◌⊎◌, inl, inr, ⊎_elim, Bool, true, false, cond, eqb, List, [], ◌∷◌, length, get_or, set, refl, sym, ◌∙◌, ap, arith, get_or-set_other, get_or-set_same}
use Rattle.std.specs.List.{count_by}
use Rattle.std.proofs.lemmas.List.{get_or_past, set_past}
use Rattle.std.proofs.lemmas.List.Sums.{sum_by-cons, sum_by-set, get_or-le-sum_by, count_by-le-length}
use Rattle.std.proofs.lemmas.Bool.{cases_eq, cases_lt, eq-eqb, ne_eqb, cond-true, cond-false, lt-ltb, le-ltb}
use Rattle.node_pool.specs.Nodes.{Node, no_node, node_at, count_of, level_of, entry_of, enter, entered, free_of}
use Rattle.page_tree.specs.Pages.{entries_of}
use Rattle.pool_base.proofs.Totals.{one_if-no, one_if-yes}
use Rattle.page_tree.specs.Sound.{uses_in, uses, one_if, is_leaf, is_inner}

pub one_if-le : (b : Bool) → one_if b ≤ 1
one_if-le true = omega arith
one_if-le false = omega arith

-- a test passes or not
pub tested : (b : Bool) → (b ≡ true) ⊎ (b ≡ false)
tested true = inl refl
tested false = inr refl

pub uses_in-same : (test : ℕ → Bool) (e : ℕ) (a b : Node) → a.level ≡ b.level → a.entries ≡ b.entries → uses_in test e a ≡ uses_in test e b
uses_in-same test e a b l es = ap (λ x. cond (test x) (count_by (λ y. eqb y e) a.entries) 0) l ∙ ap (λ xs. cond (test b.level) (count_by (λ x. eqb x e) xs) 0) es

pub uses_in-yes : (test : ℕ → Bool) (e : ℕ) (a : Node) → test a.level ≡ true → uses_in test e a ≡ count_by (λ x. eqb x e) a.entries
uses_in-yes test e a l = cond-true (test a.level) (count_by (λ x. eqb x e) a.entries) 0 l

pub uses_in-no : (test : ℕ → Bool) (e : ℕ) (a : Node) → test a.level ≡ false → uses_in test e a ≡ 0
uses_in-no test e a l = cond-false (test a.level) (count_by (λ x. eqb x e) a.entries) 0 l

-- an entry that is at no place of a list is not counted there
pub count_by-none : (es : List ℕ) (e : ℕ) → ((i : ℕ) → i < length es → get_or es i 0 ≢ e) → count_by (λ x. eqb x e) es ≡ 0
count_by-none [] e h = refl
count_by-none (x ∷ xs) e h =
    let head = one_if-no x e (h 0 (omega arith)) in
    let tail = count_by-none xs e (λ i lt. h (suc i) (omega (arith, lt))) in
    omega (arith, sum_by-cons (λ x. one_if (eqb x e)) x xs, head, tail)

uses_in-none : (test : ℕ → Bool) (e : ℕ) (a : Node) → (test a.level ≡ true → (i : ℕ) → get_or a.entries i 0 ≢ e) → uses_in test e a ≡ 0
uses_in-none test e a h =
    ⊎_elim (λ l. uses_in-yes test e a l ∙ count_by-none a.entries e (λ i _. h l i)) (λ l. uses_in-no test e a l) (tested (test a.level))

-- an entry that no node that passes has is not in use
pub uses-none : (test : ℕ → Bool) (nodes : List Node) (e : ℕ) → ((n i : ℕ) → test (level_of nodes n) ≡ true → entry_of nodes n i ≢ e) → uses test nodes e ≡ 0
unfolding uses
uses-none test [] e h = refl
uses-none test (node ∷ nodes) e h =
    let head = uses_in-none test e node (λ l i. h 0 i l) in
    let tail = uses-none test nodes e (λ n i l. h (suc n) i l) in
    omega (arith, sum_by-cons (uses_in test e) node nodes, head, tail)

-- a node's entries stay, and its level too unless they are all 0
pub uses-renode : (test : ℕ → Bool) (nodes : List Node) (m : ℕ) (node : Node) (e : ℕ) → 0 < e → m < length nodes → node.entries ≡ entries_of nodes m → (node.level ≡ level_of nodes m) ⊎ ((i : ℕ) → entry_of nodes m i ≡ 0) → uses test (set nodes m node) e ≡ uses test nodes e
unfolding uses
uses-renode test nodes m node e pos lt same kind =
    let change = sum_by-set (uses_in test e) nodes m node no_node lt in
    let own : uses_in test e node ≡ uses_in test e (node_at nodes m) =
    ⊎_elim
    (λ l. uses_in-same test e node (node_at nodes m) l same)
    (λ zeros.
    let old = uses_in-none test e (node_at nodes m) (λ _ i is. let z = zeros i in absurd (omega arith)) in
    let new = uses_in-none test e node (λ _ i is. let z = zeros i in let s = ap (λ es. get_or es i 0) same in absurd (omega arith)) in
    new ∙ sym old)
    kind in
    omega (arith, change, own)

-- one entry of a node that passes is another
pub uses-enter : (test : ℕ → Bool) (nodes : List Node) (n i v e : ℕ) → n < length nodes → test (level_of nodes n) ≡ true → i < length (entries_of nodes n) → uses test (enter nodes n i v) e + one_if (eqb (entry_of nodes n i) e) ≡ uses test nodes e + one_if (eqb v e)
unfolding uses
uses-enter test nodes n i v e lt l inside =
    let node = entered (node_at nodes n) i v in
    let change = sum_by-set (uses_in test e) nodes n node no_node lt in
    let new = uses_in-yes test e node l in
    let old = uses_in-yes test e (node_at nodes n) l in
    let entry = sum_by-set (λ x. one_if (eqb x e)) (entries_of nodes n) i v 0 inside in
    omega (arith, change, new, old, entry)

pub uses-enter_other : (test : ℕ → Bool) (nodes : List Node) (n i v e : ℕ) → n < length nodes → test (level_of nodes n) ≡ false → uses test (enter nodes n i v) e ≡ uses test nodes e
unfolding uses
uses-enter_other test nodes n i v e lt l =
    let node = entered (node_at nodes n) i v in
    let change = sum_by-set (uses_in test e) nodes n node no_node lt in
    let new = uses_in-no test e node l in
    let old = uses_in-no test e (node_at nodes n) l in
    omega (arith, change, new, old)

-- what stands at some place stands within
pub inside-entries : (es : List ℕ) (i : ℕ) → 0 < get_or es i 0 → i < length es
inside-entries es i pos = ⊎_elim (λ lt. lt) (λ past. let at = get_or_past es i 0 past in absurd (omega arith)) (cases_lt i (length es))

pub inside-level : (nodes : List Node) (n : ℕ) → 0 < level_of nodes n → n < length nodes
inside-level nodes n pos = ⊎_elim (λ lt. lt) (λ past. let at = ap (λ node. node.level) (get_or_past nodes n no_node past) in absurd (omega (arith, at, pos))) (cases_lt n (length nodes))

pub inside-count : (nodes : List Node) (n : ℕ) → 0 < count_of nodes n → n < length nodes
inside-count nodes n pos = ⊎_elim (λ lt. lt) (λ past. let at = ap (λ node. node.count) (get_or_past nodes n no_node past) in absurd (omega (arith, at, pos))) (cases_lt n (length nodes))

-- an entry that a node that passes has is in use
pub uses-some : (test : ℕ → Bool) (nodes : List Node) (n i e : ℕ) → 0 < level_of nodes n → test (level_of nodes n) ≡ true → entry_of nodes n i ≡ e → 0 < e → 0 < uses test nodes e
unfolding uses
uses-some test nodes n i e some l is pos =
    let inside = inside-entries (entries_of nodes n) i (omega (arith, is, pos)) in
    let node = get_or-le-sum_by (uses_in test e) nodes n no_node (inside-level nodes n some) in
    let entry = get_or-le-sum_by (λ x. one_if (eqb x e)) (entries_of nodes n) i 0 inside in
    let yes = one_if-yes (entry_of nodes n i) e is in
    let own = uses_in-yes test e (node_at nodes n) l in
    omega (arith, node, entry, yes, own)

-- where each node has at most so many entries, an entry is in use at most so often for each node
pub uses-le : (test : ℕ → Bool) (nodes : List Node) (k e : ℕ) → ((n : ℕ) → n < length nodes → length (entries_of nodes n) ≤ k) → uses test nodes e ≤ length nodes * k
unfolding uses
uses-le test [] k e h = omega arith
uses-le test (node ∷ nodes) k e h =
    let tail = uses-le test nodes k e (λ n lt. h (suc n) (omega (arith, lt))) in
    let head : uses_in test e node ≤ k = ⊎_elim (λ l. omega (arith, uses_in-yes test e node l, count_by-le-length (λ x. eqb x e) node.entries, h 0 (omega arith))) (λ l. omega (arith, uses_in-no test e node l)) (tested (test node.level)) in
    omega (arith, sum_by-cons (uses_in test e) node nodes, head, tail)

-- levels

pub leaf-yes : (l : ℕ) → l ≡ 1 → is_leaf l ≡ true
leaf-yes l is = eq-eqb l 1 is

pub leaf-no : (l : ℕ) → 1 < l → is_leaf l ≡ false
leaf-no l up = ne_eqb l 1 (λ is. absurd (omega (arith, is, up)))

pub inner-yes : (l : ℕ) → 1 < l → is_inner l ≡ true
inner-yes l up = lt-ltb 1 l up

pub inner-no : (l : ℕ) → l ≤ 1 → is_inner l ≡ false
inner-no l low = le-ltb 1 l low

pub leaf-is : (l : ℕ) → is_leaf l ≡ true → l ≡ 1
leaf-is l passes = ⊎_elim (λ is. is) (λ off. absurd (let fails = ne_eqb l 1 off in cc (fails, passes))) (cases_eq l 1)

pub inner-is : (l : ℕ) → is_inner l ≡ true → 1 < l
inner-is l passes = ⊎_elim (λ lt. lt) (λ le. absurd (let fails = le-ltb 1 l le in cc (fails, passes))) (cases_lt 1 l)

-- places after one node is put

pub at-here : (nodes : List Node) (m : ℕ) (node : Node) → m < length nodes → node_at (set nodes m node) m ≡ node
at-here nodes m node lt = get_or-set_same nodes m node no_node lt

pub at-there : (nodes : List Node) (m x : ℕ) (node : Node) → x ≢ m → node_at (set nodes m node) x ≡ node_at nodes x
at-there nodes m x node apart = get_or-set_other nodes m x node no_node apart

-- free nodes

pub free_of-set : (nodes : List Node) (m : ℕ) (node : Node) → m < length nodes → free_of (set nodes m node) + one_if (eqb (count_of nodes m) 0) ≡ free_of nodes + one_if (eqb node.count 0)
free_of-set nodes m node lt = sum_by-set (λ x. one_if (eqb x.count 0)) nodes m node no_node lt

pub free_of-enter : (nodes : List Node) (n i v : ℕ) → free_of (enter nodes n i v) ≡ free_of nodes
free_of-enter nodes n i v =
    ⊎_elim
    (λ lt. let change = free_of-set nodes n (entered (node_at nodes n) i v) lt in omega (arith, change))
    (λ past. ap (λ ns. free_of ns) (set_past nodes n (entered (node_at nodes n) i v) past))
    (cases_lt n (length nodes))
