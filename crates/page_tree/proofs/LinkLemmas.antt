-- Links, what is below them, and how what they stand for depends on it.
use Rattle.std.proofs.Common.{◌≡◌, ◌≢◌, ℕ, zero, suc, ◌+◌, ◌-◌, ◌/◌, ◌%◌, ◌^◌, ◌<◌, ◌≤◌, ◌⊎◌, inl, inr, ⊎_elim, cond, eqb, List, get_or, refl, sym, ◌∙◌, ap, arith, subst}
use Rattle.std.proofs.lemmas.Bool.{cases_eq, eq-eqb, ne_eqb, cond-true, cond-false}
use Rattle.frame_pool.specs.Frame.{Frame}
use Rattle.node_pool.specs.Nodes.{Node, count_of, level_of, entry_of}
use Rattle.page_tree.specs.Pages.{entries_of, entry_below, link_of}
use Rattle.page_tree.specs.Short.{link_short, short_below}
use Rattle.page_tree.specs.Sound.{IsSoundTo, is_inner, is_root, leading_to}
use Rattle.page_tree.specs.Changes.{IsBelow}
use Rattle.page_tree.proofs.UsesLemmas.{uses-some, inner-yes}
use Rattle.pool_base.proofs.Totals.{one_if-yes, one_if-no}

-- a number is 0 or one more than another
pub zero_or_more : (e : ℕ) → (e ≡ 0) ⊎ ((m : ℕ) × (e ≡ m + 1))
zero_or_more zero = inl refl
zero_or_more (suc m) = inr (m, omega arith)

pub is_root-yes : (link n : ℕ) → link ≡ n + 1 → is_root link n ≡ 1
is_root-yes link n is = one_if-yes link (n + 1) is

pub is_root-no : (link n : ℕ) → link ≢ n + 1 → is_root link n ≡ 0
is_root-no link n off = one_if-no link (n + 1) off

pub is_root-here : (n : ℕ) → is_root (n + 1) n ≡ 1
is_root-here n = one_if-yes (n + 1) (n + 1) refl

pub is_root-there : (n x : ℕ) → x ≢ n → is_root (n + 1) x ≡ 0
is_root-there n x apart = one_if-no (n + 1) (x + 1) (λ is. apart (omega (arith, is)))

pub is_root-none : (x : ℕ) → is_root 0 x ≡ 0
is_root-none x = one_if-no 0 (x + 1) (λ is. absurd (omega (arith, is)))

pub link_of-node : (nodes : List Node) (n i : ℕ) → link_of nodes (n + 1) i ≡ entry_of nodes n i
unfolding link_of
link_of-node nodes n i = cond-false (eqb (n + 1) 0) 0 (entry_of nodes (n + 1 - 1) i) (ne_eqb (n + 1) 0 (λ is. absurd (omega (arith, is)))) ∙ ap (λ x. entry_of nodes x i) (omega arith)

pub link_of-none : (nodes : List Node) (i : ℕ) → link_of nodes 0 i ≡ 0
unfolding link_of
link_of-none nodes i = refl

pub link-same : (old new : List Node) (link i : ℕ) → ((m : ℕ) → link ≡ m + 1 → entries_of new m ≡ entries_of old m) → link_of new link i ≡ link_of old link i
link-same old new link i same =
    ⊎_elim
    (λ none. ap (λ e. link_of new e i) none ∙ link_of-none new i ∙ sym (link_of-none old i) ∙ ap (λ e. link_of old e i) (sym none))
    (λ some. ap (λ e. link_of new e i) some.1 ∙ link_of-node new some.0 i ∙ ap (λ es. get_or es i 0) (same some.0 some.1) ∙ sym (link_of-node old some.0 i) ∙ ap (λ e. link_of old e i) (sym some.1))
    (zero_or_more link)

-- nothing is below nothing
pub below-none : (nodes : List Node) (k n : ℕ) → IsBelow nodes k 0 n → ⊥
below-none nodes zero n way = way
below-none nodes (suc k) n way =
    ⊎_elim
    (λ here. absurd (omega (arith, here)))
    (λ lower. below-none nodes k n (subst (λ e. IsBelow nodes k e n) (link_of-none nodes lower.0) lower.1))
    way

-- a node is below itself
pub below-here : (nodes : List Node) (k link n : ℕ) → 0 < k → link ≡ n + 1 → IsBelow nodes k link n
below-here nodes zero link n some is = absurd (omega (arith, some))
below-here nodes (suc k) link n some is = inl is

-- what is below an entry is below its node
pub below-entry : (nodes : List Node) (k t i n : ℕ) → 0 < k → IsBelow nodes (k - 1) (entry_of nodes t i) n → IsBelow nodes k (t + 1) n
below-entry nodes zero t i n some way = absurd (omega (arith, some))
below-entry nodes (suc k) t i n some way =
    let less : suc k - 1 ≡ k = omega arith in
    inr (i, subst (λ e. IsBelow nodes k e n) (sym (link_of-node nodes t i)) (subst (λ l. IsBelow nodes l (entry_of nodes t i) n) less way))

pub below-moved : (old new : List Node) (k link n : ℕ) → ((m : ℕ) → IsBelow old k link m → entries_of new m ≡ entries_of old m) → IsBelow old k link n → IsBelow new k link n
below-moved old new zero link n same way = way
below-moved old new (suc k) link n same way =
    ⊎_elim
    (λ here. inl here)
    (λ lower.
    inr (
      lower.0,
      subst (λ e. IsBelow new k e n) (sym (link-same old new link lower.0 (λ m is. same m (inl is))))
          (below-moved old new k (link_of old link lower.0) n (λ m w. same m (inr (lower.0, w))) lower.1),
    ))
    way

-- what a link stands for is the same where all below it have the same entries
pub entry-moved : (old new : List Node) (k link q : ℕ) → ((m : ℕ) → IsBelow old k link m → entries_of new m ≡ entries_of old m) → entry_below new k link q ≡ entry_below old k link q
unfolding entry_below
entry-moved old new zero link q same = refl
entry-moved old new (suc k) link q same =
    ap (λ e. entry_below new k e (q % 32 ^ k)) (link-same old new link (q / 32 ^ k) (λ m is. same m (inl is)))
    ∙ entry-moved old new k (link_of old link (q / 32 ^ k)) (q % 32 ^ k) (λ m w. same m (inr (q / 32 ^ k, w)))

pub link_short-none : (nodes : List Node) → link_short nodes 0 ≡ 1
unfolding link_short
link_short-none nodes = refl

pub link_short-node : (nodes : List Node) (n : ℕ) → link_short nodes (n + 1) ≡ cond (eqb (count_of nodes n) 1) 0 1
unfolding link_short
link_short-node nodes n =
    cond-false (eqb (n + 1) 0) 1 (cond (eqb (count_of nodes (n + 1 - 1)) 1) 0 1) (ne_eqb (n + 1) 0 (λ is. absurd (omega (arith, is)))) ∙ ap (λ x. cond (eqb (count_of nodes x) 1) 0 1) (omega arith)

pub link_short-once : (nodes : List Node) (n : ℕ) → count_of nodes n ≡ 1 → link_short nodes (n + 1) ≡ 0
link_short-once nodes n once = link_short-node nodes n ∙ cond-true (eqb (count_of nodes n) 1) 0 1 (eq-eqb (count_of nodes n) 1 once)

pub link_short-shared : (nodes : List Node) (n : ℕ) → count_of nodes n ≢ 1 → link_short nodes (n + 1) ≡ 1
link_short-shared nodes n more = link_short-node nodes n ∙ cond-false (eqb (count_of nodes n) 1) 0 1 (ne_eqb (count_of nodes n) 1 more)

-- what need not be taken is a node that is held once
pub link_short-cases : (nodes : List Node) (link : ℕ) → ((link_short nodes link ≡ 0) × ((n : ℕ) × ((link ≡ n + 1) × (count_of nodes n ≡ 1)))) ⊎ (link_short nodes link ≡ 1)
link_short-cases nodes link =
    ⊎_elim
    (λ none. inr (ap (link_short nodes) none ∙ link_short-none nodes))
    (λ some.
    ⊎_elim
    (λ once. inl (ap (link_short nodes) some.1 ∙ link_short-once nodes some.0 once, (some.0, (some.1, once))))
    (λ more. inr (ap (link_short nodes) some.1 ∙ link_short-shared nodes some.0 more))
    (cases_eq (count_of nodes some.0) 1))
    (zero_or_more link)

pub link_short-le : (nodes : List Node) (link : ℕ) → link_short nodes link ≤ 1
link_short-le nodes link = ⊎_elim (λ own. omega (arith, own.0)) (λ short. omega (arith, short)) (link_short-cases nodes link)

pub short-step : (nodes : List Node) (k link q : ℕ) → link_short nodes link ≡ 0 → short_below nodes (suc k) link q ≡ short_below nodes k (link_of nodes link (q / 32 ^ k)) (q % 32 ^ k)
unfolding short_below
short-step nodes k link q own = cond-true (eqb (link_short nodes link) 0) (short_below nodes k (link_of nodes link (q / 32 ^ k)) (q % 32 ^ k)) (suc k) (eq-eqb (link_short nodes link) 0 own)

pub short-all : (nodes : List Node) (k link q : ℕ) → link_short nodes link ≡ 1 → short_below nodes (suc k) link q ≡ suc k
unfolding short_below
short-all nodes k link q short =
    cond-false (eqb (link_short nodes link) 0) (short_below nodes k (link_of nodes link (q / 32 ^ k)) (q % 32 ^ k)) (suc k) (ne_eqb (link_short nodes link) 0 (λ is. absurd (omega (arith, is, short))))

-- at most the nodes of a way are to be taken
pub short-le : (nodes : List Node) (k link q : ℕ) → short_below nodes k link q ≤ k
unfolding short_below
short-le nodes zero link q = omega arith
short-le nodes (suc k) link q =
    ⊎_elim
    (λ own. let rest = short-le nodes k (link_of nodes link (q / 32 ^ k)) (q % 32 ^ k) in omega (arith, short-step nodes k link q own.0, rest))
    (λ short. omega (arith, short-all nodes k link q short))
    (link_short-cases nodes link)

pub root-moved : (old new : List Node) (link : ℕ) → ((m : ℕ) → link ≡ m + 1 → count_of new m ≡ count_of old m) → link_short new link ≡ link_short old link
root-moved old new link same =
    ⊎_elim
    (λ none. ap (link_short new) none ∙ link_short-none new ∙ sym (link_short-none old) ∙ ap (link_short old) (sym none))
    (λ some. ap (link_short new) some.1 ∙ link_short-node new some.0 ∙ ap (λ c. cond (eqb c 1) 0 1) (same some.0 some.1) ∙ sym (link_short-node old some.0) ∙ ap (link_short old) (sym some.1))
    (zero_or_more link)

-- and so is what is to be taken, where they are held as often too
pub short-moved : (old new : List Node) (k link q : ℕ) → ((m : ℕ) → IsBelow old k link m → (entries_of new m ≡ entries_of old m) × (count_of new m ≡ count_of old m)) → short_below new k link q ≡ short_below old k link q
unfolding short_below
short-moved old new zero link q same = refl
short-moved old new (suc k) link q same =
    let root = root-moved old new link (λ m is. (same m (inl is)).1) in
    ⊎_elim
    (λ own.
    short-step new k link q (root ∙ own.0)
    ∙ ap (λ e. short_below new k e (q % 32 ^ k)) (link-same old new link (q / 32 ^ k) (λ m is. (same m (inl is)).0))
    ∙ short-moved old new k (link_of old link (q / 32 ^ k)) (q % 32 ^ k) (λ m w. same m (inr (q / 32 ^ k, w)))
    ∙ sym (short-step old k link q own.0))
    (λ short. short-all new k link q (root ∙ short) ∙ sym (short-all old k link q short))
    (link_short-cases old link)

module _ (top : ℕ) (nodes : List Node) (frames : List Frame) (sound : IsSoundTo top nodes frames) where
  -- what an entry of a node above the leaves leads to is led to
  pub entry-led : (n i m : ℕ) → 1 < level_of nodes n → entry_of nodes n i ≡ m + 1 → 0 < leading_to nodes m
  entry-led n i m up is = uses-some is_inner nodes n i (m + 1) (omega (arith, up)) (inner-yes (level_of nodes n) up) is (omega arith)

  -- what is below a held node is that node, or led to; and it is held, and no higher
  pub below-kind : (k t n : ℕ) → level_of nodes t ≡ k → 0 < count_of nodes t → IsBelow nodes k (t + 1) n → ((n ≡ t) ⊎ (0 < leading_to nodes n)) × ((0 < count_of nodes n) × (level_of nodes n ≤ k))
  below-kind zero t n level held way = absurd way
  below-kind (suc zero) t n level held way =
      ⊎_elim
      (λ here. let same : n ≡ t = omega (arith, here) in let l = ap (level_of nodes) same in let c = ap (count_of nodes) same in (inl same, (omega (arith, c, held), omega (arith, l, level))))
      (λ lower. absurd lower.1)
      way
  below-kind (suc (suc k)) t n level held way =
      ⊎_elim
      (λ here. let same : n ≡ t = omega (arith, here) in let l = ap (level_of nodes) same in let c = ap (count_of nodes) same in (inl same, (omega (arith, c, held), omega (arith, l, level))))
      (λ lower.
      ⊎_elim
      (λ none. absurd (below-none nodes (suc k) n (subst (λ e. IsBelow nodes (suc k) e n) (link_of-node nodes t lower.0 ∙ none) lower.1)))
      (λ some.
      let up : 1 < level_of nodes t = omega (arith, level) in
      let next = sound.below t lower.0 some.0 up some.1 in
      let rest = below-kind (suc k) some.0 n (omega (arith, next, level)) (sound.held t lower.0 some.0 up some.1) (subst (λ e. IsBelow nodes (suc k) e n) (link_of-node nodes t lower.0 ∙ some.1) lower.1) in
      (⊎_elim (λ is. let lead = entry-led t lower.0 some.0 up some.1 in let same = ap (leading_to nodes) is in inr (omega (arith, lead, same))) (λ lead. inr lead) rest.0, (rest.1.0, omega (arith, rest.1.1))))
      (zero_or_more (entry_of nodes t lower.0)))
      way
