-- Trees that are open from a page on: the empty one, later pages, and what does not touch them.
use Rattle.std.proofs.Common.{◌≡◌, ◌≢◌, ℕ, zero, suc, ◌+◌, ◌-◌, ◌*◌, ◌/◌, ◌%◌, ◌^◌, ◌<◌, ◌≤◌, ◌⊎◌, inl, inr, ⊎_elim, cond, eqb, List, refl, sym, ◌∙◌, ap, arith, subst}
use Rattle.std.proofs.lemmas.Bool.{cases_eq, eq-eqb, ne_eqb, cond-true, cond-false}
use Rattle.std.proofs.Math.Nat.{div-add-mod, div-mul-le_self}
use Rattle.std.proofs.lemmas.Nat.{le-div}
use Rattle.node_pool.specs.Nodes.{Node, count_of}
use Rattle.page_tree.specs.Changes.{IsBelow}
use Rattle.page_tree.specs.Open.{IsOpen, IsOpenBelow, entries_passed}
use Rattle.page_tree.specs.Pages.{entries_of, link_of}
use Rattle.page_tree.specs.Short.{edge_below, edge_short, link_short}
use Rattle.page_tree.proofs.CostLemmas.{pow-pos}
use Rattle.page_tree.proofs.LinkLemmas.{link-same, root-moved, link_short-le}

-- nothing is open

pub open-none : (nodes : List Node) (level link p : ℕ) → link ≡ 0 → IsOpenBelow nodes level link p
unfolding IsOpenBelow
open-none nodes zero link p none = none
open-none nodes (suc level) link p none = inl none

pub open-empty : (nodes : List Node) (p : ℕ) → IsOpen nodes 0 p
open-empty nodes p = open-none nodes 3 0 p refl

-- an open link that is not nothing leads to an owned node without later entries, and goes on
pub record Goes (nodes : List Node) (level link p : ℕ) : Type 0 where
  pub some : 0 < p
  pub own : link_short nodes link ≡ 0
  pub later : (i : ℕ) → p / 32 ^ (level - 1) < i → link_of nodes link i ≡ 0
  pub way : IsOpenBelow nodes (level - 1) (link_of nodes link (p / 32 ^ (level - 1))) (p % 32 ^ (level - 1))

pub open-cases : (nodes : List Node) (level link p : ℕ) → 0 < level → IsOpenBelow nodes level link p → (link ≡ 0) ⊎ Goes nodes level link p
unfolding IsOpenBelow
open-cases nodes zero link p up is_open = absurd (omega (arith, up))
open-cases nodes (suc k) link p up is_open =
    let less : k ≡ suc k - 1 = omega arith in
    ⊎_elim
    (λ none. inl none)
    (λ goes.
    inr (record {
      some = goes.0;
      own = goes.1.0;
      later = subst (λ l. (i : ℕ) → p / 32 ^ l < i → link_of nodes link i ≡ 0) less goes.1.1.0;
      way = subst (λ l. IsOpenBelow nodes l (link_of nodes link (p / 32 ^ l)) (p % 32 ^ l)) less goes.1.1.1;
    }))
    is_open

pub open-goes : (nodes : List Node) (level link p : ℕ) → 0 < level → Goes nodes level link p → IsOpenBelow nodes level link p
unfolding IsOpenBelow
open-goes nodes zero link p up goes = absurd (omega (arith, up))
open-goes nodes (suc k) link p up goes =
    let less : suc k - 1 ≡ k = omega arith in
    inr (
      goes.some,
      (
        goes.own,
        (
          subst (λ l. (i : ℕ) → p / 32 ^ l < i → link_of nodes link i ≡ 0) less goes.later,
          subst (λ l. IsOpenBelow nodes l (link_of nodes link (p / 32 ^ l)) (p % 32 ^ l)) less goes.way,
        ),
      ),
    )

-- where a link is open from its first page on it leads to nothing
pub open-first : (nodes : List Node) (level link p : ℕ) → p ≡ 0 → IsOpenBelow nodes level link p → link ≡ 0
unfolding IsOpenBelow
open-first nodes zero link p begins is_open = is_open
open-first nodes (suc k) link p begins is_open = ⊎_elim (λ none. none) (λ goes. absurd (omega (arith, goes.0, begins))) is_open

open-below-later : (nodes : List Node) (level link p q : ℕ) → p ≤ q → IsOpenBelow nodes level link p → IsOpenBelow nodes level link q
unfolding IsOpenBelow
open-below-later nodes zero link p q le is_open = is_open
open-below-later nodes (suc k) link p q le is_open =
    ⊎_elim
    (λ none. inl none)
    (λ goes.
    let order = div-order p q (32 ^ k) (pow-pos k) le in
    inr (
      omega (arith, goes.0, le),
      (
        goes.1.0,
        (
          (λ i past. goes.1.1.0 i (omega (arith, order, past))),
          ⊎_elim
              (λ same.
              subst (λ j. IsOpenBelow nodes k (link_of nodes link j) (q % 32 ^ k)) same
              (open-below-later nodes k (link_of nodes link (p / 32 ^ k)) (p % 32 ^ k) (q % 32 ^ k) (mod-order p q (32 ^ k) le same) goes.1.1.1))
              (λ off. open-none nodes k (link_of nodes link (q / 32 ^ k)) (q % 32 ^ k) (goes.1.1.0 (q / 32 ^ k) (omega (arith, order, off))))
              (cases_eq (p / 32 ^ k) (q / 32 ^ k)),
        ),
      ),
    ))
    is_open
  where
    div-order : (p q w : ℕ) → 0 < w → p ≤ q → p / w ≤ q / w
    div-order p q w pos le = let down = div-mul-le_self p w in le-div (p / w) q w pos (omega (arith, down, le))

    mod-order : (p q w : ℕ) → p ≤ q → p / w ≡ q / w → p % w ≤ q % w
    mod-order p q w le same = let a = div-add-mod p w in let b = div-add-mod q w in let e = ap (λ x. w * x) same in omega (arith, a, b, e, le)

pub open-later : (nodes : List Node) (tree p q : ℕ) → p ≤ q → IsOpen nodes tree p → IsOpen nodes tree q
open-later nodes tree p q le is_open = open-below-later nodes 3 tree p q le is_open

-- what keeps the nodes below an open link keeps it so

pub open-moved : (old new : List Node) (k link p : ℕ) → ((m : ℕ) → IsBelow old k link m → (entries_of new m ≡ entries_of old m) × (count_of new m ≡ count_of old m)) → IsOpenBelow old k link p → IsOpenBelow new k link p
unfolding IsOpenBelow
open-moved old new zero link p same is_open = is_open
open-moved old new (suc k) link p same is_open =
    let links : (i : ℕ) → link_of new link i ≡ link_of old link i = λ i. link-same old new link i (λ m is. (same m (inl is)).0) in
    ⊎_elim
    (λ none. inl none)
    (λ goes.
    inr (
      goes.0,
      (
        root-moved old new link (λ m is. (same m (inl is)).1) ∙ goes.1.0,
        (
          (λ i past. links i ∙ goes.1.1.0 i past),
          subst (λ l. IsOpenBelow new k l (p % 32 ^ k)) (sym (links (p / 32 ^ k)))
              (open-moved old new k (link_of old link (p / 32 ^ k)) (p % 32 ^ k) (λ m w. same m (inr (p / 32 ^ k, w))) goes.1.1.1),
        ),
      ),
    ))
    is_open

pub edge-moved : (old new : List Node) (k link p : ℕ) → ((m : ℕ) → IsBelow old k link m → (entries_of new m ≡ entries_of old m) × (count_of new m ≡ count_of old m)) → edge_below new k link p ≡ edge_below old k link p
unfolding edge_below
edge-moved old new zero link p same = refl
edge-moved old new (suc k) link p same =
    let root = root-moved old new link (λ m is. (same m (inl is)).1) in
    let links = link-same old new link (p / 32 ^ k) (λ m is. (same m (inl is)).0) in
    let rest = edge-moved old new k (link_of old link (p / 32 ^ k)) (p % 32 ^ k) (λ m w. same m (inr (p / 32 ^ k, w))) in
    ap (λ x. cond (eqb p 0) 0 x) (ap (λ x. x + edge_below new k (link_of new link (p / 32 ^ k)) (p % 32 ^ k)) root ∙ ap (λ x. link_short old link + x) (ap (λ l. edge_below new k l (p % 32 ^ k)) links ∙ rest))

-- numbers of nodes on the way to an edge

pub edge-first : (nodes : List Node) (k link p : ℕ) → p ≡ 0 → edge_below nodes k link p ≡ 0
unfolding edge_below
edge-first nodes zero link p begins = refl
edge-first nodes (suc k) link p begins = cond-true (eqb p 0) 0 (link_short nodes link + edge_below nodes k (link_of nodes link (p / 32 ^ k)) (p % 32 ^ k)) (eq-eqb p 0 begins)

pub edge-step : (nodes : List Node) (level link p : ℕ) → 0 < level → p ≢ 0 → edge_below nodes level link p ≡ link_short nodes link + edge_below nodes (level - 1) (link_of nodes link (p / 32 ^ (level - 1))) (p % 32 ^ (level - 1))
unfolding edge_below
edge-step nodes zero link p up inner = absurd (omega (arith, up))
edge-step nodes (suc k) link p up inner =
    let less : k ≡ suc k - 1 = omega arith in
    cond-false (eqb p 0) 0 (link_short nodes link + edge_below nodes k (link_of nodes link (p / 32 ^ k)) (p % 32 ^ k)) (ne_eqb p 0 inner)
    ∙ ap (λ l. link_short nodes link + edge_below nodes l (link_of nodes link (p / 32 ^ l)) (p % 32 ^ l)) less

edge-le : (nodes : List Node) (k link p : ℕ) → edge_below nodes k link p ≤ k
unfolding edge_below
edge-le nodes zero link p = omega arith
edge-le nodes (suc k) link p =
    ⊎_elim
    (λ begins. let none = edge-first nodes (suc k) link p begins in omega (arith, none))
    (λ inner.
    let all = cond-false (eqb p 0) 0 (link_short nodes link + edge_below nodes k (link_of nodes link (p / 32 ^ k)) (p % 32 ^ k)) (ne_eqb p 0 inner) in
    let root = link_short-le nodes link in
    let rest = edge-le nodes k (link_of nodes link (p / 32 ^ k)) (p % 32 ^ k) in
    omega (arith, all, root, rest))
    (cases_eq p 0)

pub edge_short-first : (nodes : List Node) (tree p : ℕ) → p ≡ 0 → edge_short nodes tree p ≡ link_short nodes tree
unfolding edge_short
edge_short-first nodes tree p begins = cond-true (eqb p 0) (link_short nodes tree) (edge_below nodes 3 tree p) (eq-eqb p 0 begins)

pub edge_short-inner : (nodes : List Node) (tree p : ℕ) → p ≢ 0 → edge_short nodes tree p ≡ edge_below nodes 3 tree p
unfolding edge_short
edge_short-inner nodes tree p inner = cond-false (eqb p 0) (link_short nodes tree) (edge_below nodes 3 tree p) (ne_eqb p 0 inner)

edge-bounds : (nodes : List Node) (tree p : ℕ) → (link_short nodes tree ≤ edge_short nodes tree p) × (edge_short nodes tree p ≤ link_short nodes tree + 2)
edge-bounds nodes tree p =
    ⊎_elim
    (λ begins. let is = edge_short-first nodes tree p begins in (omega (arith, is), omega (arith, is)))
    (λ inner.
    let is = edge_short-inner nodes tree p inner ∙ edge-step nodes 3 tree p (omega arith) inner in
    let rest = edge-le nodes 2 (link_of nodes tree (p / 1024)) (p % 1024) in
    (omega (arith, is), omega (arith, is, rest)))
    (cases_eq p 0)

-- where a range begins later, few more nodes are taken
pub edges-later : (nodes : List Node) (tree p q : ℕ) → edge_short nodes tree q ≤ edge_short nodes tree p + 2
edges-later nodes tree p q = let a = edge-bounds nodes tree p in let b = edge-bounds nodes tree q in omega (arith, a.0, b.1)

pub passed-later : (p q : ℕ) → p ≤ q → entries_passed p ≤ entries_passed q + 31
passed-later p q le = omega (arith, le)
