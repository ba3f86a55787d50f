-- How many nodes a change of a tree takes at most.
use Rattle.std.proofs.Common.{◌≡◌, ℕ, ◌+◌, ◌≤◌, ⊎_elim, cond, eqb, ◌&&◌, Bool, true, false, List, refl, arith}
use Rattle.std.proofs.lemmas.Bool.{cases_eq}
use Rattle.node_pool.specs.Nodes.{Node}
use Rattle.page_tree.specs.declared.store.TheConstants.{ROOT_LEVEL}
use Rattle.page_tree.specs.Short.{clear_short, cut_at, page_short, range_short, link_short}
use Rattle.page_tree.proofs.LinkLemmas.{link_short-cases, short-le}
use Rattle.page_tree.proofs.ChildLemmas.{short-whole}
use Rattle.page_tree.proofs.RangeLemmas.{cut-none, cut-some}
use Rattle.page_tree.proofs.RangeShort.{range-le}

pub page_short-le : (nodes : List Node) (tree p : ℕ) → page_short nodes tree p ≤ ROOT_LEVEL
page_short-le nodes tree p = short-le nodes 3 tree p

cut-le : (at edge : ℕ) → cut_at 3 at edge ≤ 2
cut-le at edge = ⊎_elim (λ is. let c = cut-none 3 at edge is in omega (arith, c)) (λ off. let c = cut-some 3 at edge off in omega (arith, c)) (cases_eq at edge)

pub range_short-le : (nodes : List Node) (tree from to : ℕ) → range_short nodes tree from to ≤ link_short nodes tree + 4
range_short-le nodes tree from to = omega (arith, range-le nodes 3 tree from to, cut-le from 0, cut-le to 32768)

either-le : (b : Bool) (n m : ℕ) → n ≤ m → cond b 0 n ≤ m
either-le true n m le = omega arith
either-le false n m le = le

pub clear_short-le : (nodes : List Node) (tree from to : ℕ) → clear_short nodes tree from to ≤ link_short nodes tree + 4
clear_short-le nodes tree from to = either-le (eqb from 0 && eqb to 16384) (range_short nodes tree from to) (link_short nodes tree + 4) (range_short-le nodes tree from to)

-- for all pages none is taken
pub clear_short-all : (nodes : List Node) (tree : ℕ) → clear_short nodes tree 0 16384 ≡ 0
clear_short-all nodes tree = refl

-- where no node on the way to a page is taken, the root is not
pub root-alone : (nodes : List Node) (tree p : ℕ) → page_short nodes tree p ≡ 0 → link_short nodes tree ≡ 0
root-alone nodes tree p own =
    ⊎_elim (λ alone. alone.0) (λ short. absurd (let all = short-whole 3 nodes tree p (omega arith) short in omega (arith, all, own))) (link_short-cases nodes tree)
