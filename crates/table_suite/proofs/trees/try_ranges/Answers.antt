use Rattle.std.proofs.Common.{ℕ, ◌≡◌, ◌+◌, ◌≤◌, ⊎_elim, List, arith, refl, ap, sym, ◌∙◌}
use Rattle.std.proofs.lemmas.Bool.{cases_eq}
use Rattle.page_tree.specs.Short.{link_short}
use Rattle.page_tree.specs.Sound.{trees_at}
use Rattle.node_pool.specs.Nodes.{Node, count_of, level_of}
use Rattle.page_tree.proofs.LinkLemmas.{link_short-cases}
use Rattle.page_tree.proofs.TreeLemmas.{trees-is, trees-none}
use Rattle.table_suite.proofs.trees.try_ranges.Goals as goal

pub table-init : goal.table-init
table-init g c = record { sound = c.fill.ensures.sound; trees = λ n. refl; room = omega arith }

pub try_range-requires-clause-sound : goal.try_range-requires-clause-sound
try_range-requires-clause-sound g c = c.table.invariant.sound

pub try_range-requires-clause-tree : goal.try_range-requires-clause-tree
try_range-requires-clause-tree g c = λ n is.
    let same = c.table.invariant.trees n in
    let was = c.fill.ensures.tree n is in
    (omega (arith, same, was.0), omega (arith, same, was.1))

pub try_range-requires-clause-few : goal.try_range-requires-clause-few
try_range-requires-clause-few g c = λ n is.
    let same = c.table.invariant.trees n in
    let once = trees-once c.fill.new.store.nodes.all n (ap (λ t. link_short c.fill.new.store.nodes.all t) (sym is) ∙ c.fill.ensures.alone) in
    omega (arith, same, once)
  where
    -- a root that need not be taken is that of one tree
    trees-once : (nodes : List Node) (n : ℕ) → link_short nodes (n + 1) ≡ 0 → trees_at nodes n ≤ 1
    trees-once nodes n own =
        ⊎_elim
        (λ alone.
        let same : n ≡ alone.1.0 = omega (arith, alone.1.1.0) in
        let once = ap (count_of nodes) same in
        ⊎_elim (λ root. let trees = trees-is nodes n root in omega (arith, trees, once, alone.1.1.1)) (λ off. let none = trees-none nodes n off in omega (arith, none)) (cases_eq (level_of nodes n) 3))
        (λ short. absurd (omega (arith, short, own)))
        (link_short-cases nodes (n + 1))

pub try_range-requires-clause-room : goal.try_range-requires-clause-room
try_range-requires-clause-room g c =
    omega (arith, c.table.invariant.room, c.fill.ensures.room, c.in_ok-store.ensures.free)

pub table-preserved : goal.table-preserved
table-preserved g c =
    record {
      sound = c.try_range.ensures.sound;
      trees = λ n. c.try_range.ensures.trees n ∙ c.table.invariant.trees n;
      room = omega (arith, c.table.invariant.room, c.try_range.ensures.room);
    }
