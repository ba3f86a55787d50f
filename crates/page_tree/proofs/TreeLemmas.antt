-- What a change of the node that is a tree's root is to all trees.
use Rattle.std.proofs.Common.{◌≡◌, ◌≢◌, ℕ, zero, suc, ◌+◌, ◌-◌, ◌/◌, ◌%◌, ◌^◌, ◌<◌, ⊎_elim, cond, eqb, List, refl, sym, ◌∙◌, ap, arith, subst}
use Rattle.std.proofs.lemmas.Bool.{cases_eq, cases_lt, eq-eqb, ne_eqb, cond-true, cond-false}
use Rattle.frame_pool.specs.Frame.{Frame, frame_count}
use Rattle.node_pool.specs.Nodes.{Node, count_of, level_of}
use Rattle.page_tree.specs.declared.cell.PageCell.{PageCell}
use Rattle.page_tree.specs.declared.cell.PageCell.TheVariants.{Absent, Zero, Frame as Framed}
use Rattle.page_tree.specs.Pages.{cell_of, entry_below, entry_for, link_of, page}
use Rattle.page_tree.specs.Sound.{IsSound, IsSoundTo, IsTree, is_inner, is_root, leading_to, trees_at}
use Rattle.page_tree.specs.Changes.{IsBelow, KeepsMaps, KeepsTrees}
use Rattle.page_tree.specs.Steps.{IsBeside, IsLoose, IsOther, IsOwned, Moves}
use Rattle.page_tree.proofs.UsesLemmas.{inner-is, uses-none}
use Rattle.page_tree.proofs.LinkLemmas.{zero_or_more, is_root-yes, is_root-no, is_root-none, below-none, link_of-node, link_of-none}
use Rattle.page_tree.proofs.EnterLemmas.{named-held}
use Rattle.page_tree.proofs.MoveLemmas.{Moves-with, other-map}
use Rattle.page_tree.proofs.NodeLemmas.{entry-none}

pub trees-is : (nodes : List Node) (n : ℕ) → level_of nodes n ≡ 3 → trees_at nodes n ≡ count_of nodes n
trees-is nodes n l = cond-true (eqb (level_of nodes n) 3) (count_of nodes n) 0 (eq-eqb (level_of nodes n) 3 l)

pub trees-none : (nodes : List Node) (n : ℕ) → level_of nodes n ≢ 3 → trees_at nodes n ≡ 0
trees-none nodes n l = cond-false (eqb (level_of nodes n) 3) (count_of nodes n) 0 (ne_eqb (level_of nodes n) 3 l)

pub trees-root : (nodes : List Node) (n : ℕ) → 0 < trees_at nodes n → level_of nodes n ≡ 3
trees-root nodes n some = ⊎_elim (λ l. l) (λ l. absurd (omega (arith, trees-none nodes n l, some))) (cases_eq (level_of nodes n) 3)

-- a root is led to by nothing
root-free : (nodes : List Node) (frames : List Frame) (n : ℕ) → IsSound nodes frames → level_of nodes n ≡ 3 → leading_to nodes n ≡ 0
root-free nodes frames n sound root =
    uses-none is_inner nodes (n + 1) (λ q i up is.
    let next = sound.below q i n (inner-is (level_of nodes q) up) is in
    ⊎_elim
    (λ held. absurd (let l = sound.levels q held in omega (arith, l.1, next, root)))
    (λ free. absurd (let z = sound.clean q i (omega (arith, free)) in omega (arith, z, is)))
    (cases_lt 0 (count_of nodes q)))

-- a node is held by the trees that have it as their root, and by the entries that lead to it
pub trees-count : (nodes : List Node) (frames : List Frame) (n : ℕ) → IsSound nodes frames → trees_at nodes n + leading_to nodes n ≡ count_of nodes n
trees-count nodes frames n sound =
    ⊎_elim
    (λ root. omega (arith, trees-is nodes n root, root-free nodes frames n sound root))
    (λ off.
    let none = trees-none nodes n off in
    ⊎_elim
    (λ low. omega (arith, none, sound.counted n low))
    (λ high.
    ⊎_elim
    (λ held. absurd (let l = sound.levels n held in omega (arith, l.1, high, off)))
    (λ free. omega (arith, none, sound.led n, free))
    (cases_lt 0 (count_of nodes n)))
    (cases_lt (level_of nodes n) 3))
    (cases_eq (level_of nodes n) 3)

pub tree-loose : (nodes : List Node) (frames : List Frame) (tree : ℕ) → IsSound nodes frames → IsTree nodes tree → IsLoose nodes 3 tree
tree-loose nodes frames tree sound is_tree = λ n is.
    let some = (is_tree n is).0 in
    (trees-root nodes n some, omega (arith, some, trees-count nodes frames n sound))

pub own-tree : (nodes : List Node) (n : ℕ) → IsOwned nodes 3 n → IsTree nodes (n + 1)
own-tree nodes n own = λ m is.
    let same : m ≡ n = omega (arith, is) in
    let trees = ap (trees_at nodes) same ∙ trees-is nodes n own.level_is in
    (omega (arith, trees, own.once), omega (arith, trees, own.once))

module _ (old new : List Node) (frames frames' : List Frame) (left came : ℕ) (sound : IsSound old frames) (sound' : IsSound new frames') (moves : Moves 3 old new frames frames' (is_root left) (is_root came)) where
  other : (t : ℕ) → is_root left t < trees_at old t → IsOther old (is_root left) t
  other t more = let c = trees-count old frames t sound in omega (arith, c, more)

  pub KeepsTrees-moved : KeepsTrees old new left came
  KeepsTrees-moved =
      record {
        size = moves.size;
        roots = λ n. let a = trees-count old frames n sound in let b = trees-count new frames' n sound' in omega (arith, a, b, moves.holds n);
        reached = λ t n more way. (moves.same t n (other t more) (subst (λ k. IsBelow old k (t + 1) n) (sym (trees-root old t (omega (arith, more)))) way)).entries;
      }

  pub KeepsMaps-moved : KeepsMaps old new left
  unfolding page
  KeepsMaps-moved = λ t p more. ap cell_of (other-map 3 3 old new frames frames' (is_root left) (is_root came) sound moves t (other t more) 3 p (trees-root old t (omega (arith, more))))

pub cell_of-entry_for : (cell : PageCell) → cell_of (entry_for cell) ≡ cell
cell_of-entry_for Absent = refl
cell_of-entry_for Zero = refl
cell_of-entry_for (Framed frame) =
    cond-false (eqb (frame.n + 2) 0) Absent (cond (eqb (frame.n + 2) 1) Zero (Framed (record { n = frame.n + 2 - 2 }))) (ne_eqb (frame.n + 2) 0 (λ is. absurd (omega (arith, is)))) ∙ cond-false (eqb (frame.n + 2) 1) Zero (Framed (record { n = frame.n + 2 - 2 })) (ne_eqb (frame.n + 2) 1 (λ is. absurd (omega (arith, is)))) ∙ ap (λ k. Framed (record { n = k })) (omega arith)

pub page-same : (old new : List Node) (tree tree' p : ℕ) → entry_below new 3 tree' p ≡ entry_below old 3 tree p → page new tree' p ≡ page old tree p
unfolding page
page-same old new tree tree' p same = ap cell_of same

pub page-is : (nodes : List Node) (tree p : ℕ) (cell : PageCell) → entry_below nodes 3 tree p ≡ entry_for cell → page nodes tree p ≡ cell
unfolding page
page-is nodes tree p cell same = ap cell_of same ∙ cell_of-entry_for cell

pub page-entry : (nodes : List Node) (tree p : ℕ) {e : ℕ} → e ≡ entry_below nodes 3 tree p → cell_of e ≡ page nodes tree p
unfolding page
page-entry nodes tree p is = ap cell_of is

-- a tree is beside another one, where both are counted at a root that they have in common
pub beside-tree : (nodes : List Node) (frames : List Frame) (left from : ℕ) → IsSound nodes frames → IsTree nodes from → ((n : ℕ) → left ≡ n + 1 → from ≡ n + 1 → 1 < trees_at nodes n) → IsBeside nodes (is_root left) 3 from
beside-tree nodes frames left from sound is_tree both =
    record {
      level_is = λ n is. trees-root nodes n (is_tree n is).0;
      above = λ n way.
          ⊎_elim
          (λ none. absurd (below-none nodes 3 n (subst (λ e. IsBelow nodes 3 e n) none way)))
          (λ root.
          let some = (is_tree root.0 root.1).0 in
          let count = trees-count nodes frames root.0 sound in (
            root.0,
            (
              ⊎_elim
                  (λ mine. let more = both root.0 mine root.1 in let one = is_root-yes left root.0 mine in omega (arith, more, one, count))
                  (λ off. let none = is_root-no left root.0 off in omega (arith, none, some, count))
                  (cases_eq left (root.0 + 1)),
              subst (λ k. IsBelow nodes k (root.0 + 1) n) (sym (trees-root nodes root.0 some)) (subst (λ e. IsBelow nodes 3 e n) root.1 way),
            ),
          ))
          (zero_or_more from);
    }

pub beside-none : (nodes : List Node) (out : ℕ → ℕ) → IsBeside nodes out 3 0
beside-none nodes out = record { level_is = λ n is. absurd (omega (arith, is)); above = λ n way. absurd (below-none nodes 3 n way) }

pub no-tree : (nodes : List Node) → IsTree nodes 0
no-tree nodes = λ n is. absurd (omega (arith, is))

pub page-none : (nodes : List Node) (p : ℕ) → page nodes 0 p ≡ Absent
unfolding page
page-none nodes p = ap cell_of (entry-none nodes 3 p)

pub moves-given : (old new : List Node) (frames frames' : List Frame) (left : ℕ) → Moves 3 old new frames frames' (is_root left) (λ n. 0) → Moves 3 old new frames frames' (is_root left) (is_root 0)
moves-given old new frames frames' left moves = Moves-with 3 old new frames frames' (is_root left) (λ n. 0) (λ n. 0) (is_root left) (is_root 0) moves (λ n. omega arith) (λ n. let z = is_root-none n in omega (arith, z))

pub moves-come : (old new : List Node) (frames frames' : List Frame) (came : ℕ) → Moves 3 old new frames frames' (λ n. 0) (is_root came) → Moves 3 old new frames frames' (is_root 0) (is_root came)
moves-come old new frames frames' came moves = Moves-with 3 old new frames frames' (λ n. 0) (is_root came) (λ n. 0) (is_root 0) (is_root came) moves (λ n. let z = is_root-none n in omega (arith, z)) (λ n. omega arith)

-- a frame that is at a page is held
pub entry-held : (top : ℕ) (nodes : List Node) (frames : List Frame) → IsSoundTo top nodes frames → (k link q f : ℕ) → 0 < k → ((n : ℕ) → link ≡ n + 1 → (level_of nodes n ≡ k) × (0 < count_of nodes n)) → entry_below nodes k link q ≡ f + 2 → 0 < frame_count frames f
unfolding entry_below
entry-held top nodes frames sound zero link q f some at is = absurd (omega (arith, some))
entry-held top nodes frames sound (suc zero) link q f some at is =
    ⊎_elim
    (λ none. absurd (let z = ap (λ e. link_of nodes e (q / 32 ^ 0)) none ∙ link_of-none nodes (q / 32 ^ 0) in omega (arith, z, is)))
    (λ node. named-held top nodes frames node.0 (q / 32 ^ 0) f sound (at node.0 node.1).0 (sym (link_of-node nodes node.0 (q / 32 ^ 0)) ∙ ap (λ e. link_of nodes e (q / 32 ^ 0)) (sym node.1) ∙ is))
    (zero_or_more link)
entry-held top nodes frames sound (suc (suc k)) link q f some at is =
    entry-held top nodes frames sound (suc k) (link_of nodes link (q / 32 ^ suc k)) (q % 32 ^ suc k) f (omega arith)
    (λ n leads.
    ⊎_elim
    (λ none. absurd (let z = ap (λ e. link_of nodes e (q / 32 ^ suc k)) none ∙ link_of-none nodes (q / 32 ^ suc k) in omega (arith, z, leads)))
    (λ node.
    let l = at node.0 node.1 in
    let up : 1 < level_of nodes node.0 = omega (arith, l.0) in
    let e = sym (link_of-node nodes node.0 (q / 32 ^ suc k)) ∙ ap (λ x. link_of nodes x (q / 32 ^ suc k)) (sym node.1) ∙ leads in
    let next = sound.below node.0 (q / 32 ^ suc k) n up e in
    (omega (arith, next, l.0), sound.held node.0 (q / 32 ^ suc k) n up e))
    (zero_or_more link))
    is

-- an entry is that of the cell that it stands for
pub entry_for-cell_of : (e : ℕ) → entry_for (cell_of e) ≡ e
entry_for-cell_of e =
    ⊎_elim
    (λ none. ap entry_for (cond-true (eqb e 0) Absent (cond (eqb e 1) Zero (Framed (record { n = e - 2 }))) (eq-eqb e 0 none)) ∙ sym none)
    (λ some.
    ⊎_elim
    (λ one. ap entry_for (cond-false (eqb e 0) Absent (cond (eqb e 1) Zero (Framed (record { n = e - 2 }))) (ne_eqb e 0 some) ∙ cond-true (eqb e 1) Zero (Framed (record { n = e - 2 })) (eq-eqb e 1 one)) ∙ sym one)
    (λ more. ap entry_for (cond-false (eqb e 0) Absent (cond (eqb e 1) Zero (Framed (record { n = e - 2 }))) (ne_eqb e 0 some) ∙ cond-false (eqb e 1) Zero (Framed (record { n = e - 2 })) (ne_eqb e 1 more)) ∙ omega (arith, some, more))
    (cases_eq e 1))
    (cases_eq e 0)

pub page-named : (nodes : List Node) (tree p : ℕ) (cell : PageCell) → page nodes tree p ≡ cell → entry_for cell ≡ entry_below nodes 3 tree p
unfolding page
page-named nodes tree p cell is = ap entry_for (sym is) ∙ entry_for-cell_of (entry_below nodes 3 tree p)

pub page-held : (nodes : List Node) (frames : List Frame) (tree p f : ℕ) (cell : PageCell) → IsSound nodes frames → IsTree nodes tree → cell ≡ page nodes tree p → entry_for cell ≡ f + 2 → 0 < frame_count frames f
unfolding page
page-held nodes frames tree p f cell sound is_tree is named =
    entry-held 3 nodes frames sound 3 tree p f (omega arith)
    (λ n at. let loose = tree-loose nodes frames tree sound is_tree n at in (loose.0, omega (arith, loose.1)))
    (sym (page-named nodes tree p cell (sym is)) ∙ named)

pub held-tree : (old new : List Node) (tree : ℕ) → IsTree old tree → ((n : ℕ) → tree ≡ n + 1 → trees_at old n + 1 < 2 ^ 31) → KeepsTrees old new 0 tree → IsTree new tree
held-tree old new tree is_tree few keeps = λ n is.
    let roots = keeps.roots n in
    let none = is_root-none n in
    let one = is_root-yes tree n is in
    let f = few n is in
    (omega (arith, roots, none, one), omega (arith, roots, none, one, f))
