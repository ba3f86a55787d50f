-- Places of entries: what is in use twice is at two places, and what is held once is led to from one.
use Rattle.std.proofs.Common.{◌≡◌, ℕ, ◌+◌, ◌<◌, ◌⊎◌, inl, inr, ⊎_elim, Bool, true, cond, eqb, List, length, sym, ◌∙◌, ap, arith}
use Rattle.std.proofs.lemmas.Bool.{cases_eq, cond-false, cond-true}
use Rattle.frame_pool.specs.Frame.{Frame}
use Rattle.node_pool.specs.Nodes.{Node, no_node, node_at, count_of, level_of, entry_of}
use Rattle.page_tree.specs.Pages.{entries_of}
use Rattle.page_tree.specs.Sound.{IsSoundTo, is_inner, one_if, uses, uses_in}
use Rattle.page_tree.proofs.UsesLemmas.{inner-yes, inside-entries, inside-level, tested, uses_in-no, uses_in-yes}
use Rattle.pool_base.proofs.Totals.{IsElsewhere, one_if-no, one_if-yes, total, total-list, total-same, total-zero, total2, total2-two}

-- 1 where an entry of a node that passes is this one
abbrev pub used_at : List Node → (ℕ → Bool) → ℕ → ℕ → ℕ → ℕ
used_at nodes test e n j = cond (test (level_of nodes n)) (one_if (eqb (entry_of nodes n j) e)) 0

pub uses-total : (top : ℕ) (nodes : List Node) (frames : List Frame) (test : ℕ → Bool) (e : ℕ) → IsSoundTo top nodes frames → uses test nodes e ≡ total2 (used_at nodes test e) (length nodes) 32
unfolding uses
uses-total top nodes frames test e sound =
    total-list (uses_in test e) nodes no_node
    ∙ total-same (λ n. uses_in test e (node_at nodes n)) (λ n. total (λ j. used_at nodes test e n j) 32) (length nodes) (λ n lt.
    ⊎_elim
    (λ at.
    uses_in-yes test e (node_at nodes n) at
    ∙ total-list (λ x. one_if (eqb x e)) (entries_of nodes n) 0
    ∙ ap (λ m. total (λ j. one_if (eqb (entry_of nodes n j) e)) m) (sound.shape n lt)
    ∙ total-same (λ j. one_if (eqb (entry_of nodes n j) e)) (λ j. used_at nodes test e n j) 32 (λ j _. sym (cond-true (test (level_of nodes n)) (one_if (eqb (entry_of nodes n j) e)) 0 at)))
    (λ off.
    uses_in-no test e (node_at nodes n) off
    ∙ sym (total-zero 32)
    ∙ total-same (λ j. 0) (λ j. used_at nodes test e n j) 32 (λ j _. sym (cond-false (test (level_of nodes n)) (one_if (eqb (entry_of nodes n j) e)) 0 off)))
    (tested (test (level_of nodes n))))

pub used-yes : (nodes : List Node) (test : ℕ → Bool) (e n j : ℕ) → test (level_of nodes n) ≡ true → entry_of nodes n j ≡ e → used_at nodes test e n j ≡ 1
used-yes nodes test e n j at is = cond-true (test (level_of nodes n)) (one_if (eqb (entry_of nodes n j) e)) 0 at ∙ one_if-yes (entry_of nodes n j) e is

pub used-from : (nodes : List Node) (test : ℕ → Bool) (e n j : ℕ) → 0 < used_at nodes test e n j → (test (level_of nodes n) ≡ true) × (entry_of nodes n j ≡ e)
used-from nodes test e n j some =
    ⊎_elim
    (λ at. ⊎_elim (λ is. (at, is)) (λ off. absurd (let none = one_if-no (entry_of nodes n j) e off in let same = cond-true (test (level_of nodes n)) (one_if (eqb (entry_of nodes n j) e)) 0 at in omega (arith, none, same, some))) (cases_eq (entry_of nodes n j) e))
    (λ off. absurd (let none = cond-false (test (level_of nodes n)) (one_if (eqb (entry_of nodes n j) e)) 0 off in omega (arith, none, some)))
    (tested (test (level_of nodes n)))

-- the same place, or another one
pub same-place : (a b c d : ℕ) → ((c ≡ a) × (d ≡ b)) ⊎ IsElsewhere a b c d
same-place a b c d = ⊎_elim (λ is. ⊎_elim (λ is'. inl (is, is')) (λ off. inr (inr (is, off))) (cases_eq d b)) (λ off. inr (inl off)) (cases_eq c a)

-- an entry that is not 0 is one of 32
pub place-low : (top : ℕ) (nodes : List Node) (frames : List Frame) → IsSoundTo top nodes frames → (n i : ℕ) → 0 < level_of nodes n → 0 < entry_of nodes n i → i < 32
place-low top nodes frames sound n i level some =
    let inside = inside-entries (entries_of nodes n) i some in
    let shape = sound.shape n (inside-level nodes n level) in
    omega (arith, inside, shape)

-- two places of entries that lead to one node, which is held once, are one
pub one-place : (top : ℕ) (nodes : List Node) (frames : List Frame) → IsSoundTo top nodes frames → (m a i b j : ℕ) → count_of nodes m ≡ 1 → 1 < level_of nodes a → 1 < level_of nodes b → entry_of nodes a i ≡ m + 1 → entry_of nodes b j ≡ m + 1 → (b ≡ a) × (j ≡ i)
one-place top nodes frames sound m a i b j once up_a up_b leads_a leads_b =
    ⊎_elim
    (λ same. same)
    (λ apart.
    let led = sound.led m in
    let sums = uses-total top nodes frames is_inner (m + 1) sound in
    let one = used-yes nodes is_inner (m + 1) a i (inner-yes (level_of nodes a) up_a) leads_a in
    let two = used-yes nodes is_inner (m + 1) b j (inner-yes (level_of nodes b) up_b) leads_b in
    let i_in = place-low top nodes frames sound a i (omega (arith, up_a)) (omega (arith, leads_a)) in
    let j_in = place-low top nodes frames sound b j (omega (arith, up_b)) (omega (arith, leads_b)) in
    let both = total2-two (used_at nodes is_inner (m + 1)) (length nodes) 32 a i b j (inside-level nodes a (omega (arith, up_a))) i_in (inside-level nodes b (omega (arith, up_b))) j_in apart (omega (arith, one)) (omega (arith, two)) in
    absurd (omega (arith, led, sums, both, once)))
    (same-place a i b j)
