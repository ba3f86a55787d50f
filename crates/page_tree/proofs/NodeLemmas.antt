-- An owned node while what is below it changes, and a copy of a node.
use Rattle.std.proofs.Common.{◌≡◌, ◌≢◌, ℕ, zero, suc, ◌+◌, ◌-◌, ◌/◌, ◌%◌, ◌^◌, ◌<◌, ◌≤◌, ⊎_elim, List, get_or, refl, sym, ◌∙◌, ap, arith, subst}
use Rattle.frame_pool.specs.Frame.{Frame}
use Rattle.node_pool.specs.Nodes.{Node, node_at, count_of, level_of, entry_of, enter}
use Rattle.page_tree.specs.Pages.{entries_of, entry_below}
use Rattle.page_tree.specs.Sound.{IsSoundTo, is_root, leading_to}
use Rattle.page_tree.specs.Changes.{IsBelow}
use Rattle.page_tree.specs.Steps.{IsOwned, IsLoose, IsOther, Moves}
use Rattle.page_tree.proofs.LinkLemmas.{is_root-no, is_root-there, zero_or_more, link_of-node, link_of-none, entry-moved, below-none, below-entry, below-kind}
use Rattle.page_tree.proofs.EnterLemmas.{count-entered, here-entered, level-entered, off-entered, there-entered}
use Rattle.page_tree.proofs.MoveLemmas.{IsSound-low, IsSound-raise, Moves-with, Moves-raise, Moves-trans, other-same, other-map}

-- what is below a link one level lower is not an owned node
pub below-apart : (top level : ℕ) (nodes : List Node) (frames : List Frame) (n link m : ℕ) → IsSoundTo top nodes frames → IsOwned nodes level n → 1 < level → ((y : ℕ) → link ≡ y + 1 → (level_of nodes y ≡ level - 1) × (0 < count_of nodes y)) → IsBelow nodes (level - 1) link m → m ≢ n
below-apart top level nodes frames n link m sound own up at way is =
    ⊎_elim
    (λ none. below-none nodes (level - 1) m (subst (λ e. IsBelow nodes (level - 1) e m) none way))
    (λ some.
    let y = at some.0 some.1 in
    let kind = (below-kind top nodes frames sound (level - 1) some.0 m y.0 y.1 (subst (λ e. IsBelow nodes (level - 1) e m) some.1 way)).0 in
    ⊎_elim
    (λ here. absurd (let l = ap (level_of nodes) (sym here ∙ is) in omega (arith, l, y.0, own.level_is, up)))
    (λ lead. absurd (let f = ap (leading_to nodes) is in omega (arith, f, own.free, lead)))
    kind)
    (zero_or_more link)

-- an owned node stays so under changes below its level
pub own-below : (level low : ℕ) (old new : List Node) (frames frames' : List Frame) (out come : ℕ → ℕ) (n : ℕ) → low < level → IsOwned old level n → Moves low old new frames frames' out come → out n ≡ come n → IsOwned new level n
own-below level low old new frames frames' out come n lt own moves even =
    let same = moves.higher n (omega (arith, own.once)) (omega (arith, lt, own.level_is)) in
    let c = ap (λ y. y.count) same in
    let l = ap (λ y. y.level) same in
    record {
      level_is = l ∙ own.level_is;
      once = c ∙ own.once;
      free = omega (arith, c, moves.holds n, even, own.free);
    }

-- and keeps its entries
pub entries-below : (level low : ℕ) (old new : List Node) (frames frames' : List Frame) (out come : ℕ → ℕ) (n : ℕ) → low < level → IsOwned old level n → Moves low old new frames frames' out come → entries_of new n ≡ entries_of old n
entries-below level low old new frames frames' out come n lt own moves =
    ap (λ y. y.entries) (moves.higher n (omega (arith, own.once)) (omega (arith, lt, own.level_is)))

-- a link that is not at the level of a node is not its
pub not-root : (nodes : List Node) (level low link n : ℕ) → low < level → level_of nodes n ≡ level → ((m : ℕ) → link ≡ m + 1 → level_of nodes m ≡ low) → is_root link n ≡ 0
not-root nodes level low link n lt level_is at = is_root-no link n (λ is. let l = at n is in absurd (omega (arith, l, level_is, lt)))

-- an owned node is loose
pub loose-own : (nodes : List Node) (level n : ℕ) → IsOwned nodes level n → IsLoose nodes level (n + 1)
loose-own nodes level n own = λ m is.
    let same : m ≡ n = omega (arith, is) in
    let l = ap (level_of nodes) same in
    let c = ap (count_of nodes) same in
    let f = ap (leading_to nodes) same in
    (omega (arith, l, own.level_is), omega (arith, c, f, own.once, own.free))

-- and a loose node that is held once is owned
pub own-loose : (nodes : List Node) (level n : ℕ) → IsLoose nodes level (n + 1) → count_of nodes n ≡ 1 → IsOwned nodes level n
own-loose nodes level n loose once = let both = loose n refl in record { level_is = both.0; once = once; free = omega (arith, both.1, once) }

-- a loose node that is as it was stays so
pub loose-kept : (level : ℕ) (old new : List Node) (frames frames' : List Frame) (out come : ℕ → ℕ) (low : ℕ) (n : ℕ) → IsLoose old level (n + 1) → Moves low old new frames frames' out come → node_at new n ≡ node_at old n → out n ≡ come n → IsLoose new level (n + 1)
loose-kept level old new frames frames' out come low n loose moves same even = λ m is.
    let here : m ≡ n = omega (arith, is) in
    let was = loose n refl in
    let l = ap (level_of new) here ∙ ap (λ y. y.level) same in
    let c = ap (λ y. y.count) same in
    let c' = ap (count_of new) here in
    let f = ap (leading_to new) here in
    (omega (arith, l, was.0), omega (arith, c, c', f, was.1, moves.holds n, even))

-- an entry is replaced: the new link is held, swapped for the old one, and that is given up
module _ (level : ℕ) (a b d e : List Node) (fa fb fd fe : List Frame) (n i v : ℕ) (up : 1 < level) (place : i < 32)
    (sound : IsSoundTo level a fa) (own : IsOwned a level n) (at : (m : ℕ) → v ≡ m + 1 → level_of a m ≡ level - 1)
    (sound_b : IsSoundTo (level - 1) b fb) (ab : Moves (level - 1) a b fa fb (λ x. 0) (is_root v))
    (bd : Moves level b d fb fd (λ x. is_root (n + 1) x + is_root v x) (λ x. is_root (n + 1) x + is_root (entry_of b n i) x)) (nodes_d : d ≡ enter b n i v) (own_d : IsOwned d level n) (sound_d : IsSoundTo (level - 1) d fd)
    (loose_d : IsLoose d (level - 1) (entry_of b n i))
    (sound_e : IsSoundTo (level - 1) e fe) (de : Moves (level - 1) d e fd fe (is_root (entry_of b n i)) (λ x. 0)) where
  pub own-held : IsOwned b level n
  own-held = own-below level (level - 1) a b fa fb (λ x. 0) (is_root v) n (omega (arith, up)) own ab (sym (not-root a level (level - 1) v n (omega (arith, up)) own.level_is at))

  w_none : is_root (entry_of b n i) n ≡ 0
  w_none = not-root d level (level - 1) (entry_of b n i) n (omega (arith, up)) own_d.level_is (λ m is. (loose_d m is).0)

  pub own-put : IsOwned e level n
  own-put = own-below level (level - 1) d e fd fe (is_root (entry_of b n i)) (λ x. 0) n (omega (arith, up)) own_d de w_none

  pub entries-put : entries_of e n ≡ entries_of d n
  entries-put = entries-below level (level - 1) d e fd fe (is_root (entry_of b n i)) (λ x. 0) n (omega (arith, up)) own_d de

  pub Moves-put : Moves level a e fa fe (is_root (n + 1)) (is_root (n + 1))
  Moves-put =
      let low = IsSound-low level (level - 1) a fa (omega arith) sound in
      let first = Moves-with level a b fa fb (λ x. 0) (is_root v) (is_root (n + 1)) (is_root (n + 1)) (λ x. is_root (n + 1) x + is_root v x) (Moves-raise (level - 1) level a b fa fb (λ x. 0) (is_root v) (omega arith) ab) (λ x. omega arith) (λ x. omega arith) in
      let last = Moves-with level d e fd fe (is_root (entry_of b n i)) (λ x. 0) (is_root (n + 1)) (λ x. is_root (n + 1) x + is_root (entry_of b n i) x) (is_root (n + 1)) (Moves-raise (level - 1) level d e fd fe (is_root (entry_of b n i)) (λ x. 0) (omega arith) de) (λ x. omega arith) (λ x. omega arith) in
      Moves-trans (level - 1) level a d e fa fd fe _ _ _ low (Moves-trans (level - 1) level a b d fa fb fd _ _ _ low first bd) last

  -- held nodes from the level on keep their count and their level
  held-put : (x : ℕ) → 0 < count_of a x → level ≤ level_of a x → (node_at e x ≡ node_at d x) × ((level_of d x ≡ level_of a x) × (node_at b x ≡ node_at a x))
  held-put x held high =
      let first = ab.higher x held (omega (arith, high, up)) in
      let c_b = ap (λ y. y.count) first in
      let l_b = ap (λ y. y.level) first in
      let l_d : level_of d x ≡ level_of b x = ap (λ ns. level_of ns x) nodes_d ∙ level-entered (level - 1) level b fb sound_b n i v own-held place x in
      let c_d : count_of d x ≡ count_of b x = ap (λ ns. count_of ns x) nodes_d ∙ count-entered (level - 1) level b fb sound_b n i v own-held place x in
      let last = de.higher x (omega (arith, c_d, c_b, held)) (omega (arith, l_d, l_b, high, up)) in
      (last, (l_d ∙ l_b, first))

  pub stays-put : (x : ℕ) → 0 < count_of a x → level ≤ level_of a x → level_of e x ≡ level_of a x
  stays-put x held high = let at = held-put x held high in ap (λ y. y.level) at.0 ∙ at.1.0

  -- and other ones all that they hold
  pub peers-put : (x : ℕ) → x ≢ n → 0 < count_of a x → level ≤ level_of a x → node_at e x ≡ node_at a x
  peers-put x off held high =
      let at = held-put x held high in
      at.0 ∙ ap (λ ns. node_at ns x) nodes_d ∙ off-entered (level - 1) level b fb sound_b n i v own-held place x off ∙ at.1.1

  pub IsSound-put : IsSoundTo level e fe
  IsSound-put = IsSound-raise level (level - 1) level a e fa fe (is_root (n + 1)) (is_root (n + 1)) sound sound_e Moves-put (λ x. refl) stays-put

  pub here-put : entry_of e n i ≡ v
  here-put = ap (λ es. get_or es i 0) entries-put ∙ ap (λ ns. entry_of ns n i) nodes_d ∙ here-entered (level - 1) level b fb sound_b n i v own-held place

  in-b : (k : ℕ) → entry_of b n k ≡ entry_of a n k
  in-b k = ap (λ es. get_or es k 0) (entries-below level (level - 1) a b fa fb (λ x. 0) (is_root v) n (omega (arith, up)) own ab)

  in-d : (k : ℕ) → k ≢ i → entry_of d n k ≡ entry_of a n k
  in-d k off = ap (λ ns. entry_of ns n k) nodes_d ∙ there-entered (level - 1) level b fb sound_b n i v own-held place k off ∙ in-b k

  pub others-put : (k : ℕ) → k ≢ i → entry_of e n k ≡ entry_of a n k
  others-put k off = ap (λ es. get_or es k 0) entries-put ∙ in-d k off

  -- what any other entry stands for
  pub there-put : (k q : ℕ) → k ≢ i → entry_below e (level - 1) (entry_of e n k) q ≡ entry_below a (level - 1) (entry_of a n k) q
  there-put k q off =
      let s = entry_of a n k in
      let high_b : 1 < level_of b n = omega (arith, up, own-held.level_is) in
      let first : entry_below b (level - 1) s q ≡ entry_below a (level - 1) s q =
      entry-moved a b (level - 1) s q (λ m w. (ab.same n m (omega (arith, own.once, own.free)) (subst (λ l. IsBelow a l (n + 1) m) (sym own.level_is) (below-entry a level n k m (omega (arith, up)) w))).entries) in
      let second : entry_below d (level - 1) s q ≡ entry_below b (level - 1) s q =
      entry-moved b d (level - 1) s q (λ m w. ap (λ y. y.entries) (ap (λ ns. node_at ns m) nodes_d ∙ off-entered (level - 1) level b fb sound_b n i v own-held place m
      (below-apart (level - 1) level b fb n s m sound_b own-held up (λ y is. let l = sound_b.below n k y high_b (in-b k ∙ is) in (omega (arith, l, own-held.level_is), sound_b.held n k y high_b (in-b k ∙ is))) w))) in
      let third : entry_below e (level - 1) s q ≡ entry_below d (level - 1) s q =
      entry-moved d e (level - 1) s q (λ m w. (de.same n m (omega (arith, w_none, own_d.once, own_d.free)) (subst (λ l. IsBelow d l (n + 1) m) (sym own_d.level_is) (below-entry d level n k m (omega (arith, up)) (subst (λ x. IsBelow d (level - 1) x m) (sym (in-d k off)) w)))).entries) in
      ap (λ x. entry_below e (level - 1) x q) (others-put k off) ∙ third ∙ second ∙ first

-- a cell stands for itself
pub entry-cell : (nodes : List Node) (k link q : ℕ) → k ≡ 0 → entry_below nodes k link q ≡ link
unfolding entry_below
entry-cell nodes zero link q none = refl
entry-cell nodes (suc k) link q none = absurd (omega (arith, none))

-- two nodes with the same entries stand for the same
pub map-twin : (nodes : List Node) (k n m q : ℕ) → 0 < k → ((i : ℕ) → entry_of nodes m i ≡ entry_of nodes n i) → entry_below nodes k (m + 1) q ≡ entry_below nodes k (n + 1) q
unfolding entry_below
map-twin nodes zero n m q some same = absurd (omega (arith, some))
map-twin nodes (suc k) n m q some same =
    ap (λ e. entry_below nodes k e (q % 32 ^ k)) (link_of-node nodes m (q / 32 ^ k) ∙ same (q / 32 ^ k) ∙ sym (link_of-node nodes n (q / 32 ^ k)))

-- a node is copied: a new one is taken, filled with its entries, and the node is given up
module _ (level : ℕ) (a b d e : List Node) (fa fb fd fe : List Frame) (n m : ℕ) (low : 1 ≤ level) (sound : IsSoundTo level a fa) (loose : IsLoose a level (n + 1)) (apart : n ≢ m) (sound_b : IsSoundTo level b fb) (sound_d : IsSoundTo level d fd)
    (ab : Moves level a b fa fb (λ x. 0) (is_root (m + 1))) (bd : Moves level b d fb fd (is_root (m + 1)) (is_root (m + 1))) (de : Moves level d e fd fe (is_root (n + 1)) (λ x. 0)) (own_d : IsOwned d level m) where
  ad : Moves level a d fa fd (λ x. 0) (is_root (m + 1))
  ad = Moves-trans level level a b d fa fb fd (λ x. 0) (is_root (m + 1)) (is_root (m + 1)) sound ab bd

  pub Moves-copied : Moves level a e fa fe (is_root (n + 1)) (is_root (m + 1))
  Moves-copied =
      Moves-trans level level a d e fa fd fe (is_root (n + 1)) (λ x. is_root (m + 1) x + is_root (n + 1) x) (is_root (m + 1)) sound
      (Moves-with level a d fa fd (λ x. 0) (is_root (m + 1)) (is_root (n + 1)) (is_root (n + 1)) (λ x. is_root (m + 1) x + is_root (n + 1) x) ad (λ x. omega arith) (λ x. omega arith))
      (Moves-with level d e fd fe (is_root (n + 1)) (λ x. 0) (is_root (m + 1)) (λ x. is_root (m + 1) x + is_root (n + 1) x) (is_root (m + 1)) de (λ x. omega arith) (λ x. omega arith))

  -- the copy is held besides the node
  beside : IsOther d (is_root (n + 1)) m
  beside = let none = is_root-there n m (λ is. apart (sym is)) in omega (arith, none, own_d.once, own_d.free)

  pub entries-copied : ((i : ℕ) → entry_of d m i ≡ entry_of b n i) → (node_at b n ≡ node_at a n) → (i : ℕ) → entry_of e m i ≡ entry_of a n i
  entries-copied filled peer i =
      ap (λ es. get_or es i 0) (other-same level level d e fd fe (is_root (n + 1)) (λ x. 0) sound_d de m beside).entries ∙ filled i ∙ ap (λ y. get_or y.entries i 0) peer

  pub map-copied : ((i : ℕ) → entry_of d m i ≡ entry_of d n i) → (q : ℕ) → entry_below e level (m + 1) q ≡ entry_below a level (n + 1) q
  map-copied twin q =
      other-map level level d e fd fe (is_root (n + 1)) (λ x. 0) sound_d de m beside level q own_d.level_is
      ∙ map-twin d level n m q (omega (arith, low)) twin
      ∙ other-map level level a d fa fd (λ x. 0) (is_root (m + 1)) sound ad n (let l = (loose n refl).1 in omega (arith, l)) level q (loose n refl).0

-- nothing stands for nothing, and so does a node without entries
pub entry-none : (nodes : List Node) (k q : ℕ) → entry_below nodes k 0 q ≡ 0
unfolding entry_below
entry-none nodes zero q = refl
entry-none nodes (suc k) q = ap (λ e. entry_below nodes k e (q % 32 ^ k)) (link_of-none nodes (q / 32 ^ k)) ∙ entry-none nodes k (q % 32 ^ k)

pub map-none : (old new : List Node) (k m q : ℕ) → 0 < k → ((i : ℕ) → entry_of new m i ≡ 0) → entry_below new k (m + 1) q ≡ entry_below old k 0 q
unfolding entry_below
map-none old new zero m q some none = absurd (omega (arith, some))
map-none old new (suc k) m q some none =
    ap (λ e. entry_below new k e (q % 32 ^ k)) (link_of-node new m (q / 32 ^ k) ∙ none (q / 32 ^ k)) ∙ entry-none new k (q % 32 ^ k) ∙ sym (entry-none old (suc k) q)
