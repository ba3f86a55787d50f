-- An entry of an owned node is taken out, changed, and put back.
use Rattle.std.proofs.Common.{◌≡◌, ◌≢◌, ℕ, zero, suc, ◌+◌, ◌-◌, ◌*◌, ◌/◌, ◌%◌, ◌^◌, ◌<◌, ◌≤◌, ⊎_elim, List, get_or, refl, sym, ◌∙◌, ap, arith, subst}
use Rattle.std.proofs.lemmas.Bool.{cases_eq}
use Rattle.std.proofs.Math.Nat.{div-add-mod}
use Rattle.frame_pool.specs.Frame.{Frame}
use Rattle.node_pool.specs.Nodes.{Node, node_at, count_of, level_of, entry_of, enter, free_of}
use Rattle.page_tree.specs.Pages.{entries_of, entry_below, link_of}
use Rattle.page_tree.specs.Open.{IsOpenBelow}
use Rattle.page_tree.specs.Short.{edge_below, link_short, short_below}
use Rattle.page_tree.specs.Sound.{IsSoundTo, is_root}
use Rattle.page_tree.specs.Changes.{IsBelow}
use Rattle.page_tree.specs.Steps.{IsOwned, IsLoose, IsOther, Moves}
use Rattle.page_tree.proofs.LinkLemmas.{is_root-none, is_root-no, link_of-node, link_short-cases, short-le, entry-moved, short-moved, short-step, short-all, below-entry}
use Rattle.page_tree.proofs.EnterLemmas.{count-entered, level-entered, off-entered, here-entered, there-entered}
use Rattle.page_tree.proofs.MoveLemmas.{IsSound-low, IsSound-raise, Moves-with, Moves-raise, Moves-trans}
use Rattle.page_tree.proofs.OpenLemmas.{edge-moved, open-moved}
use Rattle.page_tree.proofs.NodeLemmas.{below-apart, own-below, entries-below, not-root}

-- a page's way

pub entry-step : (nodes : List Node) (level link q : ℕ) → 0 < level → entry_below nodes level link q ≡ entry_below nodes (level - 1) (link_of nodes link (q / 32 ^ (level - 1))) (q % 32 ^ (level - 1))
unfolding entry_below
entry-step nodes zero link q some = absurd (omega (arith, some))
entry-step nodes (suc k) link q some =
    let less : k ≡ suc k - 1 = omega arith in
    ap (λ l. entry_below nodes l (link_of nodes link (q / 32 ^ l)) (q % 32 ^ l)) less

pub entry-leaf : (nodes : List Node) (link q : ℕ) → entry_below nodes 1 link q ≡ link_of nodes link q
unfolding entry_below
entry-leaf nodes link q = ap (λ j. link_of nodes link j) (omega arith)

-- what was changed below one entry of a node
pub record ChildChanged (level : ℕ) (a b d e : List Node) (fa fe : List Frame) (n i v : ℕ) : Type 0 where
  pub sound : IsSoundTo level e fe
  pub moves : Moves level a e fa fe (is_root (n + 1)) (is_root (n + 1))
  pub here : entry_of e n i ≡ v
  pub entries : (k : ℕ) → k ≢ i → entry_of e n k ≡ entry_of a n k
  pub before : (r : ℕ) → entry_below b (level - 1) (entry_of a n i) r ≡ entry_below a (level - 1) (entry_of a n i) r
  pub after : (r : ℕ) → entry_below e (level - 1) v r ≡ entry_below d (level - 1) v r
  pub there : (k r : ℕ) → k ≢ i → entry_below e (level - 1) (entry_of e n k) r ≡ entry_below a (level - 1) (entry_of a n k) r
  pub short_before : (r : ℕ) → short_below b (level - 1) (entry_of a n i) r ≡ short_below a (level - 1) (entry_of a n i) r
  pub short_after : (r : ℕ) → short_below e (level - 1) v r ≡ short_below d (level - 1) v r
  pub open_before : (r : ℕ) → IsOpenBelow a (level - 1) (entry_of a n i) r → IsOpenBelow b (level - 1) (entry_of a n i) r
  pub open_after : (r : ℕ) → IsOpenBelow d (level - 1) v r → IsOpenBelow e (level - 1) v r
  pub edge_before : (r : ℕ) → edge_below b (level - 1) (entry_of a n i) r ≡ edge_below a (level - 1) (entry_of a n i) r
  pub edge_after : (r : ℕ) → edge_below e (level - 1) v r ≡ edge_below d (level - 1) v r

module _ (level : ℕ) (a b d e : List Node) (fa fb fd fe : List Frame) (n i v : ℕ) (up : 1 < level) (place : i < 32) (sound : IsSoundTo level a fa) (own : IsOwned a level n)
    (b_is : b ≡ enter a n i 0) (sound_b : IsSoundTo (level - 1) b fb) (own_b : IsOwned b level n) (loose_b : IsLoose b (level - 1) (entry_of a n i)) (ab : Moves level a b fa fb (λ x. is_root (n + 1) x + is_root 0 x) (λ x. is_root (n + 1) x + is_root (entry_of a n i) x))
    (sound_d : IsSoundTo (level - 1) d fd) (loose_d : IsLoose d (level - 1) v) (bd : Moves (level - 1) b d fb fd (is_root (entry_of a n i)) (is_root v))
    (e_is : e ≡ enter d n i v) (sound_e : IsSoundTo (level - 1) e fe) (own_e : IsOwned e level n) (de : Moves level d e fd fe (λ x. is_root (n + 1) x + is_root v x) (λ x. is_root (n + 1) x + is_root (entry_of d n i) x)) where
  abbrev c : ℕ
  c = entry_of a n i

  low : level - 1 < level
  low = omega (arith, up)

  sound_a : IsSoundTo (level - 1) a fa
  sound_a = IsSound-low level (level - 1) a fa (omega arith) sound

  c_off : is_root c n ≡ 0
  c_off = not-root b level (level - 1) c n low own_b.level_is (λ m is. (loose_b m is).0)

  v_off : is_root v n ≡ 0
  v_off = is_root-no v n (λ is. let l = (loose_d n is).0 in let same = ap (λ y. y.level) (bd.higher n (omega (arith, own_b.once)) (omega (arith, own_b.level_is, low))) in absurd (omega (arith, l, same, own_b.level_is, low)))

  pub own_d : IsOwned d level n
  own_d = own-below level (level - 1) b d fb fd (is_root c) (is_root v) n low own_b bd (c_off ∙ sym v_off)

  entries_d : entries_of d n ≡ entries_of b n
  entries_d = entries-below level (level - 1) b d fb fd (is_root c) (is_root v) n low own_b bd

  -- all but the entry stays
  off_b : (x : ℕ) → x ≢ n → node_at b x ≡ node_at a x
  off_b x off = ap (λ ns. node_at ns x) b_is ∙ off-entered (level - 1) level a fa sound_a n i 0 own place x off

  b_here : entry_of b n i ≡ 0
  b_here = ap (λ ns. entry_of ns n i) b_is ∙ here-entered (level - 1) level a fa sound_a n i 0 own place

  b_there : (k : ℕ) → k ≢ i → entry_of b n k ≡ entry_of a n k
  b_there k off = ap (λ ns. entry_of ns n k) b_is ∙ there-entered (level - 1) level a fa sound_a n i 0 own place k off

  pub d_here : entry_of d n i ≡ 0
  d_here = ap (λ es. get_or es i 0) entries_d ∙ b_here

  off_e : (x : ℕ) → x ≢ n → node_at e x ≡ node_at d x
  off_e x off = ap (λ ns. node_at ns x) e_is ∙ off-entered (level - 1) level d fd sound_d n i v own_d place x off

  pub e_here : entry_of e n i ≡ v
  e_here = ap (λ ns. entry_of ns n i) e_is ∙ here-entered (level - 1) level d fd sound_d n i v own_d place

  pub e_there : (k : ℕ) → k ≢ i → entry_of e n k ≡ entry_of a n k
  e_there k off = ap (λ ns. entry_of ns n k) e_is ∙ there-entered (level - 1) level d fd sound_d n i v own_d place k off ∙ ap (λ es. get_or es k 0) entries_d ∙ b_there k off

  pub Moves-child : Moves level a e fa fe (is_root (n + 1)) (is_root (n + 1))
  Moves-child =
      let first = Moves-with level a b fa fb (λ x. is_root (n + 1) x + is_root 0 x) (λ x. is_root (n + 1) x + is_root c x) (λ x. 0) (is_root (n + 1)) (λ x. is_root (n + 1) x + is_root c x) ab (λ x. let z = is_root-none x in omega (arith, z)) (λ x. omega arith) in
      let middle = Moves-with level b d fb fd (is_root c) (is_root v) (is_root (n + 1)) (λ x. is_root (n + 1) x + is_root c x) (λ x. is_root (n + 1) x + is_root v x) (Moves-raise (level - 1) level b d fb fd (is_root c) (is_root v) (omega arith) bd) (λ x. omega arith) (λ x. omega arith) in
      let last = Moves-with level d e fd fe (λ x. is_root (n + 1) x + is_root v x) (λ x. is_root (n + 1) x + is_root (entry_of d n i) x) (λ x. 0) (λ x. is_root (n + 1) x + is_root v x) (is_root (n + 1)) de (λ x. omega arith) (λ x. let z = is_root-none x in let w = ap (λ link. is_root link x) d_here in omega (arith, z, w)) in
      Moves-trans (level - 1) level a d e fa fd fe (is_root (n + 1)) (λ x. is_root (n + 1) x + is_root v x) (is_root (n + 1)) sound_a
      (Moves-trans (level - 1) level a b d fa fb fd (is_root (n + 1)) (λ x. is_root (n + 1) x + is_root c x) (λ x. is_root (n + 1) x + is_root v x) sound_a first middle) last

  stays : (x : ℕ) → 0 < count_of a x → level ≤ level_of a x → level_of e x ≡ level_of a x
  stays x held high =
      let l_b : level_of b x ≡ level_of a x = ap (λ ns. level_of ns x) b_is ∙ level-entered (level - 1) level a fa sound_a n i 0 own place x in
      let c_b : count_of b x ≡ count_of a x = ap (λ ns. count_of ns x) b_is ∙ count-entered (level - 1) level a fa sound_a n i 0 own place x in
      let same = bd.higher x (omega (arith, c_b, held)) (omega (arith, l_b, high, up)) in
      ap (λ ns. level_of ns x) e_is ∙ level-entered (level - 1) level d fd sound_d n i v own_d place x ∙ ap (λ y. y.level) same ∙ l_b

  pub IsSound-child : IsSoundTo level e fe
  IsSound-child = IsSound-raise level (level - 1) level a e fa fe (is_root (n + 1)) (is_root (n + 1)) sound sound_e Moves-child (λ x. refl) stays

  -- all below the entry is as it was while it is taken out, and put back
  same-before : (m : ℕ) → IsBelow a (level - 1) c m → (entries_of b m ≡ entries_of a m) × (count_of b m ≡ count_of a m)
  same-before m w =
      let high : 1 < level_of a n = omega (arith, up, own.level_is) in
      let same = off_b m (below-apart level level a fa n c m sound own up (λ y is. let l = sound.below n i y high is in (omega (arith, l, own.level_is), sound.held n i y high is)) w) in
      (ap (λ y. y.entries) same, ap (λ y. y.count) same)

  v_at : (y : ℕ) → v ≡ y + 1 → (level_of d y ≡ level - 1) × (0 < count_of d y)
  v_at y is = let l = loose_d y is in (l.0, omega (arith, l.1))

  same-after : (m : ℕ) → IsBelow d (level - 1) v m → (entries_of e m ≡ entries_of d m) × (count_of e m ≡ count_of d m)
  same-after m w = let same = off_e m (below-apart (level - 1) level d fd n v m sound_d own_d up v_at w) in (ap (λ y. y.entries) same, ap (λ y. y.count) same)

  -- what any other entry stands for
  pub map-there : (k r : ℕ) → k ≢ i → entry_below e (level - 1) (entry_of e n k) r ≡ entry_below a (level - 1) (entry_of a n k) r
  map-there k r off =
      let s = entry_of a n k in
      let high : 1 < level_of a n = omega (arith, up, own.level_is) in
      let in_b = b_there k off in
      let in_d = ap (λ es. get_or es k 0) entries_d ∙ in_b in
      let other : IsOther b (is_root c) n = omega (arith, c_off, own_b.once, own_b.free) in
      let first : entry_below b (level - 1) s r ≡ entry_below a (level - 1) s r =
      entry-moved a b (level - 1) s r (λ m w. ap (λ y. y.entries) (off_b m (below-apart level level a fa n s m sound own up
      (λ y is. let l = sound.below n k y high is in (omega (arith, l, own.level_is), sound.held n k y high is)) w))) in
      let second : entry_below d (level - 1) s r ≡ entry_below b (level - 1) s r =
      entry-moved b d (level - 1) s r (λ m w. (bd.same n m other (subst (λ l. IsBelow b l (n + 1) m) (sym own_b.level_is) (below-entry b level n k m (omega (arith, up)) (subst (λ e'. IsBelow b (level - 1) e' m) (sym in_b) w)))).entries) in
      let high_d : 1 < level_of d n = omega (arith, up, own_d.level_is) in
      let third : entry_below e (level - 1) s r ≡ entry_below d (level - 1) s r =
      entry-moved d e (level - 1) s r (λ m w. ap (λ y. y.entries) (off_e m (below-apart (level - 1) level d fd n s m sound_d own_d up
      (λ y is. let l = sound_d.below n k y high_d (in_d ∙ is) in (omega (arith, l, own_d.level_is), sound_d.held n k y high_d (in_d ∙ is))) w))) in
      ap (λ x. entry_below e (level - 1) x r) (e_there k off) ∙ third ∙ second ∙ first

  pub child-changed : ChildChanged level a b d e fa fe n i v
  child-changed =
      record {
        sound = IsSound-child;
        moves = Moves-child;
        here = e_here;
        entries = e_there;
        before = λ r. entry-moved a b (level - 1) c r (λ m w. (same-before m w).0);
        after = λ r. entry-moved d e (level - 1) v r (λ m w. (same-after m w).0);
        there = map-there;
        short_before = λ r. short-moved a b (level - 1) c r same-before;
        short_after = λ r. short-moved d e (level - 1) v r same-after;
        open_before = λ r. open-moved a b (level - 1) c r same-before;
        open_after = λ r. open-moved d e (level - 1) v r same-after;
        edge_before = λ r. edge-moved a b (level - 1) c r same-before;
        edge_after = λ r. edge-moved d e (level - 1) v r same-after;
      }

-- a page of a node, by its entry
pub set-page : (level : ℕ) (nodes : List Node) (n i p v x : ℕ) → 0 < level → i ≡ p / 32 ^ (level - 1) → entry_of nodes n i ≡ v → entry_below nodes (level - 1) v (p % 32 ^ (level - 1)) ≡ x → entry_below nodes level (n + 1) p ≡ x
set-page level nodes n i p v x some at here is =
    entry-step nodes level (n + 1) p some
    ∙ ap (λ l. entry_below nodes (level - 1) l (p % 32 ^ (level - 1))) (link_of-node nodes n (p / 32 ^ (level - 1)) ∙ ap (entry_of nodes n) (sym at) ∙ here)
    ∙ is

-- and all pages, where one entry is another now
pub set-pages : (level : ℕ) (old new : List Node) (n i v q : ℕ) → 0 < level → entry_of new n i ≡ v → ((k r : ℕ) → k ≢ i → entry_below new (level - 1) (entry_of new n k) r ≡ entry_below old (level - 1) (entry_of old n k) r) → (q / 32 ^ (level - 1) ≡ i → entry_below new (level - 1) v (q % 32 ^ (level - 1)) ≡ entry_below old (level - 1) (entry_of old n i) (q % 32 ^ (level - 1))) → entry_below new level (n + 1) q ≡ entry_below old level (n + 1) q
set-pages level old new n i v q some here there mine =
    entry-step new level (n + 1) q some
    ∙ ap (λ l. entry_below new (level - 1) l (q % 32 ^ (level - 1))) (link_of-node new n (q / 32 ^ (level - 1)))
    ∙ ⊎_elim
    (λ is.
    ap (λ k. entry_below new (level - 1) (entry_of new n k) (q % 32 ^ (level - 1))) is ∙ ap (λ l. entry_below new (level - 1) l (q % 32 ^ (level - 1))) here
    ∙ mine is
    ∙ ap (λ k. entry_below old (level - 1) (entry_of old n k) (q % 32 ^ (level - 1))) (sym is))
    (λ off. there (q / 32 ^ (level - 1)) (q % 32 ^ (level - 1)) off)
    (cases_eq (q / 32 ^ (level - 1)) i)
    ∙ ap (λ l. entry_below old (level - 1) l (q % 32 ^ (level - 1))) (sym (link_of-node old n (q / 32 ^ (level - 1))))
    ∙ sym (entry-step old level (n + 1) q some)

-- two pages of one entry differ within it
pub apart-within : (w p q : ℕ) → q ≢ p → q / w ≡ p / w → q % w ≢ p % w
apart-within w p q off same is =
    let a = div-add-mod q w in
    let b = div-add-mod p w in
    let e = ap (λ k. w * k) same in
    off (omega (arith, a, b, e, is))

-- the nodes of a way, where the first one is owned
pub short-own : (level : ℕ) (nodes : List Node) (link q : ℕ) → 0 < level → link_short nodes link ≡ 0 → short_below nodes level link q ≡ short_below nodes (level - 1) (link_of nodes link (q / 32 ^ (level - 1))) (q % 32 ^ (level - 1))
short-own zero nodes link q some own = absurd (omega (arith, some))
short-own (suc k) nodes link q some own =
    let less : k ≡ suc k - 1 = omega arith in
    short-step nodes k link q own ∙ ap (λ l. short_below nodes l (link_of nodes link (q / 32 ^ l)) (q % 32 ^ l)) less

pub short-whole : (level : ℕ) (nodes : List Node) (link q : ℕ) → 0 < level → link_short nodes link ≡ 1 → short_below nodes level link q ≡ level
short-whole zero nodes link q some short = absurd (omega (arith, some))
short-whole (suc k) nodes link q some short = short-all nodes k link q short

-- the nodes that are left to be taken below an entry that was taken out
pub left-short : (level : ℕ) (old a b : List Node) (link n p c : ℕ) → 0 < level → (link_short old link ≡ 0 → a ≡ old) → (link_short old link ≡ 0 → link_of old link (p / 32 ^ (level - 1)) ≡ c) → ((r : ℕ) → short_below b (level - 1) c r ≡ short_below a (level - 1) c r) → free_of old ≤ free_of a + link_short old link → free_of b ≡ free_of a → short_below old level link p ≤ free_of old → short_below b (level - 1) c (p % 32 ^ (level - 1)) ≤ free_of b
left-short level old a b link n p c some same is before takes kept free =
    let r = p % 32 ^ (level - 1) in
    let at = before r in
    ⊎_elim
    (λ own.
    let step = short-own level old link p some own.0 in
    let nodes = same own.0 in
    let here = ap (λ l. short_below old (level - 1) l r) (is own.0) in
    let moved = ap (λ ns. short_below ns (level - 1) c r) nodes in
    let kept' = ap (λ ns. free_of ns) nodes in
    omega (arith, at, step, here, moved, kept', kept, free))
    (λ short.
    let all = short-whole level old link p some short in
    let most = short-le b (level - 1) c r in
    omega (arith, all, most, takes, kept, free, short, some))
    (link_short-cases old link)

-- and all that were taken
pub all-short : (level : ℕ) (old a b d : List Node) (link p c : ℕ) → 0 < level → (link_short old link ≡ 0 → a ≡ old) → (link_short old link ≡ 0 → link_of old link (p / 32 ^ (level - 1)) ≡ c) → ((r : ℕ) → short_below b (level - 1) c r ≡ short_below a (level - 1) c r) → free_of old ≤ free_of a + link_short old link → free_of b ≡ free_of a → free_of b ≤ free_of d + short_below b (level - 1) c (p % 32 ^ (level - 1)) → free_of old ≤ free_of d + short_below old level link p
all-short level old a b d link p c some same is before takes kept more =
    let r = p % 32 ^ (level - 1) in
    let at = before r in
    ⊎_elim
    (λ own.
    let step = short-own level old link p some own.0 in
    let here = ap (λ l. short_below old (level - 1) l r) (is own.0) in
    let moved = ap (λ ns. short_below ns (level - 1) c r) (same own.0) in
    omega (arith, at, step, here, moved, kept, takes, more, own.0))
    (λ short.
    let all = short-whole level old link p some short in
    let most = short-le b (level - 1) c r in
    omega (arith, all, most, takes, kept, more, short, some))
    (link_short-cases old link)

pub short-leaf : (nodes : List Node) (link q : ℕ) → link_short nodes link ≡ 0 → short_below nodes 1 link q ≡ 0
unfolding short_below
short-leaf nodes link q own = short-step nodes 0 link q own

-- a link that was taken out of an entry is as short as it was
pub short-swapped : (level : ℕ) (a b : List Node) (fa : List Frame) (n i : ℕ) → 1 < level → i < 32 → IsSoundTo level a fa → IsOwned a level n → b ≡ enter a n i 0 → (r : ℕ) → short_below b (level - 1) (entry_of a n i) r ≡ short_below a (level - 1) (entry_of a n i) r
short-swapped level a b fa n i up place sound own b_is r =
    let high : 1 < level_of a n = omega (arith, up, own.level_is) in
    short-moved a b (level - 1) (entry_of a n i) r (λ m w.
    let off = below-apart level level a fa n (entry_of a n i) m sound own up (λ y is. let l = sound.below n i y high is in (omega (arith, l, own.level_is), sound.held n i y high is)) w in
    let same = ap (λ ns. node_at ns m) b_is ∙ off-entered level level a fa sound n i 0 own place m off in
    (ap (λ y. y.entries) same, ap (λ y. y.count) same))

pub entry-swapped : (level : ℕ) (a b : List Node) (fa : List Frame) (n i : ℕ) → 1 < level → i < 32 → IsSoundTo level a fa → IsOwned a level n → b ≡ enter a n i 0 → (r : ℕ) → entry_below b (level - 1) (entry_of a n i) r ≡ entry_below a (level - 1) (entry_of a n i) r
entry-swapped level a b fa n i up place sound own b_is r =
    let high : 1 < level_of a n = omega (arith, up, own.level_is) in
    entry-moved a b (level - 1) (entry_of a n i) r (λ m w.
    let off = below-apart level level a fa n (entry_of a n i) m sound own up (λ y is. let l = sound.below n i y high is in (omega (arith, l, own.level_is), sound.held n i y high is)) w in
    ap (λ y. y.entries) (ap (λ ns. node_at ns m) b_is ∙ off-entered level level a fa sound n i 0 own place m off))
