-- Ways of which nobody else holds a node, while an entry of their first node is replaced or changed below.
use Rattle.std.proofs.Common.{◌≡◌, ◌≢◌, ℕ, zero, suc, ◌+◌, ◌-◌, ◌<◌, ◌≤◌, inr, ⊎_elim, List, get_or, refl, sym, ◌∙◌, ap, arith, subst}
use Rattle.frame_pool.specs.Frame.{Frame}
use Rattle.node_pool.specs.Nodes.{Node, node_at, count_of, level_of, entry_of, enter}
use Rattle.page_tree.specs.Pages.{entries_of, link_of}
use Rattle.page_tree.specs.Short.{range_below}
use Rattle.page_tree.specs.Sound.{IsSoundTo, is_root}
use Rattle.page_tree.specs.Changes.{IsBelow}
use Rattle.page_tree.specs.Steps.{IsBeside, IsLone, IsLoose, IsOwned, IsWay, KeepsLone, Moves, leads_to, none_shared}
use Rattle.page_tree.proofs.LinkLemmas.{below-entry, below-moved, below-none, link_of-none, zero_or_more, is_root-here, is_root-none, link_of-node}
use Rattle.page_tree.proofs.EnterLemmas.{count-entered, off-entered, there-entered}
use Rattle.page_tree.proofs.MoveLemmas.{IsSound-low, Moves-raise, Moves-with}
use Rattle.page_tree.proofs.NodeLemmas.{below-apart, entries-below, not-root, own-below}
use Rattle.page_tree.proofs.LoneLemmas.{lone-less, lone-out, lone-same, lone-trans, way-apart, way-below, way-last, way-moved}
use Rattle.page_tree.proofs.RangeShort.{range-lone}
use Rattle.page_tree.proofs.RangeLemmas.{beside-back, beside-moved}

-- a way from an entry is one from its node
pub way-entry : (P : ℕ → Type 0) (nodes : List Node) (k t i x : ℕ) → 0 < k → P t → IsWay P nodes (k - 1) (entry_of nodes t i) x → IsWay P nodes k (t + 1) x
unfolding IsWay
way-entry P nodes zero t i x some p way = absurd (omega (arith, some))
way-entry P nodes (suc k) t i x some p way =
    let less : suc k - 1 ≡ k = omega arith in
    (t, (refl, (p, inr (i, subst (λ l. IsWay P nodes k l x) (sym (link_of-node nodes t i)) (subst (λ l. IsWay P nodes l (entry_of nodes t i) x) less way)))))

-- an entry is replaced: the new link is held, swapped for the old one, and that is given up
module _ (level : ℕ) (a b d e : List Node) (fa fb fd fe : List Frame) (n i v : ℕ) (up : 1 < level) (place : i < 32)
    (sound : IsSoundTo level a fa) (own : IsOwned a level n) (at : (m : ℕ) → v ≡ m + 1 → (level_of a m ≡ level - 1) × (0 < count_of a m))
    (sound_b : IsSoundTo (level - 1) b fb) (ab : Moves (level - 1) a b fa fb (λ x. 0) (is_root v))
    (bd : Moves level b d fb fd (λ x. is_root (n + 1) x + is_root v x) (λ x. is_root (n + 1) x + is_root (entry_of b n i) x)) (nodes_d : d ≡ enter b n i v) (own_d : IsOwned d level n) (sound_d : IsSoundTo (level - 1) d fd)
    (loose_d : IsLoose d (level - 1) (entry_of b n i))
    (sound_e : IsSoundTo (level - 1) e fe) (de : Moves (level - 1) d e fd fe (is_root (entry_of b n i)) (λ x. 0))
    (lone_ab : KeepsLone a b (λ x. 0) (leads_to v)) (lone_de : KeepsLone d e (is_root (entry_of b n i)) none_shared) where
  low : IsSoundTo (level - 1) a fa
  low = IsSound-low level (level - 1) a fa (omega arith) sound

  own_b : IsOwned b level n
  own_b = own-below level (level - 1) a b fa fb (λ x. 0) (is_root v) n (omega (arith, up)) own ab (sym (not-root a level (level - 1) v n (omega (arith, up)) own.level_is (λ m is. (at m is).0)))

  w_none : is_root (entry_of b n i) n ≡ 0
  w_none = not-root d level (level - 1) (entry_of b n i) n (omega (arith, up)) own_d.level_is (λ m is. (loose_d m is).0)

  counts_d : (x : ℕ) → count_of d x ≡ count_of b x
  counts_d x = ap (λ ns. count_of ns x) nodes_d ∙ count-entered (level - 1) level b fb sound_b n i v own_b place x

  pub lone-put : KeepsLone a e (is_root (n + 1)) (λ m. (1 < level) × leads_to v m)
  lone-put =
      lone-trans (level - 1) level a b e fa fb (is_root (n + 1)) (λ x. is_root (n + 1) x + is_root v x) (λ m. (1 < level) × leads_to v m) none_shared low
      (Moves-with level a b fa fb (λ x. 0) (is_root v) (is_root (n + 1)) (is_root (n + 1)) (λ x. is_root (n + 1) x + is_root v x) (Moves-raise (level - 1) level a b fa fb (λ x. 0) (is_root v) (omega arith) ab) (λ x. omega arith) (λ x. omega arith))
      (lone-less a b (is_root (n + 1)) (leads_to v) (λ m. (1 < level) × leads_to v m) (λ m is. (up, is)) (lone-out a b (λ x. 0) (is_root (n + 1)) (leads_to v) (λ x. omega arith) lone_ab))
      (lone-trans (level - 1) level b d e fb fd (λ x. is_root (n + 1) x + is_root v x) (λ x. is_root (n + 1) x + is_root (entry_of b n i) x) none_shared none_shared sound_b bd
      (lone-same b d (λ x. is_root (n + 1) x + is_root v x) none_shared counts_d)
      (lone-out d e (is_root (entry_of b n i)) (λ x. is_root (n + 1) x + is_root (entry_of b n i) x) none_shared (λ x. omega arith) lone_de)
      (λ t m _ _ shared. absurd shared))
      (λ t m _ _ shared. absurd shared)

  module _ (k : ℕ) (off : k ≢ i) (apart : (m : ℕ) → IsWay (λ x. count_of a x ≡ 1) a (level - 1) (entry_of a n k) m → leads_to v m → ⊥) where
    abbrev s : ℕ
    s = entry_of a n k

    in_b : entry_of b n k ≡ s
    in_b = ap (λ es. get_or es k 0) (entries-below level (level - 1) a b fa fb (λ x. 0) (is_root v) n (omega (arith, up)) own ab)

    in_d : entry_of d n k ≡ s
    in_d = ap (λ ns. entry_of ns n k) nodes_d ∙ there-entered (level - 1) level b fb sound_b n i v own_b place k off ∙ in_b

    in_e : entry_of e n k ≡ s
    in_e = ap (λ es. get_or es k 0) (entries-below level (level - 1) d e fd fe (is_root (entry_of b n i)) (λ x. 0) n (omega (arith, up)) own_d de) ∙ in_d

    -- what is below the entry is not the node, and keeps its entries
    same_d : (m : ℕ) → IsBelow a (level - 1) s m → entries_of d m ≡ entries_of a m
    same_d m w =
        let high : 1 < level_of a n = omega (arith, up, own.level_is) in
        let m_off = below-apart level level a fa n s m sound own up (λ y is. let l = sound.below n k y high is in (omega (arith, l, own.level_is), sound.held n k y high is)) w in
        ap (λ y. y.entries) (ap (λ ns. node_at ns m) nodes_d ∙ off-entered (level - 1) level b fb sound_b n i v own_b place m m_off)
        ∙ (ab.same n m (omega (arith, own.once, own.free)) (subst (λ l. IsBelow a l (n + 1) m) (sym own.level_is) (below-entry a level n k m (omega (arith, up)) w))).entries

    same_e : (m : ℕ) → IsBelow a (level - 1) s m → entries_of e m ≡ entries_of d m
    same_e m w =
        let below_d = below-moved a d (level - 1) s m same_d w in
        (de.same n m (omega (arith, w_none, own_d.once, own_d.free)) (subst (λ l. IsBelow d l (n + 1) m) (sym own_d.level_is) (below-entry d level n k m (omega (arith, up)) (subst (λ x. IsBelow d (level - 1) x m) (sym in_d) below_d)))).entries

    -- and is still held once, where it was on such a way
    once_b : (m : ℕ) → IsWay (λ x. count_of a x ≡ 1) a (level - 1) s m → count_of b m ≡ 1
    once_b m way =
        lone_ab n m (omega (arith, own.once, own.free))
        (subst (λ l. IsWay (IsLone a (leads_to v)) a l (n + 1) m) (sym own.level_is)
        (way-entry (IsLone a (leads_to v)) a level n k m (omega (arith, up)) (own.once, (λ is. let l = (at n is).0 in absurd (omega (arith, l, own.level_is, up))))
        (way-moved (λ x. count_of a x ≡ 1) (IsLone a (leads_to v)) a a (level - 1) s m (λ y w. ((way-last (λ x. count_of a x ≡ 1) a (level - 1) s y w, apart y w), refl)) way)))

    once_e : (m : ℕ) → IsWay (λ x. count_of a x ≡ 1) a (level - 1) s m → count_of e m ≡ 1
    once_e m way =
        lone_de n m (omega (arith, w_none, own_d.once, own_d.free))
        (subst (λ l. IsWay (IsLone d none_shared) d l (n + 1) m) (sym own_d.level_is)
        (way-entry (IsLone d none_shared) d level n k m (omega (arith, up)) (own_d.once, (λ shared. shared))
        (subst (λ x. IsWay (IsLone d none_shared) d (level - 1) x m) (sym in_d)
        (way-moved (λ x. count_of a x ≡ 1) (IsLone d none_shared) a d (level - 1) s m (λ y w. ((counts_d y ∙ once_b y w, (λ shared. shared)), same_d y (way-below (λ x. count_of a x ≡ 1) a (level - 1) s y w))) way))))

    pub rest-put : (from to : ℕ) → range_below e (level - 1) (entry_of e n k) from to ≤ range_below a (level - 1) (entry_of a n k) from to
    rest-put from to =
        let least = range-lone a e (level - 1) s from to (λ m way. let w = way-below (λ x. count_of a x ≡ 1) a (level - 1) s m way in (once_e m way, same_e m w ∙ same_d m w)) in
        let same = ap (λ x. range_below e (level - 1) x from to) in_e in
        omega (arith, least, same)

-- an entry is taken out, changed, and put back
module _ (level : ℕ) (a b d e : List Node) (fa fb fd : List Frame) (n i v from : ℕ) (up : 1 < level) (place : i < 32) (sound : IsSoundTo level a fa) (own : IsOwned a level n)
    (b_is : b ≡ enter a n i 0) (sound_b : IsSoundTo (level - 1) b fb) (own_b : IsOwned b level n) (loose_b : IsLoose b (level - 1) (entry_of a n i)) (ab : Moves level a b fa fb (λ x. is_root (n + 1) x + is_root 0 x) (λ x. is_root (n + 1) x + is_root (entry_of a n i) x))
    (loose_d : IsLoose d (level - 1) v) (own_d : IsOwned d level n) (sound_d : IsSoundTo (level - 1) d fd) (bd : Moves (level - 1) b d fb fd (is_root (entry_of a n i)) (is_root v))
    (e_is : e ≡ enter d n i v)
    (beside : IsBeside a (is_root (n + 1)) (level - 1) from) (lone_bd : KeepsLone b d (is_root (entry_of a n i)) (IsBelow b (level - 1) from)) where
  abbrev c : ℕ
  c = entry_of a n i

  low_a : IsSoundTo (level - 1) a fa
  low_a = IsSound-low level (level - 1) a fa (omega arith) sound

  c_off : is_root c n ≡ 0
  c_off = not-root b level (level - 1) c n (omega (arith, up)) own_b.level_is (λ m is. (loose_b m is).0)

  counts_b : (x : ℕ) → count_of b x ≡ count_of a x
  counts_b x = ap (λ ns. count_of ns x) b_is ∙ count-entered (level - 1) level a fa low_a n i 0 own place x

  counts_e : (x : ℕ) → count_of e x ≡ count_of d x
  counts_e x = ap (λ ns. count_of ns x) e_is ∙ count-entered (level - 1) level d fd sound_d n i v own_d place x

  first : Moves level a b fa fb (is_root (n + 1)) (λ x. is_root (n + 1) x + is_root c x)
  first =
      Moves-with level a b fa fb (λ x. is_root (n + 1) x + is_root 0 x) (λ x. is_root (n + 1) x + is_root c x) (λ x. 0) (is_root (n + 1)) (λ x. is_root (n + 1) x + is_root c x) ab (λ x. let z = is_root-none x in omega (arith, z)) (λ x. omega arith)

  second : Moves level b d fb fd (λ x. is_root (n + 1) x + is_root c x) (λ x. is_root (n + 1) x + is_root v x)
  second =
      Moves-with level b d fb fd (is_root c) (is_root v) (is_root (n + 1)) (λ x. is_root (n + 1) x + is_root c x) (λ x. is_root (n + 1) x + is_root v x) (Moves-raise (level - 1) level b d fb fd (is_root c) (is_root v) (omega arith) bd) (λ x. omega arith) (λ x. omega arith)

  pub lone-child : KeepsLone a e (is_root (n + 1)) (λ m. (1 < level) × IsBelow a (level - 1) from m)
  lone-child =
      lone-trans (level - 1) level a b e fa fb (is_root (n + 1)) (λ x. is_root (n + 1) x + is_root c x) (λ m. (1 < level) × IsBelow a (level - 1) from m) (IsBelow b (level - 1) from) low_a first
      (lone-same a b (is_root (n + 1)) (λ m. (1 < level) × IsBelow a (level - 1) from m) counts_b)
      (lone-trans (level - 1) level b d e fb fd (λ x. is_root (n + 1) x + is_root c x) (λ x. is_root (n + 1) x + is_root v x) (IsBelow b (level - 1) from) none_shared sound_b second
      (lone-out b d (is_root c) (λ x. is_root (n + 1) x + is_root c x) (IsBelow b (level - 1) from) (λ x. omega arith) lone_bd)
      (lone-same d e (λ x. is_root (n + 1) x + is_root v x) none_shared counts_e)
      (λ t m _ _ shared. absurd shared))
      (λ t m _ _ below. (up, beside-back level level (level - 1) a b fa fb (is_root (n + 1)) (λ x. is_root (n + 1) x + is_root c x) from (omega (arith, up)) sound first beside m below))

  beside_b : IsBeside b (λ x. is_root (n + 1) x + is_root c x) (level - 1) from
  beside_b = beside-moved level level (level - 1) a b fa fb (is_root (n + 1)) (λ x. is_root (n + 1) x + is_root c x) from (omega (arith, up)) sound first beside

  module _ (k : ℕ) (off : k ≢ i) where
    abbrev u : ℕ
    u = entry_of a n k

    at_b : entry_of b n k ≡ u
    at_b = ap (λ ns. entry_of ns n k) b_is ∙ there-entered (level - 1) level a fa low_a n i 0 own place k off

    at_d : entry_of d n k ≡ u
    at_d = ap (λ es. get_or es k 0) (entries-below level (level - 1) b d fb fd (is_root c) (is_root v) n (omega (arith, up)) own_b bd) ∙ at_b

    at_e : entry_of e n k ≡ u
    at_e = ap (λ ns. entry_of ns n k) e_is ∙ there-entered (level - 1) level d fd sound_d n i v own_d place k off ∙ at_d

    m_off : (m : ℕ) → IsBelow a (level - 1) u m → m ≢ n
    m_off m w =
        let high : 1 < level_of a n = omega (arith, up, own.level_is) in
        below-apart level level a fa n u m sound own up (λ y is. let l = sound.below n k y high is in (omega (arith, l, own.level_is), sound.held n k y high is)) w

    kept_b : (m : ℕ) → IsBelow a (level - 1) u m → entries_of b m ≡ entries_of a m
    kept_b m w = ap (λ y. y.entries) (ap (λ ns. node_at ns m) b_is ∙ off-entered (level - 1) level a fa low_a n i 0 own place m (m_off m w))

    kept_d : (m : ℕ) → IsBelow a (level - 1) u m → entries_of d m ≡ entries_of b m
    kept_d m w =
        let below_b = below-moved a b (level - 1) u m kept_b w in
        (bd.same n m (omega (arith, c_off, own_b.once, own_b.free)) (subst (λ l. IsBelow b l (n + 1) m) (sym own_b.level_is) (below-entry b level n k m (omega (arith, up)) (subst (λ x. IsBelow b (level - 1) x m) (sym at_b) below_b)))).entries

    kept_e : (m : ℕ) → IsBelow a (level - 1) u m → entries_of e m ≡ entries_of d m
    kept_e m w = ap (λ y. y.entries) (ap (λ ns. node_at ns m) e_is ∙ off-entered (level - 1) level d fd sound_d n i v own_d place m (m_off m w))

    -- a way from the entry is one from the node
    way_b : (m : ℕ) → IsWay (λ x. count_of a x ≡ 1) a (level - 1) u m → IsWay (λ x. count_of b x ≡ 1) b level (n + 1) m
    way_b m way =
        way-entry (λ y. count_of b y ≡ 1) b level n k m (omega (arith, up)) own_b.once
        (subst (λ x. IsWay (λ y. count_of b y ≡ 1) b (level - 1) x m) (sym at_b)
        (way-moved (λ x. count_of a x ≡ 1) (λ y. count_of b y ≡ 1) a b (level - 1) u m (λ y w. (counts_b y ∙ way-last (λ x. count_of a x ≡ 1) a (level - 1) u y w, kept_b y (way-below (λ x. count_of a x ≡ 1) a (level - 1) u y w))) way))

    not_below : (m : ℕ) → IsWay (λ x. count_of b x ≡ 1) b level (n + 1) m → IsBelow b (level - 1) from m → ⊥
    not_below m way below =
        way-apart (λ x. count_of b x ≡ 1) (level - 1) b fb sound_b (λ x once. once) level n own_b.level_is own_b.free (λ x. is_root (n + 1) x + is_root c x) (level - 1) from m (let one = is_root-here n in omega (arith, one)) beside_b below way

    still_once : (m : ℕ) → IsWay (λ x. count_of a x ≡ 1) a (level - 1) u m → count_of e m ≡ 1
    still_once m way =
        counts_e m
        ∙ lone_bd n m (omega (arith, c_off, own_b.once, own_b.free))
        (subst (λ l. IsWay (IsLone b (IsBelow b (level - 1) from)) b l (n + 1) m) (sym own_b.level_is)
        (way-moved (λ x. count_of b x ≡ 1) (IsLone b (IsBelow b (level - 1) from)) b b level (n + 1) m (λ y w. ((way-last (λ x. count_of b x ≡ 1) b level (n + 1) y w, not_below y w), refl)) (way_b m way)))

    pub rest-child : (p q : ℕ) → range_below e (level - 1) (entry_of e n k) p q ≤ range_below a (level - 1) (entry_of a n k) p q
    rest-child p q =
        let least = range-lone a e (level - 1) u p q (λ m way. let w = way-below (λ x. count_of a x ≡ 1) a (level - 1) u m way in (still_once m way, kept_e m w ∙ kept_d m w ∙ kept_b m w)) in
        let same = ap (λ x. range_below e (level - 1) x p q) at_e in
        omega (arith, least, same)

-- an entry that is taken out takes no more
pub range-swapped : (level : ℕ) (a b : List Node) (fa : List Frame) (n i : ℕ) → 1 < level → i < 32 → IsSoundTo level a fa → IsOwned a level n → b ≡ enter a n i 0 → (from to : ℕ) → range_below b (level - 1) (entry_of a n i) from to ≤ range_below a (level - 1) (entry_of a n i) from to
range-swapped level a b fa n i up place sound own b_is from to =
    let high : 1 < level_of a n = omega (arith, up, own.level_is) in
    range-lone a b (level - 1) (entry_of a n i) from to (λ m way.
    let once = way-last (λ x. count_of a x ≡ 1) a (level - 1) (entry_of a n i) m way in
    let off = below-apart level level a fa n (entry_of a n i) m sound own up (λ y is. let l = sound.below n i y high is in (omega (arith, l, own.level_is), sound.held n i y high is)) (way-below (λ x. count_of a x ≡ 1) a (level - 1) (entry_of a n i) m way) in
    let same = ap (λ ns. node_at ns m) b_is ∙ off-entered level level a fa sound n i 0 own place m off in
    (ap (λ y. y.count) same ∙ once, ap (λ y. y.entries) same))

-- what is below an entry of what a link leads to is below the link
pub below-link : (nodes : List Node) (level from i m : ℕ) → 0 < level → IsBelow nodes (level - 1) (link_of nodes from i) m → IsBelow nodes level from m
below-link nodes level from i m some way =
    ⊎_elim
    (λ none. absurd (below-none nodes (level - 1) m (subst (λ l. IsBelow nodes (level - 1) l m) (ap (λ l. link_of nodes l i) none ∙ link_of-none nodes i) way)))
    (λ node.
    subst (λ l. IsBelow nodes level l m) (sym node.1)
    (below-entry nodes level node.0 i m some (subst (λ l. IsBelow nodes (level - 1) l m) (ap (λ l. link_of nodes l i) node.1 ∙ link_of-node nodes node.0 i) way)))
    (zero_or_more from)
