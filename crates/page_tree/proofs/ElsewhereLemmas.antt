-- A page's frame is at another page too exactly where the way to the page is shared or the frame is held more
-- than once.
use Rattle.std.proofs.Common.{◌≡◌, ◌≢◌, ℕ, zero, suc, ◌+◌, ◌-◌, ◌*◌, ◌/◌, ◌%◌, ◌^◌, ◌<◌, ◌≤◌, ◌⊎◌, inl, inr, ⊎_elim, List, length, get_or, refl, sym, ◌∙◌, ap, arith, subst}
use Rattle.std.proofs.lemmas.Bool.{cases_eq}
use Rattle.std.proofs.Math.Nat.{div-add-mod, mul-le-mul_left}
use Rattle.std.proofs.lemmas.Nat.{div_below, mod_below}
use Rattle.frame_pool.specs.Frame.{Frame, frame_count}
use Rattle.node_pool.specs.Nodes.{Node, count_of, level_of, entry_of}
use Rattle.page_tree.specs.declared.cell.PageCell.TheVariants as cell
use Rattle.page_tree.specs.declared.store.TheConstants.{PAGES}
use Rattle.page_tree.specs.Pages.{entry_below, link_of, page}
use Rattle.page_tree.specs.Short.{page_short, link_short, short_below}
use Rattle.page_tree.specs.Sound.{IsSound, is_inner, is_leaf, is_root}
use Rattle.page_tree.specs.Tied.{HasElsewhere, IsElsewhere, IsTied, page_of}
use Rattle.page_tree.proofs.UsesLemmas.{inner-is, inner-yes, inside-level, leaf-is, leaf-yes}
use Rattle.pool_base.proofs.Totals.{one_if-yes}
use Rattle.page_tree.proofs.CostLemmas.{pow-pos, pow-step}
use Rattle.page_tree.proofs.LinkLemmas.{link_of-node, link_of-none, link_short-cases, link_short-once, short-step, zero_or_more}
use Rattle.page_tree.proofs.NodeLemmas.{entry-none}
use Rattle.page_tree.proofs.ChildLemmas.{entry-leaf, entry-step, short-leaf, short-whole}
use Rattle.page_tree.proofs.TreeLemmas.{trees-is}
use Rattle.page_tree.proofs.PlaceLemmas.{one-place, place-low, same-place, used-from, used-yes, used_at, uses-total}
use Rattle.page_tree.proofs.HolderLemmas.{IsMet, Spot, entry-of_cell, held-level, leaf-entry, met-entry, met-next, met-same, met-top, part-of, root-held, spot-of, spot-page, tree-of_root}
use Rattle.pool_base.proofs.Totals.{total-list, total-other, total-two, total2-other, total2-two}

-- numbers with the same parts are the same
same-parts : (w p q : ℕ) → p / w ≡ q / w → p % w ≡ q % w → p ≡ q
same-parts w p q above rest = let a = div-add-mod p w in let b = div-add-mod q w in let e = ap (λ x. w * x) above in omega (arith, a, b, e, rest)

-- a link leads to nothing, or to a held node of a level
abbrev IsHeld : List Node → ℕ → ℕ → Type 0
IsHeld nodes level link = (n : ℕ) → link ≡ n + 1 → (level_of nodes n ≡ level) × (0 < count_of nodes n)

module _ (nodes : List Node) (frames : List Frame) (sound : IsSound nodes frames) where
  held-next : (level link i : ℕ) → 1 < level → IsHeld nodes level link → IsHeld nodes (level - 1) (link_of nodes link i)
  held-next level link i up held = λ m leads.
      ⊎_elim
      (λ none. absurd (let z = ap (λ e. link_of nodes e i) none ∙ link_of-none nodes i in omega (arith, z, leads)))
      (λ node.
      let at = held node.0 node.1 in
      let high : 1 < level_of nodes node.0 = omega (arith, at.0, up) in
      let e = sym (link_of-node nodes node.0 i) ∙ ap (λ x. link_of nodes x i) (sym node.1) ∙ leads in
      let next = sound.below node.0 i m high e in
      (omega (arith, next, at.0), sound.held node.0 i m high e))
      (zero_or_more link)

  -- where an entry leads to a node that is held once, another one that leads to it is the same one
  one-link : (level c i c' i' m n : ℕ) → 1 < level → IsHeld nodes level c → IsHeld nodes level c' → c ≡ n + 1 → link_of nodes c i ≡ m + 1 → count_of nodes m ≡ 1 → link_of nodes c' i' ≡ link_of nodes c i → (c' ≡ c) × (i' ≡ i)
  one-link level c i c' i' m n up held held' is child once same =
      ⊎_elim
      (λ none. absurd (let z = ap (λ e. link_of nodes e i') none ∙ link_of-none nodes i' in omega (arith, z, same, child)))
      (λ node.
      let leads : entry_of nodes n i ≡ m + 1 = sym (link_of-node nodes n i) ∙ ap (λ x. link_of nodes x i) (sym is) ∙ child in
      let leads' : entry_of nodes node.0 i' ≡ m + 1 = sym (link_of-node nodes node.0 i') ∙ ap (λ x. link_of nodes x i') (sym node.1) ∙ same ∙ child in
      let l = held n is in
      let l' = held' node.0 node.1 in
      let place = one-place 3 nodes frames sound m n i node.0 i' once (omega (arith, l.0, up)) (omega (arith, l'.0, up)) leads leads' in
      (omega (arith, node.1, place.0, is), place.1))
      (zero_or_more c')

  -- where a way is its own to the leaf, another way to the same place of that leaf is the same way
  one-way : (level c q c' q' leaf j : ℕ) → 0 < level → level ≤ 3 → q < 32 ^ level → q' < 32 ^ level → IsHeld nodes level c → IsHeld nodes level c' → short_below nodes level c q ≡ 0 → IsMet nodes level 1 c q (leaf + 1) j → IsMet nodes level 1 c' q' (leaf + 1) j → (c' ≡ c) × (q' ≡ q)
  one-way zero c q c' q' leaf j some most q_in q_in' held held' own met met' = absurd met
  one-way (suc zero) c q c' q' leaf j some most q_in q_in' held held' own met met' =
      ⊎_elim
      (λ here. ⊎_elim (λ here'. (here'.1.0 ∙ sym here.1.0, here'.1.1 ∙ sym here.1.1)) (λ lower. absurd lower.1) met')
      (λ lower. absurd lower.1)
      met
  one-way (suc (suc k)) c q c' q' leaf j some most q_in q_in' held held' own met met' =
      ⊎_elim
      (λ here. absurd (omega (arith, here.0)))
      (λ lower.
      ⊎_elim
      (λ here. absurd (omega (arith, here.0)))
      (λ lower'.
      let pos = pow-pos (suc k) in
      let less : suc (suc k) - 1 ≡ suc k = omega arith in
      ⊎_elim
      (λ alone.
      let below_own = sym (short-step nodes (suc k) c q alone.0) ∙ own in
      let child = subst (λ l. IsHeld nodes l (link_of nodes c (q / 32 ^ suc k))) less (held-next (suc (suc k)) c (q / 32 ^ suc k) (omega arith) held) in
      let child' = subst (λ l. IsHeld nodes l (link_of nodes c' (q' / 32 ^ suc k))) less (held-next (suc (suc k)) c' (q' / 32 ^ suc k) (omega arith) held') in
      let rest = one-way (suc k) (link_of nodes c (q / 32 ^ suc k)) (q % 32 ^ suc k) (link_of nodes c' (q' / 32 ^ suc k)) (q' % 32 ^ suc k) leaf j (omega arith) (omega (arith, most))
      (mod_below q (32 ^ suc k) pos) (mod_below q' (32 ^ suc k) pos) child child' below_own lower.1 lower'.1 in
      ⊎_elim
      (λ child_own.
      let same = one-link (suc (suc k)) c (q / 32 ^ suc k) c' (q' / 32 ^ suc k) child_own.1.0 alone.1.0 (omega arith) held held' alone.1.1.0 child_own.1.1.0 child_own.1.1.1 rest.0 in
      (same.0, same-parts (32 ^ suc k) q' q same.1 rest.1))
      (λ short. absurd (let all = short-whole (suc k) nodes (link_of nodes c (q / 32 ^ suc k)) (q % 32 ^ suc k) (omega arith) short in omega (arith, all, below_own)))
      (link_short-cases nodes (link_of nodes c (q / 32 ^ suc k))))
      (λ short. absurd (let all = short-whole (suc (suc k)) nodes c q (omega arith) short in omega (arith, all, own)))
      (link_short-cases nodes c))
      met')
      met

  -- a page that has something is met at a leaf
  leaf-met : (level c q e : ℕ) → 0 < level → IsHeld nodes level c → entry_below nodes level c q ≡ e → 0 < e → (leaf : ℕ) × ((j : ℕ) × (IsMet nodes level 1 c q (leaf + 1) j × ((level_of nodes leaf ≡ 1) × (entry_of nodes leaf j ≡ e))))
  unfolding entry_below
  leaf-met zero c q e some held is named = absurd (omega (arith, some))
  leaf-met (suc zero) c q e some held is named =
      ⊎_elim
      (λ none. absurd (let z = ap (λ l. entry_below nodes 1 l q) none ∙ entry-none nodes 1 q in omega (arith, z, is, named)))
      (λ node. (node.0, (q, (inl (refl, (node.1, refl)), ((held node.0 node.1).0, sym (link_of-node nodes node.0 q) ∙ ap (λ l. link_of nodes l q) (sym node.1) ∙ sym (entry-leaf nodes c q) ∙ is)))))
      (zero_or_more c)
  leaf-met (suc (suc k)) c q e some held is named =
      let less : suc (suc k) - 1 ≡ suc k = omega arith in
      let rest = leaf-met (suc k) (link_of nodes c (q / 32 ^ suc k)) (q % 32 ^ suc k) e (omega arith) (subst (λ l. IsHeld nodes l (link_of nodes c (q / 32 ^ suc k))) less (held-next (suc (suc k)) c (q / 32 ^ suc k) (omega arith) held)) is named in
      (rest.0, (rest.1.0, (inr (omega arith, rest.1.1.0), rest.1.1.1)))

module _ (nodes : List Node) (frames : List Frame) (trees : List ℕ) (k p f : ℕ) (tied : IsTied nodes frames trees) (k_in : k < length trees) (p_in : p < PAGES) (is : page_of nodes trees k p ≡ cell.Frame (record { n = f })) where
  sound : IsSound nodes frames
  sound = tied.sound

  abbrev tree : ℕ
  tree = get_or trees k 0

  held-tree : (a : ℕ) → a < length trees → IsHeld nodes 3 (get_or trees a 0)
  held-tree a a_in n at = root-held nodes frames trees tied a n a_in at

  entry-of : (a b : ℕ) → page nodes (get_or trees a 0) b ≡ cell.Frame (record { n = f }) → entry_below nodes 3 (get_or trees a 0) b ≡ f + 2
  unfolding page
  entry-of a b has = entry-of_cell _ f has

  lead : (leaf : ℕ) × ((j : ℕ) × (IsMet nodes 3 1 tree p (leaf + 1) j × ((level_of nodes leaf ≡ 1) × (entry_of nodes leaf j ≡ f + 2))))
  lead = leaf-met nodes frames sound 3 tree p (f + 2) (omega arith) (held-tree k k_in) (entry-of k p is) (omega arith)

  -- where the way is the tree's own, another page with the frame is another entry that names it
  elsewhere-counted : page_short nodes tree p ≡ 0 → HasElsewhere nodes trees k p f → 1 < frame_count frames f
  elsewhere-counted own elsewhere =
      let a = elsewhere.other.k in
      let b = elsewhere.other.p in
      let there = leaf-met nodes frames sound 3 (get_or trees a 0) b (f + 2) (omega arith) (held-tree a elsewhere.other.inside) (entry-of a b elsewhere.other.has) (omega arith) in
      let exact = tied.exact f in
      let sums = uses-total 3 nodes frames is_leaf (f + 2) sound in
      ⊎_elim
      (λ same.
      let met' = subst (λ x. IsMet nodes 3 1 (get_or trees a 0) b (x + 1) lead.1.0) same.0 (subst (λ x. IsMet nodes 3 1 (get_or trees a 0) b (there.0 + 1) x) same.1 there.1.1.0) in
      let way = one-way nodes frames sound 3 tree p (get_or trees a 0) b lead.0 lead.1.0 (omega arith) (omega arith) (omega (arith, p_in)) (omega (arith, elsewhere.other.below)) (held-tree k k_in) (held-tree a elsewhere.other.inside) own lead.1.1.0 met' in
      absurd (⊎_elim (λ off. two-trees own a elsewhere.other.inside off way.0) (λ at. at.1 way.1) elsewhere.elsewhere))
      (λ apart.
      let first = used-yes nodes is_leaf (f + 2) lead.0 lead.1.0 (leaf-yes (level_of nodes lead.0) lead.1.1.1.0) lead.1.1.1.1 in
      let second = used-yes nodes is_leaf (f + 2) there.0 there.1.0 (leaf-yes (level_of nodes there.0) there.1.1.1.0) there.1.1.1.1 in
      let two = total2-two (used_at nodes is_leaf (f + 2)) (length nodes) 32 lead.0 lead.1.0 there.0 there.1.0
      (inside-level nodes lead.0 (omega (arith, lead.1.1.1.0))) (place-low 3 nodes frames sound lead.0 lead.1.0 (omega (arith, lead.1.1.1.0)) (omega (arith, lead.1.1.1.1)))
      (inside-level nodes there.0 (omega (arith, there.1.1.1.0))) (place-low 3 nodes frames sound there.0 there.1.0 (omega (arith, there.1.1.1.0)) (omega (arith, there.1.1.1.1))) apart (omega (arith, first)) (omega (arith, second)) in
      omega (arith, exact, sums, two))
      (same-place lead.0 lead.1.0 there.0 there.1.0)
    where
      -- a root that is held once is that of one tree
      two-trees : page_short nodes tree p ≡ 0 → (a : ℕ) → a < length trees → a ≢ k → get_or trees a 0 ≡ tree → ⊥
      two-trees own a a_in off same =
          ⊎_elim
          (λ alone.
          let root = alone.1.0 in
          let at = held-tree k k_in root alone.1.1.0 in
          let trees_is = trees-is nodes root at.0 in
          let rooted = tied.rooted root in
          let places = total-list (λ t. is_root t root) trees 0 in
          let two = total-two (λ t. is_root (get_or trees t 0) root) (length trees) a k a_in k_in off in
          let one_here = one_if-yes tree (root + 1) alone.1.1.0 in
          let one_there = one_if-yes (get_or trees a 0) (root + 1) (same ∙ alone.1.1.0) in
          absurd (omega (arith, trees_is, rooted, places, two, one_here, one_there, alone.1.1.1)))
          (λ short. absurd (let all = short-whole 3 nodes tree p (omega arith) short in omega (arith, all, own)))
          (link_short-cases nodes tree)

  -- another page that has the frame
  found : (a b : ℕ) → a < length trees → b < 16384 → IsElsewhere k p a b → page nodes (get_or trees a 0) b ≡ cell.Frame (record { n = f }) → HasElsewhere nodes trees k p f
  found a b a_in b_in apart has = record { other = record { k = a; p = b; inside = a_in; below = b_in; has = has }; elsewhere = apart }

  -- another place of a node of the way is another page
  spot-elsewhere : (level n i x r : ℕ) (spot : Spot nodes frames trees tied level n) (m j s : ℕ) → s < 32 ^ level → entry_below nodes level (n + 1) s ≡ f + 2 → IsMet nodes 3 level tree p (m + 1) r → ((m ≡ n) × (r ≡ s) → ⊥) → HasElsewhere nodes trees k p f
  spot-elsewhere level n i x r spot m j s s_in named met apart =
      let has = spot-page nodes frames trees tied level n s f spot s_in named in
      found spot.k (spot.b + s) spot.inside has.0
      (⊎_elim
      (λ same.
      ⊎_elim
      (λ same'. absurd (
      let there = subst (λ a. IsMet nodes 3 level (get_or trees a 0) (spot.b + s) (n + 1) s) same (spot.met s s_in) in
      let there' = subst (λ b. IsMet nodes 3 level tree b (n + 1) s) same' there in
      let both = met-same nodes 3 level tree p (m + 1) r (n + 1) s met there' in
      apart (omega (arith, both.0), both.1)))
      (λ off. inr (same, off))
      (cases_eq (spot.b + s) p))
      (λ off. inl off)
      (cases_eq spot.k k))
      has.1

  -- another entry that names the frame is at another page
  counted-elsewhere : 1 < frame_count frames f → HasElsewhere nodes trees k p f
  counted-elsewhere more =
      let exact = tied.exact f in
      let sums = uses-total 3 nodes frames is_leaf (f + 2) sound in
      let leaf = lead.0 in
      let j = lead.1.0 in
      let here = used-yes nodes is_leaf (f + 2) leaf j (leaf-yes (level_of nodes leaf) lead.1.1.1.0) lead.1.1.1.1 in
      let off = total2-other (used_at nodes is_leaf (f + 2)) (length nodes) 32 leaf j (inside-level nodes leaf (omega (arith, lead.1.1.1.0))) (place-low 3 nodes frames sound leaf j (omega (arith, lead.1.1.1.0)) (omega (arith, lead.1.1.1.1))) (omega (arith, here)) (omega (arith, more, exact, sums)) in
      let at = used-from nodes is_leaf (f + 2) off.c off.d off.some in
      let spot = spot-of nodes frames trees tied 2 1 off.c refl (omega arith) (leaf-is (level_of nodes off.c) at.0) (held-level nodes frames trees tied off.c off.d (f + 2) at.1 (omega arith)) in
      spot-elsewhere 1 off.c off.d 0 j spot leaf j off.d (omega (arith, off.d_in)) (leaf-entry nodes frames trees tied off.c off.d ∙ at.1) lead.1.1.0
      (λ same. ⊎_elim (λ apart. apart (sym same.0)) (λ apart. apart.1 (sym same.1)) off.apart)

  -- a root that two trees have
  root-elsewhere : (root : ℕ) → tree ≡ root + 1 → count_of nodes root ≢ 1 → HasElsewhere nodes trees k p f
  root-elsewhere root at shared =
      let held = held-tree k k_in root at in
      let trees_is = trees-is nodes root held.0 in
      let rooted = tied.rooted root in
      let places = total-list (λ t. is_root t root) trees 0 in
      let own = one_if-yes tree (root + 1) at in
      let off = total-other (λ a. is_root (get_or trees a 0) root) (length trees) k k_in (omega (arith, shared, held.1, trees_is, rooted, places, own)) in
      found off.0 p off.1.0 p_in (inl off.1.1.0) (ap (λ t. page nodes t p) (tree-of_root nodes frames trees tied root off.0 off.1.1.1 ∙ sym at) ∙ is)

  -- on the way below a node that is the tree's own, a node that others lead to
  below-elsewhere : (level n r : ℕ) → level ≤ 3 → level_of nodes n ≡ level → 0 < count_of nodes n → r < 32 ^ level → link_short nodes (n + 1) ≡ 0 → IsMet nodes 3 level tree p (n + 1) r → short_below nodes level (n + 1) r ≢ 0 → HasElsewhere nodes trees k p f
  below-elsewhere zero n r most at held r_in own met short = absurd (let l = sound.levels n held in omega (arith, l.0, at))
  below-elsewhere (suc zero) n r most at held r_in own met short = absurd (short (short-leaf nodes (n + 1) r own))
  below-elsewhere (suc (suc l)) n r most at held r_in own met short =
      let w = 32 ^ suc l in
      let i = r / 32 ^ suc l in
      let pos = pow-pos (suc l) in
      let less : suc (suc l) - 1 ≡ suc l = omega arith in
      let power : 32 ^ (suc (suc l) - 1) ≡ 32 ^ suc l = ap (λ x. 32 ^ x) less in
      let step = pow-step (suc (suc l)) (omega arith) in
      let i_in : r / 32 ^ suc l < 32 = div_below r (32 ^ suc l) 32 pos (omega (arith, step, power, r_in)) in
      let up : 1 < level_of nodes n = omega (arith, at) in
      let named : entry_below nodes (suc (suc l)) (n + 1) r ≡ f + 2 = sym (met-entry nodes 3 (suc (suc l)) tree p (n + 1) r met) ∙ entry-of k p is in
      let step_down : entry_below nodes (suc (suc l)) (n + 1) r ≡ entry_below nodes (suc l) (entry_of nodes n (r / 32 ^ suc l)) (r % 32 ^ suc l) =
      entry-step nodes (suc (suc l)) (n + 1) r (omega arith) ∙ ap (λ x. entry_below nodes x (link_of nodes (n + 1) (r / 32 ^ x)) (r % 32 ^ x)) less ∙ ap (λ x. entry_below nodes (suc l) x (r % 32 ^ suc l)) (link_of-node nodes n (r / 32 ^ suc l)) in
      ⊎_elim
      (λ none. absurd (let z = ap (λ x. entry_below nodes (suc l) x (r % 32 ^ suc l)) none ∙ entry-none nodes (suc l) (r % 32 ^ suc l) in omega (arith, z, step_down, named)))
      (λ child.
      let x = child.0 in
      let next = sound.below n (r / 32 ^ suc l) x up child.1 in
      let x_held = sound.held n (r / 32 ^ suc l) x up child.1 in
      let met_x : IsMet nodes 3 (suc l) tree p (x + 1) (r % 32 ^ suc l) =
      subst (λ c. IsMet nodes 3 (suc l) tree p c (r % 32 ^ suc l)) (link_of-node nodes n (r / 32 ^ suc l) ∙ child.1) (met-next nodes 3 (suc l) tree p (n + 1) r (omega arith) (subst (λ y. IsMet nodes 3 y tree p (n + 1) r) (let more : suc (suc l) ≡ suc l + 1 = omega arith in more) met)) in
      ⊎_elim
      (λ once.
      let below_short : short_below nodes (suc l) (x + 1) (r % 32 ^ suc l) ≢ 0 = λ none. short (short-step nodes (suc l) (n + 1) r own ∙ ap (λ c. short_below nodes (suc l) c (r % 32 ^ suc l)) (link_of-node nodes n (r / 32 ^ suc l) ∙ child.1) ∙ none) in
      below-elsewhere (suc l) x (r % 32 ^ suc l) (omega (arith, most)) (omega (arith, next, at)) x_held (mod_below r (32 ^ suc l) pos) (link_short-once nodes x once) met_x below_short)
      (λ more.
      let counted = sound.counted x (omega (arith, next, at, most)) in
      let sums = uses-total 3 nodes frames is_inner (x + 1) sound in
      let here = used-yes nodes is_inner (x + 1) n (r / 32 ^ suc l) (inner-yes (level_of nodes n) up) child.1 in
      let off = total2-other (used_at nodes is_inner (x + 1)) (length nodes) 32 n (r / 32 ^ suc l) (inside-level nodes n (omega (arith, at))) i_in (omega (arith, here)) (omega (arith, more, counted, sums, x_held)) in
      let there = used-from nodes is_inner (x + 1) off.c off.d off.some in
      let up' = inner-is (level_of nodes off.c) there.0 in
      let next' = sound.below off.c off.d x up' there.1 in
      let level' : level_of nodes off.c ≡ suc (suc l) = omega (arith, next, next', at) in
      let spot = spot-of nodes frames trees tied (1 - l) (suc (suc l)) off.c (omega (arith, most)) (omega arith) level' (held-level nodes frames trees tied off.c off.d (x + 1) there.1 (omega arith)) in
      let rest = mod_below r (32 ^ suc l) pos in
      let part = part-of (32 ^ suc l) off.d (r % 32 ^ suc l) rest in
      let s = off.d * 32 ^ suc l + r % 32 ^ suc l in
      let s_in : off.d * 32 ^ suc l + r % 32 ^ suc l < 32 ^ suc (suc l) = let high = mul-le-mul_left (32 ^ suc l) (let le : off.d + 1 ≤ 32 = omega (arith, off.d_in) in le) in omega (arith, high, step, power, rest) in
      let named' : entry_below nodes (suc (suc l)) (off.c + 1) (off.d * 32 ^ suc l + r % 32 ^ suc l) ≡ f + 2 =
      entry-step nodes (suc (suc l)) (off.c + 1) (off.d * 32 ^ suc l + r % 32 ^ suc l) (omega arith)
      ∙ ap (λ y. entry_below nodes y (link_of nodes (off.c + 1) ((off.d * 32 ^ suc l + r % 32 ^ suc l) / 32 ^ y)) ((off.d * 32 ^ suc l + r % 32 ^ suc l) % 32 ^ y)) less
      ∙ (λ y. entry_below nodes (suc l) (link_of nodes (off.c + 1) (part.0 y)) (part.1 y))
      ∙ ap (λ c. entry_below nodes (suc l) c (r % 32 ^ suc l)) (link_of-node nodes off.c off.d ∙ there.1 ∙ sym child.1)
      ∙ sym step_down ∙ named in
      spot-elsewhere (suc (suc l)) off.c off.d x r spot n 0 (off.d * 32 ^ suc l + r % 32 ^ suc l) s_in named' met
      (λ same. ⊎_elim (λ apart. apart (sym same.0)) (λ apart. apart.1 (let e = ap (λ y. y / 32 ^ suc l) same.1 in omega (arith, e, part.0))) off.apart))
      (cases_eq (count_of nodes x) 1))
      (zero_or_more (entry_of nodes n (r / 32 ^ suc l)))

  -- where the way to a page is shared its frame is elsewhere too
  shared-elsewhere : page_short nodes tree p ≢ 0 → HasElsewhere nodes trees k p f
  shared-elsewhere short =
      ⊎_elim
      (λ none. absurd (let z = ap (λ t. entry_below nodes 3 t p) none ∙ entry-none nodes 3 p in let e = entry-of k p is in omega (arith, z, e)))
      (λ root.
      let held = held-tree k k_in root.0 root.1 in
      ⊎_elim
      (λ once.
      below-elsewhere 3 root.0 p (omega arith) held.0 held.1 (omega (arith, p_in)) (link_short-once nodes root.0 once)
      (subst (λ t. IsMet nodes 3 3 tree p t p) root.1 (met-top nodes 3 tree p (omega arith)))
      (λ none. short (ap (λ t. short_below nodes 3 t p) root.1 ∙ none)))
      (λ more. root-elsewhere root.0 root.1 more)
      (cases_eq (count_of nodes root.0) 1))
      (zero_or_more tree)

  pub elsewhere-is : (HasElsewhere nodes trees k p f → (page_short nodes (get_or trees k 0) p ≢ 0) ⊎ (1 < frame_count frames f)) × ((page_short nodes (get_or trees k 0) p ≢ 0) ⊎ (1 < frame_count frames f) → HasElsewhere nodes trees k p f)
  elsewhere-is = (
    (λ elsewhere. ⊎_elim (λ alone. inr (elsewhere-counted alone elsewhere)) (λ short. inl short) (cases_eq (page_short nodes (get_or trees k 0) p) 0)),
    (λ either. ⊎_elim shared-elsewhere counted-elsewhere either),
  )
