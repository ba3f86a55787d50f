use Rattle.std.proofs.Common.{ℕ, ◌≡◌, ◌≢◌, ◌+◌, ◌-◌, ◌/◌, ◌%◌, ◌^◌, ◌<◌, ◌≤◌, ⊎_elim, eqb, ap, sym, subst, ◌∙◌, arith}
use Rattle.std.proofs.lemmas.Nat.{mod_below}
use Rattle.frame_pool.specs.Frame.{frame_count}
use Rattle.node_pool.specs.Nodes.{entry_of, free_of}
use Rattle.page_tree.specs.Pages.{entry_below, entry_for}
use Rattle.page_tree.specs.Short.{short_below}
use Rattle.page_tree.specs.Sound.{one_if}
use Rattle.page_tree.specs.Steps.{IsOwned}
use Rattle.page_tree.proofs.LinkLemmas.{link_short-cases, link_short-once, link_of-node}
use Rattle.page_tree.proofs.EnterLemmas.{here-entered, there-entered}
use Rattle.page_tree.proofs.MoveLemmas.{Moves-raise, Moves-trans}
use Rattle.page_tree.proofs.NodeLemmas.{loose-own}
use Rattle.page_tree.proofs.UsesLemmas.{free_of-enter, inside-count}
use Rattle.page_tree.proofs.CostLemmas.{page-place, pow-pos, way-step}
use Rattle.page_tree.proofs.ChildLemmas.{entry-leaf, entry-step, entry-swapped, set-page, set-pages, apart-within, short-own, short-whole, short-leaf, short-swapped, left-short, all-short, child-changed, ChildChanged}
use Rattle.page_tree.proofs.store.Store.+set_at.Goals as goal

pub own-node-requires-clause-free : goal.own-node-requires-clause-free
own-node-requires-clause-free t c =
    let old = c.args.self.now.nodes.all in
    ⊎_elim
    (λ own. omega (arith, own.0))
    (λ short. let all = short-whole c.args.level old c.args.link c.args.page (omega (arith, c.requires.low)) short in omega (arith, short, all, c.requires.free, c.requires.low))
    (link_short-cases old c.args.link)

pub set_at-child-requires : goal.set_at-child-requires
set_at-child-requires t c =
    let up : 1 < c.args.level = omega (arith, c.requires.low, c.if-level-eq-LEAF_LEVEL.false) in
    let some : 0 < c.args.level = omega (arith, up) in
    let w = c.width-width.ensures in
    let at : c.args.page / c.width-width.result ≡ c.args.page / 32 ^ (c.args.level - 1) = ap (λ x. c.args.page / x) w in
    let within : c.args.page % c.width-width.result ≡ c.args.page % 32 ^ (c.args.level - 1) = ap (λ x. c.args.page % x) w in
    let one = c.swap-child.ensures in
    let r = c.args.page % c.width-width.result in
    let short = left-short c.args.level c.args.self.now.nodes.all c.own-node.new.self.nodes.all c.swap-child.new.self.nodes.all c.args.link c.own-node.result.n c.args.page c.swap-child.result some c.own-node.ensures.same
    (λ own. sym (c.own-node.ensures.entries (c.args.page / 32 ^ (c.args.level - 1))) ∙ ap (entry_of c.own-node.new.self.nodes.all c.own-node.result.n) (sym at) ∙ sym one.was)
    (rw one.was (short-swapped c.args.level c.own-node.new.self.nodes.all c.swap-child.new.self.nodes.all _ c.own-node.result.n (c.args.page / c.width-width.result) up (page-place c.args.level c.args.page c.width-width.result some w c.requires.page) c.own-node.ensures.sound c.own-node.ensures.own one.nodes))
    c.own-node.ensures.free one.free c.requires.free in (
      omega (arith, c.decreases, up),
      (
        omega (arith, up),
        (
          omega (arith, c.requires.high),
          (
            one.sound,
            (
              one.loose,
              (
                omega (arith, within, mod_below c.args.page (32 ^ (c.args.level - 1)) (pow-pos (c.args.level - 1))),
                (
                  λ is. absurd (omega (arith, is, c.requires.high, up)),
                  (
                    λ f is. let held = c.requires.held f is in let grows = c.own-node.ensures.grows f in let same = ap (λ fs. frame_count fs f) one.frames in omega (arith, held, grows, same),
                    subst (λ x. short_below c.swap-child.new.self.nodes.all (c.args.level - 1) c.swap-child.result x ≤ free_of c.swap-child.new.self.nodes.all) (sym within) short,
                  ),
                ),
              ),
            ),
          ),
        ),
      ),
    )

pub nonzero_div-page-else-level-eq-LEAF_LEVEL : goal.nonzero_div-page-else-level-eq-LEAF_LEVEL
nonzero_div-page-else-level-eq-LEAF_LEVEL t c = let pos = pow-pos (c.args.level - 1) in omega (arith, pos, c.width-width.ensures)

pub overflow_add-child : goal.overflow_add-child
overflow_add-child t c =
    let rec = c.set_at-child.ensures in
    let inside = inside-count c.set_at-child.new.self.nodes.all c.set_at-child.result.n (omega (arith, rec.own.once)) in
    omega (arith, inside, rec.sound.few)

pub swap-requires-clause-place : goal.swap-requires-clause-place
swap-requires-clause-place t c = page-place c.args.level c.args.page c.width-width.result (omega (arith, c.requires.low)) c.width-width.ensures c.requires.page

pub swap-requires-clause-loose : goal.swap-requires-clause-loose
swap-requires-clause-loose t c = loose-own _ _ _ c.set_at-child.ensures.own

-- after the last swap: where the page is below its entry, and what the change of the child made of the node
module _ (t : ℕ) (c : goal.After-swap t) where
  up : 1 < c.args.level
  up = omega (arith, c.requires.low, c.if-level-eq-LEAF_LEVEL.false)

  some : 0 < c.args.level
  some = omega (arith, up)

  at : c.args.page / c.width-width.result ≡ c.args.page / 32 ^ (c.args.level - 1)
  at = ap (λ x. c.args.page / x) c.width-width.ensures

  within : c.args.page % c.width-width.result ≡ c.args.page % 32 ^ (c.args.level - 1)
  within = ap (λ x. c.args.page % x) c.width-width.ensures

  place : c.args.page / c.width-width.result < 32
  place = page-place c.args.level c.args.page c.width-width.result some c.width-width.ensures c.requires.page

  changed : ChildChanged c.args.level c.own-node.new.self.nodes.all c.swap-child.new.self.nodes.all c.set_at-child.new.self.nodes.all c.swap.new.self.nodes.all c.own-node.new.self.frames c.swap.new.self.frames c.own-node.result.n (c.args.page / c.width-width.result) (c.set_at-child.result.n + 1)
  changed =
      let one = c.swap-child.ensures in
      let two = c.swap.ensures in
      let rec = c.set_at-child.ensures in
      child-changed c.args.level c.own-node.new.self.nodes.all c.swap-child.new.self.nodes.all c.set_at-child.new.self.nodes.all c.swap.new.self.nodes.all _ _ _ _ c.own-node.result.n (c.args.page / c.width-width.result) (c.set_at-child.result.n + 1) up place
      c.own-node.ensures.sound c.own-node.ensures.own one.nodes one.sound one.own (rw one.was at one.loose) (rw one.was at one.moves)
      rec.sound (loose-own _ _ _ rec.own) (rw one.was at rec.moves) two.nodes two.sound two.own (rw two.was at two.moves)

pub returns-else-level-eq-LEAF_LEVEL-clause-sound : goal.returns-else-level-eq-LEAF_LEVEL-clause-sound
returns-else-level-eq-LEAF_LEVEL-clause-sound t c =
    let ch = changed t c in
    ch.sound

pub returns-else-level-eq-LEAF_LEVEL-clause-moves : goal.returns-else-level-eq-LEAF_LEVEL-clause-moves
returns-else-level-eq-LEAF_LEVEL-clause-moves t c =
    let ch = changed t c in
    Moves-trans _ _ _ _ _ _ _ _ _ _ _ c.requires.sound c.own-node.ensures.moves ch.moves

pub returns-else-level-eq-LEAF_LEVEL-clause-page : goal.returns-else-level-eq-LEAF_LEVEL-clause-page
returns-else-level-eq-LEAF_LEVEL-clause-page t c =
    let rec = c.set_at-child.ensures in
    let ch = changed t c in
    set-page c.args.level c.swap.new.self.nodes.all c.own-node.result.n (c.args.page / c.width-width.result) c.args.page (c.set_at-child.result.n + 1) _ (some t c) (at t c) ch.here
    (ch.after (c.args.page % 32 ^ (c.args.level - 1)) ∙ ap (entry_below c.set_at-child.new.self.nodes.all (c.args.level - 1) (c.set_at-child.result.n + 1)) (sym (within t c)) ∙ rec.page)

pub returns-else-level-eq-LEAF_LEVEL-clause-pages : goal.returns-else-level-eq-LEAF_LEVEL-clause-pages
returns-else-level-eq-LEAF_LEVEL-clause-pages t c =
    let one = c.swap-child.ensures in
    let rec = c.set_at-child.ensures in
    let ch = changed t c in
    λ q lt off.
    set-pages c.args.level c.own-node.new.self.nodes.all c.swap.new.self.nodes.all c.own-node.result.n (c.args.page / c.width-width.result) (c.set_at-child.result.n + 1) q (some t c) ch.here ch.there
    (λ is.
    let r = q % 32 ^ (c.args.level - 1) in
    let apart : r ≢ c.args.page % c.width-width.result = λ same. apart-within (32 ^ (c.args.level - 1)) c.args.page q off (is ∙ (at t c)) (same ∙ (within t c)) in
    ch.after r ∙ rec.pages r (mod_below q (32 ^ (c.args.level - 1)) (pow-pos (c.args.level - 1))) apart
    ∙ ap (λ l. entry_below c.swap-child.new.self.nodes.all (c.args.level - 1) l r) one.was ∙ ch.before r)
    ∙ c.own-node.ensures.maps q

pub returns-else-level-eq-LEAF_LEVEL-clause-alone : goal.returns-else-level-eq-LEAF_LEVEL-clause-alone
returns-else-level-eq-LEAF_LEVEL-clause-alone t c =
    let two = c.swap.ensures in
    let rec = c.set_at-child.ensures in
    let ch = changed t c in
    let own = link_short-once c.swap.new.self.nodes.all c.own-node.result.n two.own.once in
    short-own c.args.level c.swap.new.self.nodes.all (c.own-node.result.n + 1) c.args.page (some t c) own
    ∙ ap (λ l. short_below c.swap.new.self.nodes.all (c.args.level - 1) l (c.args.page % 32 ^ (c.args.level - 1))) (link_of-node c.swap.new.self.nodes.all c.own-node.result.n (c.args.page / 32 ^ (c.args.level - 1)) ∙ ap (entry_of c.swap.new.self.nodes.all c.own-node.result.n) (sym (at t c)) ∙ ch.here)
    ∙ ch.short_after (c.args.page % 32 ^ (c.args.level - 1))
    ∙ ap (short_below c.set_at-child.new.self.nodes.all (c.args.level - 1) (c.set_at-child.result.n + 1)) (sym (within t c)) ∙ rec.alone

pub returns-else-level-eq-LEAF_LEVEL-clause-free : goal.returns-else-level-eq-LEAF_LEVEL-clause-free
returns-else-level-eq-LEAF_LEVEL-clause-free t c =
    let one = c.swap-child.ensures in
    let two = c.swap.ensures in
    let rec = c.set_at-child.ensures in
    let ch = changed t c in
    let all = all-short c.args.level c.args.self.now.nodes.all c.own-node.new.self.nodes.all c.swap-child.new.self.nodes.all c.set_at-child.new.self.nodes.all c.args.link c.args.page c.swap-child.result (some t c) c.own-node.ensures.same
    (λ own. sym (c.own-node.ensures.entries (c.args.page / 32 ^ (c.args.level - 1))) ∙ ap (entry_of c.own-node.new.self.nodes.all c.own-node.result.n) (sym (at t c)) ∙ sym one.was)
    (rw one.was ch.short_before)
    c.own-node.ensures.free one.free (subst (λ x. free_of c.swap-child.new.self.nodes.all ≤ free_of c.set_at-child.new.self.nodes.all + short_below c.swap-child.new.self.nodes.all (c.args.level - 1) c.swap-child.result x) (within t c) rec.free) in
    omega (arith, all, two.free)

pub returns-then-level-eq-LEAF_LEVEL-clause-moves : goal.returns-then-level-eq-LEAF_LEVEL-clause-moves
returns-then-level-eq-LEAF_LEVEL-clause-moves t c =
    Moves-trans c.args.level c.args.level c.args.self.now.nodes.all c.own-node.new.self.nodes.all c.write.new.self.nodes.all c.args.self.now.frames c.own-node.new.self.frames c.write.new.self.frames _ _ _ c.requires.sound c.own-node.ensures.moves
    (Moves-raise 1 c.args.level _ _ _ _ _ _ c.requires.low c.write.ensures.moves)

pub returns-then-level-eq-LEAF_LEVEL-clause-page : goal.returns-then-level-eq-LEAF_LEVEL-clause-page
returns-then-level-eq-LEAF_LEVEL-clause-page t c =
    let leaf : c.args.level ≡ 1 = c.if-level-eq-LEAF_LEVEL.true in
    let old = c.args.self.now.nodes.all in
    let mid = c.own-node.new.self.nodes.all in
    let new = c.write.new.self.nodes.all in
    let n = c.own-node.result.n in
    let place : c.args.page < 32 = let power = ap (λ l. 32 ^ l) leaf in omega (arith, power, c.requires.page) in
    ap (λ l. entry_below new l (n + 1) c.args.page) leaf ∙ entry-leaf new (n + 1) c.args.page ∙ link_of-node new n c.args.page ∙ ap (λ ns. entry_of ns n c.args.page) c.write.ensures.nodes
    ∙ here-entered c.args.level 1 mid _ c.own-node.ensures.sound n c.args.page _ (subst (λ l. IsOwned mid l n) leaf c.own-node.ensures.own) place

pub returns-then-level-eq-LEAF_LEVEL-clause-pages : goal.returns-then-level-eq-LEAF_LEVEL-clause-pages
returns-then-level-eq-LEAF_LEVEL-clause-pages t c =
    let leaf : c.args.level ≡ 1 = c.if-level-eq-LEAF_LEVEL.true in
    let old = c.args.self.now.nodes.all in
    let mid = c.own-node.new.self.nodes.all in
    let new = c.write.new.self.nodes.all in
    let n = c.own-node.result.n in
    let place : c.args.page < 32 = let power = ap (λ l. 32 ^ l) leaf in omega (arith, power, c.requires.page) in
    λ q lt off.
    ap (λ l. entry_below new l (n + 1) q) leaf ∙ entry-leaf new (n + 1) q ∙ link_of-node new n q ∙ ap (λ ns. entry_of ns n q) c.write.ensures.nodes
    ∙ there-entered c.args.level 1 mid _ c.own-node.ensures.sound n c.args.page _ (subst (λ l. IsOwned mid l n) leaf c.own-node.ensures.own) place q off
    ∙ sym (link_of-node mid n q) ∙ sym (entry-leaf mid (n + 1) q) ∙ ap (λ l. entry_below mid l (n + 1) q) (sym leaf) ∙ c.own-node.ensures.maps q

pub returns-then-level-eq-LEAF_LEVEL-clause-alone : goal.returns-then-level-eq-LEAF_LEVEL-clause-alone
returns-then-level-eq-LEAF_LEVEL-clause-alone t c =
    let leaf : c.args.level ≡ 1 = c.if-level-eq-LEAF_LEVEL.true in
    let old = c.args.self.now.nodes.all in
    let mid = c.own-node.new.self.nodes.all in
    let new = c.write.new.self.nodes.all in
    let n = c.own-node.result.n in
    let place : c.args.page < 32 = let power = ap (λ l. 32 ^ l) leaf in omega (arith, power, c.requires.page) in
    ap (λ l. short_below new l (n + 1) c.args.page) leaf ∙ short-leaf new (n + 1) c.args.page (link_short-once new n c.write.ensures.own.once)

pub returns-then-level-eq-LEAF_LEVEL-clause-free : goal.returns-then-level-eq-LEAF_LEVEL-clause-free
returns-then-level-eq-LEAF_LEVEL-clause-free t c =
    let leaf : c.args.level ≡ 1 = c.if-level-eq-LEAF_LEVEL.true in
    let old = c.args.self.now.nodes.all in
    let mid = c.own-node.new.self.nodes.all in
    let new = c.write.new.self.nodes.all in
    let n = c.own-node.result.n in
    let place : c.args.page < 32 = let power = ap (λ l. 32 ^ l) leaf in omega (arith, power, c.requires.page) in
    let kept = ap (λ ns. free_of ns) c.write.ensures.nodes ∙ free_of-enter mid n c.args.page _ in
    ⊎_elim
    (λ own. omega (arith, kept, own.0, c.own-node.ensures.free))
    (λ short. let all = short-whole c.args.level old c.args.link c.args.page (omega (arith, leaf)) short in omega (arith, kept, short, all, leaf, c.own-node.ensures.free))
    (link_short-cases old c.args.link)

pub returns-then-level-eq-LEAF_LEVEL-clause-grows : goal.returns-then-level-eq-LEAF_LEVEL-clause-grows
returns-then-level-eq-LEAF_LEVEL-clause-grows t c = λ same f.
    let leaf : c.args.level ≡ 1 = c.if-level-eq-LEAF_LEVEL.true in
    let old = c.args.self.now.nodes.all in
    let mid = c.own-node.new.self.nodes.all in
    let n = c.own-node.result.n in
    let here : entry_of mid n c.args.page ≡ entry_for c.args.cell =
    sym (link_of-node mid n c.args.page) ∙ sym (entry-leaf mid (n + 1) c.args.page) ∙ ap (λ l. entry_below mid l (n + 1) c.args.page) (sym leaf) ∙ c.own-node.ensures.maps c.args.page ∙ sym same in
    let grown = c.own-node.ensures.grows f in
    let holds = c.write.ensures.holds f in
    let even = ap (λ e. one_if (eqb e (f + 2))) here in
    omega (arith, grown, holds, even)

pub returns-else-level-eq-LEAF_LEVEL-clause-grows : goal.returns-else-level-eq-LEAF_LEVEL-clause-grows
returns-else-level-eq-LEAF_LEVEL-clause-grows t c = λ same f.
    let w = c.width-width.ensures in
    let a = c.own-node.new.self.nodes.all in
    let b = c.swap-child.new.self.nodes.all in
    let n = c.own-node.result.n in
    let one = c.swap-child.ensures in
    let before = entry-swapped c.args.level a b _ n (c.args.page / c.width-width.result) (up t c) (place t c) c.own-node.ensures.sound c.own-node.ensures.own one.nodes (c.args.page % c.width-width.result) in
    let there : entry_for c.args.cell ≡ entry_below b (c.args.level - 1) c.swap-child.result (c.args.page % c.width-width.result) =
    same ∙ sym (c.own-node.ensures.maps c.args.page) ∙ entry-step a c.args.level (n + 1) c.args.page (some t c)
    ∙ ap (λ l. entry_below a (c.args.level - 1) l (c.args.page % 32 ^ (c.args.level - 1))) (link_of-node a n (c.args.page / 32 ^ (c.args.level - 1)))
    ∙ ap (λ x. entry_below a (c.args.level - 1) (entry_of a n (c.args.page / x)) (c.args.page % x)) (sym w)
    ∙ sym before ∙ ap (λ l. entry_below b (c.args.level - 1) l (c.args.page % c.width-width.result)) (sym one.was) in
    let grown = c.own-node.ensures.grows f in
    let below = c.set_at-child.ensures.grows there f in
    let first = ap (λ fs. frame_count fs f) one.frames in
    let last = ap (λ fs. frame_count fs f) c.swap.ensures.frames in
    omega (arith, grown, below, first, last)

pub returns-else-level-eq-LEAF_LEVEL-clause-cost : goal.returns-else-level-eq-LEAF_LEVEL-clause-cost
returns-else-level-eq-LEAF_LEVEL-clause-cost t c =
    let step = way-step c.args.level (some t c) in
    omega (arith, step, c.own-node.ensures.cost, c.set_at-child.ensures.cost)
