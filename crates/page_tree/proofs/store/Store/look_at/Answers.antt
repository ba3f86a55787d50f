use Rattle.std.proofs.Common.{ℕ, ◌≡◌, ◌≢◌, ◌+◌, ◌-◌, ◌/◌, ◌%◌, ◌^◌, ◌<◌, ◌⊎◌, List, Bool, true, false, eqb, ⊎_elim, inl, inr, ap, sym, ◌∙◌, arith}
use Rattle.std.proofs.lemmas.Bool.{cases_Bool, cases_eq, eq-eqb, ne_eqb, true_from_ne_false}
use Rattle.node_pool.specs.Nodes.{Node, count_of, entry_of}
use Rattle.page_tree.specs.Pages.{entry_below, link_of}
use Rattle.page_tree.specs.Short.{link_short, short_below}
use Rattle.std.proofs.Math.Nat.{mod-lt}
use Rattle.page_tree.proofs.CostLemmas.{pow-pos}
use Rattle.page_tree.proofs.UsesLemmas.{inside-count}
use Rattle.page_tree.proofs.LinkLemmas.{link_of-node, link_short-none, link_short-once, link_short-shared}
use Rattle.page_tree.proofs.NodeLemmas.{entry-none}
use Rattle.page_tree.proofs.ChildLemmas.{entry-step, short-own, short-whole}
use Rattle.page_tree.proofs.store.Store.look_at.Goals as goal
use Rattle.page_tree.proofs.store.Store.look_at.Goals.{then-alone, else-alone}

-- the node that a link leads to, and its entry for a page
record IsStep (nodes : List Node) (level link n p width entry : ℕ) : Type 0 where
  some : 0 < level
  leads : n + 1 ≡ link
  wide : width ≡ 32 ^ (level - 1)
  is : entry ≡ entry_of nodes n (p / width)

step-link : (nodes : List Node) (level link n p width entry : ℕ) → IsStep nodes level link n p width entry → link_of nodes link (p / 32 ^ (level - 1)) ≡ entry
step-link nodes level link n p width entry s =
    ap (λ l. link_of nodes l (p / 32 ^ (level - 1))) (sym s.leads) ∙ link_of-node nodes n (p / 32 ^ (level - 1)) ∙ ap (λ w. entry_of nodes n (p / w)) (sym s.wide) ∙ sym s.is

step-entry : (nodes : List Node) (level link n p width entry : ℕ) → IsStep nodes level link n p width entry → entry_below nodes (level - 1) entry (p % width) ≡ entry_below nodes level link p
step-entry nodes level link n p width entry s =
    ap (λ w. entry_below nodes (level - 1) entry (p % w)) s.wide ∙ ap (λ l. entry_below nodes (level - 1) l (p % 32 ^ (level - 1))) (sym (step-link nodes level link n p width entry s)) ∙ sym (entry-step nodes level link p s.some)

step-short : (nodes : List Node) (level link n p width entry : ℕ) → IsStep nodes level link n p width entry → count_of nodes n ≡ 1 → short_below nodes (level - 1) entry (p % width) ≡ short_below nodes level link p
step-short nodes level link n p width entry s once =
    ap (λ w. short_below nodes (level - 1) entry (p % w)) s.wide ∙ ap (λ l. short_below nodes (level - 1) l (p % 32 ^ (level - 1))) (sym (step-link nodes level link n p width entry s))
    ∙ sym (short-own level nodes link p s.some (ap (link_short nodes) (sym s.leads) ∙ link_short-once nodes n once))

step-shared : (nodes : List Node) (level link n p width entry : ℕ) → IsStep nodes level link n p width entry → count_of nodes n ≢ 1 → 0 < short_below nodes level link p
step-shared nodes level link n p width entry s more =
    let all = short-whole level nodes link p s.some (ap (link_short nodes) (sym s.leads) ∙ link_short-shared nodes n more) in omega (arith, all, s.some)

pub returns-then-link-eq0-clause-entry : goal.returns-then-link-eq0-clause-entry
returns-then-link-eq0-clause-entry c =
    let nodes = c.args.self.now.nodes.all in
    sym (ap (λ l. entry_below nodes c.levels.level l c.levels.p) c.if-link-eq0.true ∙ entry-none nodes c.levels.level c.levels.p) ∙ c.levels.invariant.entry

pub returns-then-link-eq0-clause-alone : goal.returns-then-link-eq0-clause-alone
returns-then-link-eq0-clause-alone c =
    let nodes = c.args.self.now.nodes.all in
    let some : 0 < c.levels.level = omega (arith, c.levels-test.true) in
    let all = short-whole c.levels.level nodes c.levels.link c.levels.p some (ap (link_short nodes) c.if-link-eq0.true ∙ link_short-none nodes) in (
      (λ is. absurd cc),
      (λ none. absurd (⊎_elim
          (λ alone. let same = c.levels.invariant.alone alone in omega (arith, all, some, same, none))
          (λ shared. let more = c.levels.invariant.shared shared in omega (arith, more, none))
          (cases_Bool c.levels.alone))),
    )

pub count-once-requires : goal.count-once-requires
count-once-requires c =
    inside-count c.args.self.now.nodes.all c.node_of-node.result.n (c.levels.invariant.held c.node_of-node.result.n (omega (arith, c.levels-test.true)) (sym c.node_of-node.ensures)).1

pub entry-link-requires-clause-node : goal.entry-link-requires-clause-node
entry-link-requires-clause-node c =
    inside-count c.args.self.now.nodes.all c.node_of-node.result.n (c.levels.invariant.held c.node_of-node.result.n (omega (arith, c.levels-test.true)) (sym c.node_of-node.ensures)).1

-- the way is alone so far, and the node is held once
record IsJoined (alone : Bool) (count : ℕ) (joined : Bool) : Type 0 where
  both : joined ≡ true → (alone ≡ true) × (count ≡ 1)
  none : joined ≡ false → (alone ≡ false) ⊎ (count ≢ 1)

joined-then : (alone : Bool) (count : ℕ) (joined : Bool) → alone ≡ true → joined ≡ eqb count 1 → IsJoined alone count joined
joined-then alone count joined at is = record {
  both = λ t. (at, ⊎_elim (λ one. one) (λ off. absurd (let f = ne_eqb count 1 off in cc (t, is, f))) (cases_eq count 1));
  none = λ f. inr (λ one. absurd (let e = eq-eqb count 1 one in cc (f, is, e)));
}

joined-else : (alone : Bool) (count : ℕ) (joined : Bool) → alone ≡ false → joined ≡ false → IsJoined alone count joined
joined-else alone count joined off is = record {
  both = λ t. absurd (cc (t, is));
  none = λ f. inl off;
}

pub levels-preserved : goal.levels-preserved
levels-preserved c =
    let nodes = c.args.self.now.nodes.all in
    let n = c.node_of-node.result.n in
    let here = c.levels.invariant.held n (omega (arith, c.levels-test.true)) (sym c.node_of-node.ensures) in
    let at = c.entry-link.ensures in
    let step : IsStep nodes c.levels.level c.levels.link n c.levels.p c.width-width.result c.entry-link.result =
    record { some = omega (arith, c.levels-test.true); leads = c.node_of-node.ensures; wide = c.width-width.ensures; is = at } in
    let joined : IsJoined c.levels.alone c.count-once.result c.if-alone.alone =
    elim c.if-alone.branch [ then-alone w ↦ joined-then c.levels.alone c.count-once.result c.if-alone.alone w.if-alone.true w.alone-is | else-alone w ↦ joined-else c.levels.alone c.count-once.result c.if-alone.alone w.if-alone.false (w.alone-is ∙ w.if-alone.false) ] in
    record {
      high = omega (arith, c.levels.invariant.high);
      held = λ m up is. (
        let l = c.requires.sound.below n (c.levels.p / c.width-width.result) m (omega (arith, here.0, up)) (sym at ∙ is) in omega (arith, l, here.0),
        c.requires.sound.held n (c.levels.p / c.width-width.result) m (omega (arith, here.0, up)) (sym at ∙ is),
      );
      within = rw c.width-width.ensures (mod-lt c.levels.p (pow-pos (c.levels.level - 1)));
      entry = step-entry nodes c.levels.level c.levels.link n c.levels.p c.width-width.result c.entry-link.result step ∙ c.levels.invariant.entry;
      alone = λ is. let b = joined.both is in step-short nodes c.levels.level c.levels.link n c.levels.p c.width-width.result c.entry-link.result step (sym c.count-once.ensures ∙ b.1) ∙ c.levels.invariant.alone b.0;
      shared = λ is. ⊎_elim
          c.levels.invariant.shared
          (λ more. let s = step-shared nodes c.levels.level c.levels.link n c.levels.p c.width-width.result c.entry-link.result step (λ once. more (c.count-once.ensures ∙ once)) in
          ⊎_elim
          (λ alone. let same = c.levels.invariant.alone alone in omega (arith, s, same))
          c.levels.invariant.shared
          (cases_Bool c.levels.alone))
          (joined.none is);
    }

pub returns-clause-entry : goal.returns-clause-entry
unfolding entry_below
returns-clause-entry c =
    let done : c.levels.level ≡ 0 = omega (arith, c.levels-test.false) in
    sym (ap (λ l. entry_below c.args.self.now.nodes.all l c.levels.link c.levels.p) done) ∙ c.levels.invariant.entry

pub returns-clause-alone : goal.returns-clause-alone
unfolding short_below
returns-clause-alone c =
    let done : c.levels.level ≡ 0 = omega (arith, c.levels-test.false) in
    let none : short_below c.args.self.now.nodes.all c.levels.level c.levels.link c.levels.p ≡ 0 = ap (λ l. short_below c.args.self.now.nodes.all l c.levels.link c.levels.p) done in (
      (λ is. sym (c.levels.invariant.alone is) ∙ none),
      (λ is. true_from_ne_false c.levels.alone (λ off. absurd (let more = c.levels.invariant.shared off in omega (arith, more, is)))),
    )
