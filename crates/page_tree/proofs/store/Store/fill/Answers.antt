use Rattle.std.proofs.Common.{◌≡◌, ◌+◌, ◌≤◌, ℕ, ◌<◌, ⊎_elim, ap, refl, sym, get_or, ◌∙◌, arith}
use Rattle.std.proofs.lemmas.Bool.{cases_eq, cases_lt}
use Rattle.node_pool.specs.Nodes.{entry_of, level_of}
use Rattle.page_tree.proofs.EnterLemmas.{named-held}
use Rattle.page_tree.proofs.MoveLemmas.{Moves-refl, Moves-trans}
use Rattle.page_tree.specs.Costs.{entries_in}
use Rattle.page_tree.specs.Sound.{is_root}
use Rattle.page_tree.specs.Steps.{none_shared}
use Rattle.page_tree.proofs.LoneLemmas.{lone-leader, lone-same, lone-trans}
use Rattle.page_tree.proofs.CostLemmas.{more-steps, passed-steps, unused}
use Rattle.page_tree.proofs.store.Store.fill.Goals as goal

pub entries-links-requires : goal.entries-links-requires
entries-links-requires c = let l = (c.requires.loose c.args.node.n refl).1 in omega (arith, l)

pub put-requires-clause-cell : goal.put-requires-clause-cell
put-requires-clause-cell c = λ leaf f is.
    let inv = c.entries.invariant in
    let loose = c.requires.loose c.args.node.n refl in
    let l = ap (λ y. y.level) inv.peer in
    let link-now = ap (λ y. get_or y.entries c.entries.i 0) inv.peer ∙ sym (ap (λ links. get_or links c.entries.i 0) c.entries-links.ensures) in
    named-held c.args.level c.entries.self.nodes.all c.entries.self.frames c.args.node.n c.entries.i f inv.sound (omega (arith, l, loose.0, leaf)) (link-now ∙ is)

pub put-requires-clause-held : goal.put-requires-clause-held
put-requires-clause-held c = λ up m is.
    let inv = c.entries.invariant in
    let loose = c.requires.loose c.args.node.n refl in
    let l = ap (λ y. y.level) inv.peer in
    let high : 1 < level_of c.entries.self.nodes.all c.args.node.n = omega (arith, l, loose.0, up) in
    let e = ap (λ y. get_or y.entries c.entries.i 0) inv.peer ∙ sym (ap (λ links. get_or links c.entries.i 0) c.entries-links.ensures) ∙ is in
    let next = inv.sound.below c.args.node.n c.entries.i m high e in
    (omega (arith, next, l, loose.0), inv.sound.held c.args.node.n c.entries.i m high e)

pub entries-init : goal.entries-init
entries-init c =
    let first = c.next_link-i.ensures in
    let there = λ (k : ℕ). ap (λ links. get_or links k 0) c.entries-links.ensures in
    record {
      inside = first.order.1;
      link = first.some;
      sound = c.requires.sound;
      own = c.requires.own;
      moves = Moves-refl _ _ _ _;
      done = λ k lt. c.requires.empty k ∙ sym (first.none k (omega arith) lt) ∙ there k;
      rest = λ k _. c.requires.empty k;
      peer = refl;
      free = omega arith;
      grows = λ f. omega arith;
      lone = lone-same _ _ _ _ (λ x. refl);
      cost = omega arith;
      cost_leaf = λ _. refl;
    }

pub entries-preserved : goal.entries-preserved
entries-preserved c =
    let inv = c.entries.invariant in
    let next = c.next_link-i-in-entries.ensures in
    let loose = c.requires.loose c.args.node.n refl in
    let none = inv.rest c.entries.i (omega arith) in
    let count_is = ap (λ y. y.count) inv.peer in
    let level_is = ap (λ y. y.level) inv.peer in
    let there = λ (k : ℕ). ap (λ links. get_or links k 0) c.entries-links.ensures in
    let link-now = ap (λ y. get_or y.entries c.entries.i 0) inv.peer ∙ sym (there c.entries.i) in
    let narrow : c.args.level ≡ 3 → 16 ≤ c.entries.i → get_or c.entries-links.result c.entries.i 0 ≡ 0 = λ top past. sym link-now ∙ inv.sound.narrow c.args.node.n c.entries.i (level_is ∙ loose.0 ∙ top) past in
    let put = c.put.ensures in
    let grows = put.grows none in
    let cost = put.cost_absent none in
    record {
      inside = next.order.1;
      link = next.some;
      sound = put.sound;
      own = put.own;
      moves = Moves-trans _ _ _ _ _ _ _ _ _ _ _ c.requires.sound inv.moves put.moves;
      done = λ k lt.
          ⊎_elim
          (λ is. ap (entry_of c.put.new.self.nodes.all c.args.copy.n) is ∙ put.here ∙ there c.entries.i ∙ ap (entry_of c.args.self.now.nodes.all c.args.node.n) (sym is))
          (λ away. put.others k away ∙ ⊎_elim
          (λ before. inv.done k before)
          (λ from. inv.rest k from ∙ sym (next.none k (omega (arith, from, away)) lt) ∙ there k)
          (cases_lt k c.entries.i))
          (cases_eq k c.entries.i);
      rest = λ k past. put.others k (λ is. absurd (omega (arith, is, past, next.order.0))) ∙ inv.rest k (omega (arith, past, next.order.0));
      peer = put.peers c.args.node.n c.requires.apart (omega (arith, count_is, loose.1)) (omega (arith, level_is, loose.0)) ∙ inv.peer;
      free = omega (arith, inv.free, put.free);
      grows = λ f. let a = inv.grows f in let b = grows f in omega (arith, a, b);
      lone = lone-trans _ _ _ c.entries.self.nodes.all _ _ _ (is_root (c.args.copy.n + 1)) (is_root (c.args.copy.n + 1)) none_shared _ c.requires.sound inv.moves inv.lone put.lone
          (λ t m other way shared. c.requires.shared (sym count_is ∙ lone-leader c.args.level c.entries.self.nodes.all _ (is_root (c.args.copy.n + 1)) t c.args.node.n c.entries.i m inv.sound other way (omega (arith, level_is, loose.0, shared.0)) (link-now ∙ shared.1)));
      cost = passed-steps (c.entries.i + 1) c.next_link-i-in-entries.result (entries_in c.args.level) 1 c.args.self.now.nodes.steps c.put.new.self.nodes.steps next.order.0
          (more-steps c.entries.i (entries_in c.args.level) 1 c.args.self.now.nodes.steps c.entries.self.nodes.steps c.put.new.self.nodes.steps inv.cost (omega (arith, cost))
          (λ past. absurd (inv.link (omega (arith, c.entries-test.true)) (unused c.args.level c.entries.i (get_or c.entries-links.result c.entries.i 0) narrow (omega (arith, c.entries-test.true)) past))));
      cost_leaf = λ leaf. let a = inv.cost_leaf leaf in let b = put.cost_leaf leaf in omega (arith, a, b);
    }

pub returns-clause-cost : goal.returns-clause-cost
returns-clause-cost c = omega (arith, c.entries.invariant.cost)
