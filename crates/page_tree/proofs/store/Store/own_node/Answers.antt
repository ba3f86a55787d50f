use Rattle.std.proofs.Common.{refl, ◌∙◌, arith}
use Rattle.page_tree.proofs.UsesLemmas.{inside-count}
use Rattle.page_tree.proofs.LinkLemmas.{link_short-shared}
use Rattle.page_tree.proofs.LoneLemmas.{lone-same}
use Rattle.page_tree.proofs.store.Store.own_node.Goals as goal

pub count-requires : goal.count-requires
count-requires c = inside-count _ c.args.node.n (let l = (c.requires.loose c.args.node.n refl).1 in omega (arith, l))

pub copy-requires-clause-free : goal.copy-requires-clause-free
copy-requires-clause-free c =
    let short = link_short-shared c.args.self.now.nodes.all c.args.node.n (λ once. c.if-count-eq1.false (c.count.ensures ∙ once)) in
    omega (arith, short, c.requires.free)

pub returns-else-count-eq1-clause-same : goal.returns-else-count-eq1-clause-same
returns-else-count-eq1-clause-same c = λ none.
    let short = link_short-shared c.args.self.now.nodes.all c.args.node.n (λ once. c.if-count-eq1.false (c.count.ensures ∙ once)) in
    absurd (omega (arith, short, none))

pub returns-else-count-eq1-clause-free : goal.returns-else-count-eq1-clause-free
returns-else-count-eq1-clause-free c =
    let short = link_short-shared c.args.self.now.nodes.all c.args.node.n (λ once. c.if-count-eq1.false (c.count.ensures ∙ once)) in
    omega (arith, short, c.copy.ensures.free)

pub returns-else-count-eq1-clause-cost_own : goal.returns-else-count-eq1-clause-cost_own
returns-else-count-eq1-clause-cost_own c = λ none.
    let short = link_short-shared c.args.self.now.nodes.all c.args.node.n (λ once. c.if-count-eq1.false (c.count.ensures ∙ once)) in
    absurd (omega (arith, short, none))

pub returns-then-count-eq1-clause-lone : goal.returns-then-count-eq1-clause-lone
returns-then-count-eq1-clause-lone c = lone-same _ _ _ _ (λ x. refl)
