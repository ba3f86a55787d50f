use Rattle.std.proofs.Common.{ap, sym, subst, ◌∙◌, arith}
use Rattle.page_tree.specs.Short.{link_short}
use Rattle.page_tree.specs.Pages.{entry_below, link_of}
use Rattle.page_tree.proofs.LinkLemmas.{link_short-none, link_of-none, link_of-node}
use Rattle.page_tree.proofs.NodeLemmas.{map-none}
use Rattle.page_tree.specs.Sound.{is_root}
use Rattle.page_tree.specs.Steps.{KeepsLone, none_shared}
use Rattle.page_tree.proofs.LoneLemmas.{lone-taken}
use Rattle.page_tree.proofs.store.Store.own.Goals as goal

pub take-requires-clause-free : goal.take-requires-clause-free
take-requires-clause-free c =
    let short = ap (link_short c.args.self.now.nodes.all) c.if-link-eq0.true ∙ link_short-none c.args.self.now.nodes.all in
    omega (arith, short, c.requires.free)

pub returns-then-link-eq0-clause-entries : goal.returns-then-link-eq0-clause-entries
returns-then-link-eq0-clause-entries c = λ i.
    c.take.ensures.empty i ∙ sym (ap (λ e. link_of c.args.self.now.nodes.all e i) c.if-link-eq0.true ∙ link_of-none c.args.self.now.nodes.all i)

pub returns-then-link-eq0-clause-maps : goal.returns-then-link-eq0-clause-maps
returns-then-link-eq0-clause-maps c = λ q.
    map-none c.args.self.now.nodes.all c.take.new.self.nodes.all c.args.level c.take.result.n q (omega (arith, c.requires.low)) c.take.ensures.empty
    ∙ ap (λ e. entry_below c.args.self.now.nodes.all c.args.level e q) (sym c.if-link-eq0.true)

pub returns-then-link-eq0-clause-same : goal.returns-then-link-eq0-clause-same
returns-then-link-eq0-clause-same c = λ none.
    let short = ap (link_short c.args.self.now.nodes.all) c.if-link-eq0.true ∙ link_short-none c.args.self.now.nodes.all in
    absurd (omega (arith, short, none))

pub returns-then-link-eq0-clause-free : goal.returns-then-link-eq0-clause-free
returns-then-link-eq0-clause-free c =
    let short = ap (link_short c.args.self.now.nodes.all) c.if-link-eq0.true ∙ link_short-none c.args.self.now.nodes.all in
    omega (arith, short, c.take.ensures.free)

pub returns-then-link-eq0-clause-cost_own : goal.returns-then-link-eq0-clause-cost_own
returns-then-link-eq0-clause-cost_own c = λ none.
    let short = ap (link_short c.args.self.now.nodes.all) c.if-link-eq0.true ∙ link_short-none c.args.self.now.nodes.all in
    absurd (omega (arith, short, none))

pub returns-else-link-eq0-clause-entries : goal.returns-else-link-eq0-clause-entries
returns-else-link-eq0-clause-entries c = λ i.
    c.own_node.ensures.entries i ∙ sym (link_of-node c.args.self.now.nodes.all c.node_of.result.n i) ∙ ap (λ e. link_of c.args.self.now.nodes.all e i) c.node_of.ensures

pub returns-then-link-eq0-clause-lone : goal.returns-then-link-eq0-clause-lone
returns-then-link-eq0-clause-lone c = lone-taken _ _ _ none_shared c.take.result.n c.take.ensures.was_free c.take.ensures.others

pub returns-else-link-eq0-clause-lone : goal.returns-else-link-eq0-clause-lone
returns-else-link-eq0-clause-lone c = subst (λ e. KeepsLone c.args.self.now.nodes.all c.own_node.new.self.nodes.all (is_root e) none_shared) c.node_of.ensures c.own_node.ensures.lone
