use Rattle.std.proofs.Common.{ap, sym, ◌∙◌}
use Rattle.page_tree.specs.Pages.{link_of}
use Rattle.page_tree.proofs.LinkLemmas.{link_of-node, link_of-none}
use Rattle.page_tree.proofs.store.Store.link_at.Goals as goal

pub entry-requires-clause-node : goal.entry-requires-clause-node
entry-requires-clause-node c = c.requires.inside c.node_of.result.n (sym c.node_of.ensures)

pub returns-then-link-eq0 : goal.returns-then-link-eq0
returns-then-link-eq0 c = sym (ap (λ l. link_of c.args.self.now.nodes.all l c.args.index) c.if-link-eq0.true ∙ link_of-none c.args.self.now.nodes.all c.args.index)

pub returns-else-link-eq0 : goal.returns-else-link-eq0
returns-else-link-eq0 c = c.entry.ensures ∙ sym (link_of-node c.args.self.now.nodes.all c.node_of.result.n c.args.index) ∙ ap (λ l. link_of c.args.self.now.nodes.all l c.args.index) c.node_of.ensures
