use Rattle.std.proofs.Common.{get_or, ◌∙◌, sym, arith, ap}
use Rattle.std.proofs.lemmas.List.{get_or-replicate}
use Rattle.node_pool.specs.Nodes.{Nodes}
use Rattle.node_pool.proofs.PoolLemmas.{seen_node_at, seen_no_entry}
use Rattle.node_pool.proofs.pool.NodePool.entry.Goals as goal

pub returns-then-n-len : goal.returns-then-n-len
returns-then-n-len c =
    ap (λ node. get_or node.entries c.args.index 0)
    (seen_node_at _ _ _ (ap (λ (v : Nodes). v.all) c.self.view_is) c.self.invariant.whole _ _ (omega (arith, c.if-n-len.true, c.self.invariant.whole.filled, c.self.inside.contents.ok)) c.index.ensures)

pub returns-else-n-len : goal.returns-else-n-len
returns-else-n-len c =
    sym (get_or-replicate 32 c.args.index 0 0 c.requires.entry)
    ∙ seen_no_entry _ _ _ (ap (λ (v : Nodes). v.all) c.self.view_is) c.self.invariant.whole _ c.args.index (omega (arith, c.if-n-len.false, c.self.inside.contents.ok)) c.requires.node
