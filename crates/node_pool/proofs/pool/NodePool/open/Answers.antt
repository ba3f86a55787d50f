use Rattle.std.proofs.Common.{◌≡◌, ℕ, [], ◌-◌, length, replicate, ap, ◌∙◌, arith}
use Rattle.std.proofs.lemmas.List.{length-replicate}
use Rattle.pool_base.specs.Padded.{padded}
use Rattle.pool_base.specs.Paired.{paired}
use Rattle.pool_base.proofs.PairedLemmas.{paired-replicate}
use Rattle.node_pool.specs.View.{blank_content, seen_node, seen_nodes}
use Rattle.node_pool.proofs.pool.NodePool.open.Goals as goal

pub returns-clause-nodes : goal.returns-clause-nodes
returns-clause-nodes c =
    let size : length (replicate c.args.nodes 0) ≡ c.args.nodes = length-replicate {A = ℕ} c.args.nodes 0 in
    let whole : c.args.nodes - 0 ≡ c.args.nodes = omega arith in
    (λ i. seen_nodes (c.in_ok-counts.ensures i) (c.in_ok-contents.ensures.items i))
    ∙ ap (λ n. paired seen_node (replicate c.args.nodes 0) (padded n blank_content [])) size
    ∙ ap (λ n. paired seen_node (replicate c.args.nodes 0) (replicate n blank_content)) whole
    ∙ paired-replicate seen_node c.args.nodes 0 blank_content
