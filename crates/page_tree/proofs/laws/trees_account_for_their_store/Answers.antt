use Rattle.page_tree.proofs.ElsewhereLemmas.{elsewhere-is}
use Rattle.page_tree.proofs.HolderLemmas.{held-frame, holder-of_held, tied-tree}
use Rattle.page_tree.proofs.NodeBound.{node_bound}
use Rattle.page_tree.proofs.laws.trees_account_for_their_store.Goals as goal

pub returns : goal.returns
returns c =
    record {
      are_trees = λ nodes frames trees k tied few inside. tied-tree nodes frames trees k tied inside few;
      free = node_bound;
      held = λ nodes frames trees f tied held. holder-of_held nodes frames trees tied f held;
      has_held = λ nodes frames trees f tied has. held-frame nodes frames trees tied f has;
      elsewhere = elsewhere-is;
    }
