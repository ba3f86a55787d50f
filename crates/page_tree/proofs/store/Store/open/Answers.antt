use Rattle.page_tree.proofs.NewLemmas.{IsSound-new, IsTied-new, free_of-new}
use Rattle.page_tree.proofs.store.Store.open.Goals as goal

pub returns-clause-sound : goal.returns-clause-sound
returns-clause-sound c =
    rw (c.in_ok-nodes.ensures.nodes, c.in_ok-frames.ensures) (IsSound-new _ _ _ c.requires.few_nodes c.requires.few_frames)

pub returns-clause-free : goal.returns-clause-free
returns-clause-free c = rw c.in_ok-nodes.ensures.nodes (free_of-new _)

pub returns-clause-tied : goal.returns-clause-tied
returns-clause-tied c =
    rw (c.in_ok-nodes.ensures.nodes, c.in_ok-frames.ensures) (IsTied-new _ _ _ c.requires.few_nodes c.requires.few_frames)
