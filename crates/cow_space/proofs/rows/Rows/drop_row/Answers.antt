use Rattle.std.proofs.Common.{◌≡◌, set, subst}
use Rattle.cow_space.specs.RowSeen.{maps}
use Rattle.cow_space.proofs.RowViews.{tree-in}
use Rattle.cow_space.proofs.Trees.{row-none}
use Rattle.cow_space.proofs.rows.Rows.drop_row.Goals as goal

pub returns-clause-maps : goal.returns-clause-maps
unfolding maps
returns-clause-maps c =
    let w = c.args.self.now in
    subst (λ m. maps c.clear.new.self ≡ set (maps w) c.args.place m) (row-none w.store.frames w.store.nodes.all w.trees.items c.args.place (tree-in w c.args.place c.requires.row)) c.clear.ensures.maps
