use Rattle.std.proofs.Common.{ap, ◌∙◌, arith}
use Rattle.std.proofs.lemmas.List.{get_or_read}
use Rattle.page_tree.specs.Pages.{page}
use Rattle.cow_space.proofs.Trees.{kept-tree}
use Rattle.cow_space.proofs.rows.Rows.cell.Goals as goal

pub index-requires : goal.index-requires
index-requires c = omega (arith, c.requires.row, c.args.self.now.trees.ok)

pub get-requires-clause-tree : goal.get-requires-clause-tree
get-requires-clause-tree c =
    kept-tree _ _ _ c.args.place _ c.args.self.now.kept c.requires.row
    (get_or_read c.args.self.now.trees.items c.args.place _ c.requires.row c.index.ensures 0)

pub returns : goal.returns
returns c =
    c.get.ensures
    ∙ ap (λ t. page c.args.self.now.store.nodes.all t c.args.page_number) (get_or_read c.args.self.now.trees.items c.args.place _ c.requires.row c.index.ensures 0)
