use Rattle.std.proofs.Common.{sym, ◌∙◌, arith}
use Rattle.page_tree.proofs.TreeLemmas.{tree-loose, page-entry}
use Rattle.page_tree.proofs.tree.PageTree.get.Goals as goal

pub look_at-requires-clause-held : goal.look_at-requires-clause-held
look_at-requires-clause-held c = λ n is.
    let loose = tree-loose _ _ _ c.requires.sound c.requires.tree n (sym c.self.view_is ∙ is) in
    (loose.0, omega (arith, loose.1))

pub returns : goal.returns
returns c = rw (← c.self.view_is) (c.cell_from.ensures.cell ∙ page-entry _ _ c.args.page_number c.look_at.ensures.entry)
