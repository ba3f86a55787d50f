use Rattle.std.proofs.Common.{sym, ◌∙◌, arith}
use Rattle.page_tree.proofs.TreeLemmas.{tree-loose}
use Rattle.page_tree.proofs.tree.PageTree.is_alone.Goals as goal

pub look_at-requires-clause-held : goal.look_at-requires-clause-held
look_at-requires-clause-held c = λ n is.
    let loose = tree-loose _ _ _ c.requires.sound c.requires.tree n (sym c.self.view_is ∙ is) in
    (loose.0, omega (arith, loose.1))
