use Rattle.std.proofs.Common.{⊎_elim, ap, sym, ◌∙◌}
use Rattle.std.proofs.lemmas.Bool.{cases_eq}
use Rattle.page_tree.specs.Pages.{page}
use Rattle.page_tree.proofs.TreeLemmas.{page-held}
use Rattle.page_tree.proofs.tree.PageTree.unshare_path.Goals as goal

pub set-requires-clause-held : goal.set-requires-clause-held
set-requires-clause-held c = λ f is. page-held _ _ _ c.args.page_number f _ c.requires.sound c.requires.tree c.get-cell.ensures is

pub returns-clause-pages : goal.returns-clause-pages
returns-clause-pages c = λ q lt.
    ⊎_elim
    (λ here. ap (page c.set.new.store.nodes.all c.set.new.self) here ∙ c.set.ensures.page ∙ c.get-cell.ensures ∙ ap (page c.args.store.now.nodes.all c.args.self.now) (sym here))
    (λ off. c.set.ensures.pages q off lt)
    (cases_eq q c.args.page_number)
