use Rattle.std.proofs.Common.{refl, sym, arith}
use Rattle.page_tree.proofs.EnterLemmas.{node-fits}
use Rattle.page_tree.proofs.LoneLemmas.{lone-held, lone-same}
use Rattle.page_tree.proofs.store.Store.hold_link.Goals as goal

pub hold-requires-clause-fits : goal.hold-requires-clause-fits
hold-requires-clause-fits c =
    let held = c.requires.held c.node_of.result.n (sym c.node_of.ensures) in
    node-fits _ _ _ c.node_of.result.n c.requires.sound (omega (arith, held.0))

pub returns-then-link-ne0-clause-lone : goal.returns-then-link-ne0-clause-lone
returns-then-link-ne0-clause-lone c = lone-held _ _ _ c.args.link c.node_of.result.n c.node_of.ensures c.hold.ensures.others

pub returns-else-link-ne0-clause-lone : goal.returns-else-link-ne0-clause-lone
returns-else-link-ne0-clause-lone c = lone-same _ _ _ _ (λ x. refl)
