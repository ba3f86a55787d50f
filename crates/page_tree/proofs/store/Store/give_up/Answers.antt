use Rattle.std.proofs.Common.{refl, arith}
use Rattle.page_tree.proofs.LinkLemmas.{is_root-here, is_root-there}
use Rattle.page_tree.proofs.RenodeLemmas.{IsSound-recount, Moves-recount}
use Rattle.page_tree.proofs.store.Store.give_up.Goals as goal

pub returns-clause-sound : goal.returns-clause-sound
returns-clause-sound c =
    let own = c.requires.loose c.args.node.n refl in
    rw c.drop_hold.ensures.once_less
    (IsSound-recount _ _ _ c.requires.sound c.args.node.n _ (omega (arith, own.1)) (λ none. c.requires.clean (omega (arith, none, own.1))) (omega (arith, own.1)) (omega (arith, own.0)))

pub returns-clause-moves : goal.returns-clause-moves
returns-clause-moves c =
    let own = c.requires.loose c.args.node.n refl in
    rw c.drop_hold.ensures.once_less
    (Moves-recount _ _ _ c.requires.sound c.args.node.n _ (omega (arith, own.1)) _ _ _ (omega (arith, own.0)) (let h = is_root-here c.args.node.n in omega (arith, h, own.1)) (λ x off. is_root-there c.args.node.n x off))
