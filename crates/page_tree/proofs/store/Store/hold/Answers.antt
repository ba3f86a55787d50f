use Rattle.std.proofs.Common.{◌≡◌, ◌+◌, ap, sym, ◌∙◌, arith}
use Rattle.node_pool.specs.Nodes.{recount, count_of, level_of}
use Rattle.page_tree.specs.Sound.{leading_to}
use Rattle.page_tree.proofs.LinkLemmas.{is_root-here, is_root-there}
use Rattle.page_tree.proofs.RenodeLemmas.{IsSound-recount, Moves-recount, leading-recount, at-recount}
use Rattle.page_tree.proofs.store.Store.hold.Goals as goal

pub returns-clause-sound : goal.returns-clause-sound
returns-clause-sound c =
    rw c.hold.ensures.once_more
    (IsSound-recount _ _ _ c.requires.sound c.args.node.n _ c.requires.held (λ none. absurd (omega (arith, none))) (let l = c.requires.sound.led c.args.node.n in omega (arith, l)) (omega (arith, c.requires.level)))

pub returns-clause-moves : goal.returns-clause-moves
returns-clause-moves c =
    rw c.hold.ensures.once_more
    (Moves-recount _ _ _ c.requires.sound c.args.node.n _ c.requires.held _ _ _ (omega (arith, c.requires.level)) (let h = is_root-here c.args.node.n in omega (arith, h)) (λ x off. sym (is_root-there c.args.node.n x off)))

pub returns-clause-loose : goal.returns-clause-loose
returns-clause-loose c =
    rw c.hold.ensures.once_more
    (λ n is.
    let old = c.args.self.now.nodes.all in
    let same : n ≡ c.args.node.n = omega (arith, is) in
    let more = count_of old c.args.node.n + 1 in
    let at = at-recount _ old _ c.requires.sound c.args.node.n more c.requires.held in
    let lead = leading-recount _ old _ c.requires.sound c.args.node.n more c.requires.held n in
    let c_is = ap (count_of (recount old c.args.node.n more)) same ∙ ap (λ y. y.count) at in
    let l_is = ap (level_of (recount old c.args.node.n more)) same ∙ ap (λ y. y.level) at in
    let l_old = ap (leading_to old) same in
    let led = c.requires.sound.led c.args.node.n in
    (omega (arith, l_is, c.requires.level), omega (arith, c_is, lead, l_old, led)))
