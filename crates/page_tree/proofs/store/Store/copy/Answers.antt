use Rattle.std.proofs.Common.{ℕ, ◌≡◌, ◌≢◌, ◌+◌, ◌<◌, ap, refl, sym, get_or, ◌∙◌, arith}
use Rattle.node_pool.specs.Nodes.{count_of}
use Rattle.page_tree.specs.Sound.{is_root, leading_to}
use Rattle.page_tree.proofs.LinkLemmas.{is_root-there}
use Rattle.page_tree.proofs.NodeLemmas.{Moves-copied, entries-copied, map-copied, loose-kept}
use Rattle.page_tree.specs.Steps.{none_shared}
use Rattle.page_tree.proofs.MoveLemmas.{Moves-with}
use Rattle.page_tree.proofs.LoneLemmas.{lone-given, lone-out, lone-taken, lone-trans}
use Rattle.page_tree.proofs.store.Store.copy.Goals as goal

apart-free : (a b : ℕ) (count lead : ℕ → ℕ) → lead a < count a → count b ≡ 0 → a ≢ b
apart-free a b count lead some none is = let c = ap count is in absurd (omega (arith, c, some, none))

pub fill-requires-clause-apart : goal.fill-requires-clause-apart
fill-requires-clause-apart c =
    apart-free c.args.node.n c.take-copy.result.n (count_of c.args.self.now.nodes.all) (leading_to c.args.self.now.nodes.all) (c.requires.loose c.args.node.n refl).1 c.take-copy.ensures.was_free

pub fill-requires-clause-loose : goal.fill-requires-clause-loose
fill-requires-clause-loose c =
    let apart = apart-free c.args.node.n c.take-copy.result.n (count_of c.args.self.now.nodes.all) (leading_to c.args.self.now.nodes.all) (c.requires.loose c.args.node.n refl).1 c.take-copy.ensures.was_free in
    loose-kept _ _ _ _ _ _ _ _ c.args.node.n c.requires.loose c.take-copy.ensures.moves (c.take-copy.ensures.others c.args.node.n apart) (sym (is_root-there c.take-copy.result.n c.args.node.n apart))

pub give_up-requires-clause-loose : goal.give_up-requires-clause-loose
give_up-requires-clause-loose c =
    let apart = apart-free c.args.node.n c.take-copy.result.n (count_of c.args.self.now.nodes.all) (leading_to c.args.self.now.nodes.all) (c.requires.loose c.args.node.n refl).1 c.take-copy.ensures.was_free in
    loose-kept _ _ _ _ _ _ _ _ c.args.node.n
    (loose-kept _ _ _ _ _ _ _ _ c.args.node.n c.requires.loose c.take-copy.ensures.moves (c.take-copy.ensures.others c.args.node.n apart) (sym (is_root-there c.take-copy.result.n c.args.node.n apart)))
    c.fill.ensures.moves c.fill.ensures.peer refl

pub give_up-requires-clause-clean : goal.give_up-requires-clause-clean
give_up-requires-clause-clean c = λ once.
    let apart = apart-free c.args.node.n c.take-copy.result.n (count_of c.args.self.now.nodes.all) (leading_to c.args.self.now.nodes.all) (c.requires.loose c.args.node.n refl).1 c.take-copy.ensures.was_free in
    absurd (c.requires.shared (ap (λ y. y.count) (sym (c.take-copy.ensures.others c.args.node.n apart)) ∙ ap (λ y. y.count) (sym c.fill.ensures.peer) ∙ once))

pub returns-clause-moves : goal.returns-clause-moves
returns-clause-moves c =
    let apart = apart-free c.args.node.n c.take-copy.result.n (count_of c.args.self.now.nodes.all) (leading_to c.args.self.now.nodes.all) (c.requires.loose c.args.node.n refl).1 c.take-copy.ensures.was_free in
    Moves-copied c.args.level _ _ _ _ _ _ _ _ c.args.node.n c.take-copy.result.n c.requires.low c.requires.sound c.requires.loose apart c.take-copy.ensures.sound c.fill.ensures.sound c.take-copy.ensures.moves c.fill.ensures.moves c.give_up.ensures.moves c.fill.ensures.own

pub returns-clause-entries : goal.returns-clause-entries
returns-clause-entries c =
    let apart = apart-free c.args.node.n c.take-copy.result.n (count_of c.args.self.now.nodes.all) (leading_to c.args.self.now.nodes.all) (c.requires.loose c.args.node.n refl).1 c.take-copy.ensures.was_free in
    entries-copied c.args.level _ _ _ _ _ _ _ _ c.args.node.n c.take-copy.result.n c.requires.low c.requires.sound c.requires.loose apart c.take-copy.ensures.sound c.fill.ensures.sound c.take-copy.ensures.moves c.fill.ensures.moves c.give_up.ensures.moves c.fill.ensures.own
    c.fill.ensures.entries (c.take-copy.ensures.others c.args.node.n apart)

pub returns-clause-maps : goal.returns-clause-maps
returns-clause-maps c =
    let apart = apart-free c.args.node.n c.take-copy.result.n (count_of c.args.self.now.nodes.all) (leading_to c.args.self.now.nodes.all) (c.requires.loose c.args.node.n refl).1 c.take-copy.ensures.was_free in
    map-copied c.args.level _ _ _ _ _ _ _ _ c.args.node.n c.take-copy.result.n c.requires.low c.requires.sound c.requires.loose apart c.take-copy.ensures.sound c.fill.ensures.sound c.take-copy.ensures.moves c.fill.ensures.moves c.give_up.ensures.moves c.fill.ensures.own
    (λ i. c.fill.ensures.entries i ∙ ap (λ y. get_or y.entries i 0) (sym c.fill.ensures.peer))

pub fill-requires-clause-shared : goal.fill-requires-clause-shared
fill-requires-clause-shared c = λ once.
    let apart = apart-free c.args.node.n c.take-copy.result.n (count_of c.args.self.now.nodes.all) (leading_to c.args.self.now.nodes.all) (c.requires.loose c.args.node.n refl).1 c.take-copy.ensures.was_free in
    c.requires.shared (ap (λ y. y.count) (sym (c.take-copy.ensures.others c.args.node.n apart)) ∙ once)

pub returns-clause-lone : goal.returns-clause-lone
returns-clause-lone c =
    let apart = apart-free c.args.node.n c.take-copy.result.n (count_of c.args.self.now.nodes.all) (leading_to c.args.self.now.nodes.all) (c.requires.loose c.args.node.n refl).1 c.take-copy.ensures.was_free in
    let n = c.args.node.n in
    let m = c.take-copy.result.n in
    let level = c.args.level in
    let a = c.args.self.now.nodes.all in
    let b = c.take-copy.new.self.nodes.all in
    let d = c.fill.new.self.nodes.all in
    let e = c.give_up.new.self.nodes.all in
    let loose = loose-kept _ _ _ _ _ _ _ _ n
    (loose-kept _ _ _ _ _ _ _ _ n c.requires.loose c.take-copy.ensures.moves (c.take-copy.ensures.others n apart) (sym (is_root-there m n apart)))
    c.fill.ensures.moves c.fill.ensures.peer refl in
    lone-trans level level a b e _ _ (is_root (n + 1)) (λ x. is_root (m + 1) x + is_root (n + 1) x) none_shared none_shared c.requires.sound
    (Moves-with level a b _ _ (λ x. 0) (is_root (m + 1)) (is_root (n + 1)) (is_root (n + 1)) (λ x. is_root (m + 1) x + is_root (n + 1) x) c.take-copy.ensures.moves (λ x. omega arith) (λ x. omega arith))
    (lone-taken a b (is_root (n + 1)) none_shared m c.take-copy.ensures.was_free c.take-copy.ensures.others)
    (lone-trans level level b d e _ _ (λ x. is_root (m + 1) x + is_root (n + 1) x) (λ x. is_root (m + 1) x + is_root (n + 1) x) none_shared none_shared c.take-copy.ensures.sound
    (Moves-with level b d _ _ (is_root (m + 1)) (is_root (m + 1)) (is_root (n + 1)) (λ x. is_root (m + 1) x + is_root (n + 1) x) (λ x. is_root (m + 1) x + is_root (n + 1) x) c.fill.ensures.moves (λ x. omega arith) (λ x. omega arith))
    (lone-out b d (is_root (m + 1)) (λ x. is_root (m + 1) x + is_root (n + 1) x) none_shared (λ x. omega arith) c.fill.ensures.lone)
    (lone-out d e (is_root (n + 1)) (λ x. is_root (m + 1) x + is_root (n + 1) x) none_shared (λ x. omega arith) (lone-given level level d e _ n c.fill.ensures.sound loose c.give_up.ensures.others))
    (λ t y _ _ shared. absurd shared))
    (λ t y _ _ shared. absurd shared)
