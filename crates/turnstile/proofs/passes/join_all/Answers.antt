use Rattle.std.proofs.Common.{rules, ◌++◌, ◌∙◌, map, sym, ap, subst}
use Rattle.std.specs.Prelude.{All, Contains}
use Rattle.std.proofs.lemmas.Iterator.Consumers.{YieldsList-end}
use Rattle.std.proofs.lemmas.Iterator.Adapters.{YieldsList-from_vec}
use Rattle.turnstile.specs.Passes.{joined_of}
use Rattle.turnstile.proofs.Passing.{All-kept, map-self}
use Rattle.turnstile.proofs.passes.join_all.Goals as goal

pub returns-clause-joined : goal.returns-clause-joined
returns-clause-joined g c =
    let seen = YieldsList-end (YieldsList-from_vec c.args.others.items (search rules) (search rules)) c.loop-other.yielded c.loop-other.other-iterator c.loop-other.yielded_by c.next.result c.next.new.self c.in-None.is c.next.ensures.steps in
    let all = sym (map-self c.loop-other.yielded) ∙ seen.0 in
    let js = c.into_seat-seat.result.me.0.joined in
    let joined = ap (λ m. m.0.joined) c.loop-other.invariant.joined ∙ ap (λ ps. js ++ map (λ p. joined_of (g.P.HoldsPass.held p)) ps) all in
    subst (λ kept. All (λ p. Contains kept (joined_of (g.P.HoldsPass.held p))) c.args.others.items) (sym joined) (All-kept (λ p. joined_of (g.P.HoldsPass.held p)) js c.args.others.items)
