use Rattle.std.proofs.Common.{◌<◌, ℕ, List, ◌∷◌, ◌++◌, [], length, sym, ap, subst, ◌∙◌}
use mathlib.Core.List.{IsPrefix}
use Rattle.turnstile.specs.Past.{times}
use Rattle.turnstile.proofs.Turns.{may_end, due_for, had_turn, seen_after}
use Rattle.turnstile.proofs.lock.Turnstile.turn_inside.Goals as goal

pub act-state-requires : goal.act-state-requires
act-state-requires g c =
    c.requires.callable _ (due_for g.S.Turned.name g.S.Turned.past _ _ c.pass.inside.seat _ _ c.pass.view_is c.requires.ours c.take_turn-state.ensures.turn)

pub end_turn-requires-clause-turn : goal.end_turn-requires-clause-turn
end_turn-requires-clause-turn g c κs within =
    let name = g.S.Turned.name in
    let past = g.S.Turned.past in
    let t = c.take_turn-state.ensures.turn in
    let state = c.take_turn-state.result in
    let moved = c.requires.moves state _ _ (due_for name past _ _ c.pass.inside.seat _ state c.pass.view_is c.requires.ours t) c.act-state.ensures in
    may_end name past _ _ state t _ moved.0 (moved.1 ∙ ap (λ (n : ℕ). past state ++ n ∷ []) (sym (ap (λ p. p.number) c.pass.view_is)))

pub returns-clause-front : goal.returns-clause-front
returns-clause-front g c =
    let name = g.S.Turned.name in
    let past = g.S.Turned.past in
    let t = c.take_turn-state.ensures.turn in
    let state = c.take_turn-state.result in
    let moved = c.requires.moves state _ _ (due_for name past _ _ c.pass.inside.seat _ state c.pass.view_is c.requires.ours t) c.act-state.ensures in
    let had = had_turn name past _ _ c.pass.inside.seat _ state _ c.pass.view_is c.requires.ours t moved.1 in
    let seen = seen_after c.end_turn.new.seat.me (past c.act-state.result.0) c.take_turn-state.new.seat.me.0 c.end_turn.ensures.ended in
    subst (IsPrefix c.args.pass.now.seen) (sym seen) had.front

pub returns-clause-count : goal.returns-clause-count
returns-clause-count g c =
    let name = g.S.Turned.name in
    let past = g.S.Turned.past in
    let t = c.take_turn-state.ensures.turn in
    let state = c.take_turn-state.result in
    let moved = c.requires.moves state _ _ (due_for name past _ _ c.pass.inside.seat _ state c.pass.view_is c.requires.ours t) c.act-state.ensures in
    let had = had_turn name past _ _ c.pass.inside.seat _ state _ c.pass.view_is c.requires.ours t moved.1 in
    let seen = seen_after c.end_turn.new.seat.me (past c.act-state.result.0) c.take_turn-state.new.seat.me.0 c.end_turn.ensures.ended in
    ap (times c.args.pass.now.number) seen ∙ had.count

pub returns-clause-later : goal.returns-clause-later
returns-clause-later g c =
    let name = g.S.Turned.name in
    let past = g.S.Turned.past in
    let t = c.take_turn-state.ensures.turn in
    let state = c.take_turn-state.result in
    let moved = c.requires.moves state _ _ (due_for name past _ _ c.pass.inside.seat _ state c.pass.view_is c.requires.ours t) c.act-state.ensures in
    let had = had_turn name past _ _ c.pass.inside.seat _ state _ c.pass.view_is c.requires.ours t moved.1 in
    let seen = seen_after c.end_turn.new.seat.me (past c.act-state.result.0) c.take_turn-state.new.seat.me.0 c.end_turn.ensures.ended in
    subst (λ (past : List ℕ). c.args.pass.now.noted < length past) (sym seen) had.later
