use Rattle.std.proofs.Common.{◌≡◌, ◌<◌, ℕ, zero, suc, [], ◌∷◌, ◌++◌, List, map, sym, ap, subst, ◌∙◌, arith}
use Rattle.std.specs.Prelude.{All, Contains}
use Rattle.turnstile.specs.Past.{times, Knows}
use Rattle.turnstile.specs.Passes.{Lock, Held, IsPassOf, AreAllOf}
use Rattle.stream_suite.proofs.turns.close_both.Goals as goal

-- the second and the first of two passes are all
both_all : (t : Lock ℕ) (one other : Held ℕ) → t.seats ≡ 2 → IsPassOf t one → IsPassOf t other → one.number ≡ 0 → other.number ≡ 1 → AreAllOf t (other ∷ one ∷ [])
both_all t one other two ours theirs zeroth first = record {
  ours = each;
  every = every;
}
  where
    each : All (IsPassOf t) (other ∷ one ∷ [])
    each zero d below = theirs
    each (suc zero) d below = ours
    each (suc (suc k)) d below = absurd (omega arith)

    every : (n : ℕ) → n < t.seats → Contains (map (λ p. p.number) (other ∷ one ∷ [])) n
    every zero below = (1, omega arith, zeroth)
    every (suc zero) below = (0, omega arith, first)
    every (suc (suc n)) below = absurd (omega arith)

pub close-requires-after_bounds : goal.close-requires-after_bounds
close-requires-after_bounds c κs =
    let one = c.args.one in
    let other = c.args.other in
    let items : c.push-2.new.self.items ≡ other ∷ one ∷ [] = c.in_ok-push-2.ensures.items ∙ ap (λ (ps : List (Held ℕ)). ps ++ one ∷ []) (c.in_ok-push.ensures.items ∙ ap (λ (ps : List (Held ℕ)). ps ++ other ∷ []) c.requires.empty) in
    subst (λ (ps : List (Held ℕ)). AreAllOf c.args.gate ps) (sym items) (both_all c.args.gate one other c.requires.gate c.requires.ours.0 c.requires.ours.1 c.requires.numbers.0 c.requires.numbers.1)

pub returns-clause-first : goal.returns-clause-first
returns-clause-first c =
    let one = c.args.one in
    let other = c.args.other in
    let past = c.close.result.turns.items in
    let items : c.push-2.new.self.items ≡ other ∷ one ∷ [] = c.in_ok-push-2.ensures.items ∙ ap (λ (ps : List (Held ℕ)). ps ++ one ∷ []) (c.in_ok-push.ensures.items ∙ ap (λ (ps : List (Held ℕ)). ps ++ other ∷ []) c.requires.empty) in
    let known : All (λ (p : Held ℕ). Knows past p.number p.seen) (other ∷ one ∷ []) = subst (λ (ps : List (Held ℕ)). All (λ (p : Held ℕ). Knows past p.number p.seen) ps) items c.close.ensures.seen in
    subst (λ (n : ℕ). times n past ≡ times n one.seen) c.requires.numbers.0 (known 1 one (omega arith)).1
