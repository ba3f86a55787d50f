-- What a whole turn says to the holder of the pass.
use Rattle.std.proofs.Common.{◌≡◌, ◌+◌, ◌<◌, ◌≤◌, ℕ, List, [], ◌∷◌, ◌++◌, length, Option, Some, sym, ap, subst, ◌∙◌, arith, length-append}
use mathlib.Core.List.{IsPrefix}
use Rattle.atomic_table.specs.Table.{Me}
use Rattle.atomic_table.specs.declared.shared.Seat.{Seat}
use Rattle.turnstile.specs.declared.views.Stage.TheVariants.{Serving}
use Rattle.turnstile.specs.declared.views.View.{View}
use Rattle.turnstile.specs.Past.{times, Knows}
use Rattle.turnstile.specs.Moves.{TakesTurn, MayEnd}
use Rattle.turnstile.specs.Passes.{Lock, Held, IsPassOf, IsDueFor, held_of}
use Rattle.turnstile.specs.Steps.{rested}
use Rattle.turnstile.proofs.Pasts.{times-push_same, prefix_trans}

module _ {S N : Type 0} (name_of : S → N) (past_of : S → List ℕ) (m m' : Me (Option S) (View N)) (state : S) (t : TakesTurn name_of past_of m state m') where
  -- the state that the action left may be passed on
  pub may_end : (left : S) → name_of left ≡ name_of state → past_of left ≡ past_of state ++ m.0.number ∷ [] → MayEnd name_of past_of m'.0 left
  may_end left named grown = subst (λ (v : View N). MayEnd name_of past_of v left) (sym (ap (λ (x : Me (Option S) (View N)). x.0) t.turn)) record {
    ticket = t.ticket;
    serves = λ i. Serving t.ticket;
    named = ap Some named ∙ t.named;
    past_is = grown;
  }

-- the view and the slots at the end of a turn
module _ {S N : Type 0} (m : Me (Option S) (View N)) (past : List ℕ) (v : View N) (ended : m ≡ (rested past v, [])) where
  -- the past that it has seen
  pub seen_after : m.0.seen ≡ past
  seen_after = ap (λ (x : Me (Option S) (View N)). x.0.seen) ended

-- the state that a turn begins with is due for the pass
pub due_for : {S N : Type 0} (name_of : S → N) (past_of : S → List ℕ) (gate : Lock N) (p : Held N) (seat : Seat (Option S) (View N)) (m' : Me (Option S) (View N)) (state : S)
    → held_of seat ≡ p → IsPassOf gate p → TakesTurn name_of past_of seat.me state m' → IsDueFor name_of past_of gate p state
due_for {S} {N} name_of past_of gate p seat m' state is ours t =
    let name_is : seat.me.0.name ≡ p.name = ap (λ (h : Held N). h.name) is in
    let same : Some (name_of state) ≡ Some gate.name = t.named ∙ (name_is ∙ ours.1) in
    (cc, subst (λ (h : Held N). Knows (past_of state) h.number h.seen) is t.knows)

-- what the holder of a pass knows after a turn that left this past
pub record HadTurn {N : Type 0} (p : Held N) (past : List ℕ) : Type 0 where
  pub front : IsPrefix p.seen past
  pub count : times p.number past ≡ times p.number p.seen + 1
  pub later : p.noted < length past

-- a turn that adds the pass's number to the past tells its holder this
pub had_turn : {S N : Type 0} (name_of : S → N) (past_of : S → List ℕ) (gate : Lock N) (p : Held N) (seat : Seat (Option S) (View N)) (m' : Me (Option S) (View N)) (state : S) (past : List ℕ)
    → held_of seat ≡ p → IsPassOf gate p → TakesTurn name_of past_of seat.me state m' → past ≡ past_of state ++ p.number ∷ [] → HadTurn p past
had_turn {S} {N} name_of past_of gate p seat m' state past is ours t grown =
    let before : List ℕ = past_of state in
    let k = (due_for name_of past_of gate p seat m' state is ours t).1 in
    let longer : length past ≡ length before + 1 = omega (arith, ap length grown, length-append before (p.number ∷ [])) in
    let noted : p.noted ≤ t.ticket = subst (λ (h : Held N). h.noted ≤ t.ticket) is t.noted in
    let turns : length before ≡ t.ticket = t.turns in record {
      front = subst (IsPrefix p.seen) (sym grown) (prefix_trans p.seen before (before ++ p.number ∷ []) k.0 (p.number ∷ [], λ i. before ++ p.number ∷ []));
      count = let one = times-push_same p.number before in let same : times p.number past ≡ times p.number (before ++ p.number ∷ []) = ap (times p.number) grown in omega (arith, one, same, k.1);
      later = omega arith;
    }
