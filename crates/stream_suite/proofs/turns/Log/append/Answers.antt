use Rattle.std.proofs.Common.{◌≡◌, ◌+◌, ◌-◌, ◌<◌, ◌≤◌, ℕ, List, [], ◌∷◌, ◌++◌, length, get_or, set, sym, ap, subst, ◌∙◌, arith, length-set, get_or-set_same, get_or-set_other}
use Rattle.std.specs.Prelude.{sum}
use mathlib.Core.Logic.{dite}
use native.Mathlib.Decide.{ℕ_discrete}
use Rattle.std.proofs.lemmas.List.{get_or_read}
use Rattle.std.proofs.lemmas.List.Sums.{sum_by-set, get_or-le-sum_by}
use Rattle.turnstile.specs.Past.{times}
use Rattle.turnstile.proofs.Pasts.{times-push_same, times-push_other}
use Rattle.stream_suite.proofs.turns.Log.append.Goals as goal

-- one less of a number's budget, and one turn more of the number
spent : (left turns : List ℕ) (n v : ℕ) → n < length left → v ≡ get_or left n 0 → 0 < v → ((m : ℕ) → m < length left → get_or left m 0 + times m turns ≡ 1000)
    → (m : ℕ) → m < length (set left n (v - 1)) → get_or (set left n (v - 1)) m 0 + times m (turns ++ n ∷ []) ≡ 1000
spent left turns n v inside is some budgets m below = let long = length-set left n (v - 1) in dite (ℕ_discrete m n)
    (λ same. let old = budgets n inside in let now : get_or (set left n (v - 1)) m 0 ≡ v - 1 = ap (λ (k : ℕ). get_or (set left n (v - 1)) k 0) same ∙ get_or-set_same left n (v - 1) 0 inside in
    let more : times m (turns ++ n ∷ []) ≡ times n turns + 1 = ap (λ (k : ℕ). times k (turns ++ n ∷ [])) same ∙ times-push_same n turns in omega arith)
    (λ other. let old = budgets m (omega arith) in let now = get_or-set_other left n m (v - 1) 0 other in let more = times-push_other m n turns (λ same. other (sym same)) in omega arith)

at_least : (left : List ℕ) (n v : ℕ) → n < length left → v ≡ get_or left n 0 → v ≤ sum left
at_least left n v inside is = let most = get_or-le-sum_by (λ x. x) left n 0 inside in omega arith

pub push_reserved-requires : goal.push_reserved-requires
push_reserved-requires c =
    let log = c.args.self.now in
    let v = c.index_mut.result.now in
    let is : v ≡ get_or log.left.items c.args.number 0 = get_or_read log.left.items _ _ c.requires.seat c.index_mut.ensures.value 0 in
    let budget = log.budgets c.args.number c.requires.seat in
    let least = at_least log.left.items c.args.number v c.requires.seat is in
    omega (arith, c.requires.budget, log.room)

pub invariant_of-self : goal.invariant_of-self
invariant_of-self c =
    let log = c.args.self.now in
    let n = c.args.number in
    let v = c.index_mut.result.now in
    let is : v ≡ get_or log.left.items n 0 = get_or_read log.left.items _ _ c.requires.seat c.index_mut.ensures.value 0 in
    let budget = log.budgets n c.requires.seat in
    let some : 0 < v = omega (arith, c.requires.budget) in
    let less = sum_by-set (λ x. x) log.left.items n (v - 1) 0 c.requires.seat in
    let pushed = c.push_reserved.ensures in
    let turn : c.push_reserved.new.self.items ≡ log.turns.items ++ n ∷ [] = pushed.items ∙ ap (λ (k : ℕ). log.turns.items ++ k ∷ []) c.from.ensures in record {
      room = (omega (arith, log.room, pushed.len, pushed.capacity), omega (arith, log.room, pushed.capacity));
      budgets = λ m below. subst (λ turns. get_or (set log.left.items n (v - 1)) m 0 + times m turns ≡ 1000) (sym turn) (spent log.left.items log.turns.items n v c.requires.seat is some log.budgets m below);
    }
