-- Pasts, and what is known of them.
use Rattle.std.proofs.Common.{◌≡◌, ◌≢◌, ◌+◌, ◌≤◌, ◌==◌, ℕ, List, [], ◌∷◌, ◌++◌, length, refl, sym, ap, ◌∙◌, arith, append_assoc, length-append}
use Rattle.std.proofs.lemmas.Bool.Decides.{nat_tests}
use Rattle.std.proofs.lemmas.List.{append-nil}
use Rattle.std.proofs.lemmas.List.Sums.{sum_by-append}
use mathlib.Core.List.{IsPrefix}
use mathlib.Core.Bool.{cond}
use Rattle.turnstile.specs.Past.{times, Knows}

pub times-append : (number : ℕ) (xs ys : List ℕ) → times number (xs ++ ys) ≡ times number xs + times number ys
times-append number xs ys = sum_by-append (λ turn. cond (turn == number) 1 0) xs ys

pub times-same : (number : ℕ) → times number (number ∷ []) ≡ 1
times-same number = grind (arith, nat_tests)

pub times-other : (number other : ℕ) → other ≢ number → times number (other ∷ []) ≡ 0
times-other number other apart = grind (arith, nat_tests)

-- one more turn of the number
pub times-push_same : (number : ℕ) (past : List ℕ) → times number (past ++ number ∷ []) ≡ times number past + 1
times-push_same number past = omega (arith, times-append number past (number ∷ []), times-same number)

-- a turn of another number
pub times-push_other : (number other : ℕ) (past : List ℕ) → other ≢ number → times number (past ++ other ∷ []) ≡ times number past
times-push_other number other past apart = omega (arith, times-append number past (other ∷ []), times-other number other apart)

pub prefix_self : (past : List ℕ) → IsPrefix past past
prefix_self past = ([], append-nil past)

pub prefix_length : (seen past : List ℕ) → IsPrefix seen past → length seen ≤ length past
prefix_length seen past p = omega (arith, sym (ap length p.1) ∙ length-append seen p.0)

pub prefix_trans : (xs ys zs : List ℕ) → IsPrefix xs ys → IsPrefix ys zs → IsPrefix xs zs
prefix_trans xs ys zs p q = (p.0 ++ q.0, sym (append_assoc xs p.0 q.0) ∙ (ap (λ w. w ++ q.0) p.1 ∙ q.1))

pub knows_self : (past : List ℕ) (number : ℕ) → Knows past number past
knows_self past number = (prefix_self past, refl)

-- who has had no turn knows it
pub knows_none : (past : List ℕ) (number : ℕ) → times number past ≡ 0 → Knows past number []
knows_none past number none_yet = ((past, refl), none_yet)

-- another's turn leaves what is known
pub knows_push : (past : List ℕ) (number other : ℕ) (seen : List ℕ) → other ≢ number → Knows past number seen → Knows (past ++ other ∷ []) number seen
knows_push past number other seen apart k =
    (prefix_trans seen past (past ++ other ∷ []) k.0 (other ∷ [], refl), times-push_other number other past apart ∙ k.1)
