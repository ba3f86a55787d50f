-- Replies that are added, one after another.
use Rattle.std.proofs.Common.{◌≡◌, ◌+◌, ◌*◌, ◌/◌, ◌%◌, ◌^◌, ℕ, cond, List, [], ◌∷◌, ◌++◌, length, Option, sym, ap, ◌∙◌, arith, length-append}
use Rattle.std.specs.List.{sum_by}
use Rattle.std.proofs.Math.Nat.{add-mul-mod_self_right, mod-add-div'}
use Rattle.std.proofs.lemmas.List.Sums.{sum_by_push}
use Rattle.lwc_types.specs.declared.fault.ThreadStatus.{ThreadStatus}
use Rattle.lwc_gen.specs.Summary.{Reply, first_word, is_done, second_word, totals_of}
use Rattle.lwc_gen.specs.declared.totals.Totals.{Totals}

-- a sum modulo m, of which one part was reduced before
mod_first : (a b m : ℕ) → (a % m + b) % m ≡ (a + b) % m
mod_first a b m =
    let whole : a % m + b + a / m * m ≡ a + b = omega (arith, mod-add-div' a m) in
    sym (add-mul-mod_self_right (a % m + b) (a / m) m) ∙ ap (λ (n : ℕ). n % m) whole

-- the totals with one more reply
pub added : (replies : List Reply) (status : Option ThreadStatus) (bytes : List ℕ) (was : Totals) (done first second : ℕ) → was ≡ totals_of replies →
    done ≡ cond (is_done status) 1 0 → first ≡ first_word bytes → second ≡ second_word bytes →
    record { requests = was.requests + 1; done = was.done + done; sum = (was.sum + first) % 2 ^ 64; count = (was.count + second) % 2 ^ 64 }
    ≡ totals_of (replies ++ record { status = status; bytes = bytes } ∷ [])
unfolding totals_of
added replies status bytes was done first second is done_is first_is second_is =
    let reply : Reply = record { status = status; bytes = bytes } in
    let requests : was.requests + 1 ≡ length (replies ++ reply ∷ []) = omega (arith, ap (λ (t : Totals). t.requests) is, length-append replies (reply ∷ [])) in
    let dones : was.done + done ≡ sum_by (λ (r : Reply). cond (is_done r.status) 1 0) (replies ++ reply ∷ []) =
    omega (arith, ap (λ (t : Totals). t.done) is, done_is, sum_by_push (λ (r : Reply). cond (is_done r.status) 1 0) replies reply) in
    let sums : (was.sum + first) % 2 ^ 64 ≡ sum_by (λ (r : Reply). first_word r.bytes) (replies ++ reply ∷ []) % 2 ^ 64 =
    ap (λ (n : ℕ). (n + first) % 2 ^ 64) (ap (λ (t : Totals). t.sum) is)
    ∙ mod_first (sum_by (λ (r : Reply). first_word r.bytes) replies) first (2 ^ 64)
    ∙ ap (λ (n : ℕ). n % 2 ^ 64) (ap (λ (n : ℕ). sum_by (λ (r : Reply). first_word r.bytes) replies + n) first_is ∙ sym (sum_by_push (λ (r : Reply). first_word r.bytes) replies reply)) in
    let counts : (was.count + second) % 2 ^ 64 ≡ sum_by (λ (r : Reply). second_word r.bytes) (replies ++ reply ∷ []) % 2 ^ 64 =
    ap (λ (n : ℕ). (n + second) % 2 ^ 64) (ap (λ (t : Totals). t.count) is)
    ∙ mod_first (sum_by (λ (r : Reply). second_word r.bytes) replies) second (2 ^ 64)
    ∙ ap (λ (n : ℕ). n % 2 ^ 64) (ap (λ (n : ℕ). sum_by (λ (r : Reply). second_word r.bytes) replies + n) second_is ∙ sym (sum_by_push (λ (r : Reply). second_word r.bytes) replies reply)) in
    λ i. record { requests = requests i; done = dones i; sum = sums i; count = counts i }
