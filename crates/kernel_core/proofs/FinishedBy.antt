-- What the steps of a thread finish, of a history in two parts and of one that goes on.
use Rattle.std.proofs.Common.{◌≡◌, ◌⊎◌, inl, inr, ℕ, zero, suc, ◌+◌, ◌==◌, cond, refl, sym, ap, subst, ◌∙◌, Bool, true, false, Option, Some, None, List, [], ◌∷◌, ◌++◌, arith, append_assoc, append-nil}
use Rattle.std.proofs.lemmas.Bool.Decides.{nat_tests}
use Rattle.std.proofs.lemmas.List.Sums.{sum_by-append}
use Rattle.std.proofs.lemmas.List.Elements.{Contains-append_cases, Contains-append_left, Contains-append_right}
use Rattle.std.specs.Prelude.{Contains}
use Rattle.std.specs.Option.{option_map}
use Rattle.kernel_core.proofs.Finished.{finished-push}
use Rattle.kernel_core.specs.Histories.{GoesOn, finishes_by, replies_of, steps_by, turn_after}
use Rattle.kernel_core.specs.Kernel.{turn, turn_of}
use Rattle.kernel_core.specs.Machine.{Machine}
use Rattle.kernel_core.specs.Runs.{last_finished, run}
use Rattle.kernel_core.specs.Start.{Inputs, start}
use Rattle.kernel_core.specs.Step.{finishes, step}
use Rattle.kernel_core.specs.declared.thread.Thread.{Thread}
use Rattle.kernel_core.specs.declared.thread.Turn.{Turn}
use Rattle.snapshot_host.specs.declared.finishing.Finished.{Finished}

by-append : (m : Machine) (ss ts : List ℕ) (t : ℕ) → finishes_by m (ss ++ ts) t ≡ finishes_by m ss t ++ finishes_by (run m ss) ts t
unfolding finishes_by
by-append m [] ts t = refl
by-append m (s ∷ ss) ts t =
    let here = cond (s == t) (replies_of (finishes m t)) [] in
    ap (λ l. here ++ l) (by-append (step m s) ss ts t) ∙ sym (append_assoc here (finishes_by (step m s) ss t) (finishes_by (run (step m s) ss) ts t))

steps-cons : (t s : ℕ) (ts : List ℕ) → steps_by t (s ∷ ts) ≡ steps_by t (s ∷ []) + steps_by t ts
steps-cons t s ts = sum_by-append (λ r. cond (r == t) 1 0) (s ∷ []) ts

other_step : (here rest : List Finished) (t s : ℕ) (ts : List ℕ) (b : Bool) → (s == t) ≡ b → steps_by t (s ∷ ts) ≡ 0 → rest ≡ [] → cond (s == t) here [] ++ rest ≡ []
other_step here rest t s ts false is none empty = ap (λ c. cond c here [] ++ rest) is ∙ empty
other_step here rest t s ts true is none empty =
    let one : steps_by t (s ∷ []) ≡ 1 = ap (λ c. 0 + cond c 1 0) is in
    absurd (omega (arith, steps-cons t s ts, one))

by_others : (m : Machine) (ts : List ℕ) (t : ℕ) → steps_by t ts ≡ 0 → finishes_by m ts t ≡ []
unfolding finishes_by
by_others m [] t none = refl
by_others m (s ∷ ts) t none =
    other_step (replies_of (finishes m t)) (finishes_by (step m s) ts t) t s ts (s == t) refl none (by_others (step m s) ts t (omega (arith, steps-cons t s ts)))

by_one : (m : Machine) (t : ℕ) → finishes_by m (t ∷ []) t ≡ replies_of (finishes m t)
unfolding finishes_by
by_one m t =
    let same : (t == t) ≡ true = grind (arith, nat_tests) in
    ap (λ c. cond c (replies_of (finishes m t)) [] ++ []) same ∙ append-nil (replies_of (finishes m t))

pub none_yet : (m : Machine) (seen : List ℕ) (t : ℕ) → seen ≡ [] → finishes_by m seen t ≡ []
unfolding finishes_by
none_yet m seen t none = ap (λ l. finishes_by m l t) none

-- steps of others finish nothing of a thread's
pub others_add_none : (m : Machine) (seen others : List ℕ) (t : ℕ) → steps_by t others ≡ 0 → finishes_by m (seen ++ others) t ≡ finishes_by m seen t
others_add_none m seen others t none =
    by-append m seen others t ∙ (ap (λ l. finishes_by m seen t ++ l) (by_others (run m seen) others t none) ∙ append-nil (finishes_by m seen t))

-- the last of these steps is the thread's
last-push : (m : Machine) (ts : List ℕ) (t : ℕ) → last_finished m (ts ++ t ∷ []) t None ≡ finishes (run m ts) t
last-push m ts t =
    let same : (t == t) ≡ true = grind (arith, nat_tests) in
    finished-push m ts t t None ∙ ap (λ c. cond c (finishes (run m ts) t) (last_finished m ts t None)) same

finished_in_turn : (found : Option Thread) (finished : Option Finished) (last : Turn) → option_map (λ x. turn_of x finished) found ≡ Some last → last.finished ≡ finished
finished_in_turn None finished last is = cc
finished_in_turn (Some x) finished last is = let same : turn_of x finished ≡ last = cc in ap (λ (y : Turn). y.finished) (sym same)

-- a history that goes on has what its last turn finished besides
pub one_turn : (inputs : Inputs) (t : ℕ) (before after : List ℕ) (last : Turn) → GoesOn t before after → turn_after inputs after t ≡ Some last →
    finishes_by (start inputs) after t ≡ finishes_by (start inputs) before t ++ replies_of last.finished
unfolding turn
one_turn inputs t before after last on is =
    let m = start inputs in
    let whole : after ≡ (before ++ on.others) ++ t ∷ [] = on.after_is ∙ sym (append_assoc before on.others (t ∷ [])) in
    let finished : last.finished ≡ last_finished m after t None = finished_in_turn _ _ last is in
    let made : last.finished ≡ finishes (run m (before ++ on.others)) t = finished ∙ ap (λ l. last_finished m l t None) whole ∙ last-push m (before ++ on.others) t in
    let others : finishes_by m (before ++ on.others) t ≡ finishes_by m before t = others_add_none m before on.others t on.none in
    ap (λ l. finishes_by m l t) whole
    ∙ (by-append m (before ++ on.others) (t ∷ []) t
    ∙ (ap (λ l. l ++ finishes_by (run m (before ++ on.others)) (t ∷ []) t) others
    ∙ ap (λ l. finishes_by m before t ++ l) (by_one (run m (before ++ on.others)) t ∙ ap replies_of (sym made))))

-- what is in the list of an option is its value
only_reply : (o : Option Finished) (x : Finished) → Contains (replies_of o) x → o ≡ Some x
only_reply None x (i, low, is) = absurd (omega (arith, low))
only_reply (Some y) x (zero, low, is) = ap Some is
only_reply (Some y) x (suc i, low, is) = absurd (omega (arith, low))

made_here : (s t : ℕ) (finished : Option Finished) (x : Finished) (b : Bool) → (s == t) ≡ b → Contains (cond b (replies_of finished) []) x → (s ≡ t) × (finished ≡ Some x)
made_here s t finished x true is has = (grind (arith, nat_tests), only_reply finished x has)
made_here s t finished x false is (i, low, same) = absurd (omega (arith, low))

-- a reply is finished by the first of some steps or by a later one
pub first_or_later : (m : Machine) (s : ℕ) (ss : List ℕ) (t : ℕ) (x : Finished) → Contains (finishes_by m (s ∷ ss) t) x → ((s ≡ t) × (finishes m t ≡ Some x)) ⊎ Contains (finishes_by (step m s) ss t) x
unfolding finishes_by
first_or_later m s ss t x has =
    elim (Contains-append_cases (cond (s == t) (replies_of (finishes m t)) []) (finishes_by (step m s) ss t) x has) [
      | inl here ↦ inl (made_here s t (finishes m t) x (s == t) refl here)
      | inr later ↦ inr later
    ]

pub finished_first : (m : Machine) (s : ℕ) (ss : List ℕ) (x : Finished) → finishes m s ≡ Some x → Contains (finishes_by m (s ∷ ss) s) x
unfolding finishes_by
finished_first m s ss x is =
    let same : (s == s) ≡ true = grind (arith, nat_tests) in
    let here : x ∷ [] ≡ cond (s == s) (replies_of (finishes m s)) [] = ap replies_of (sym is) ∙ ap (λ b. cond b (replies_of (finishes m s)) []) (sym same) in
    Contains-append_left _ (finishes_by (step m s) ss s) x (subst (λ l. Contains l x) here (0, omega arith, refl))

pub finished_later : (m : Machine) (s : ℕ) (ss : List ℕ) (t : ℕ) (x : Finished) → Contains (finishes_by (step m s) ss t) x → Contains (finishes_by m (s ∷ ss) t) x
unfolding finishes_by
finished_later m s ss t x has = Contains-append_right (cond (s == t) (replies_of (finishes m t)) []) _ x has
