-- Lists of passes and of their carriers, from one to the other.
use Rattle.std.proofs.Common.{◌≡◌, ◌<◌, ℕ, suc, List, [], ◌∷◌, ◌++◌, All, get_or, length, map, refl, sym, ap, subst, ◌∙◌, arith, take, drop}
use Rattle.std.specs.List.{AllZip}
use Rattle.kernel_core.specs.declared.thread.Turn.{Turn}
use Rattle.std.proofs.Math.Seq.{take-append_seam}
use Rattle.std.proofs.Math.ListN.{get_or-map, length-map}
use Rattle.std.proofs.lemmas.List.Elements.{All-map}
use Rattle.std.proofs.lemmas.Simd.{map-map}
use Rattle.std.specs.Prelude.{Contains}
use Rattle.process_core.specs.Running.{AreAllOf, Carried, Carries, IsPassOf}
use Rattle.process_core.specs.declared.opened.Opened.{Opened}
use Rattle.turnstile.specs.Passes.{Lock}

-- one more is made of the next
pub one_made : {A B : Type 0} (f : A → B) (made : List A) (x : A) (rest all : List B) → map f made ++ (f x ∷ rest) ≡ all → map f (made ++ x ∷ []) ++ rest ≡ all
one_made f [] x rest all is = is
one_made f (y ∷ made) x rest all is = ap (λ l. f y ∷ l) (one_made f made x rest (map f made ++ (f x ∷ rest)) refl) ∙ is

-- what holds of what is made of each holds of each
pub all_made : {A B : Type 0} (P : B → Type 0) (f : A → B) (xs : List A) → All P (map f xs) → All (λ x. P (f x)) xs
all_made P f xs all k d inside = subst P (get_or-map f xs k d) (all k (f d) (omega (arith, inside, length-map xs f)))

-- carriers of all passes still have all of them once the passes have changed, each for its own thread
pub still_all : {C : Type 0} (pass : C → Carried) (process : Lock Opened) (passes : List Carried) (before after : List C) → AreAllOf process passes → map pass before ≡ passes →
    All (λ c. IsPassOf process (pass c)) after → map (λ c. (pass c).held.number) after ≡ map (λ c. (pass c).held.number) before → AreAllOf process (map pass after)
still_all pass process passes before after all is ours numbers =
    let number = λ (p : Carried). p.held.number in
    let same : map number (map pass after) ≡ map number passes = map-map number pass after ∙ (numbers ∙ (sym (map-map number pass before) ∙ ap (map number) is)) in
    record {
      ours = All-map (IsPassOf process) pass after ours;
      every = λ t below. subst (λ ns. Contains ns t) (sym same) (all.every t below);
    }

-- a vector whose elements were changed by a slice has the slice's elements
pub written_back : {A B : Type 0} (f : A → B) (n : ℕ) (new old : List A) → n ≡ length old → map f new ≡ map f old → take n (new ++ drop (length new) old) ≡ new
written_back f n new old count same =
    let long : n ≡ length new = count ∙ (sym (length-map old f) ∙ (sym (ap length same) ∙ length-map new f)) in
    ap (λ k. take k (new ++ drop (length new) old)) long ∙ take-append_seam new (drop (length new) old)

-- what holds of the elements at each place
pub all_zip : {A : Type 0} (R : A → A → Type 0) (xs ys : List A) → length ys ≡ length xs → ((i : ℕ) (d : A) → i < length xs → R (get_or xs i d) (get_or ys i d)) → AllZip R xs ys
all_zip R [] [] long each = tt
all_zip R [] (y ∷ ys) long each = absurd (omega arith)
all_zip R (x ∷ xs) [] long each = absurd (omega arith)
all_zip R (x ∷ xs) (y ∷ ys) long each = (each 0 x (omega arith), all_zip R xs ys (omega arith) (λ i d below. each (suc i) d (omega arith)))

-- the same of what equals them
pub carries_there : {T C : Type 0} (counts : T → Turn → T → Type 0) (process : Lock Opened) (pass : C → Carried) (turns : C → T) (x y x' y' : C) → x ≡ x' → y ≡ y' →
    Carries counts process (pass x) (turns x) (pass y) (turns y) → Carries counts process (pass x') (turns x') (pass y') (turns y')
carries_there counts process pass turns x y x' y' same same' carried =
    subst (λ z. Carries counts process (pass x') (turns x') (pass z) (turns z)) same' (subst (λ z. Carries counts process (pass z) (turns z) (pass y) (turns y)) same carried)
