-- Lists of passes that are handed out.
use Rattle.std.proofs.Common.{◌≡◌, ◌+◌, ◌<◌, ℕ, zero, suc, List, [], ◌∷◌, ◌++◌, length, get_or, map, Some, refl, sym, ap, subst, ◌∙◌, arith, slice_get, take, drop, length-append}
use Rattle.std.specs.Option.{option_map}
use Rattle.std.proofs.Math.ListN.{length-map}
use Rattle.std.proofs.lemmas.List.{append-nil, get_or-map}
use Rattle.std.proofs.lemmas.Option.{slice_get-map, slice_get-get_or, slice_get_within}
use Rattle.kernel_core.specs.Histories.{turn_after}
use Rattle.kernel_core.specs.Start.{Inputs, thread_count}
use Rattle.kernel_core.specs.Kernel.{History, turn}
use Rattle.kernel_core.specs.declared.thread.Turn.{Turn}
use Rattle.process_core.proofs.Due.{turn_now}
use Rattle.process_core.specs.Running.{AreAllOf, Carried, IsNewPass, Leaves}
use Rattle.process_core.specs.declared.opened.Opened.{Opened}
use Rattle.turnstile.specs.Passes.{Held, Lock}
use Rattle.turnstile.specs.Passes as gates

-- what holds at each place holds after a push
pub each_push : {A : Type 0} (P : ℕ → A → Type 0) (xs : List A) (y : A) → ((i : ℕ) (q : A) → slice_get xs i ≡ Some q → P i q) → ((n : ℕ) → n ≡ length xs → P n y) →
    (i : ℕ) (q : A) → slice_get (xs ++ y ∷ []) i ≡ Some q → P i q
each_push P [] y each last zero q at = (let is : y ≡ q = cc in subst (P 0) is (last 0 refl))
each_push P [] y each last (suc i) q at = cc
each_push P (x ∷ xs) y each last zero q at = each 0 q at
each_push P (x ∷ xs) y each last (suc i) q at =
    each_push (λ j. P (suc j)) xs y (λ j r. each (suc j) r) (λ n is. last (suc n) (omega arith)) i q at

-- one pass goes from one list to the other
pub handed : (ps : List Carried) (h : Held Opened) (last : Turn) (hs all : List (Held Opened)) → map (λ p. p.held) ps ++ (h ∷ hs) ≡ all →
    map (λ p. p.held) (ps ++ record { held = h; last = last } ∷ []) ++ hs ≡ all
handed [] h last hs all is = is
handed (p ∷ ps) h last hs all is = ap (λ l. p.held ∷ l) (handed ps h last hs (map (λ (q : Carried). q.held) ps ++ (h ∷ hs)) refl) ∙ is

pub first_of : {A : Type 0} (xs : List A) (y : A) (ys : List A) → 0 < length xs → y ≡ get_or xs 0 y → ys ≡ take 0 xs ++ drop 1 xs → xs ≡ y ∷ ys
first_of [] y ys some is rest = absurd (omega arith)
first_of (x ∷ xs) y ys some is rest = ap (λ z. z ∷ xs) (sym is) ∙ ap (λ zs. y ∷ zs) (sym rest)

none_left : {A : Type 0} (xs : List A) → length xs ≡ 0 → xs ≡ []
none_left [] is = refl
none_left (x ∷ xs) is = absurd (omega arith)

pub new_pass : (gate : Lock Opened) (all rest : List (Held Opened)) (ps : List Carried) → map (λ p. p.held) ps ++ rest ≡ all → length rest ≡ 0 →
    length all ≡ thread_count gate.name.inputs → ((i : ℕ) (p : Held Opened) → slice_get all i ≡ Some p → gates.IsNewPass gate i p) →
    ((i : ℕ) (q : Carried) → slice_get ps i ≡ Some q → turn_after gate.name.inputs [] i ≡ Some q.last) → (i : ℕ) (q : Carried) → slice_get ps i ≡ Some q → IsNewPass gate i q
new_pass gate all rest ps whole none count new turns i q at =
    let same : map (λ (p : Carried). p.held) ps ≡ all = sym (append-nil (map (λ (p : Carried). p.held) ps)) ∙ (ap (λ (l : List (Held Opened)). map (λ (p : Carried). p.held) ps ++ l) (sym (none_left rest none)) ∙ whole) in
    let there : slice_get all i ≡ Some q.held = ap (λ (l : List (Held Opened)). slice_get l i) (sym same) ∙ (slice_get-map (λ (p : Carried). p.held) ps i ∙ ap (option_map (λ (p : Carried). p.held)) at) in
    let fresh = new i q.held there in
    let inside : i < length all = slice_get_within all i q.held there in
    let first : Leaves gate.name.inputs i [] q.last = record { legal = refl; few = omega arith; turn_is = turns i q at } in
    record {
      new = fresh;
      ours = record {
        ours = fresh.0;
        within = subst (λ (n : ℕ). n < thread_count gate.name.inputs) (sym fresh.1) (subst (λ (n : ℕ). i < n) count inside);
        leaves = subst (λ (n : ℕ). Leaves gate.name.inputs n q.held.seen q.last) (sym fresh.1) (subst (λ (l : List ℕ). Leaves gate.name.inputs i l q.last) (sym fresh.2) first);
      };
    }

-- at the start
pub start_turn : (h : History) (name : Inputs) (t : ℕ) (last : Turn) → h.steps ≡ [] → name ≡ h.inputs → turn h t ≡ Some last → turn_after name [] t ≡ Some last
start_turn h name t last none same is =
    ap (λ (l : List ℕ). turn_after name l t) (sym none) ∙ (sym (turn_now h name t (sym same)) ∙ is)

pub held_few : (ps : List Carried) (hs all : List (Held Opened)) → map (λ p. p.held) ps ++ hs ≡ all → length ps + length hs ≡ length all
held_few ps hs all whole =
    let parts = length-append (map (λ (p : Carried). p.held) ps) hs in
    let mapped = length-map ps (λ (p : Carried). p.held) in
    let same : length (map (λ (p : Carried). p.held) ps ++ hs) ≡ length all = ap length whole in
    omega arith

first_one : {A : Type 0} (xs : List A) (t : ℕ) → t < length xs → A
first_one [] t below = absurd (omega arith)
first_one (x ∷ xs) t below = x

-- new passes of each thread are all
pub all_new : (gate : Lock Opened) (ps : List Carried) → length ps ≡ thread_count gate.name.inputs → ((i : ℕ) (q : Carried) → slice_get ps i ≡ Some q → IsNewPass gate i q) → AreAllOf gate ps
all_new gate ps count new = record {
  ours = λ j d below. (new j (get_or ps j d) (slice_get-get_or ps j d below)).ours;
  every = λ t below.
      let inside : t < length ps = omega (arith, count) in
      let d = first_one ps t inside in (
        t,
        omega (arith, length-map ps (λ (p : Carried). p.held.number)),
        get_or-map (λ (p : Carried). p.held.number) ps t d t inside ∙ (new t (get_or ps t d) (slice_get-get_or ps t d inside)).new.1,
      );
}
