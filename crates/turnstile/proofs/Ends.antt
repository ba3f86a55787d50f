-- The table at its end.
use Rattle.std.proofs.Common.{◌≡◌, ◌<◌, ◌≤◌, ℕ, List, [], ◌∷◌, length, get_or, map, Option, Some, sym, ap, subst, ◌∙◌, ⊎_elim, arith}
use Rattle.std.specs.Prelude.{All, Contains}
use Rattle.std.proofs.Math.ListN.{length-map}
use mathlib.Core.Logic.{dite}
use mathlib.Core.Option as maybe
use mathlib.Core.Option.{some, none, some-injective, some-ne-none}
use native.Mathlib.Decide.{ℕ_discrete}
use lib.ListN.{get_elem?}
use Rattle.std.proofs.lemmas.List.{get_or-map}
use Rattle.atomic_table.specs.Table.{Final, Seen}
use Rattle.turnstile.specs.declared.views.Joined.{Joined}
use Rattle.turnstile.specs.declared.views.Stage.TheVariants.{Idle, Serving, Spent}
use Rattle.turnstile.specs.declared.views.View.{View}
use Rattle.turnstile.specs.Past.{Knows}
use Rattle.turnstile.specs.Rule.{Fits, IsHome, IsOut, Holds}
use Rattle.atomic_table.specs.declared.shared.Seat.{Seat}
use Rattle.std.specs.List.Sorted.{IsPermutation}
use Rattle.std.proofs.lemmas.List.Sorted.{All-permutation, IsPermutation-sym}
use Rattle.std.proofs.lemmas.List.Elements.{All-cons}
use Rattle.turnstile.specs.Moves.{Settles}
use Rattle.turnstile.specs.Passes.{Held, held_of, joined_of}
use Rattle.turnstile.proofs.Passing.{at_contained}
use Rattle.turnstile.proofs.Places.{one_at, within}

module _ {S N : Type 0} (name_of : S → N) (past_of : S → List ℕ) where
  -- the state that the slot has at the end
  pub settled : (name : N) (words : List ℕ) (slots : List (Option S)) (id : ℕ) (v : View N) → Final (Seen (Holds name_of past_of name) id v) words slots → v.number ≡ 0 → v.stage ≡ Idle
      → ((n : ℕ) → 0 < n → n < v.made → Contains (map (λ (j : Joined). j.number) v.joined) n) → (state : S) × (get_elem? slots 0 ≡ some (Some state)) × Settles name_of past_of name v state
  settled name words slots id v (s, seen, _, _, kept) zeroth idle all =
      ⊎_elim (λ (home : IsHome name_of past_of name h.past h.home s.views). (
        home.state,
        kept 0 (Some home.state) (ap (λ (hs : List (maybe.Option (Option S))). get_elem? hs 0) h.slot ∙ ap some home.lies),
        record {
          named = home.named;
          knows = subst (λ (past : List ℕ). Knows past v.number v.seen) (sym home.past_is) f.knows;
          noted = subst (λ (past : List ℕ). v.noted ≤ length past) (sym home.past_is) f.noted;
          joined = λ k d below. let j = f.joined k d below in subst (λ (past : List ℕ). Knows past (get_or v.joined k d).number (get_or v.joined k d).seen × ((get_or v.joined k d).noted ≤ length past)) (sym home.past_is) (j.knows, j.noted);
        },
      ))
      (λ (out : IsOut h.home s.views). absurd (nobody_out out))
      h.lies
    where
      h : Holds name_of past_of name s
      h = seen.0

      f : Fits name h.next h.past s.views id v
      f = h.seated.each id v seen.1 (λ gone. cc (idle, gone))

      nobody_out : IsOut h.home s.views → ⊥
      nobody_out out = dite (ℕ_discrete out.seat id)
          (λ same. let both : Idle ≡ Serving out.ticket = sym idle ∙ (ap (λ (x : View N). x.stage) (one_at s.views id out.seat v out.view (sym same) seen.1 out.sits) ∙ out.serves) in cc)
          (λ other.
          let first : id ≡ 0 = sym f.number ∙ zeroth in
          let many : v.made ≡ length s.views = f.made first in
          let inside = within s.views out.seat out.view out.sits in
          let positive : 0 < out.seat = omega arith in
          let has = all out.seat positive (omega arith) in
          let d : Joined = record { number = out.seat; seen = []; noted = 0 } in
          let below : has.0 < length v.joined = omega (arith, has.1, length-map v.joined (λ (j : Joined). j.number)) in
          let is : (get_or v.joined has.0 d).number ≡ out.seat = sym (get_or-map (λ (j : Joined). j.number) v.joined has.0 d out.seat below) ∙ has.2 in
          let gone = (f.joined has.0 d below).spent in
          let both : Spent ≡ Serving out.ticket = sym gone.2 ∙ (ap (λ (x : View N). x.stage) (one_at s.views _ out.seat gone.0 out.view is gone.1 out.sits) ∙ out.serves) in cc)

-- each pass knows the past of the state at the end, and has noted no more turns
module _ {S N P : Type 0} (name_of : S → N) (past_of : S → List ℕ) (held : P → Held N) (name : N) (ps : List P) (first : P) (rest : List P) (seat : Seat (Option S) (View N)) (state : S) where
  abbrev pub Knowing : Held N → Type 0
  Knowing p = Knows (past_of state) p.number p.seen × (p.noted ≤ length (past_of state))

  pub all_knowing : held_of seat ≡ held first → All (λ p. Contains seat.me.0.joined (joined_of (held p))) rest → Settles name_of past_of name seat.me.0 state → IsPermutation ps (first ∷ rest) → All (λ p. Knowing (held p)) ps
  all_knowing is kept end parts = All-permutation (λ p. Knowing (held p)) (first ∷ rest) ps (IsPermutation-sym ps (first ∷ rest) parts) (All-cons (λ p. Knowing (held p)) first rest (subst Knowing is (end.knows, end.noted))
      (λ k d below. at_contained (λ (j : Joined). Knows (past_of state) j.number j.seen × (j.noted ≤ length (past_of state))) seat.me.0.joined (joined_of (held (get_or rest k d))) end.joined (kept k d below)))
