-- The rule of the lock: what its two words, its slot and the views of its seats have in common at every
-- moment. It speaks of one past: that of the state in the slot where no seat is at its turn, and else the
-- list of the seat at its turn.
use Rattle.std.specs.Prelude.{◌≡◌, ◌≢◌, ◌⊎◌, ◌+◌, ◌^◌, ◌<◌, ◌≤◌, ℕ, List, [], ◌∷◌, length, All, AllPairs, sum_by}
use Rattle.std.specs.Prelude.{Option, Some}
use mathlib.Core.Option as maybe
use mathlib.Core.Option.{some, none}
use lib.ListN.{get_elem?}
use Rattle.atomic_table.specs.Table.{State}
use Rattle.turnstile.specs.declared.views.Joined.{Joined}
use Rattle.turnstile.specs.declared.views.Stage.{Stage}
use Rattle.turnstile.specs.declared.views.Stage.TheVariants.{Idle, Waiting, Serving, Spent}
use Rattle.turnstile.specs.declared.views.View.{View}
use Rattle.turnstile.specs.Past.{times, Knows}

-- how many tickets a seat has
abbrev pub tickets : Stage → ℕ
tickets Idle = 0
tickets (Waiting ticket) = 1
tickets (Serving ticket) = 1
tickets Spent = 0

-- the seat has this ticket
abbrev pub HasTicket : Stage → ℕ → Type 0
HasTicket Idle ticket = ⊥
HasTicket (Waiting own) ticket = own ≡ ticket
HasTicket (Serving own) ticket = own ≡ ticket
HasTicket Spent ticket = ⊥

module _ {N : Type 0} where
  -- the view of the first seat at the start
  abbrev pub first_view : N → View N
  first_view name = record { number = 0; name = Some name; stage = Idle; noted = 0; seen = []; made = 1; joined = [] }

  -- this seat's view is the one given
  abbrev pub Sits : List (View N) → ℕ → View N → Type 0
  Sits views seat view = get_elem? views seat ≡ some view

  -- what is kept of a joined pass: it knew the past and noted no turn that was not, and its seat is spent
  pub record Keeps (past : List ℕ) (views : List (View N)) (j : Joined) : Type 0 where
    pub knows : Knows past j.number j.seen
    pub noted : j.noted ≤ length past
    pub spent : (view : View N) × Sits views j.number view × (view.stage ≡ Spent)

  -- a seat that is not spent: its number is its place, it knows the past and noted no turn that was not, its
  -- ticket was drawn and is yet to be served, at its turn it is the next and has seen all; the first seat
  -- knows how many were made, and those that it joined have numbers that differ
  pub record Fits (name : N) (next : ℕ) (past : List ℕ) (views : List (View N)) (seat : ℕ)
      (view : View N) : Type 0 where
    pub named : view.name ≡ Some name
    pub number : view.number ≡ seat
    pub knows : Knows past view.number view.seen
    pub noted : view.noted ≤ length past
    pub ticket : (t : ℕ) → HasTicket view.stage t → (length past ≤ t) × (t < next)
    pub turn : (t : ℕ) → view.stage ≡ Serving t → (t ≡ length past) × (view.seen ≡ past)
    pub made : seat ≡ 0 → view.made ≡ length views
    pub joined : All (Keeps past views) view.joined
    pub differ : AllPairs (λ j k. j.number ≢ k.number) view.joined

  -- the seats together: 1 to 16, the first one never spent; each ticket that was drawn and not served is one
  -- seat's alone; and no number that was not made had a turn
  pub record Seated (name : N) (next serving : ℕ) (past : List ℕ) (views : List (View N)) : Type 0 where
    pub some_seat : 0 < length views
    pub few : length views ≤ 16
    pub first : (view : View N) → Sits views 0 view → view.stage ≢ Spent
    pub each : (seat : ℕ) (view : View N) → Sits views seat view → view.stage ≢ Spent →
        Fits name next past views seat view
    pub drawn : serving + sum_by (λ view. tickets view.stage) views ≡ next
    pub apart : (i j t : ℕ) (v w : View N) → Sits views i v → Sits views j w → HasTicket v.stage t →
        HasTicket w.stage t → i ≡ j
    pub unmade : (number : ℕ) → length views ≤ number → times number past ≡ 0

module _ {S N : Type 0} where
  -- the slot is out, with a seat at its turn
  pub record IsOut (home : maybe.Option (Option S)) (views : List (View N)) : Type 0 where
    pub empty : home ≡ none
    pub seat : ℕ
    pub ticket : ℕ
    pub view : View N
    pub sits : Sits views seat view
    pub serves : view.stage ≡ Serving ticket

module _ {S N : Type 0} (name_of : S → N) (past_of : S → List ℕ) where
  -- the state is in the slot, and no seat is at its turn
  pub record IsHome (name : N) (past : List ℕ) (home : maybe.Option (Option S)) (views : List (View N)) : Type 0 where
    pub state : S
    pub lies : home ≡ some (Some state)
    pub named : name_of state ≡ name
    pub past_is : past_of state ≡ past
    pub nobody : (seat t : ℕ) (view : View N) → Sits views seat view → view.stage ≢ Serving t

  -- the rule, for the state's name: the words are how many tickets were drawn and how many turns passed on,
  -- which is how many turns the past has, fewer than 2 ^ 63; the state is at home or out
  pub record Holds (name : N) (s : State (Option S) (View N)) : Type 0 where
    pub next : ℕ
    pub serving : ℕ
    pub past : List ℕ
    pub home : maybe.Option (Option S)
    pub words : s.words ≡ next ∷ serving ∷ []
    pub slot : s.homes ≡ home ∷ []
    pub served : length past ≡ serving
    pub short : serving < 2 ^ 63
    pub seated : Seated name next serving past s.views
    pub lies : IsHome name past home s.views ⊎ IsOut home s.views
