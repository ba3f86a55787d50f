-- The kinds of step, each by what it does to the view of the seat that steps and to the slot that it holds.
--
--   draw ticket   adds 1 to `next`          a seat without a ticket   look          loads `serving`
-- any seat that is not at its turn   move out      exchange in the slot      a seat at its turn, which holds
-- the slot   move in       exchange in the slot      the same seat   pass on       adds 1 to `serving`
-- the same seat, with the state back in the slot   split seat    loads `next`              the seat with
-- number 0, where fewer than 16 seats were made   join seat     loads `next`              the seat with
-- number 0, and another; neither has a ticket
use Rattle.std.specs.Prelude.{◌≡◌, ◌≢◌, ◌+◌, ◌≤◌, ℕ, List, [], ◌∷◌, ◌++◌, length, Option, Some, None}
use Rattle.atomic_table.specs.Table.{Me, Step}
use Rattle.turnstile.specs.declared.views.Joined.{Joined}
use Rattle.turnstile.specs.declared.views.Stage.{Stage}
use Rattle.turnstile.specs.declared.views.Stage.TheVariants.{Idle, Waiting, Serving, Spent}
use Rattle.turnstile.specs.declared.views.View.{View}
use Rattle.turnstile.specs.Past.{Knows}

module _ {N : Type 0} where
  -- the view with another stage
  abbrev pub staged : Stage → View N → View N
  staged stage v = record v { stage = stage }

  -- the view with this number of turns noted
  abbrev pub noting : ℕ → View N → View N
  noting n v = record v { noted = n }

  -- the view at its turn with the ticket n, where the past has n turns
  abbrev pub serving_view : ℕ → List ℕ → View N → View N
  serving_view n past v = record v { stage = Serving n; noted = n; seen = past }

  -- the view after a turn that left this past
  abbrev pub rested : List ℕ → View N → View N
  rested past v = record v { stage = Idle; seen = past }

  -- split seat: the first seat counts the new one
  abbrev pub kept_view : View N → View N
  kept_view v = record v { made = v.made + 1 }

  -- split seat: the new seat has as its number how many were made, no ticket and an empty list
  abbrev pub new_view : View N → View N
  new_view v = record { number = v.made; name = v.name; stage = Idle; noted = 0; seen = []; made = 0; joined = [] }

  -- what is kept of a joined view
  abbrev pub as_joined : View N → Joined
  as_joined w = record { number = w.number; seen = w.seen; noted = w.noted }

  -- join seat: the first seat keeps the other's number, its list and what it noted
  abbrev pub joined_view : View N → View N → View N
  joined_view v w = record v { joined = v.joined ++ as_joined w ∷ [] }

  -- join seat: the other seat is spent
  abbrev pub spent_view : View N
  spent_view = record { number = 0; name = None; stage = Spent; noted = 0; seen = []; made = 0; joined = [] }

module _ {S N : Type 0} where
  -- draw ticket: the ticket is the number of tickets drawn before
  abbrev pub DrawsTicket : Step (Option S) → Me (Option S) (View N) → ℕ → Me (Option S) (View N) → Type 0
  DrawsTicket step m found m' = m' ≡ (staged (Waiting found) m.0, m.1)

module _ {S N : Type 0} (name_of : S → N) (past_of : S → List ℕ) where
  -- look, where the seat's turn has come: the seat takes the slot with the state, which has its name and has
  -- had as many turns as were found, and whose past it knows and has now seen
  pub record TakesState (m : Me (Option S) (View N)) (found : ℕ) (m' : Me (Option S) (View N)) : Type 0 where
    pub state : S
    pub takes : m' ≡ (serving_view found (past_of state) m.0, (0, Some state) ∷ m.1)
    pub named : Some (name_of state) ≡ m.0.name
    pub knows : Knows (past_of state) m.0.number m.0.seen
    pub turns : length (past_of state) ≡ found

  -- look: the number found is noted, and is below neither what was seen nor what was noted; where it is the
  -- seat's ticket, the seat's turn has come
  pub record Looks (m : Me (Option S) (View N)) (found : ℕ) (m' : Me (Option S) (View N)) : Type 0 where
    pub seen : length m.0.seen ≤ found
    pub noted : m.0.noted ≤ found
    pub waits : m.0.stage ≢ Waiting found → m' ≡ (noting found m.0, m.1)
    pub serves : m.0.stage ≡ Waiting found → TakesState m found m'

module _ {S N : Type 0} where
  -- move out, and move in: the seat keeps its turn and its view, and its slot has another content
  abbrev pub MovesState : Me (Option S) (View N) → Option S → Option S → Me (Option S) (View N) → Type 0
  MovesState m out put m' = (m.1 ≡ (0, out) ∷ []) × (m' ≡ (m.0, (0, put) ∷ []))

  -- pass on: the seat has no ticket, gives the slot with the state back, and has seen that state's past
  abbrev pub PassesOn : (S → List ℕ) → Me (Option S) (View N) → Me (Option S) (View N) → Type 0
  PassesOn past_of m m' = (state : S) → m.1 ≡ (0, Some state) ∷ [] → m' ≡ (rested (past_of state) m.0, [])
