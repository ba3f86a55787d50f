-- What the single steps of a seat need.
use Rattle.std.specs.Prelude.{◌≡◌, ◌≤◌, ◌++◌, ℕ, List, [], ◌∷◌, length, All, Option, Some, None}
use Rattle.atomic_table.specs.Table.{Me}
use Rattle.atomic_table.specs.Seated.{TableId}
use Rattle.atomic_table.specs.declared.shared.Seat.{Seat}
use Rattle.turnstile.specs.declared.views.View.{View}
use Rattle.turnstile.specs.Past.{Knows}
use Rattle.turnstile.specs.Steps.{serving_view}
use Rattle.turnstile.specs.declared.views.Stage.{Stage}
use Rattle.turnstile.specs.declared.views.Stage.TheVariants.{Idle, Waiting, Serving, Spent}

-- the table has the lock's two words and its one slot
abbrev pub IsSized : TableId → Type 0
IsSized table = (table.words ≡ 2) × (table.slots ≡ 1)

-- a seat that is not at its turn may look
abbrev pub CanLook : Stage → Type 0
CanLook Idle = Unit {0}
CanLook (Waiting ticket) = Unit {0}
CanLook (Serving ticket) = ⊥
CanLook Spent = ⊥

module _ {S N : Type 0} where
  -- the seat belongs to this table, which is the lock's
  abbrev pub IsSeatAt : TableId → Seat (Option S) (View N) → Type 0
  IsSeatAt table seat = (seat.table_id ≡ table) × IsSized table

  -- the seat after a step is the same seat
  abbrev pub IsSameSeat : Seat (Option S) (View N) → Seat (Option S) (View N) → Type 0
  IsSameSeat seat after = (after.table_id ≡ seat.table_id) × (after.id ≡ seat.id)

module _ {S N : Type 0} (name_of : S → N) (past_of : S → List ℕ) where
  -- the seat went to its turn and has the state in hand: it has the seat's name, its past is known and has
  -- just been seen, and the slot is empty
  pub record TakesTurn (m : Me (Option S) (View N)) (state : S) (m' : Me (Option S) (View N)) : Type 0 where
    pub ticket : ℕ
    pub turn : m' ≡ (serving_view ticket (past_of state) m.0, (0, None) ∷ [])
    pub named : Some (name_of state) ≡ m.0.name
    pub knows : Knows (past_of state) m.0.number m.0.seen
    pub turns : length (past_of state) ≡ ticket
    pub noted : m.0.noted ≤ ticket

  -- the seat is at its turn, and this state may be passed on: it has the seat's name, and its past has one
  -- turn more, the seat's
  pub record MayEnd (v : View N) (state : S) : Type 0 where
    pub ticket : ℕ
    pub serves : v.stage ≡ Serving ticket
    pub named : Some (name_of state) ≡ v.name
    pub past_is : past_of state ≡ v.seen ++ v.number ∷ []

  -- the state at the end: it has the name, and its past is known to the first seat and to each that it
  -- joined, with at least as many turns as each noted
  pub record Settles (name : N) (first : View N) (state : S) : Type 0 where
    pub named : name_of state ≡ name
    pub knows : Knows (past_of state) first.number first.seen
    pub noted : first.noted ≤ length (past_of state)
    pub joined : All (λ j. Knows (past_of state) j.number j.seen × (j.noted ≤ length (past_of state))) first.joined
