-- What contracts see of a turnstile and of its passes.
use Rattle.std.specs.Prelude.{◌≡◌, ◌<◌, ℕ, List, [], map, All, Contains, Option, Some}
use Rattle.atomic_table.specs.Seated.{TableId}
use Rattle.atomic_table.specs.declared.shared.Seat.{Seat}
use Rattle.turnstile.specs.declared.views.Joined.{Joined}
use Rattle.turnstile.specs.declared.views.View.{View}
use Rattle.turnstile.specs.declared.views.Stage.TheVariants.{Idle}
use Rattle.turnstile.specs.Past.{Knows}

-- a turnstile: which table it has, its state's name, and how many passes there are
pub record Lock (N : Type 0) : Type 0 where
  pub table : TableId
  pub name : N
  pub seats : ℕ

-- a pass: whose it is, its number, the past that it has seen, and the number of turns that it noted
pub record Held (N : Type 0) : Type 0 where
  pub table : TableId
  pub name : Option N
  pub made : ℕ
  pub number : ℕ
  pub seen : List ℕ
  pub noted : ℕ

module _ {N : Type 0} where
  -- the turnstile's `new` gave the pass
  abbrev pub IsPassOf : Lock N → Held N → Type 0
  IsPassOf t p = (p.table ≡ t.table) × (p.name ≡ Some t.name) × (p.number ≡ 0 → p.made ≡ t.seats)

  -- the pass with this number, as `new` gives it
  abbrev pub IsNewPass : Lock N → ℕ → Held N → Type 0
  IsNewPass t number p = IsPassOf t p × (p.number ≡ number) × (p.seen ≡ []) × (p.noted ≡ 0)

  -- a state is due for the pass: it has the turnstile's name, and the pass knows its past
  abbrev pub IsDueFor : {S : Type 0} → (S → N) → (S → List ℕ) → Lock N → Held N → S → Type 0
  IsDueFor name_of past_of t p state = (name_of state ≡ t.name) × Knows (past_of state) p.number p.seen

  module _ {P : Type 0} where
    -- the passes that are held are all those that the turnstile's `new` gave, in any order
    pub record HoldAllOf (held : P → Held N) (t : Lock N) (holders : List P) : Type 0 where
      pub ours : All (λ p. IsPassOf t (held p)) holders
      pub every : (number : ℕ) → number < t.seats → Contains (map (λ p. (held p).number) holders) number

  -- the passes are all those that the turnstile's `new` gave, in any order
  abbrev pub AreAllOf : Lock N → List (Held N) → Type 0
  AreAllOf t passes = HoldAllOf (λ p. p) t passes

  -- what is kept of a pass that is joined
  abbrev pub joined_of : Held N → Joined
  joined_of p = record { number = p.number; seen = p.seen; noted = p.noted }

  -- the pass that a seat not made yet will be
  abbrev pub fresh_pass : TableId → N → ℕ → Held N
  fresh_pass table name number = record {
    table = table;
    name = Some name;
    made = 0;
    number = number;
    seen = [];
    noted = 0;
  }

  module _ {S : Type 0} where
    -- what contracts see of a pass with this seat
    abbrev pub held_of : Seat (Option S) (View N) → Held N
    held_of seat = record {
      table = seat.table_id;
      name = seat.me.0.name;
      made = seat.me.0.made;
      number = seat.me.0.number;
      seen = seat.me.0.seen;
      noted = seat.me.0.noted;
    }

    -- between two calls the seat has no ticket and holds no slot
    abbrev pub IsAtRest : ℕ → Seat (Option S) (View N) → Type 0
    IsAtRest number seat = (seat.me.0.number ≡ number) × (seat.me.0.stage ≡ Idle) × (seat.me.1 ≡ [])
