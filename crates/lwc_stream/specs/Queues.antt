-- A worker's queue: what was taken out, followed by what it holds, is what was put in. One pass at most puts replies
-- in, and knows all that was put in; one at most takes them out, and knows all that was taken out.
use Rattle.std.specs.Prelude.{◌≡◌, ℕ, Bool, true, false, List, [], ◌++◌}
use mathlib.Core.Option.{some}
use lib.ListN.{get_elem?}
use Rattle.atomic_table.specs.Seated.{TableId}
use Rattle.crossbeam_queue.specs.Passes.{Pass, view}
use Rattle.lwc_stream.specs.declared.ends.Ends.{Ends}
use Rattle.snapshot_host.specs.declared.finishing.Finished.{Finished}

-- what a pass may do, and what it has put in and taken out
abbrev pub ends : Bool → Bool → List Finished → List Finished → Ends
ends puts takes put taken = record { puts = puts; takes = takes; put = put; taken = taken }

-- what a pass knows is so: the one that may put has put these, the one that may take has taken those
pub record Fits (putter taker : ℕ) (put taken : List Finished) (port : ℕ) (v : Ends) : Type 0 where
  pub puts : v.puts ≡ true → (port ≡ putter) × (v.put ≡ put)
  pub takes : v.takes ≡ true → (port ≡ taker) × (v.taken ≡ taken)

-- the rule of the queue, of what it holds and of what each pass knows
pub record IsInOrder (items : List Finished) (views : List Ends) : Type 0 where
  pub putter : ℕ
  pub taker : ℕ
  pub put : List Finished
  pub taken : List Finished
  pub order : put ≡ taken ++ items
  pub fits : (port : ℕ) (v : Ends) → get_elem? views port ≡ some v → Fits putter taker put taken port v

-- an end of a queue: which queue, and the replies that went through the end, in order
pub record End : Type 0 where
  pub queue : TableId
  pub values : List Finished

-- both ends of a queue
pub record Joined : Type 0 where
  pub queue : TableId
  pub put : List Finished
  pub taken : List Finished

-- the end of this queue through which these replies went
abbrev pub end_of : TableId → List Finished → End
end_of queue values = record { queue = queue; values = values }

-- both ends of this queue
abbrev pub joined_of : TableId → List Finished → List Finished → Joined
joined_of queue put taken = record { queue = queue; put = put; taken = taken }

-- what contracts see of a pass at the end where replies are put in
abbrev pub puts_of : Pass Finished Ends → End
puts_of p = end_of p.table_id (view p).put

-- what contracts see of a pass at the end where replies are taken out
abbrev pub takes_of : Pass Finished Ends → End
takes_of p = end_of p.table_id (view p).taken

-- what contracts see of a pass at both ends
abbrev pub both_of : Pass Finished Ends → Joined
both_of p = joined_of p.table_id (view p).put (view p).taken

-- the pass may put and not take, and has taken nothing
abbrev pub IsPutting : Pass Finished Ends → Type 0
IsPutting p = ((view p).puts ≡ true) × ((view p).takes ≡ false) × ((view p).taken ≡ [])

-- the pass may take and not put, and has put nothing
abbrev pub IsTaking : Pass Finished Ends → Type 0
IsTaking p = ((view p).puts ≡ false) × ((view p).takes ≡ true) × ((view p).put ≡ [])

-- the pass may do both
abbrev pub AreBoth : Pass Finished Ends → Type 0
AreBoth p = ((view p).puts ≡ true) × ((view p).takes ≡ true)
