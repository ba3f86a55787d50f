-- The replies that the passes of a process have finished, and those that a stream shows.
use Rattle.std.specs.Prelude.{◌≡◌, ℕ, ◌<◌, ◌≤◌, Bool, false, true, List, length, Some, slice_get}
use Rattle.std.specs.List.{flat_map}
use Rattle.kernel_core.specs.Histories.{finishes_by}
use Rattle.kernel_core.specs.Start.{Inputs, start}
use Rattle.lwc_io.specs.Outside.{CountsOneFault, IsPartTaken, SinkView, appended}
use Rattle.lwc_text.specs.Lines.{reply_line}
use Rattle.process_core.specs.Running.{Carried}
use Rattle.snapshot_host.specs.declared.finishing.Finished.{Finished}

-- what the steps of a pass's thread have finished in the history that the pass has seen
abbrev pub finished_by : Inputs → Carried → List Finished
finished_by inputs p = finishes_by (start inputs) p.held.seen p.held.number

-- a reply stands in one of the lists
pub record IsAmong (lists : List (List Finished)) (x : Finished) : Type 0 where
  pub row : ℕ
  pub place : ℕ
  pub list : List Finished
  pub row_is : slice_get lists row ≡ Some list
  pub there : slice_get list place ≡ Some x

-- of the replies in the lists one to each request is shown, in order from request 0 on, up to the first request
-- to which there is none
pub record AreShown (lists : List (List Finished)) (requests : ℕ) (shown : List Finished) : Type 0 where
  pub few : length shown ≤ requests
  pub numbers : (i : ℕ) (x : Finished) → slice_get shown i ≡ Some x → x.request ≡ i
  pub finished : (i : ℕ) (x : Finished) → slice_get shown i ≡ Some x → IsAmong lists x
  pub all : length shown < requests → (x : Finished) → IsAmong lists x → x.request ≡ length shown → ⊥

-- the line of a reply
abbrev pub line_of : Finished → List ℕ
line_of x = reply_line x.request (Some x)

-- the lines of replies, in order
abbrev pub lines_of : List Finished → List ℕ
lines_of shown = flat_map line_of shown

-- what was written of a text: all of it and no write failed, or its first bytes and the one write after them failed
abbrev pub IsWritten : Bool → SinkView → SinkView → List ℕ → Type 0
IsWritten false before after text = (after.taken ≡ appended before.taken text) × (after.faults ≡ before.faults)
IsWritten true before after text = IsPartTaken before.taken after.taken text × CountsOneFault before.faults after.faults
