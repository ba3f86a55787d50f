-- Replies that wait until those to all earlier requests are shown.
use Rattle.std.specs.Prelude.{◌≡◌, ◌⊎◌, ℕ, ◌<◌, ◌≤◌, Bool, List, [], ◌∷◌, ◌++◌, Option, None, Some, length}
use Rattle.std.specs.Prelude.{slice_get, slice_index_or, slice_set}
use Rattle.lwc_io.specs.Outside.{SinkView}
use Rattle.lwc_stream.specs.Replies.{IsAmong, IsWritten, lines_of}
use Rattle.snapshot_host.specs.declared.finishing.Finished.{Finished}

-- replies that wait, each at its request's place, and the request whose reply is the next one to be shown
pub record Held : Type 0 where
  pub places : List (Option Finished)
  pub next : ℕ

-- the reply that waits at a place, if one does
abbrev pub at : List (Option Finished) → ℕ → Option Finished
at places i = slice_index_or places i None

-- of the replies that were taken, those to the first requests are shown, in order, and the others wait
pub record IsStreamed (taken : List (List Finished)) (held : Held) (shown : List Finished) : Type 0 where
  pub next : held.next ≡ length shown
  pub few : length shown ≤ length held.places
  pub numbers : (i : ℕ) (x : Finished) → slice_get shown i ≡ Some x → x.request ≡ i
  pub among : (i : ℕ) (x : Finished) → slice_get shown i ≡ Some x → IsAmong taken x
  pub waits : (i : ℕ) (x : Finished) → at held.places i ≡ Some x → (x.request ≡ i) × IsAmong taken x
  pub here : (x : Finished) → IsAmong taken x →
      (x.request < held.next) ⊎ ((length held.places ≤ x.request) ⊎
      ((y : Finished) × (at held.places x.request ≡ Some y)))

-- replies were taken and shown, and the lines of those that are shown were written
pub record HasShown (taken : List (List Finished)) (held : Held) (failed : Bool) (before now : SinkView) : Type 0 where
  pub shown : List Finished
  pub streamed : IsStreamed taken held shown
  pub written : IsWritten failed before now (lines_of shown)

-- one more reply was taken, of the list at this place
pub record IsOneMore (place : ℕ) (before after : List (List Finished)) (x : Finished) : Type 0 where
  pub list : List Finished
  pub there : slice_get before place ≡ Some list
  pub grown : after ≡ slice_set before place (list ++ x ∷ [])
