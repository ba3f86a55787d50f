-- How the answers come about: each is made when its place has come.
use Rattle.std.specs.Prelude.{ℕ, ◌++◌, ◌==◌, if◌then◌else◌, List, [], ◌∷◌}
use Rattle.kernel_core.specs.Machine.{Machine}
use Rattle.lwc_debug.specs.Transcript.{answer, place_after}
use Rattle.lwc_debug.specs.declared.command.Command.{Command}
use Rattle.lwc_debug.specs.declared.debugging.Answer.{Answer}

-- a command, its place, and what has been told of it
pub record Told : Type 0 where
  pub command : Command
  pub place : ℕ
  pub text : List ℕ

-- what an answer has told
abbrev pub told_by : Answer → Told
told_by a = record { command = a.command; place = a.place; text = a.text.items }

-- the commands of a script with their places, the first at this one, before anything is told
abbrev pub placed : ℕ → ℕ → List Command → List Told
placed count at [] = []
placed count at (c ∷ cs) =
    record { command = c; place = at; text = [] } ∷ placed count (place_after count at c) cs

-- after a command was told if it is given at this place, in the machine there
unfoldable pub told_here : Machine → ℕ → ℕ → Told → Told
told_here m count place x =
    if x.place == place then record x { text = x.text ++ answer m count place x.command } else x
