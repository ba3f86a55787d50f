-- The modes, each a row of a table.
use Rattle.std.specs.Prelude.{ℕ, ◌&&◌, Bool, List, [], ◌∷◌, Option, bytes_eq, codes, nat_eq}
use Rattle.std.specs.List.{find}
use Rattle.lwcrun_line.specs.declared.mode.Mode.{Mode}
use Rattle.lwcrun_line.specs.declared.mode.Mode.TheVariants as modes
use Rattle.lwcrun_line.specs.declared.mode.Options.{Options}
use Rattle.lwcrun_line.specs.declared.mode.Options.TheVariants as options

-- a row: a mode's word, how many words are behind it, and the options that it takes
pub record Row : Type 0 where
  pub word : List ℕ
  pub places : ℕ
  pub options : Options

-- a row of these
abbrev pub new_row : List ℕ → ℕ → Options → Row
new_row word places options = record { word = word; places = places; options = options }

-- the table of modes
abbrev pub row_of : Mode → Row
row_of modes.Replay = new_row (codes "replay") 2 options.Run
row_of modes.ReplayServe = new_row (codes "replay") 3 options.Serve
row_of modes.Run = new_row (codes "run") 1 options.Run
row_of modes.Serve = new_row (codes "serve") 2 options.Serve
row_of modes.Asm = new_row (codes "asm") 1 options.Nothing
row_of modes.Dis = new_row (codes "dis") 1 options.Nothing
row_of modes.Gen = new_row (codes "gen") 1 options.Number
row_of modes.Lift = new_row (codes "lift") 1 options.Nothing
row_of modes.Monitor = new_row (codes "monitor") 2 options.Run
row_of modes.Guard = new_row (codes "guard") 2 options.Run
row_of modes.Vault = new_row (codes "vault") 3 options.Run
row_of modes.Debug = new_row (codes "debug") 3 options.Run
row_of modes.Stream = new_row (codes "stream") 2 options.Serve

-- all modes
abbrev pub all_modes : List Mode
all_modes =
    modes.Replay ∷ modes.ReplayServe ∷ modes.Run ∷ modes.Serve ∷ modes.Asm ∷ modes.Dis ∷ modes.Gen ∷ modes.Lift
    ∷ modes.Monitor ∷ modes.Guard ∷ modes.Vault ∷ modes.Debug ∷ modes.Stream ∷ []

-- a mode has this word and this number of words behind it
abbrev pub is_called : List ℕ → ℕ → Mode → Bool
is_called word places mode = bytes_eq (row_of mode).word word && nat_eq (row_of mode).places places

-- the mode of a word with this number of words behind it
unfoldable pub mode_called : List ℕ → ℕ → Option Mode
mode_called word places = find (is_called word places) all_modes
