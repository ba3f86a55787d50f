-- What a script is, and how it is read.
use Rattle.std.specs.Prelude.{◌≡◌, ℕ, ◌-◌, ◌≤◌, ◌==◌, Bool, ◌||◌, IsTrue, nat_le, nat_lt, if◌then◌else◌, List, []}
use Rattle.std.specs.Prelude.{length, take, slice_index_or, bytes_eq, codes, All, Option, Some, None, is_some}
use Rattle.std.specs.Prelude.{Result, Ok, Err}
use Rattle.std.specs.List.{after_first, before_first, filter_map, range_with_len}
use Rattle.std.specs.Option.{option_and_then, option_map}
use Rattle.std.specs.Str.Lines.{lines}
use Rattle.lwc_types.specs.Outcomes.{Refusal, unless_refused}
use Rattle.lwc_types.specs.declared.name.Name.{Name}
use Rattle.lwc_text.specs.Numbers.{number_of}
use Rattle.lwc_text.specs.Requests.{after_lines}
use Rattle.lwc_text.specs.Schedules.{refusal_of}
use Rattle.lwc_text.specs.declared.fault.InputRule.{InputRule}
use Rattle.lwc_text.specs.declared.fault.InputRule.TheVariants.{TooLong, BadCommand, TooManyCommands}
use Rattle.lwc_debug.specs.declared.command.Command.{Command}
use Rattle.lwc_debug.specs.declared.command.Command.TheVariants.{Goto, Forward, Back, Thread, Context, Page, Slot, Used}
use Rattle.lwc_debug.specs.declared.command.TheConstants.{MOST_COMMANDS}
use Rattle.lwc_debug.specs.declared.script.TheConstants.{MOST_SCRIPT_BYTES}

-- the name of a context: its job, a dot, and its number there
abbrev pub name_of : List ℕ → Option Name
name_of word =
    option_and_then (λ job. option_map (λ k. record { job = job; k = k })
    (number_of (after_first (λ b. b == 0x2e) word)))
    (number_of (before_first (λ b. b == 0x2e) word))

-- a name, a space, and a number
abbrev pub numbered : List ℕ → Option (Name × ℕ)
numbered words =
    option_and_then (λ name. option_map (λ n. (name, n)) (number_of (after_first (λ b. b == 0x20) words)))
    (name_of (before_first (λ b. b == 0x20) words))

-- the command of a word and of what follows it
abbrev pub command_in : List ℕ → List ℕ → Option Command
command_in word rest =
    if bytes_eq word (codes "goto") then option_map Goto (number_of rest)
    else if bytes_eq word (codes "forward") then option_map Forward (number_of rest)
    else if bytes_eq word (codes "back") then option_map Back (number_of rest)
    else if bytes_eq word (codes "thread") then option_map Thread (number_of rest)
    else if bytes_eq word (codes "context") then option_map Context (name_of rest)
    else if bytes_eq word (codes "page") then option_map (λ x. Page x.0 x.1) (numbered rest)
    else if bytes_eq word (codes "slot") then option_map (λ x. Slot x.0 x.1) (numbered rest)
    else None

-- the command of a line, if it is one: a word, and behind a space what it takes; `used` takes nothing
unfoldable pub command_of : List ℕ → Option Command
command_of line =
    if bytes_eq line (codes "used") then Some Used
    else command_in (before_first (λ b. b == 0x20) line) (after_first (λ b. b == 0x20) line)

-- the commands of all lines, in order
abbrev pub commands_in : List ℕ → List Command
commands_in bytes = filter_map command_of (lines bytes)

-- whether a line is empty
abbrev pub is_empty : List ℕ → Bool
is_empty line = length line == 0

-- the bytes are a script, and these are its commands: each line is empty, or one of them
pub record IsScript (bytes : List ℕ) (script : List Command) : Type 0 where
  pub short : length bytes ≤ MOST_SCRIPT_BYTES
  pub each : All (λ line. IsTrue (is_empty line || is_some (command_of line))) (lines bytes)
  pub named : script ≡ commands_in bytes
  pub few : length script ≤ MOST_COMMANDS

-- the rule that a line breaks after this number of commands: it is neither empty nor a command, or one after
-- MOST_COMMANDS others
abbrev pub rule_broken : ℕ → List ℕ → Option InputRule
rule_broken before line =
    if is_empty line then None
    else if is_some (command_of line) then (if nat_le MOST_COMMANDS before then Some TooManyCommands else None)
    else Some BadCommand

-- the refusal of the line of a number, at its first byte, if it breaks a rule after the lines before it
unfoldable pub refusal_of_line : List ℕ → ℕ → Option (Refusal InputRule)
refusal_of_line bytes i =
    option_map (refusal_of (length bytes - length (after_lines bytes i)))
    (rule_broken (length (filter_map command_of (take i (lines bytes)))) (slice_index_or (lines bytes) i []))

-- the refusals of all lines, in order
unfoldable pub line_refusals : List ℕ → List (Refusal InputRule)
line_refusals bytes = filter_map (refusal_of_line bytes) (range_with_len 0 (length (lines bytes)))

-- the commands of the bytes, or their first refusal
unfoldable pub script_at : List ℕ → Result (List Command) (Refusal InputRule)
script_at bytes =
    if nat_lt MOST_SCRIPT_BYTES (length bytes) then Err (record { rule = TooLong; at = MOST_SCRIPT_BYTES })
    else unless_refused (commands_in bytes) (line_refusals bytes)

-- what is read of a script is its commands, and a script is read
pub record ScriptFacts : Type 0 where
  pub found : (bytes : List ℕ) (script : List Command) → script_at bytes ≡ Ok script → IsScript bytes script
  pub reads : (bytes : List ℕ) (script : List Command) → IsScript bytes script → script_at bytes ≡ Ok script
