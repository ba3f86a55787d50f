-- The words of a line, as the command takes them.
use Rattle.std.specs.Prelude.{ℕ, Bool, true, false, List, [], ◌∷◌, Option, None, Some, codes}
use Rattle.std.specs.Option.{option_map}
use Rattle.clap.specs.Words.{App, Kinds, Row, Rule, fault_of, first_of, matches_of, new_app, new_rule, with_rule}
use Rattle.lwcrun_line.specs.declared.arguments.Arguments.{Arguments as Taken}

-- a place for a word, which may have to be there
abbrev pub place : List ℕ → Bool → Rule
place name required = record (new_rule name) { required = required }

-- an option with two dashes before its name, and one value
abbrev pub valued : List ℕ → Rule
valued name = record (new_rule name) { long = Some name }

-- the command: the mode and one to three words behind it, and three options
unfoldable pub command : App
command =
    with_rule (with_rule (with_rule (with_rule (with_rule (with_rule (with_rule (new_app (codes "lwcrun"))
    (place (codes "mode") true)) (place (codes "first") true)) (place (codes "second") false))
    (place (codes "third") false)) (valued (codes "frames"))) (valued (codes "budget"))) (valued (codes "workers"))

-- the mode, the words behind it and the values of the options, as far as they are given
pub record Arguments : Type 0 where
  pub mode : Option (List ℕ)
  pub first : Option (List ℕ)
  pub second : Option (List ℕ)
  pub third : Option (List ℕ)
  pub frames : Option (List ℕ)
  pub budget : Option (List ℕ)
  pub workers : Option (List ℕ)

-- the arguments among the matches of a parse
abbrev pub arguments_among : List Row → Arguments
arguments_among rows = record {
  mode = first_of (codes "mode") rows;
  first = first_of (codes "first") rows;
  second = first_of (codes "second") rows;
  third = first_of (codes "third") rows;
  frames = first_of (codes "frames") rows;
  budget = first_of (codes "budget") rows;
  workers = first_of (codes "workers") rows;
}

-- the arguments, where the parse has no fault
abbrev pub if_faultless : Kinds → Arguments → Option Arguments
if_faultless [] arguments = Some arguments
if_faultless (kind ∷ kinds) arguments = None

-- the arguments of a line of words, the program's name first; none where the command does not take the words
unfoldable pub arguments_of : List (List ℕ) → Option Arguments
arguments_of words =
    if_faultless (fault_of command words) (arguments_among (matches_of command words))

-- the arguments that were taken from a line
abbrev pub arguments_in : Taken → Arguments
arguments_in a = record {
  mode = option_map (λ s. s.now) a.mode;
  first = option_map (λ s. s.now) a.first;
  second = option_map (λ s. s.now) a.second;
  third = option_map (λ s. s.now) a.third;
  frames = option_map (λ s. s.now) a.frames;
  budget = option_map (λ s. s.now) a.budget;
  workers = option_map (λ s. s.now) a.workers;
}
