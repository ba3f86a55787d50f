-- What the command takes of a line.
use Rattle.std.proofs.Common.{◌≡◌, ◌∙◌, inl, inr, List, [], ◌∷◌, Option, None, Some, true, refl, sym, ap}
use Rattle.std.specs.Option.{option_map}
use Rattle.std.specs.Borrow.{Bor}
use Rattle.clap.specs.Words.{App, HasKind, Kinds, Row, Text, fault_of, first_of, first_value, is_simple, is_simple_and_free, kind_of, matches_of, rows_of}
use Rattle.clap.specs.declared.error.Error.{Error}
use Rattle.clap.specs.declared.error.kind.ErrorKind.TheVariants.{OutOfMemory}
use Rattle.clap.specs.declared.parser.matches.Found.{Found}
use Rattle.clap.proofs.OnLiterals.{clap_on_literals}
use Rattle.clap.proofs.WalkLemmas.{first_value-rows}
use Rattle.lwcrun_line.specs.Arguments.{Arguments, command, arguments_among, arguments_of}

-- the word that is taken is that of the matches
pub taken : (f : Found) (id : Text) (word : Option (Bor Text)) → option_map (λ s. s.now) word ≡ first_value f id → option_map (λ s. s.now) word ≡ first_of id (rows_of f)
taken f id word is = is ∙ first_value-rows f id

is_simple_command : is_simple command ≡ true
unfolding clap_on_literals command
is_simple_command = refl

is_free_command : is_simple_and_free command ≡ true
unfolding clap_on_literals command
is_free_command = refl

-- words that the command takes have the arguments among its matches
pub arguments_found : (app : App) (words : List Text) (rows : List Row) (e : Arguments) (Rest : Type 0) → app ≡ command
    → (is_simple_and_free app ≡ true → fault_of app words ≡ []) → (is_simple app ≡ true → (rows ≡ matches_of app words) × Rest) → e ≡ arguments_among rows → arguments_of words ≡ Some e
unfolding arguments_of
arguments_found app words rows e Rest is faults matches taken_from =
    let none : fault_of command words ≡ [] = sym (ap (λ a. fault_of a words) is) ∙ faults (ap is_simple_and_free is ∙ is_free_command) in
    let found : rows ≡ matches_of command words = (matches (ap is_simple is ∙ is_simple_command)).0 ∙ ap (λ a. matches_of a words) is in
    rw none (ap Some (sym (taken_from ∙ ap arguments_among found)))

no_arguments : (kinds : Kinds) (words : List Text) (e : Error) → fault_of command words ≡ kinds → HasKind kinds e → (kind_of e ≡ OutOfMemory → ⊥) → arguments_of words ≡ None
unfolding arguments_of
no_arguments [] words e is (inl memory) other = absurd (other memory)
no_arguments [] words e is (inr among) other = absurd among
no_arguments (kind ∷ kinds) words e is h other = rw is refl

-- words that the command refuses, for another reason than memory, have none
pub arguments_missing : (app : App) (words : List Text) (e : Error) → app ≡ command
    → (is_simple_and_free app ≡ true → HasKind (fault_of app words) e) → (kind_of e ≡ OutOfMemory → ⊥) → arguments_of words ≡ None
arguments_missing app words e is faults other =
    no_arguments (fault_of app words) words e (sym (ap (λ a. fault_of a words) is)) (faults (ap is_simple_and_free is ∙ is_free_command)) other
