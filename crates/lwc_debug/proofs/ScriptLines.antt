-- Reading a script line by line.
use Rattle.std.proofs.Common.{◌≡◌, ℕ, zero, suc, get_or, ◌+◌, ◌-◌, ◌≤◌, ◌<◌, true, ◌||◌, IsTrue, List, [], ◌∷◌, ◌++◌, length, take, drop, All, Option, Some, None, Ok, refl, sym, ap, subst, ◌∙◌, append-nil, arith, length-append}
use Rattle.std.proofs.lemmas.Bool.Decides.{nat_tests}
use Rattle.std.proofs.lemmas.List.{take_more, take_all, take-append-drop}
use Rattle.std.proofs.lemmas.List.Elements.{All-from_get_or, All-get_or, filter_map-append}
use Rattle.std.proofs.Math.Seq.{take-length}
use Rattle.std.specs.List.{after_first, cons_option, filter_map, range_with_len}
use Rattle.std.specs.Option.{option_map}
use Rattle.std.specs.Prelude.{is_some}
use Rattle.std.specs.Str.Lines.{lines}
use Rattle.lwc_types.specs.Outcomes.{Fails, IsFound, unless_refused}
use Rattle.lwc_types.specs.declared.reading.ReadError.{ReadError}
use Rattle.lwc_types.specs.declared.reading.ReadError.TheVariants as errors
use Rattle.lwc_debug.specs.declared.command.Command.{Command}
use Rattle.lwc_debug.specs.declared.command.TheConstants.{MOST_COMMANDS}
use Rattle.lwc_debug.specs.declared.script.TheConstants.{MOST_SCRIPT_BYTES}
use Rattle.lwc_debug.specs.Scripts.{IsScript, command_of, commands_in, is_empty, line_refusals, refusal_of_line, rule_broken, script_at}
use Rattle.lwc_text.specs.declared.fault.InputRule.{InputRule}
use Rattle.lwc_text.specs.Requests.{after_lines}
use Rattle.lwc_text.specs.Schedules.{refusal_of}
use Rattle.lwc_text.proofs.FileLines.{IsAt, all_taken, is_at, is_feed, one_more}
use Rattle.lwc_text.proofs.Refusals.{clear_next, first_refused, none_refused, nothing_refused, read_by, unless_none}

-- the commands of some lines
abbrev spelled : List (List ℕ) → List Command
spelled ls = filter_map command_of ls

-- a line that a script may have
abbrev Fits : List ℕ → Type 0
Fits line = IsTrue (is_empty line || is_some (command_of line))

no_command : (line : List ℕ) → is_empty line ≡ true → command_of line ≡ None
unfolding command_of
no_command [] none = refl
no_command (b ∷ bs) none = let short : length (b ∷ bs) ≤ 0 = grind (arith, nat_tests) in absurd (omega (arith, short))

empty_has_none : (line : List ℕ) → is_empty line ≡ true → spelled (line ∷ []) ≡ []
empty_has_none line none = ap (λ o. cons_option o []) (no_command line none)

-- an empty line adds no command
pub empty_adds_nothing : (commands : List Command) (line : List ℕ) → is_empty line ≡ true → commands ++ filter_map command_of (line ∷ []) ≡ commands
empty_adds_nothing commands line none = ap (λ cs. commands ++ cs) (empty_has_none line none) ∙ append-nil commands

-- a command adds itself
pub command_adds : (line : List ℕ) (c : Command) → command_of line ≡ Some c → filter_map command_of (line ∷ []) ≡ c ∷ []
command_adds line c is = ap (λ o. cons_option o []) is

at_most_one : (line : List ℕ) → length (spelled (line ∷ [])) ≤ 1
at_most_one line = elim (command_of line) as (λ (o : Option Command). length (cons_option o []) ≤ 1) [ None ↦ omega arith | Some c ↦ omega arith ]

-- the commands so far are those of the first lines, of which none is refused, and what is left has the others
pub record IsSoFar (bytes rest : List ℕ) (commands : List Command) : Type 0 where
  pub n : ℕ
  pub left : rest ≡ after_lines bytes n
  pub within : length rest ≤ length bytes
  pub others : drop n (lines bytes) ≡ lines rest
  pub named : commands ≡ spelled (take n (lines bytes))
  pub few : length commands ≤ MOST_COMMANDS
  pub clear : (i : ℕ) → i < n → refusal_of_line bytes i ≡ None

pub starts : (bytes : List ℕ) → IsSoFar bytes bytes []
unfolding after_lines
starts bytes = record { n = 0; left = refl; within = omega arith; others = refl; named = refl; few = omega arith; clear = λ i below. absurd (omega (arith, below)) }

refusal_here : (bytes rest line : List ℕ) (n before : ℕ) → rest ≡ after_lines bytes n → get_or (lines bytes) n [] ≡ line → before ≡ length (spelled (take n (lines bytes))) →
    option_map (refusal_of (length bytes - length rest)) (rule_broken before line) ≡ refusal_of_line bytes n
unfolding refusal_of_line
refusal_here bytes rest line n before left here counted =
    ap (λ k. option_map (refusal_of (length bytes - k)) (rule_broken before line)) (ap length left)
    ∙ ap (λ k. option_map (refusal_of (length bytes - length (after_lines bytes n))) (rule_broken k line)) counted
    ∙ ap (λ l. option_map (refusal_of (length bytes - length (after_lines bytes n))) (rule_broken (length (spelled (take n (lines bytes)))) l)) (sym here)

-- the commands of one line more
spelled_next : (ls : List (List ℕ)) (n : ℕ) → n < length ls → spelled (take (n + 1) ls) ≡ spelled (take n ls) ++ spelled (get_or ls n [] ∷ [])
spelled_next ls n within = ap spelled (take_more ls n [] within) ∙ filter_map-append command_of (take n ls) (get_or ls n [] ∷ [])

-- a loop continues after a line
pub continues : (bytes rest line after : List ℕ) (before next : List Command) → lines rest ≡ line ∷ lines after → after ≡ after_first is_feed rest → length after < length rest →
    rule_broken (length before) line ≡ None → next ≡ before ++ spelled (line ∷ []) → length next ≤ MOST_COMMANDS → IsSoFar bytes rest before → IsSoFar bytes after next
continues bytes rest line after before next first follows fewer kept added few so_far =
    let n : ℕ = so_far.n in
    let place : IsAt (lines bytes) n line (lines after) = is_at (lines bytes) n line (lines after) (so_far.others ∙ first) in
    let here : refusal_of_line bytes n ≡ None =
    sym (refusal_here bytes rest line n (length before) so_far.left place.here (ap length so_far.named)) ∙ ap (option_map (refusal_of (length bytes - length rest))) kept in
    record {
      n = n + 1;
      left = follows ∙ ap (after_first is_feed) so_far.left ∙ sym (one_more bytes n);
      within = omega (arith, so_far.within, fewer);
      others = place.next;
      named = added ∙ ap (λ l. l ++ spelled (line ∷ [])) so_far.named ∙ ap (λ l. spelled (take n (lines bytes)) ++ spelled (l ∷ [])) (sym place.here)
          ∙ sym (spelled_next (lines bytes) n place.below);
      few = few;
      clear = clear_next (refusal_of_line bytes) n so_far.clear here;
    }

-- a loop ends at a line
pub ends : (e : ReadError InputRule) (bytes rest line : List ℕ) (more : List (List ℕ)) (before : List Command) → lines rest ≡ line ∷ more →
    IsFound e (option_map (refusal_of (length bytes - length rest)) (rule_broken (length before) line)) → IsSoFar bytes rest before → Fails e (unless_refused (commands_in bytes) (line_refusals bytes))
unfolding line_refusals
ends errors.OutOfMemory bytes rest line more before first found so_far = tt
ends (errors.Refused rule offset) bytes rest line more before first found so_far =
    let n : ℕ = so_far.n in
    let place : IsAt (lines bytes) n line more = is_at (lines bytes) n line more (so_far.others ∙ first) in
    first_refused (refusal_of_line bytes) (commands_in bytes) 0 (length (lines bytes)) n (record { rule = rule; at = offset }) (omega arith) (omega (arith, place.below))
    (λ i low below. so_far.clear i below) (sym (refusal_here bytes rest line n (length before) so_far.left place.here (ap length so_far.named)) ∙ found)

-- a loop is done where nothing is left
pub is_done : (bytes rest : List ℕ) (commands : List Command) → rest ≡ [] → IsSoFar bytes rest commands → unless_refused (commands_in bytes) (line_refusals bytes) ≡ Ok commands
unfolding line_refusals
is_done bytes rest commands none so_far =
    let n : ℕ = so_far.n in
    let all : length (lines bytes) ≤ n = all_taken (lines bytes) n (so_far.others ∙ ap lines none) in
    unless_none (commands_in bytes) (filter_map (refusal_of_line bytes) (range_with_len 0 (length (lines bytes))))
    (none_refused (refusal_of_line bytes) 0 (length (lines bytes)) (λ i low below. so_far.clear i (omega (arith, all))))
    ∙ ap Ok (sym (so_far.named ∙ ap spelled (take_all n (lines bytes) all)))

unbroken : (at : ℕ) (rule : Option InputRule) → option_map (refusal_of at) rule ≡ None → rule ≡ None
unbroken at None none = refl
unbroken at (Some r) none = absurd cc

-- a line that breaks no rule
record IsKept (before : ℕ) (line : List ℕ) : Type 0 where
  fits : Fits line
  few : before ≤ MOST_COMMANDS → before + length (spelled (line ∷ [])) ≤ MOST_COMMANDS

is_kept : (before : ℕ) (line : List ℕ) → rule_broken before line ≡ None → IsKept before line
is_kept before line none = record {
  fits = grind (arith, nat_tests);
  few = λ short. grind (arith, nat_tests, empty_has_none, at_most_one);
}

-- a line that fits breaks no rule where there is room for its command
keeps : (before : ℕ) (line : List ℕ) → Fits line → before + length (spelled (line ∷ [])) ≤ MOST_COMMANDS → rule_broken before line ≡ None
keeps before line fits few = grind (arith, nat_tests, command_adds)

-- lines of which none is refused
module _ (bytes : List ℕ) (clear : (i : ℕ) → i < length (lines bytes) → refusal_of_line bytes i ≡ None) where
  kept_at : (i : ℕ) → i < length (lines bytes) → IsKept (length (spelled (take i (lines bytes)))) (get_or (lines bytes) i [])
  unfolding refusal_of_line
  kept_at i within = is_kept (length (spelled (take i (lines bytes)))) (get_or (lines bytes) i []) (unbroken _ _ (clear i within))

  few_so_far : (n : ℕ) → n ≤ length (lines bytes) → length (spelled (take n (lines bytes))) ≤ MOST_COMMANDS
  few_so_far zero within = omega arith
  few_so_far (suc n) within =
      let next : suc n ≡ n + 1 = omega arith in
      let one = (kept_at n (omega arith)).few (few_so_far n (omega arith)) in
      omega (arith, one, ap length (ap (λ k. spelled (take k (lines bytes))) next ∙ spelled_next (lines bytes) n (omega arith)), length-append (spelled (take n (lines bytes))) (spelled (get_or (lines bytes) n [] ∷ [])))

  each_fits : All Fits (lines bytes)
  each_fits = All-from_get_or Fits (lines bytes) [] (λ i within. (kept_at i within).fits)

  few_commands : length (commands_in bytes) ≤ MOST_COMMANDS
  few_commands = subst (λ (ls : List (List ℕ)). length (spelled ls) ≤ MOST_COMMANDS) (take-length (lines bytes)) (few_so_far (length (lines bytes)) (omega arith))

short_is_read : (bytes : List ℕ) (script : List Command) → script_at bytes ≡ Ok script → (length bytes ≤ MOST_SCRIPT_BYTES) × (unless_refused (commands_in bytes) (line_refusals bytes) ≡ Ok script)
unfolding script_at
short_is_read bytes script h = grind arith

-- what is read is a script
pub is_script : (bytes : List ℕ) (script : List Command) → script_at bytes ≡ Ok script → IsScript bytes script
unfolding line_refusals
is_script bytes script h =
    let short = short_is_read bytes script h in
    let read = read_by script (commands_in bytes) (line_refusals bytes) short.1 in
    let clear : (i : ℕ) → i < length (lines bytes) → refusal_of_line bytes i ≡ None =
    λ i within. nothing_refused (refusal_of_line bytes) 0 (length (lines bytes)) read.0 i (omega arith) (omega arith) in
    record {
      short = short.0;
      each = each_fits bytes clear;
      named = sym read.1;
      few = subst (λ (cs : List Command). length cs ≤ MOST_COMMANDS) read.1 (few_commands bytes clear);
    }

short_reads : (bytes : List ℕ) → length bytes ≤ MOST_SCRIPT_BYTES → script_at bytes ≡ unless_refused (commands_in bytes) (line_refusals bytes)
unfolding script_at
short_reads bytes h = grind arith

-- the lines so far have no more commands than all lines
fewer_so_far : (ls : List (List ℕ)) (n : ℕ) → length (spelled (take n ls)) ≤ length (spelled ls)
fewer_so_far ls n =
    omega (arith, ap length (ap spelled (sym (take-append-drop n ls)) ∙ filter_map-append command_of (take n ls) (drop n ls)), length-append (spelled (take n ls)) (spelled (drop n ls)))

clear_of_script : (bytes : List ℕ) (script : List Command) → IsScript bytes script → (i : ℕ) → i < length (lines bytes) → refusal_of_line bytes i ≡ None
unfolding refusal_of_line
clear_of_script bytes script is i within =
    let line : List ℕ = get_or (lines bytes) i [] in
    let fits : Fits line = All-get_or Fits (lines bytes) i [] within is.each in
    let room : length (spelled (take i (lines bytes))) + length (spelled (line ∷ [])) ≤ MOST_COMMANDS =
    omega (arith, ap length (spelled_next (lines bytes) i within), length-append (spelled (take i (lines bytes))) (spelled (line ∷ [])), fewer_so_far (lines bytes) (i + 1), ap length is.named, is.few) in
    ap (option_map (refusal_of (length bytes - length (after_lines bytes i)))) (keeps (length (spelled (take i (lines bytes)))) line fits room)

-- a script is read whole
pub is_read : (bytes : List ℕ) (script : List Command) → IsScript bytes script → script_at bytes ≡ Ok script
unfolding line_refusals
is_read bytes script is =
    short_reads bytes is.short
    ∙ unless_none (commands_in bytes) (filter_map (refusal_of_line bytes) (range_with_len 0 (length (lines bytes))))
    (none_refused (refusal_of_line bytes) 0 (length (lines bytes)) (λ i low high. clear_of_script bytes script is i (omega arith)))
    ∙ ap Ok (sym is.named)

-- so the only error is out of memory
pub is_answered : (bytes : List ℕ) (script : List Command) (e : ReadError InputRule) → IsScript bytes script → Fails e (script_at bytes) → e ≡ errors.OutOfMemory
is_answered bytes script errors.OutOfMemory is fails = refl
is_answered bytes script (errors.Refused rule offset) is fails = let read : script_at bytes ≡ Ok script = is_read bytes script is in absurd cc

pub ruleset line_reading = (empty_adds_nothing, command_adds)

pub ruleset script_reading = (is_script, is_answered)
