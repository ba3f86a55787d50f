-- What a schedule is, and how it is read.
use Rattle.std.specs.Prelude.{◌≡◌, ℕ, ◌+◌, ◌-◌, ◌≤◌, Bool, false, ◌||◌, ◌&&◌, not, nat_lt, nat_le, ◌==◌}
use Rattle.std.specs.Prelude.{if◌then◌else◌, IsTrue, List, length, take, slice_index, All, Option, Some, None}
use Rattle.std.specs.Prelude.{Result, Err}
use Rattle.std.specs.Option.{option_map, option_map_or}
use Rattle.std.specs.List.{filter_map, range_with_len}
use Rattle.lwc_text.specs.declared.fault.InputRule.{InputRule}
use Rattle.lwc_text.specs.declared.fault.InputRule.TheVariants.{TooLong, BadThread, TooManySteps}
use Rattle.lwc_types.specs.Outcomes.{Refusal, unless_refused}
use Rattle.lwc_types.specs.declared.limits.TheConstants.{MOST_SCHEDULE_BYTES}

-- whether a byte is skipped: a space, a carriage return or a line feed
abbrev pub is_blank : ℕ → Bool
is_blank b = b == 0x20 || b == 0x0d || b == 0x0a

-- the number of a digit, `0` to `9` or `a` to `f`; no other byte has one
abbrev pub digit_number : ℕ → Option ℕ
digit_number b =
    if nat_le 0x30 b && nat_le b 0x39 then Some (b - 0x30)
    else if nat_le 0x61 b && nat_le b 0x66 then Some (b - 0x61 + 10)
    else None

-- whether a byte is the digit of a thread, of which there are `threads`
abbrev pub names_thread : ℕ → ℕ → Bool
names_thread threads b = option_map_or (λ t. nat_lt t threads) (digit_number b) false

-- the numbers of all digits, in order
abbrev pub numbers : List ℕ → List ℕ
numbers bytes = filter_map digit_number bytes

-- the bytes are a schedule for this number of threads, of at most this number of steps, and these are its steps
pub record IsSchedule (threads most : ℕ) (bytes steps : List ℕ) : Type 0 where
  pub short : length bytes ≤ MOST_SCHEDULE_BYTES
  pub each : All (λ b. IsTrue (is_blank b || names_thread threads b)) bytes
  pub named : steps ≡ numbers bytes
  pub few : length steps ≤ most

-- the rule that a byte breaks: it is neither skipped nor a thread's digit, or a digit after as many
-- others as there may be
abbrev pub rule_broken : ℕ → ℕ → ℕ → ℕ → Option InputRule
rule_broken threads most before b =
    if is_blank b then None
    else if not (names_thread threads b) then Some BadThread
    else if nat_le most before then Some TooManySteps
    else None

-- the refusal of a rule that is broken at an offset
abbrev pub refusal_of : ℕ → InputRule → Refusal InputRule
refusal_of at rule = record { rule = rule; at = at }

-- the refusal of the byte at an offset, if it breaks a rule after the bytes before it
unfoldable pub refusal_at : ℕ → ℕ → List ℕ → ℕ → Option (Refusal InputRule)
refusal_at threads most bytes at =
    option_map (refusal_of at) (rule_broken threads most (length (numbers (take at bytes))) (slice_index bytes at))

-- the refusals of all bytes, in the order of their offsets
unfoldable pub refusals : ℕ → ℕ → List ℕ → List (Refusal InputRule)
refusals threads most bytes = filter_map (refusal_at threads most bytes) (range_with_len 0 (length bytes))

-- the steps of the bytes, or their first refusal
unfoldable pub schedule_at : ℕ → ℕ → List ℕ → Result (List ℕ) (Refusal InputRule)
schedule_at threads most bytes =
    if nat_lt MOST_SCHEDULE_BYTES (length bytes)
    then Err (record { rule = TooLong; at = MOST_SCHEDULE_BYTES })
    else unless_refused (numbers bytes) (refusals threads most bytes)
