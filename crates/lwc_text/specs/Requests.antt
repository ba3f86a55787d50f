-- What a request file is, and how it is read.
use Rattle.std.specs.Prelude.{◌≡◌, ℕ, zero, suc, ◌+◌, ◌-◌, ◌*◌, ◌%◌, ◌≤◌, not, nat_lt, nat_le, ◌==◌, if◌then◌else◌}
use Rattle.std.specs.Prelude.{List, [], length, map, slice_index_or, All, Option, Some, None, Result, Ok, Err}
use Rattle.std.specs.List.{after_first, filter_map, position_or_len, range_with_len}
use Rattle.std.specs.Option.{option_map}
use Rattle.std.specs.Result.{result_ok}
use Rattle.std.specs.Str.Lines.{lines}
use Rattle.hex.specs.Hex.{decode_of, is_hex_digit}
use Rattle.lwc_types.specs.Outcomes.{Refusal, unless_refused}
use Rattle.lwc_types.specs.declared.limits.TheConstants.{MOST_REQUESTS, MOST_REQUEST_BYTES, MOST_REQUEST_FILE_BYTES}
use Rattle.lwc_text.specs.declared.fault.InputRule.{InputRule}
use Rattle.lwc_text.specs.declared.fault.InputRule.TheVariants.{TooLong, TooManyRequests, BadHex, RequestTooLong}
use Rattle.lwc_text.specs.declared.fault.InputRule.TheVariants.{OddLength}
use Rattle.lwc_text.specs.Schedules.{refusal_of}

-- the request of a line: the bytes of its digits, in either case, if it is pairs of them
abbrev pub request_of : List ℕ → Option (List ℕ)
request_of line = result_ok (decode_of line)

-- the requests of all lines, in order
abbrev pub requests_in : List ℕ → List (List ℕ)
requests_in bytes = filter_map request_of (lines bytes)

-- the bytes are a file of these requests: each line has the digits of one
pub record IsRequestFile (bytes : List ℕ) (requests : List (List ℕ)) : Type 0 where
  pub short : length bytes ≤ MOST_REQUEST_FILE_BYTES
  pub few : length requests ≤ MOST_REQUESTS
  pub small : All (λ request. length request ≤ MOST_REQUEST_BYTES) requests
  pub spelled : map (λ line. decode_of line) (lines bytes) ≡ map Ok requests

-- the place of the first byte of a line that is no digit, or the line's length
abbrev pub digits_end : List ℕ → ℕ
digits_end line = position_or_len (λ b. not (is_hex_digit b)) line

-- the rule that a line breaks first, and the place in it: there are too many digits, a byte is none, or one
-- lacks
abbrev pub rule_in : List ℕ → Option (InputRule × ℕ)
rule_in line =
    if nat_lt (2 * MOST_REQUEST_BYTES) (digits_end line) then Some (RequestTooLong, 2 * MOST_REQUEST_BYTES)
    else if nat_lt (digits_end line) (length line) then Some (BadHex, digits_end line)
    else if length line % 2 == 1 then Some (OddLength, length line)
    else None

-- the refusal of a line that begins at an offset, after this number of others, if it breaks a rule
unfoldable pub line_refusal : ℕ → ℕ → List ℕ → Option (Refusal InputRule)
line_refusal before start line =
    if nat_le MOST_REQUESTS before then Some (refusal_of start TooManyRequests)
    else option_map (λ broken. refusal_of (start + broken.1) broken.0) (rule_in line)

-- the bytes after this number of lines
unfoldable pub after_lines : List ℕ → ℕ → List ℕ
after_lines bytes zero = bytes
after_lines bytes (suc n) = after_first (λ b. b == 0x0a) (after_lines bytes n)

-- the refusal of the line of a number, if it breaks a rule
unfoldable pub refusal_of_line : List ℕ → ℕ → Option (Refusal InputRule)
refusal_of_line bytes i =
    line_refusal i (length bytes - length (after_lines bytes i)) (slice_index_or (lines bytes) i [])

-- the refusals of all lines, in order
unfoldable pub line_refusals : List ℕ → List (Refusal InputRule)
line_refusals bytes = filter_map (refusal_of_line bytes) (range_with_len 0 (length (lines bytes)))

-- the requests of the bytes, or their first refusal
unfoldable pub requests_at : List ℕ → Result (List (List ℕ)) (Refusal InputRule)
requests_at bytes =
    if nat_lt MOST_REQUEST_FILE_BYTES (length bytes)
    then Err (record { rule = TooLong; at = MOST_REQUEST_FILE_BYTES })
    else unless_refused (requests_in bytes) (line_refusals bytes)
