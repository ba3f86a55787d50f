-- Reading requests line by line.
use Rattle.std.proofs.Common.{◌≡◌, ℕ, zero, suc, get_or, ◌+◌, ◌-◌, ◌*◌, ◌%◌, ◌≤◌, ◌<◌, Bool, true, false, not, List, [], ◌∷◌, ◌++◌, length, take, drop, map, All, Option, Some, None, Ok, Err, refl, sym, ap, subst, ◌∙◌, arith, length-append}
use Rattle.std.proofs.lemmas.Bool.Decides.{nat_tests}
use Rattle.std.proofs.lemmas.List.{take_more, take_all}
use Rattle.std.proofs.lemmas.List.Elements.{All-nil, All-cons, All-head, All-tail, All-from_get_or, All-get_or, filter_map-append}
use Rattle.std.proofs.lemmas.List.Sums.{fails_before_first, position_or_len_is, prefix_len-le-length}
use Rattle.std.specs.List.{AllPass, after_first, cons_option, filter_map, range_with_len}
use Rattle.std.specs.Option.{option_map}
use Rattle.std.specs.Str.Lines.{lines}
use Rattle.hex.specs.Hex.{decode_of, is_hex_digit}
use Rattle.hex.specs.declared.error.FromHexError.{FromHexError}
use Rattle.hex.proofs.HexLemmas.{decode_of-digits, decode_of-ok}
use Rattle.lwc_types.specs.Outcomes.{Fails, IsFound, unless_refused}
use Rattle.lwc_types.specs.declared.limits.TheConstants.{MOST_REQUESTS, MOST_REQUEST_BYTES, MOST_REQUEST_FILE_BYTES}
use Rattle.lwc_types.specs.declared.reading.ReadError.{ReadError}
use Rattle.lwc_types.specs.declared.reading.ReadError.TheVariants as errors
use Rattle.lwc_text.specs.declared.fault.InputRule.{InputRule}
use Rattle.lwc_text.specs.Requests.{IsRequestFile, after_lines, digits_end, line_refusal, line_refusals, refusal_of_line, request_of, requests_at, requests_in, rule_in}
use Rattle.lwc_text.specs.Schedules.{refusal_of}
use Rattle.lwc_text.proofs.FileLines.{IsAt, all_taken, is_at, is_feed, one_more}
use Rattle.lwc_text.proofs.Refusals.{clear_next, first_refused, none_refused, nothing_refused, read_by, unless_none}

abbrev is_other : ℕ → Bool
is_other b = not (is_hex_digit b)

-- a line that breaks no rule is the digits of a request
record IsGood (line : List ℕ) : Type 0 where
  request : List ℕ
  decoded : decode_of line ≡ Ok request
  small : length request ≤ MOST_REQUEST_BYTES

not_other : (b : ℕ) → is_other b ≡ false → is_hex_digit b ≡ true
not_other b h = by (is_hex_digit b) h
  where
    by : (t : Bool) → not t ≡ false → t ≡ true
    by true h = refl
    by false h = absurd cc

-- a line that breaks no rule has digits alone
pub only_digits : (line : List ℕ) → rule_in line ≡ None → AllPass is_hex_digit line
only_digits line none =
    let most : digits_end line ≤ length line = prefix_len-le-length (λ b. not (is_other b)) line in
    let whole : length line ≤ digits_end line = grind (arith, nat_tests) in
    All-from_get_or (λ b. is_hex_digit b ≡ true) line 0 (λ i within. not_other (get_or line i 0) (fails_before_first is_other line i 0 (omega arith)))

is_good : (line : List ℕ) → rule_in line ≡ None → IsGood line
is_good line none =
    let even : length line % 2 ≡ 0 = grind (arith, nat_tests) in
    let short : length line ≤ 2 * MOST_REQUEST_BYTES = grind (arith, nat_tests) in
    let read = decode_of-digits line even (only_digits line none) in
    record { request = read.0; decoded = read.1; small = omega (arith, (decode_of-ok line read.0 read.1).2, short) }

other_none : (b : ℕ) → is_hex_digit b ≡ true → is_other b ≡ false
other_none b h = ap not h

-- a line of digits has them up to its end
pub all_digits : (line : List ℕ) → AllPass is_hex_digit line → digits_end line ≡ length line
all_digits line digits =
    position_or_len_is is_other line (length line) 0 (omega arith) (λ k below. other_none (get_or line k 0) (All-get_or (λ b. is_hex_digit b ≡ true) line k 0 below digits)) (λ less. absurd (omega (arith, less)))

keeps_rules : (line request : List ℕ) → decode_of line ≡ Ok request → length request ≤ MOST_REQUEST_BYTES → rule_in line ≡ None
keeps_rules line request read small =
    let ok = decode_of-ok line request read in
    let end : digits_end line ≡ length line = all_digits line ok.1 in
    let even : length line % 2 ≡ 0 = ok.0 in
    let twice : length line ≡ 2 * length request = ok.2 in
    grind (arith, nat_tests)

pub kept_is_digits : (line : List ℕ) (e : FromHexError) → decode_of line ≡ Err e → rule_in line ≡ None → ⊥
kept_is_digits line e fails none = let good = is_good line none in let read = good.decoded in cc

-- the requests so far are those of the lines so far, of which none is refused, and what is left has the other lines
pub record IsSoFar (bytes rest : List ℕ) (n : ℕ) (requests : List (List ℕ)) : Type 0 where
  pub left : rest ≡ after_lines bytes n
  pub within : length rest ≤ length bytes
  pub others : drop n (lines bytes) ≡ lines rest
  pub named : requests ≡ filter_map request_of (take n (lines bytes))
  pub clear : (i : ℕ) → i < n → refusal_of_line bytes i ≡ None

pub starts : (bytes : List ℕ) → IsSoFar bytes bytes 0 []
unfolding after_lines
starts bytes = record { left = refl; within = omega arith; others = refl; named = refl; clear = λ i below. absurd (omega (arith, below)) }

refusal_here : (bytes rest line : List ℕ) (n : ℕ) → rest ≡ after_lines bytes n → get_or (lines bytes) n [] ≡ line → line_refusal n (length bytes - length rest) line ≡ refusal_of_line bytes n
unfolding refusal_of_line
refusal_here bytes rest line n left here = ap (λ k. line_refusal n (length bytes - k) line) (ap length left) ∙ ap (line_refusal n (length bytes - length (after_lines bytes n))) (sym here)

one_request : (line request : List ℕ) → request_of line ≡ Some request → filter_map request_of (line ∷ []) ≡ request ∷ []
one_request line request read = ap (λ o. cons_option o []) read

-- a loop continues after a line
pub continues : (bytes rest line after request : List ℕ) (requests : List (List ℕ)) (before : ℕ) → before ≡ length requests → lines rest ≡ line ∷ lines after → after ≡ after_first is_feed rest → length after < length rest
    → request_of line ≡ Some request → line_refusal before (length bytes - length rest) line ≡ None
    → IsSoFar bytes rest (length requests) requests → IsSoFar bytes after (length (requests ++ request ∷ [])) (requests ++ request ∷ [])
continues bytes rest line after request requests before counted first follows fewer read kept so_far =
    let n : ℕ = length requests in
    let place : IsAt (lines bytes) n line (lines after) = is_at (lines bytes) n line (lines after) (so_far.others ∙ first) in
    let count : length (requests ++ request ∷ []) ≡ n + 1 = length-append requests (request ∷ []) in
    let here : refusal_of_line bytes n ≡ None = sym (refusal_here bytes rest line n so_far.left place.here) ∙ ap (λ k. line_refusal k (length bytes - length rest) line) (sym counted) ∙ kept in
    let taken : take (n + 1) (lines bytes) ≡ take n (lines bytes) ++ line ∷ [] =
    take_more (lines bytes) n [] place.below ∙ ap (λ x. take n (lines bytes) ++ x ∷ []) place.here in
    subst (λ (k : ℕ). IsSoFar bytes after k (requests ++ request ∷ [])) (sym count) (record {
      left = follows ∙ ap (after_first is_feed) so_far.left ∙ sym (one_more bytes n);
      within = omega (arith, so_far.within);
      others = place.next;
      named = ap (λ l. l ++ request ∷ []) so_far.named
          ∙ ap (λ l. filter_map request_of (take n (lines bytes)) ++ l) (sym (one_request line request read))
          ∙ sym (filter_map-append request_of (take n (lines bytes)) (line ∷ []))
          ∙ ap (filter_map request_of) (sym taken);
      clear = clear_next (refusal_of_line bytes) n so_far.clear here;
    })

-- a loop ends at a line
pub ends : (e : ReadError InputRule) (bytes rest line : List ℕ) (more requests : List (List ℕ)) (before : ℕ) → before ≡ length requests → lines rest ≡ line ∷ more → IsFound e (line_refusal before (length bytes - length rest) line)
    → IsSoFar bytes rest (length requests) requests → Fails e (unless_refused (requests_in bytes) (line_refusals bytes))
unfolding line_refusals
ends errors.OutOfMemory bytes rest line more requests before counted first found so_far = tt
ends (errors.Refused rule offset) bytes rest line more requests before counted first found so_far =
    let n : ℕ = length requests in
    let place : IsAt (lines bytes) n line more = is_at (lines bytes) n line more (so_far.others ∙ first) in
    first_refused (refusal_of_line bytes) (requests_in bytes) 0 (length (lines bytes)) n (record { rule = rule; at = offset }) (omega arith) (omega (arith, place.below))
    (λ i low below. so_far.clear i below) (sym (refusal_here bytes rest line n so_far.left place.here) ∙ ap (λ k. line_refusal k (length bytes - length rest) line) (sym counted) ∙ found)

-- a loop is done where nothing is left
pub is_done : (bytes rest : List ℕ) (requests : List (List ℕ)) → rest ≡ [] → IsSoFar bytes rest (length requests) requests → unless_refused (requests_in bytes) (line_refusals bytes) ≡ Ok requests
unfolding line_refusals
is_done bytes rest requests none so_far =
    let n : ℕ = length requests in
    let all : length (lines bytes) ≤ n = all_taken (lines bytes) n (so_far.others ∙ ap lines none) in
    unless_none (requests_in bytes) (filter_map (refusal_of_line bytes) (range_with_len 0 (length (lines bytes))))
    (none_refused (refusal_of_line bytes) 0 (length (lines bytes)) (λ i low below. so_far.clear i (omega (arith, all))))
    ∙ ap Ok (sym (so_far.named ∙ ap (filter_map request_of) (take_all n (lines bytes) all)))

-- lines that are all good have a request each
record AreGood (xs : List (List ℕ)) : Type 0 where
  small : All (λ request. length request ≤ MOST_REQUEST_BYTES) (filter_map request_of xs)
  spelled : map (λ line. decode_of line) xs ≡ map Ok (filter_map request_of xs)
  count : length (filter_map request_of xs) ≡ length xs

good_first : (line request : List ℕ) (xs : List (List ℕ)) → decode_of line ≡ Ok request → length request ≤ MOST_REQUEST_BYTES → AreGood xs → AreGood (line ∷ xs)
good_first line request xs read small good =
    let first : filter_map request_of (line ∷ xs) ≡ request ∷ filter_map request_of xs = rw read refl in
    record {
      small = rw first (All-cons (λ r. length r ≤ MOST_REQUEST_BYTES) request (filter_map request_of xs) small good.small);
      spelled = rw (first, read, good.spelled) refl;
      count = rw first (omega (arith, good.count));
    }

are_good : (xs : List (List ℕ)) → All IsGood xs → AreGood xs
are_good [] each = record { small = All-nil (λ request. length request ≤ MOST_REQUEST_BYTES); spelled = refl; count = refl }
are_good (line ∷ xs) each =
    let good : IsGood line = All-head IsGood line xs each in
    good_first line good.request xs good.decoded good.small (are_good xs (All-tail IsGood line xs each))

-- a line that is not refused
record IsKept (before : ℕ) (line : List ℕ) : Type 0 where
  few : before < MOST_REQUESTS
  good : rule_in line ≡ None

nothing_broken : (start : ℕ) (broken : Option (InputRule × ℕ)) → option_map (λ b. refusal_of (start + b.1) b.0) broken ≡ None → broken ≡ None
nothing_broken start None none = refl
nothing_broken start (Some b) none = absurd cc

is_kept : (before start : ℕ) (line : List ℕ) → line_refusal before start line ≡ None → IsKept before line
unfolding line_refusal
is_kept before start line none =
    let few : before < MOST_REQUESTS = grind (arith, nat_tests) in
    let rest : option_map (λ b. refusal_of (start + b.1) b.0) (rule_in line) ≡ None = grind (arith, nat_tests) in
    record { few = few; good = nothing_broken start (rule_in line) rest }

is_not_refused : (before start : ℕ) (line : List ℕ) → before < MOST_REQUESTS → rule_in line ≡ None → line_refusal before start line ≡ None
unfolding line_refusal
is_not_refused before start line few good = grind (arith, nat_tests)

clear_lines : (bytes : List ℕ) → line_refusals bytes ≡ [] → (i : ℕ) → i < length (lines bytes) → IsKept i (get_or (lines bytes) i [])
unfolding line_refusals refusal_of_line
clear_lines bytes none i within =
    is_kept i (length bytes - length (after_lines bytes i)) (get_or (lines bytes) i []) (nothing_refused (refusal_of_line bytes) 0 (length (lines bytes)) none i (omega arith) (omega arith))

few_lines : (n : ℕ) → ((i : ℕ) → i < n → i < MOST_REQUESTS) → n ≤ MOST_REQUESTS
few_lines zero each = omega arith
few_lines (suc n) each = omega (arith, each n (omega arith))

short_is_read : (bytes : List ℕ) (requests : List (List ℕ)) → requests_at bytes ≡ Ok requests → (length bytes ≤ MOST_REQUEST_FILE_BYTES) × (unless_refused (requests_in bytes) (line_refusals bytes) ≡ Ok requests)
unfolding requests_at
short_is_read bytes requests h = grind arith

-- what is read is a request file
pub is_file : (bytes : List ℕ) (requests : List (List ℕ)) → requests_at bytes ≡ Ok requests → IsRequestFile bytes requests
is_file bytes requests h =
    let short = short_is_read bytes requests h in
    let read = read_by requests (requests_in bytes) (line_refusals bytes) short.1 in
    let kept : (i : ℕ) → i < length (lines bytes) → IsKept i (get_or (lines bytes) i []) = clear_lines bytes read.0 in
    let good : AreGood (lines bytes) = are_good (lines bytes) (All-from_get_or IsGood (lines bytes) [] (λ i within. is_good _ (kept i within).good)) in
    let few : length (lines bytes) ≤ MOST_REQUESTS = few_lines (length (lines bytes)) (λ i within. (kept i within).few) in
    subst (λ (rs : List (List ℕ)). IsRequestFile bytes rs) read.1 (record { short = short.0; few = omega (arith, few, good.count); small = good.small; spelled = good.spelled })

-- the requests that lines spell
spelled_requests : (xs requests : List (List ℕ)) → map (λ line. decode_of line) xs ≡ map Ok requests → filter_map request_of xs ≡ requests
spelled_requests [] [] spelled = refl
spelled_requests [] (r ∷ requests) spelled = absurd cc
spelled_requests (x ∷ xs) [] spelled = absurd cc
spelled_requests (x ∷ xs) (r ∷ requests) spelled =
    let first : decode_of x ≡ Ok r = cc in
    let later : filter_map request_of xs ≡ requests = spelled_requests xs requests cc in
    rw (first, later) refl

count_spelled : (xs requests : List (List ℕ)) → map (λ line. decode_of line) xs ≡ map Ok requests → length xs ≡ length requests
count_spelled [] [] spelled = refl
count_spelled [] (r ∷ requests) spelled = absurd cc
count_spelled (x ∷ xs) [] spelled = absurd cc
count_spelled (x ∷ xs) (r ∷ requests) spelled = omega (arith, count_spelled xs requests cc)

spelled_lines : (xs requests : List (List ℕ)) → map (λ line. decode_of line) xs ≡ map Ok requests → All (λ r. length r ≤ MOST_REQUEST_BYTES) requests → All (λ line. rule_in line ≡ None) xs
spelled_lines [] requests spelled small = All-nil (λ line. rule_in line ≡ None)
spelled_lines (x ∷ xs) [] spelled small = absurd cc
spelled_lines (x ∷ xs) (r ∷ requests) spelled small =
    let first : decode_of x ≡ Ok r = cc in
    let later : map (λ line. decode_of line) xs ≡ map Ok requests = cc in
    All-cons (λ line. rule_in line ≡ None) x xs (keeps_rules x r first (All-head (λ r. length r ≤ MOST_REQUEST_BYTES) r requests small))
    (spelled_lines xs requests later (All-tail (λ r. length r ≤ MOST_REQUEST_BYTES) r requests small))

short_reads : (bytes : List ℕ) → length bytes ≤ MOST_REQUEST_FILE_BYTES → requests_at bytes ≡ unless_refused (requests_in bytes) (line_refusals bytes)
unfolding requests_at
short_reads bytes h = grind arith

-- a request file is read whole
pub file_is_read : (bytes : List ℕ) (requests : List (List ℕ)) → IsRequestFile bytes requests → requests_at bytes ≡ Ok requests
unfolding line_refusals refusal_of_line
file_is_read bytes requests is =
    let each : All (λ line. rule_in line ≡ None) (lines bytes) = spelled_lines (lines bytes) requests is.spelled is.small in
    short_reads bytes is.short
    ∙ unless_none (requests_in bytes) (filter_map (refusal_of_line bytes) (range_with_len 0 (length (lines bytes))))
    (none_refused (refusal_of_line bytes) 0 (length (lines bytes)) (λ i low high. is_not_refused i (length bytes - length (after_lines bytes i)) (get_or (lines bytes) i [])
    (omega (arith, is.few, count_spelled (lines bytes) requests is.spelled)) (All-get_or (λ line. rule_in line ≡ None) (lines bytes) i [] (omega arith) each)))
    ∙ ap Ok (spelled_requests (lines bytes) requests is.spelled)

-- so the only error is out of memory
pub file_is_answered : (bytes : List ℕ) (requests : List (List ℕ)) (e : ReadError InputRule) → IsRequestFile bytes requests → Fails e (requests_at bytes) → e ≡ errors.OutOfMemory
file_is_answered bytes requests errors.OutOfMemory is fails = refl
file_is_answered bytes requests (errors.Refused rule offset) is fails = let read : requests_at bytes ≡ Ok requests = file_is_read bytes requests is in absurd cc

pub ruleset request_reading = (is_file, file_is_answered)
