-- Reading steps byte by byte.
use Rattle.std.proofs.Common.{◌≡◌, ℕ, zero, suc, get_or, ◌+◌, ◌-◌, ◌≤◌, ◌<◌, true, ◌||◌, IsTrue, List, [], ◌∷◌, ◌++◌, length, take, drop, All, Option, Some, None, Ok, refl, sym, ap, subst, inl, inr, ◌∙◌, arith, append_assoc, append-nil, length-append}
use Rattle.std.proofs.lemmas.Bool.Decides.{nat_tests}
use Rattle.std.proofs.lemmas.Bool.{cases_lt}
use Rattle.std.proofs.lemmas.List.{get_or-drop, get_or-take, length-drop, length-take-le, take_more, take-append-drop}
use Rattle.std.proofs.lemmas.List.Elements.{All-nil, All-cons, All-head, All-tail, All-from_get_or, All-get_or}
use Rattle.std.proofs.Math.Seq.{take-length}
use Rattle.std.specs.List.{cons_option, filter_map, range_with_len}
use Rattle.std.specs.Option.{option_map}
use Rattle.lwc_types.specs.Outcomes.{Fails, IsFound, unless_refused}
use Rattle.lwc_types.specs.declared.reading.ReadError.{ReadError}
use Rattle.lwc_types.specs.declared.reading.ReadError.TheVariants as errors
use Rattle.lwc_text.specs.declared.fault.InputRule.{InputRule}
use Rattle.lwc_types.specs.declared.limits.TheConstants.{MOST_SCHEDULE_BYTES, MOST_THREADS}
use Rattle.lwc_text.proofs.Refusals.{clear_next, first_refused, none_refused, nothing_refused, read_by, unless_none}
use Rattle.lwc_text.specs.Schedules.{IsSchedule, digit_number, is_blank, names_thread, numbers, refusal_at, refusal_of, refusals, rule_broken, schedule_at}

-- a byte that a schedule may have
abbrev pub Fits : ℕ → ℕ → Type 0
Fits threads b = IsTrue (is_blank b || names_thread threads b)

blank_has_no_number : (b : ℕ) → is_blank b ≡ true → digit_number b ≡ None
blank_has_no_number b h = grind arith

blank_has_none : (b : ℕ) → is_blank b ≡ true → numbers (b ∷ []) ≡ []
blank_has_none b h = rw (blank_has_no_number b h) refl

-- a blank adds no step
pub blank_adds_nothing : (steps : List ℕ) (b : ℕ) → is_blank b ≡ true → steps ++ numbers (b ∷ []) ≡ steps
blank_adds_nothing steps b h = ap (λ xs. steps ++ xs) (blank_has_none b h) ∙ append-nil steps

named_has_number : (threads b : ℕ) → names_thread threads b ≡ true → length (numbers (b ∷ [])) ≡ 1
named_has_number threads b h = grind arith

-- the digit of a thread adds that thread's step, where there is room for it
pub named_adds : (b t : ℕ) → digit_number b ≡ Some t → numbers (b ∷ []) ≡ t ∷ []
named_adds b t h = ap (λ o. cons_option o []) h

-- a byte that breaks no rule
record IsKept (threads most before b : ℕ) : Type 0 where
  fits : Fits threads b
  few : before ≤ most → before + length (numbers (b ∷ [])) ≤ most

kept : (threads most before b : ℕ) → rule_broken threads most before b ≡ None → IsKept threads most before b
kept threads most before b h = record {
  fits = grind (arith, nat_tests);
  few = λ short. grind (arith, nat_tests, blank_has_none, named_has_number);
}

-- a byte that fits breaks no rule where there is room for what it adds
keeps : (threads most before b : ℕ) → Fits threads b → before + length (numbers (b ∷ [])) ≤ most → rule_broken threads most before b ≡ None
keeps threads most before b fits few = grind (arith, nat_tests, blank_has_none, named_has_number)

numbers-cons : (b : ℕ) (bytes : List ℕ) → numbers (b ∷ bytes) ≡ numbers (b ∷ []) ++ numbers bytes
numbers-cons b bytes = elim (digit_number b) as (λ (o : Option ℕ). cons_option o (numbers bytes) ≡ cons_option o [] ++ numbers bytes) [ None ↦ refl | Some t ↦ refl ]

numbers-append : (xs ys : List ℕ) → numbers (xs ++ ys) ≡ numbers xs ++ numbers ys
numbers-append [] ys = refl
numbers-append (b ∷ xs) ys =
    numbers-cons b (xs ++ ys) ∙ ap (λ l. numbers (b ∷ []) ++ l) (numbers-append xs ys)
    ∙ sym (append_assoc (numbers (b ∷ [])) (numbers xs) (numbers ys)) ∙ ap (λ l. l ++ numbers ys) (sym (numbers-cons b xs))

-- the numbers of one byte more
numbers-next : (bytes : List ℕ) (at : ℕ) → at < length bytes → numbers (take (at + 1) bytes) ≡ numbers (take at bytes) ++ numbers (get_or bytes at 0 ∷ [])
numbers-next bytes at within = ap numbers (take_more bytes at 0 within) ∙ numbers-append (take at bytes) (get_or bytes at 0 ∷ [])

-- the steps so far are the digits of the bytes so far, no more than there may be, and none of these bytes is refused
pub record IsSoFar (threads most : ℕ) (bytes : List ℕ) (at : ℕ) (steps : List ℕ) : Type 0 where
  pub named : steps ≡ numbers (take at bytes)
  pub few : length steps ≤ most
  pub clear : (i : ℕ) → i < at → refusal_at threads most bytes i ≡ None

refusal_here : (threads most : ℕ) (bytes : List ℕ) (at before : ℕ) → before ≡ length (numbers (take at bytes)) →
    option_map (refusal_of at) (rule_broken threads most before (get_or bytes at 0)) ≡ refusal_at threads most bytes at
unfolding refusal_at
refusal_here threads most bytes at before is = ap (λ n. option_map (refusal_of at) (rule_broken threads most n (get_or bytes at 0))) is

-- a loop continues after a byte
pub continues : (threads most at : ℕ) (before after bytes : List ℕ) → at < length bytes → rule_broken threads most (length before) (get_or bytes at 0) ≡ None →
    after ≡ before ++ numbers (get_or bytes at 0 ∷ []) → length after ≤ most → IsSoFar threads most bytes at before → IsSoFar threads most bytes (at + 1) after
continues threads most at before after bytes within unbroken added few so_far =
    let here : refusal_at threads most bytes at ≡ None =
    sym (refusal_here threads most bytes at (length before) (ap length so_far.named)) ∙ ap (option_map (refusal_of at)) unbroken in
    record {
      named = added ∙ ap (λ l. l ++ numbers (get_or bytes at 0 ∷ [])) so_far.named ∙ sym (numbers-next bytes at within);
      few = few;
      clear = clear_next (refusal_at threads most bytes) at so_far.clear here;
    }

-- the decimal digit of a thread
abbrev pub IsPlain : ℕ → ℕ → Type 0
IsPlain threads b = (48 ≤ b) × (b < 58) × (b < 48 + threads)

-- the first bytes are digits below an end
abbrev Begins : ℕ → ℕ → List ℕ → Type 0
Begins end n bytes = (k : ℕ) → k < n → (48 ≤ get_or bytes k 0) × (get_or bytes k 0 < end)

pub plain_first : (threads end n : ℕ) (bytes : List ℕ) → n ≤ length bytes → end ≤ 58 → end ≤ 48 + threads → Begins end n bytes → All (IsPlain threads) (take n bytes)
plain_first threads end n bytes within few there each =
    All-from_get_or (IsPlain threads) (take n bytes) 0
    (λ i below.
    let lt : i < n = omega (arith, below, length-take-le n bytes within) in
    let is = each i lt in
    subst (IsPlain threads) (sym (get_or-take n bytes i 0 lt)) (is.0, omega (arith, is.1, few), omega (arith, is.1, there)))

pub plain_next : (end n m : ℕ) (bytes : List ℕ) → n + m ≤ length bytes → Begins end n bytes → All (λ b. (48 ≤ b) × (b < end)) (take (n + m - n) (drop n bytes)) → Begins end (n + m) bytes
plain_next end n m bytes within each all k below =
    let piece = subst (λ (x : ℕ). All (λ b. (48 ≤ b) × (b < end)) (take x (drop n bytes))) (let e : n + m - n ≡ m = omega arith in e) all in
    elim (cases_lt k n) [
      | inl lt ↦ each k lt
      | inr ge ↦
          let inside : k - n < m = omega (arith, ge, below) in
          let here : get_or (take m (drop n bytes)) (k - n) 0 ≡ get_or bytes k 0 =
          get_or-take m (drop n bytes) (k - n) 0 inside ∙ get_or-drop n bytes (k - n) 0 ∙ ap (λ (i : ℕ). get_or bytes i 0) (omega (arith, ge)) in
          let long : length (take m (drop n bytes)) ≡ m = length-take-le m (drop n bytes) (omega (arith, within, length-drop n bytes)) in
          subst (λ (b : ℕ). (48 ≤ b) × (b < end)) here (piece (k - n) 0 (omega (arith, inside, long)))
    ]

plain_number : (threads b : ℕ) → IsPlain threads b → digit_number b ≡ Some (b - 48)
plain_number threads b is = grind (arith, nat_tests)

plain_fits : (threads b : ℕ) → IsPlain threads b → Fits threads b
plain_fits threads b is = grind (arith, nat_tests)

-- a loop over plain digits continues after each
pub plain_continues : (threads most at : ℕ) (steps bytes : List ℕ) → at < length bytes → at < most → length steps ≡ at → IsPlain threads (get_or bytes at 0) →
    IsSoFar threads most bytes at steps → IsSoFar threads most bytes (at + 1) (steps ++ (get_or bytes at 0 - 48) ∷ [])
plain_continues threads most at steps bytes within few long is so_far =
    let b = get_or bytes at 0 in
    let one : numbers (b ∷ []) ≡ (b - 48) ∷ [] = named_adds b (b - 48) (plain_number threads b is) in
    continues threads most at steps (steps ++ (b - 48) ∷ []) bytes within
    (keeps threads most (length steps) b (plain_fits threads b is) (omega (arith, long, few, ap length one)))
    (ap (λ l. steps ++ l) (sym one)) (omega (arith, long, few, length-append steps ((b - 48) ∷ []))) so_far

-- a loop ends at a byte
pub ends : (e : ReadError InputRule) (threads most at : ℕ) (before bytes : List ℕ) → at < length bytes → IsFound e (option_map (refusal_of at) (rule_broken threads most (length before) (get_or bytes at 0))) →
    IsSoFar threads most bytes at before → Fails e (unless_refused (numbers bytes) (refusals threads most bytes))
unfolding refusals
ends errors.OutOfMemory threads most at before bytes within found so_far = tt
ends (errors.Refused rule offset) threads most at before bytes within found so_far =
    first_refused (refusal_at threads most bytes) (numbers bytes) 0 (length bytes) at (record { rule = rule; at = offset }) (omega arith) (omega arith)
    (λ i low below. so_far.clear i below) (sym (refusal_here threads most bytes at (length before) (ap length so_far.named)) ∙ found)

-- a loop is done after the last byte
pub is_done : (threads most at : ℕ) (before bytes : List ℕ) → length bytes ≡ at → IsSoFar threads most bytes at before → unless_refused (numbers bytes) (refusals threads most bytes) ≡ Ok before
unfolding refusals
is_done threads most at before bytes end so_far =
    let whole : before ≡ numbers bytes = so_far.named ∙ ap (λ n. numbers (take n bytes)) (sym end) ∙ ap numbers (take-length bytes) in
    unless_none (numbers bytes) (filter_map (refusal_at threads most bytes) (range_with_len 0 (length bytes)))
    (none_refused (refusal_at threads most bytes) 0 (length bytes) (λ i low below. so_far.clear i (omega (arith, end))))
    ∙ ap Ok (sym whole)

-- the first number, if there is one, and the rest
numbers_hold : (P : ℕ → Type 0) (b : ℕ) (bytes : List ℕ) → ((t : ℕ) → digit_number b ≡ Some t → P t) → All P (numbers bytes) → All P (numbers (b ∷ bytes))
numbers_hold P b bytes first rest =
    elim (digit_number b) as (λ (o : Option ℕ). digit_number b ≡ o → All P (cons_option o (numbers bytes))) [
      | None ↦ λ e. rest
      | Some t ↦ λ e. All-cons P t (numbers bytes) (first t e) rest
    ] refl

digit_is_below : (b t : ℕ) → digit_number b ≡ Some t → t < MOST_THREADS
digit_is_below b t e = grind arith

digit_is_there : (threads b t : ℕ) → Fits threads b → digit_number b ≡ Some t → t < threads
digit_is_there threads b t fits e = grind (arith, blank_has_no_number)

digits_are_below : (bytes : List ℕ) → All (λ t. t < MOST_THREADS) (numbers bytes)
digits_are_below [] = All-nil (λ t. t < MOST_THREADS)
digits_are_below (b ∷ bytes) = numbers_hold (λ t. t < MOST_THREADS) b bytes (digit_is_below b) (digits_are_below bytes)

are_there : (threads : ℕ) (bytes : List ℕ) → All (Fits threads) bytes → All (λ t. t < threads) (numbers bytes)
are_there threads [] each = All-nil (λ t. t < threads)
are_there threads (b ∷ bytes) each =
    numbers_hold (λ t. t < threads) b bytes (λ t e. digit_is_there threads b t (All-head (Fits threads) b bytes each) e) (are_there threads bytes (All-tail (Fits threads) b bytes each))

pub digits_are_read : (threads most : ℕ) (bytes steps : List ℕ) → unless_refused (numbers bytes) (refusals threads most bytes) ≡ Ok steps → All (λ t. t < MOST_THREADS) steps
digits_are_read threads most bytes steps h =
    subst (λ (xs : List ℕ). All (λ t. t < MOST_THREADS) xs) (read_by steps (numbers bytes) (refusals threads most bytes) h).1 (digits_are_below bytes)

unbroken : (at : ℕ) (rule : Option InputRule) → option_map (refusal_of at) rule ≡ None → rule ≡ None
unbroken at None none = refl
unbroken at (Some r) none = absurd (cc)

-- bytes of which none is refused
module _ (threads most : ℕ) (bytes : List ℕ) (clear : (i : ℕ) → i < length bytes → refusal_at threads most bytes i ≡ None) where
  kept_at : (i : ℕ) → i < length bytes → IsKept threads most (length (numbers (take i bytes))) (get_or bytes i 0)
  unfolding refusal_at
  kept_at i within = kept threads most (length (numbers (take i bytes))) (get_or bytes i 0) (unbroken i _ (clear i within))

  few_so_far : (at : ℕ) → at ≤ length bytes → length (numbers (take at bytes)) ≤ most
  few_so_far zero within = omega arith
  few_so_far (suc at) within =
      let next : suc at ≡ at + 1 = omega arith in
      let one = (kept_at at (omega arith)).few (few_so_far at (omega arith)) in
      omega (arith, one, ap length (ap (λ n. numbers (take n bytes)) next ∙ numbers-next bytes at (omega arith)), length-append (numbers (take at bytes)) (numbers (get_or bytes at 0 ∷ [])))

  each_fits : All (Fits threads) bytes
  each_fits = All-from_get_or (Fits threads) bytes 0 (λ i within. (kept_at i within).fits)

  few_steps : length (numbers bytes) ≤ most
  few_steps = subst (λ (l : List ℕ). length (numbers l) ≤ most) (take-length bytes) (few_so_far (length bytes) (omega arith))

short_is_read : (threads most : ℕ) (bytes steps : List ℕ) → schedule_at threads most bytes ≡ Ok steps → (length bytes ≤ MOST_SCHEDULE_BYTES) × (unless_refused (numbers bytes) (refusals threads most bytes) ≡ Ok steps)
unfolding schedule_at
short_is_read threads most bytes steps h = grind arith

-- what is read is a schedule
pub is_schedule : (threads most : ℕ) (bytes steps : List ℕ) → schedule_at threads most bytes ≡ Ok steps → IsSchedule threads most bytes steps
unfolding refusals
is_schedule threads most bytes steps h =
    let short : (length bytes ≤ MOST_SCHEDULE_BYTES) × (unless_refused (numbers bytes) (refusals threads most bytes) ≡ Ok steps) = short_is_read threads most bytes steps h in
    let read : (refusals threads most bytes ≡ []) × (numbers bytes ≡ steps) = read_by steps (numbers bytes) (refusals threads most bytes) short.1 in
    let clear : (i : ℕ) → i < length bytes → refusal_at threads most bytes i ≡ None =
    λ i within. nothing_refused (refusal_at threads most bytes) 0 (length bytes) read.0 i (omega arith) (omega arith) in
    record {
      short = short.0;
      each = each_fits threads most bytes clear;
      named = sym read.1;
      few = subst (λ (l : List ℕ). length l ≤ most) read.1 (few_steps threads most bytes clear);
    }

-- each step of a schedule is of one of the threads
pub threads_are_there : (threads most : ℕ) (bytes steps : List ℕ) → schedule_at threads most bytes ≡ Ok steps → All (λ t. t < threads) steps
threads_are_there threads most bytes steps h =
    let is : IsSchedule threads most bytes steps = is_schedule threads most bytes steps h in
    subst (λ (xs : List ℕ). All (λ t. t < threads) xs) (sym is.named) (are_there threads bytes is.each)

pub short_reads : (threads most : ℕ) (bytes : List ℕ) → length bytes ≤ MOST_SCHEDULE_BYTES → schedule_at threads most bytes ≡ unless_refused (numbers bytes) (refusals threads most bytes)
unfolding schedule_at
short_reads threads most bytes h = grind arith

-- the bytes so far have no more digits than all bytes
fewer_so_far : (bytes : List ℕ) (at : ℕ) → length (numbers (take at bytes)) ≤ length (numbers bytes)
fewer_so_far bytes at =
    omega (arith, ap length (ap numbers (sym (take-append-drop at bytes)) ∙ numbers-append (take at bytes) (drop at bytes)), length-append (numbers (take at bytes)) (numbers (drop at bytes)))

clear_of_schedule : (threads most : ℕ) (bytes steps : List ℕ) → IsSchedule threads most bytes steps → (i : ℕ) → i < length bytes → refusal_at threads most bytes i ≡ None
unfolding refusal_at
clear_of_schedule threads most bytes steps is i within =
    let fits : Fits threads (get_or bytes i 0) = All-get_or (Fits threads) bytes i 0 within is.each in
    let room : length (numbers (take i bytes)) + length (numbers (get_or bytes i 0 ∷ [])) ≤ most =
    omega (arith, ap length (numbers-next bytes i within), length-append (numbers (take i bytes)) (numbers (get_or bytes i 0 ∷ [])), fewer_so_far bytes (i + 1), ap length is.named, is.few) in
    ap (option_map (refusal_of i)) (keeps threads most (length (numbers (take i bytes))) (get_or bytes i 0) fits room)

-- a schedule is read whole
pub is_read : (threads most : ℕ) (bytes steps : List ℕ) → IsSchedule threads most bytes steps → schedule_at threads most bytes ≡ Ok steps
unfolding refusals
is_read threads most bytes steps is =
    short_reads threads most bytes is.short
    ∙ unless_none (numbers bytes) (filter_map (refusal_at threads most bytes) (range_with_len 0 (length bytes)))
    (none_refused (refusal_at threads most bytes) 0 (length bytes) (λ i low high. clear_of_schedule threads most bytes steps is i (omega arith)))
    ∙ ap Ok (sym is.named)

-- so the only error is out of memory
pub is_answered : (threads most : ℕ) (bytes steps : List ℕ) (e : ReadError InputRule) → IsSchedule threads most bytes steps → Fails e (schedule_at threads most bytes) → e ≡ errors.OutOfMemory
is_answered threads most bytes steps errors.OutOfMemory is fails = refl
is_answered threads most bytes steps (errors.Refused rule offset) is fails = let read : schedule_at threads most bytes ≡ Ok steps = is_read threads most bytes steps is in absurd (cc)
