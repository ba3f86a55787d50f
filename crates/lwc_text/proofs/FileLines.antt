-- The lines of a file, one after another.
use Rattle.std.proofs.Common.{◌≡◌, ℕ, zero, suc, get_or, ◌+◌, ◌-◌, ◌≤◌, ◌<◌, Bool, true, false, Option, Some, None, sym, eqb, List, [], ◌∷◌, length, take, drop, refl, ap, ◌∙◌, arith, add-one, length-drop}
use Rattle.std.proofs.lemmas.Bool.Decides.{nat_tests}
use Rattle.std.proofs.lemmas.List.{take_all}
use Rattle.std.proofs.lemmas.List.Elements.{All-from_get_or}
use Rattle.std.proofs.lemmas.List.Splits.{slice_split_first, slice_split_none, length-slice_split}
use Rattle.std.proofs.lemmas.List.Sums.{fails_before_first, position_or_len_is}
use Rattle.std.specs.Option.{unwrap_or}
use Rattle.memchr.specs.Find.{IsFirstByte, is_byte}
use Rattle.std.specs.List.{after_first, before_first, position_or_len, slice_split}
use Rattle.std.specs.Str.Lines.{lines, lines_of_parts, strip_carriage_return}
use Rattle.lwc_text.specs.Requests.{after_lines}

-- whether a byte ends a line
abbrev pub is_feed : ℕ → Bool
is_feed b = eqb b 10

not_true : (t : Bool) → (t ≡ true → ⊥) → t ≡ false
not_true true passes = absurd (passes refl)
not_true false passes = refl

-- what a search answers is the place of the first line feed, or the length
pub first_feed : (bytes : List ℕ) (found : Option ℕ) → IsFirstByte (is_byte 10) bytes found → (n : ℕ) → n ≡ length bytes → unwrap_or found n ≡ position_or_len is_feed bytes
first_feed bytes None nowhere n is =
    is ∙ sym (position_or_len_is is_feed bytes (length bytes) 0 (omega arith) (λ k lt. not_true (is_feed (get_or bytes k 0)) (nowhere k (omega arith) lt)) (λ lt. absurd (omega (arith, lt))))
first_feed bytes (Some place) first n is =
    sym (position_or_len_is is_feed bytes place 0 (omega (arith, first.0.high)) (λ k lt. not_true (is_feed (get_or bytes k 0)) (first.0.before k (omega arith) lt)) (λ lt. first.1))

-- the first line of some, where a line feed ends it
with_next : (x : List ℕ) (parts : List (List ℕ)) → 0 < length parts → lines_of_parts (x ∷ parts) ≡ strip_carriage_return x ∷ lines_of_parts parts
with_next x [] some = absurd (omega arith)
with_next x (y ∷ more) some = refl

pub line_ended : (bs : List ℕ) → position_or_len is_feed bs < length bs → lines bs ≡ strip_carriage_return (before_first is_feed bs) ∷ lines (after_first is_feed bs)
line_ended bs within =
    ap lines_of_parts (slice_split_first is_feed bs 0 within)
    ∙ with_next (before_first is_feed bs) (slice_split is_feed (after_first is_feed bs)) (omega (arith, length-slice_split is_feed (after_first is_feed bs)))

-- what is left of a list from a place on is all of it
pub whole_rest : (n : ℕ) (bs : List ℕ) → take (length bs - n) (drop n bs) ≡ drop n bs
whole_rest n bs = take_all (length bs - n) (drop n bs) (omega (arith, length-drop n bs))

last_line : (bs : List ℕ) → 0 < length bs → lines_of_parts (bs ∷ []) ≡ bs ∷ []
last_line [] some = absurd (omega arith)
last_line (b ∷ bs) some = grind (arith, nat_tests)

pub line_open : (bs : List ℕ) → length bs ≤ position_or_len is_feed bs → 0 < length bs → lines bs ≡ bs ∷ []
line_open bs none some =
    ap lines_of_parts (slice_split_none is_feed bs (All-from_get_or (λ b. is_feed b ≡ false) bs 0 (λ i within. fails_before_first is_feed bs i 0 (omega arith))))
    ∙ last_line bs some

-- where a list goes on with an element
pub record IsAt (xs : List (List ℕ)) (n : ℕ) (x : List ℕ) (more : List (List ℕ)) : Type 0 where
  pub below : n < length xs
  pub here : get_or xs n [] ≡ x
  pub next : drop (n + 1) xs ≡ more

pub is_at : (xs : List (List ℕ)) (n : ℕ) (x : List ℕ) (more : List (List ℕ)) → drop n xs ≡ x ∷ more → IsAt xs n x more
is_at [] zero x more h = absurd cc
is_at [] (suc n) x more h = absurd cc
is_at (y ∷ ys) zero x more h = record { below = omega arith; here = cc; next = cc }
is_at (y ∷ ys) (suc n) x more h =
    let later : IsAt ys n x more = is_at ys n x more h in
    let e : suc n + 1 ≡ suc (n + 1) = omega arith in
    record { below = omega (arith, later.below); here = later.here; next = rw e later.next }

-- the bytes after one line more
pub one_more : (bytes : List ℕ) (n : ℕ) → after_lines bytes (n + 1) ≡ after_first is_feed (after_lines bytes n)
unfolding after_lines
one_more bytes n = rw add-one refl

-- where nothing is left of some lines, all are taken
pub all_taken : (xs : List (List ℕ)) (n : ℕ) → drop n xs ≡ [] → length xs ≤ n
all_taken [] n h = omega arith
all_taken (x ∷ xs) zero h = absurd cc
all_taken (x ∷ xs) (suc n) h = omega (arith, all_taken xs n h)
