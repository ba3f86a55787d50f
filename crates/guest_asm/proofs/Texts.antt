-- The end of a line's text: the first line feed or `;`.
use Rattle.std.proofs.Common.{◌≡◌, ◌≢◌, ℕ, suc, ◌+◌, ◌<◌, ◌≤◌, Bool, true, false, cond, not, eqb, List, [], ◌∷◌, ◌++◌, length, take, drop, get_or, Option, Some, None, refl, sym, ap, subst, ◌∙◌, arith}
use Rattle.std.specs.Prelude.{◌||◌}
use Rattle.std.specs.List.{list_all, position_or_len, prefix_len}
use Rattle.std.specs.Option.{unwrap_or}
use Rattle.std.specs.Str.Lines.{strip_carriage_return}
use Rattle.std.proofs.lemmas.Bool.{and_parts, false≢true}
use Rattle.std.proofs.lemmas.List.{take_all}
use Rattle.std.proofs.lemmas.List.Sums.{position_or_len_is}
use Rattle.memchr.specs.Find.{IsFirstByte, is_byte2}
use Rattle.guest_asm.specs.Lexis.{is_plain, lines, text_of}
use Rattle.guest_asm.specs.Views.{ends_text, is_clean}
use Rattle.guest_asm.proofs.Lexis.{line_ended}
use Rattle.guest_asm.proofs.Plain.{cut, ended, ended_plain, passes_strip}

not_true : (t : Bool) → (t ≡ true → ⊥) → t ≡ false
not_true true passes = absurd (passes refl)
not_true false passes = refl

-- what a search answers is the first place, or the length
pub first_end : (bytes : List ℕ) (found : Option ℕ) → IsFirstByte (is_byte2 10 59) bytes found → (n : ℕ) → n ≡ length bytes → unwrap_or found n ≡ position_or_len ends_text bytes
first_end bytes None nowhere n is =
    is ∙ sym (position_or_len_is ends_text bytes (length bytes) 0 (omega arith) (λ k lt. not_true (ends_text (get_or bytes k 0)) (nowhere k (omega arith) lt)) (λ lt. absurd (omega (arith, lt))))
first_end bytes (Some place) first n is =
    sym (position_or_len_is ends_text bytes place 0 (omega (arith, first.0.high)) (λ k lt. not_true (ends_text (get_or bytes k 0)) (first.0.before k (omega arith) lt)) (λ lt. first.1))

-- where a line feed is that end, it is the first one
feed_by : (b : ℕ) (bs : List ℕ) (n m : ℕ) (feed semicolon : Bool) → eqb b 10 ≡ feed → (n < length bs → eqb (get_or bs n 0) 10 ≡ true → m ≡ n)
    → cond (not (feed || semicolon)) (1 + n) 0 < suc (length bs) → eqb (get_or (b ∷ bs) (cond (not (feed || semicolon)) (1 + n) 0) 0) 10 ≡ true → cond (not feed) (1 + m) 0 ≡ cond (not (feed || semicolon)) (1 + n) 0
feed_by b bs n m true semicolon is later lt there = refl
feed_by b bs n m false true is later lt there = absurd (false≢true (sym is ∙ there))
feed_by b bs n m false false is later lt there =
    let k : 1 + n ≡ suc n = omega arith in
    ap (λ i. 1 + i) (later (omega (arith, lt)) (subst (λ i. eqb (get_or (b ∷ bs) i 0) 10 ≡ true) k there))

feed_first : (bs : List ℕ) → position_or_len ends_text bs < length bs → eqb (get_or bs (position_or_len ends_text bs) 0) 10 ≡ true → position_or_len (λ b. eqb b 10) bs ≡ position_or_len ends_text bs
feed_first [] lt there = refl
feed_first (b ∷ bs) lt there = feed_by b bs (position_or_len ends_text bs) (position_or_len (λ b. eqb b 10) bs) (eqb b 10) (eqb b 59) refl (feed_first bs) lt there

-- no `;` comes before it
abbrev is_other : ℕ → Bool
is_other b = not (eqb b 59)

others_by : (b : ℕ) (bs : List ℕ) (n : ℕ) (feed semicolon : Bool) → eqb b 59 ≡ semicolon → list_all is_other (take n bs) ≡ true → list_all is_other (take (cond (not (feed || semicolon)) (1 + n) 0) (b ∷ bs)) ≡ true
others_by b bs n true semicolon is later = refl
others_by b bs n false true is later = refl
others_by b bs n false false is later =
    let k : 1 + n ≡ suc n = omega arith in
    rw (k, is, later) refl

others : (bs : List ℕ) → list_all is_other (take (position_or_len ends_text bs) bs) ≡ true
others [] = refl
others (b ∷ bs) = others_by b bs (position_or_len ends_text bs) (eqb b 10) (eqb b 59) refl (others bs)

whole_prefix : (p : ℕ → Bool) (xs : List ℕ) → list_all p xs ≡ true → prefix_len p xs ≡ length xs
whole_prefix p [] all = refl
whole_prefix p (x ∷ xs) all =
    let parts = and_parts (p x) (list_all p xs) all in
    let k : 1 + length xs ≡ suc (length xs) = omega arith in
    rw (parts.0, whole_prefix p xs parts.1) k

is_feed : (b : ℕ) → b ≡ 10 → eqb b 10 ≡ true
is_feed b is = rw is refl

-- a line that ends at place n
module _ (bs : List ℕ) (n : ℕ) (first : n ≡ position_or_len ends_text bs) (lt : n < length bs) (there : get_or bs n 0 ≡ 10) where
  place : position_or_len (λ b. eqb b 10) bs ≡ n
  place = feed_first bs (omega (arith, first, lt)) (is_feed _ (ap (λ k. get_or bs k 0) (sym first) ∙ there)) ∙ sym first

  pub line_is : lines bs ≡ take (n + 1) bs ∷ lines (drop (n + 1) bs)
  line_is = subst (λ k. lines bs ≡ take (k + 1) bs ∷ lines (drop (k + 1) bs)) place (line_ended bs (omega (arith, place, lt)))

  pub plain_is : list_all is_clean bs ≡ true → list_all is_plain (text_of (take (n + 1) bs)) ≡ true
  plain_is clean = subst (λ k. list_all is_plain (text_of (take (k + 1) bs)) ≡ true) place (ended_plain bs clean (omega (arith, place, lt)))

  pub text_is : strip_carriage_return (take n bs) ≡ text_of (take (n + 1) bs)
  text_is =
      let front = take n bs in
      let line : take (n + 1) bs ≡ front ++ 10 ∷ [] = subst (λ k. take (k + 1) bs ≡ take k bs ++ 10 ∷ []) place (cut bs (omega (arith, place, lt))) in
      let text = strip_carriage_return front in
      let other : list_all is_other front ≡ true = subst (λ k. list_all is_other (take k bs) ≡ true) (sym first) (others bs) in
      let all : prefix_len is_other text ≡ length text = whole_prefix is_other text (passes_strip is_other front other) in
      sym (rw (line, ended front, all) (take_all (length text) text (omega arith)))
