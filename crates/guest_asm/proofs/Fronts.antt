-- The first part of a line: its label, or else its first word; and a register of one digit.
use Rattle.std.proofs.Common.{◌≡◌, ℕ, zero, suc, ◌+◌, ◌-◌, ◌<◌, ◌≤◌, Bool, true, false, ◌&&◌, cond, eqb, ltb, List, [], ◌∷◌, length, take, drop, get_or, Some, None, refl, sym, ap, ◌∙◌, arith}
use Rattle.std.specs.List.{list_all, position, position_or_len, prefix_len}
use Rattle.std.proofs.lemmas.Bool.{false≢true}
use Rattle.std.proofs.lemmas.List.{take_all}
use Rattle.std.proofs.lemmas.Bool.Decides.{nat_tests}
use Rattle.guest_asm.specs.Lexis.{begins_name, is_in_name, is_name, is_separator, labelled, labelled_at, from_first_word, words}
use Rattle.guest_asm.specs.Numbers.{register_of, digits_of}
use Rattle.guest_asm.specs.Views.{ends_part, short_name}
use Rattle.guest_asm.proofs.Lexis.{next_is, next_none, no_separator, starts, words_from_first}

-- a separator is no colon, and no name has it
is_no_colon : (b : ℕ) → is_separator b ≡ true → eqb b 58 ≡ false
is_no_colon b is = grind (arith, nat_tests)

is_in_no_name : (b : ℕ) → is_separator b ≡ true → is_in_name b ≡ false
is_in_no_name b is = grind (arith, nat_tests)

no_name : (word : List ℕ) → list_all is_in_name word ≡ false → is_name word ≡ false
no_name [] e = refl
no_name (b ∷ bs) e = at (begins_name b) refl
  where
    at : (t : Bool) → begins_name b ≡ t → is_name (b ∷ bs) ≡ false
    at false is = rw is refl
    at true is = let later : list_all is_in_name bs ≡ false = sym (rw is refl) ∙ e in rw (is, later) refl

-- the first place of a separator or a colon, where it is no colon
abbrev Ends : List ℕ → Type 0
Ends bs = eqb (get_or bs (position_or_len ends_part bs) 0) 58 ≡ false

rest_ends : (b : ℕ) (bs : List ℕ) → is_separator b ≡ false → eqb b 58 ≡ false → Ends (b ∷ bs) → Ends bs
rest_ends b bs plain other ends =
    let k : 1 + position_or_len ends_part bs ≡ suc (position_or_len ends_part bs) = omega arith in
    let place : position_or_len ends_part (b ∷ bs) ≡ suc (position_or_len ends_part bs) = rw (plain, other) k in
    sym (ap (λ n. eqb (get_or (b ∷ bs) n 0) 58) place) ∙ ends

same_end : (bs : List ℕ) → Ends bs → position_or_len ends_part bs ≡ position_or_len is_separator bs
same_end [] ends = refl
same_end (b ∷ bs) ends = at (same_end bs) (is_separator b) (eqb b 58) refl refl
  where
    at : (Ends bs → position_or_len ends_part bs ≡ position_or_len is_separator bs) → (s c : Bool) → is_separator b ≡ s → eqb b 58 ≡ c → position_or_len ends_part (b ∷ bs) ≡ position_or_len is_separator (b ∷ bs)
    at later true c is colon = rw is refl
    at later false true is colon =
        let place : position_or_len ends_part (b ∷ bs) ≡ 0 = rw (is, colon) refl in
        absurd (false≢true (sym (sym (ap (λ n. eqb (get_or (b ∷ bs) n 0) 58) place) ∙ ends) ∙ colon))
    at later false false is colon = rw (is, colon) (ap (λ n. 1 + n) (later (rest_ends b bs is colon ends)))

no_name_before : (bs : List ℕ) → Ends bs → position_or_len (λ b. eqb b 58) bs < length bs → list_all is_in_name (take (position_or_len (λ b. eqb b 58) bs) bs) ≡ false
no_name_before [] ends lt = absurd (omega (arith, lt))
no_name_before (b ∷ bs) ends lt = at (no_name_before bs) (is_separator b) (eqb b 58) refl refl
  where
    k : 1 + position_or_len (λ b. eqb b 58) bs ≡ suc (position_or_len (λ b. eqb b 58) bs)
    k = omega arith

    behind : eqb b 58 ≡ false → position_or_len (λ b. eqb b 58) (b ∷ bs) ≡ suc (position_or_len (λ b. eqb b 58) bs)
    behind other = rw other k

    both : (t u : Bool) → t ≡ false → (t && u) ≡ false
    both t u e = rw e refl

    later : (t u : Bool) → u ≡ false → (t && u) ≡ false
    later true u e = e
    later false u e = refl

    at : (Ends bs → position_or_len (λ b. eqb b 58) bs < length bs → list_all is_in_name (take (position_or_len (λ b. eqb b 58) bs) bs) ≡ false) → (s c : Bool) → is_separator b ≡ s → eqb b 58 ≡ c → list_all is_in_name (take (position_or_len (λ b. eqb b 58) (b ∷ bs)) (b ∷ bs)) ≡ false
    at front true c is colon = rw (behind (is_no_colon b is)) (both (is_in_name b) _ (is_in_no_name b is))
    at front false true is colon =
        let place : position_or_len ends_part (b ∷ bs) ≡ 0 = rw (is, colon) refl in
        absurd (false≢true (sym (sym (ap (λ n. eqb (get_or (b ∷ bs) n 0) 58) place) ∙ ends) ∙ colon))
    at front false false is colon = rw (behind colon) (later (is_in_name b) _ (front (rest_ends b bs is colon ends) (omega (arith, lt, behind colon))))

module _ (text from : List ℕ) (n : ℕ) (e : from ≡ from_first_word text) (is : n ≡ position_or_len ends_part from) (other : eqb (get_or from n 0) 58 ≡ false) where
  ends : Ends from
  ends = sym (ap (λ k. eqb (get_or from k 0) 58) is) ∙ other

  same : words from ≡ words text
  same = sym (words_from_first text ∙ ap words (sym e))

  pub no_label : labelled text ≡ (None, from)
  unfolding labelled
  no_label = at (from_first_word text) (sym e)
    where
      by : (k : ℕ) (t : Bool) → ltb k (length from) ≡ t → (k < length from → is_name (take k from) ≡ false) → labelled_at from (cond t (Some k) None) ≡ (None, from)
      by k false is fails = refl
      by k true is fails = rw (fails (grind (arith, nat_tests, is))) refl

      at : (f : List ℕ) → f ≡ from → labelled_at f (position (λ b. eqb b 58) f) ≡ (None, from)
      at f e = rw e (by (position_or_len (λ b. eqb b 58) from) (ltb (position_or_len (λ b. eqb b 58) from) (length from)) refl (λ lt. no_name (take (position_or_len (λ b. eqb b 58) from) from) (no_name_before from ends lt)))

  pub no_word : n ≡ 0 → words (labelled text).1 ≡ []
  no_word none = ap (λ x. words x.1) no_label ∙ same ∙ next_none text from e (empty from (ap (λ k. k) (sym is ∙ none)) (sym (ap (λ k. eqb (get_or from k 0) 58) none) ∙ other) (rw e (starts text)))
    where
      empty : (f : List ℕ) → position_or_len ends_part f ≡ 0 → eqb (get_or f 0 0) 58 ≡ false → prefix_len is_separator f ≡ 0 → length f ≡ 0
      empty [] at other start = refl
      empty (b ∷ bs) at other start =
          let plain : is_separator b ≡ false = no_separator (is_separator b) (prefix_len is_separator bs) start in
          let place : position_or_len ends_part (b ∷ bs) ≡ 1 + position_or_len ends_part bs = rw (plain, other) refl in
          absurd (omega (arith, at, place))

  pub one_word : 0 < length from → words (labelled text).1 ≡ take n from ∷ words (drop n from)
  one_word some =
      let place : n ≡ position_or_len is_separator from = is ∙ same_end from ends in
      ap (λ x. words x.1) no_label ∙ same ∙ rw place (next_is text from e some)

-- a register of one digit
pub led : (from : List ℕ) → 2 ≤ length from → get_or from 0 0 ≡ 114 → from ≡ 114 ∷ get_or from 1 0 ∷ take (length from - 2) (drop 2 from)
led [] some is = absurd (omega (arith, some))
led (a ∷ []) some is = absurd (omega (arith, some))
led (a ∷ d ∷ after) some is = rw (is, take_all (length (a ∷ d ∷ after) - 2) after (omega arith)) refl

pub short_number : (n : ℕ) → n < 10 → register_of (short_name n) ≡ Some n
unfolding register_of digits_of
short_number zero lt = refl
short_number (suc zero) lt = refl
short_number (suc (suc zero)) lt = refl
short_number (suc (suc (suc zero))) lt = refl
short_number (suc (suc (suc (suc zero)))) lt = refl
short_number (suc (suc (suc (suc (suc zero))))) lt = refl
short_number (suc (suc (suc (suc (suc (suc zero)))))) lt = refl
short_number (suc (suc (suc (suc (suc (suc (suc zero))))))) lt = refl
short_number (suc (suc (suc (suc (suc (suc (suc (suc zero)))))))) lt = refl
short_number (suc (suc (suc (suc (suc (suc (suc (suc (suc zero))))))))) lt = refl
short_number (suc (suc (suc (suc (suc (suc (suc (suc (suc (suc n)))))))))) lt = absurd (omega (arith, lt))

pub short_is : (text from after : List ℕ) (d : ℕ) → from ≡ from_first_word text → from ≡ 114 ∷ d ∷ after → 48 ≤ d → d ≤ 57 → position_or_len is_separator after ≡ 0 → words text ≡ short_name (d - 48) ∷ words after
short_is text from after d e is low high ends =
    let plain : is_separator d ≡ false = grind (arith, nat_tests) in
    let place : position_or_len is_separator (114 ∷ d ∷ after) ≡ 2 = rw (plain, ends) refl in
    let digit : 48 + (d - 48) ≡ d = omega (arith, low) in
    let first : words text ≡ take (position_or_len is_separator (114 ∷ d ∷ after)) (114 ∷ d ∷ after) ∷ words (drop (position_or_len is_separator (114 ∷ d ∷ after)) (114 ∷ d ∷ after)) = next_is text (114 ∷ d ∷ after) (sym is ∙ e) (omega arith) in
    first ∙ rw (place, digit) refl
