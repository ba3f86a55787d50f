-- The first line of a source, and the first word of a text.
use Rattle.std.proofs.Common.{◌≡◌, ℕ, suc, ◌+◌, ◌<◌, ◌≤◌, Bool, true, false, cond, not, eqb, ltb, List, [], ◌∷◌, length, take, drop, Some, refl, sym, ap, ◌∙◌, arith, filter}
use Rattle.std.proofs.lemmas.Bool.Decides.{nat_tests}
use Rattle.std.specs.List.{slice_split, onto_first, position, position_or_len, prefix_len}
use Rattle.guest_asm.specs.Lexis.{lines, words, is_separator, has_bytes, from_first_word, labelled, labelled_at, is_name}
use Rattle.std.proofs.lemmas.Bool.{lt-ltb}

pub not_not : (xs : List ℕ) → position_or_len (λ b. not (is_separator b)) xs ≡ prefix_len is_separator xs
not_not [] = refl
not_not (b ∷ bs) = by (is_separator b) (not_not bs)
  where
    by : {m n : ℕ} (t : Bool) → m ≡ n → cond (not (not t)) (1 + m) 0 ≡ cond t (1 + n) 0
    by true e = ap (λ k. 1 + k) e
    by false e = refl

line_by : (b : ℕ) (bs : List ℕ) (n : ℕ) (t : Bool) → (n < length bs → lines bs ≡ take (n + 1) bs ∷ lines (drop (n + 1) bs)) → cond (not t) (1 + n) 0 < suc (length bs)
    → cond t ((b ∷ []) ∷ lines bs) (onto_first b (lines bs)) ≡ take (cond (not t) (1 + n) 0 + 1) (b ∷ bs) ∷ lines (drop (cond (not t) (1 + n) 0 + 1) (b ∷ bs))
line_by b bs n true later lt = refl
line_by b bs n false later lt =
    let e : 1 + n + 1 ≡ suc (n + 1) = omega arith in
    let less : n < length bs = omega arith in
    rw (e, later less) refl

pub line_ended : (bs : List ℕ) → position_or_len (λ b. eqb b 10) bs < length bs → lines bs ≡ take (position_or_len (λ b. eqb b 10) bs + 1) bs ∷ lines (drop (position_or_len (λ b. eqb b 10) bs + 1) bs)
line_ended [] lt = absurd (omega arith)
line_ended (b ∷ bs) lt = line_by b bs (position_or_len (λ b. eqb b 10) bs) (eqb b 10) (line_ended bs) lt

last_by : (b : ℕ) (bs : List ℕ) (n : ℕ) (t : Bool) → (length bs ≤ n → 0 < length bs → lines bs ≡ bs ∷ []) → suc (length bs) ≤ cond (not t) (1 + n) 0 → cond t ((b ∷ []) ∷ lines bs) (onto_first b (lines bs)) ≡ (b ∷ bs) ∷ []
last_by b bs n true later le = absurd (omega arith)
last_by b [] n false later le = refl
last_by b (c ∷ bs) n false later le = rw (later (omega arith) (omega arith)) refl

pub line_open : (bs : List ℕ) → length bs ≤ position_or_len (λ b. eqb b 10) bs → 0 < length bs → lines bs ≡ bs ∷ []
line_open [] le some = absurd (omega arith)
line_open (b ∷ bs) le some = last_by b bs (position_or_len (λ b. eqb b 10) bs) (eqb b 10) (line_open bs) le

-- a separator in front adds no word
words_by : (b : ℕ) (bs : List ℕ) (t : Bool) → t ≡ true → filter has_bytes (cond t ([] ∷ slice_split is_separator bs) (onto_first b (slice_split is_separator bs))) ≡ filter has_bytes (slice_split is_separator bs)
words_by b bs true e = refl
words_by b bs false e = absurd cc

pub separated : (b : ℕ) (bs : List ℕ) → is_separator b ≡ true → words (b ∷ bs) ≡ words bs
unfolding words
separated b bs e = words_by b bs (is_separator b) e

front_by : (b : ℕ) (bs : List ℕ) (t : Bool) → is_separator b ≡ t → words bs ≡ words (drop (prefix_len is_separator bs) bs) → words (b ∷ bs) ≡ words (drop (cond t (1 + prefix_len is_separator bs) 0) (b ∷ bs))
front_by b bs true e later =
    let k : 1 + prefix_len is_separator bs ≡ suc (prefix_len is_separator bs) = omega arith in
    rw k (separated b bs e ∙ later)
front_by b bs false e later = refl

pub words_from_first : (bs : List ℕ) → words bs ≡ words (from_first_word bs)
words_from_first [] = refl
words_from_first (b ∷ bs) = front_by b bs (is_separator b) refl (words_from_first bs)

pub no_words : words [] ≡ []
unfolding words
no_words = refl

record Cut (text : List ℕ) (n : ℕ) : Type 0 where
  tail : List (List ℕ)
  split : slice_split is_separator text ≡ take n text ∷ tail
  later : filter has_bytes tail ≡ words (drop n text)

cut_by : (b : ℕ) (bs : List ℕ) (n : ℕ) (t : Bool) → is_separator b ≡ t → Cut bs n → Cut (b ∷ bs) (cond (not t) (1 + n) 0)
unfolding words
cut_by b bs n true e cut = record { tail = slice_split is_separator bs; split = rw e refl; later = sym (separated b bs e) }
cut_by b bs n false e cut =
    let k : 1 + n ≡ suc n = omega arith in
    rw k (record { tail = cut.tail; split = rw (e, cut.split) refl; later = cut.later })

cut : (text : List ℕ) → Cut text (position_or_len is_separator text)
unfolding words
cut [] = record { tail = []; split = refl; later = refl }
cut (b ∷ bs) = cut_by b bs (position_or_len is_separator bs) (is_separator b) refl (cut bs)

starts_by : (b : ℕ) (bs : List ℕ) (t : Bool) → is_separator b ≡ t → prefix_len is_separator (from_first_word bs) ≡ 0 → prefix_len is_separator (drop (cond t (1 + prefix_len is_separator bs) 0) (b ∷ bs)) ≡ 0
starts_by b bs true e later = let k : 1 + prefix_len is_separator bs ≡ suc (prefix_len is_separator bs) = omega arith in rw k later
starts_by b bs false e later = rw e refl

pub starts : (text : List ℕ) → prefix_len is_separator (from_first_word text) ≡ 0
starts [] = refl
starts (b ∷ bs) = starts_by b bs (is_separator b) refl (starts bs)

pub no_separator : (t : Bool) (n : ℕ) → cond t (1 + n) 0 ≡ 0 → t ≡ false
no_separator true n e = absurd (omega arith)
no_separator false n e = refl

has_more : (b : ℕ) (bs : List ℕ) → has_bytes (b ∷ bs) ≡ true
has_more b bs = grind (arith, nat_tests)

word_by : (text : List ℕ) (n : ℕ) → has_bytes (take n text) ≡ true → Cut text n → words text ≡ take n text ∷ words (drop n text)
unfolding words
word_by text n some c = rw (c.split, some, c.later) refl

word_first : (text : List ℕ) → prefix_len is_separator text ≡ 0 → 0 < length text → words text ≡ take (position_or_len is_separator text) text ∷ words (drop (position_or_len is_separator text) text)
word_first [] none some = absurd (omega arith)
word_first (b ∷ bs) none some =
    let e : is_separator b ≡ false = no_separator (is_separator b) (prefix_len is_separator bs) none in
    let k : 1 + position_or_len is_separator bs ≡ suc (position_or_len is_separator bs) = omega arith in
    let is : position_or_len is_separator (b ∷ bs) ≡ suc (position_or_len is_separator bs) = rw e k in
    word_by (b ∷ bs) (position_or_len is_separator (b ∷ bs)) (rw is (has_more b (take (position_or_len is_separator bs) bs))) (cut (b ∷ bs))

-- the first word of a text, which is cut behind the separators in front of it
pub next_is : (text from : List ℕ) → from ≡ from_first_word text → 0 < length from → words text ≡ take (position_or_len is_separator from) from ∷ words (drop (position_or_len is_separator from) from)
next_is text from e some = words_from_first text ∙ ap words (sym e) ∙ word_first from (rw e (starts text)) some

pub next_none : (text from : List ℕ) → from ≡ from_first_word text → length from ≡ 0 → words text ≡ []
next_none text [] e none = words_from_first text ∙ ap words (sym e) ∙ no_words
next_none text (b ∷ bs) e none = absurd (omega arith)

-- a text that begins with a label
pub labelled_is : (text from : List ℕ) (n : ℕ) → from ≡ from_first_word text → n ≡ position_or_len (λ b. eqb b 58) from → n < length from → is_name (take n from) ≡ true → labelled text ≡ (Some (take n from), drop (n + 1) from)
unfolding labelled
labelled_is text from n e k lt is = at (from_first_word text) from n (sym e) k lt is
  where
    at : (f from : List ℕ) (n : ℕ) → f ≡ from → n ≡ position_or_len (λ b. eqb b 58) from → n < length from → is_name (take n from) ≡ true → labelled_at f (position (λ b. eqb b 58) f) ≡ (Some (take n from), drop (n + 1) from)
    at f from n e k lt is = let found : ltb (position_or_len (λ b. eqb b 58) from) (length from) ≡ true = lt-ltb _ _ (omega (arith, k)) in rw (e, found, ← k, is) refl
