-- Words and lines that are read as they are written.
use Rattle.std.proofs.Common.{◌≡◌, ℕ, suc, ◌-◌, ◌<◌, zero, Bool, true, false, not, eqb, ltb, List, [], ◌∷◌, ◌++◌, length, get_or, None, refl, sym, ap, ◌∙◌, arith, filter, All, Ok, take, append_assoc, length-append}
use Rattle.std.proofs.Math.Seq.{take-length}
use Rattle.std.specs.Prelude.{nat_le, ◌&&◌, ◌||◌, ◌==◌}
use Rattle.std.specs.List.{list_all, prefix_len, position, before_first}
use Rattle.std.proofs.lemmas.Bool.{and_parts}
use Rattle.std.proofs.lemmas.Bool.Decides.{nat_tests}
use Rattle.std.proofs.lemmas.List.{append-nil, take-append-le, get_or_push}
use Rattle.std.proofs.lemmas.List.Elements.{All-nil, All-cons}
use Rattle.std.proofs.lemmas.List.Splits.{slice_split_at, slice_split_none}
use Rattle.guest_asm.specs.Lexis.{lines, words, is_separator, has_bytes, labelled, is_plain, text_of, without_end}
use Rattle.guest_asm.specs.Statements.{Once, line_of, statement_of, ◌>>=◌}
use Rattle.guest_asm.proofs.Lexis.{separated}

-- whether a word of a listing may have this byte: a digit, a letter, `-` or `.`
abbrev pub is_clean : ℕ → Bool
is_clean b = (nat_le 0x30 b && nat_le b 0x39) || (nat_le 0x41 b && nat_le b 0x5a) || (nat_le 0x61 b && nat_le b 0x7a) || b == 0x2d || b == 0x2e

-- a word of such bytes
abbrev pub is_clean_word : List ℕ → Bool
is_clean_word word = has_bytes word && list_all is_clean word

-- separators, and a word after them
abbrev pub Spaced : Type 0
Spaced = List ℕ × List ℕ

-- whether there are separators, and the word is clean
abbrev pub is_spaced : Spaced → Bool
is_spaced x = (has_bytes x.0 && list_all is_separator x.0) && is_clean_word x.1

-- what comes after the name in a line
abbrev pub tail : List Spaced → List ℕ
tail [] = []
tail (x ∷ xs) = x.0 ++ (x.1 ++ tail xs)

-- and the line's end after it
abbrev pub closed : List Spaced → List ℕ
closed [] = 0x0a ∷ []
closed (x ∷ xs) = x.0 ++ (x.1 ++ closed xs)

-- the words after the name
abbrev pub words_of : List Spaced → List (List ℕ)
words_of [] = []
words_of (x ∷ xs) = x.1 ∷ words_of xs

closed_is : (xs : List Spaced) → closed xs ≡ tail xs ++ 0x0a ∷ []
closed_is [] = refl
closed_is (x ∷ xs) = ap (λ t. x.0 ++ (x.1 ++ t)) (closed_is xs) ∙ ap (λ t. x.0 ++ t) (sym (append_assoc x.1 (tail xs) (0x0a ∷ []))) ∙ sym (append_assoc x.0 (x.1 ++ tail xs) (0x0a ∷ []))

pub weaker : (p q : ℕ → Bool) → ((b : ℕ) → p b ≡ true → q b ≡ true) → (xs : List ℕ) → list_all p xs ≡ true → list_all q xs ≡ true
weaker p q h [] e = refl
weaker p q h (x ∷ xs) e = let both = and_parts (p x) (list_all p xs) e in rw (h x both.0) (weaker p q h xs both.1)

all_both : (p : ℕ → Bool) (xs ys : List ℕ) → list_all p xs ≡ true → list_all p ys ≡ true → list_all p (xs ++ ys) ≡ true
all_both p [] ys e f = f
all_both p (x ∷ xs) ys e f = let both = and_parts (p x) (list_all p xs) e in rw both.0 (all_both p xs ys both.1 f)

-- ---- words

not_separator : (b : ℕ) → is_clean b ≡ true → is_separator b ≡ false
not_separator b e = grind (arith, nat_tests)

no_separators : (w : List ℕ) → list_all is_clean w ≡ true → All (λ b. is_separator b ≡ false) w
no_separators [] e = All-nil (λ b. is_separator b ≡ false)
no_separators (b ∷ bs) e = let both = and_parts (is_clean b) (list_all is_clean bs) e in All-cons (λ b. is_separator b ≡ false) b bs (not_separator b both.0) (no_separators bs both.1)

word_then : (w : List ℕ) (s : ℕ) (rest : List ℕ) → is_clean_word w ≡ true → is_separator s ≡ true → words (w ++ s ∷ rest) ≡ w ∷ words rest
unfolding words
word_then w s rest clean e =
    let both = and_parts (has_bytes w) (list_all is_clean w) clean in
    ap (filter has_bytes) (slice_split_at is_separator w s rest (no_separators w both.1) e) ∙ rw both.0 refl

word_last : (w : List ℕ) → is_clean_word w ≡ true → words w ≡ w ∷ []
unfolding words
word_last w clean =
    let both = and_parts (has_bytes w) (list_all is_clean w) clean in
    ap (filter has_bytes) (slice_split_none is_separator w (no_separators w both.1)) ∙ rw both.0 refl

all_separated : (s rest : List ℕ) → list_all is_separator s ≡ true → words (s ++ rest) ≡ words rest
all_separated [] rest all = refl
all_separated (b ∷ bs) rest all =
    let both = and_parts (is_separator b) (list_all is_separator bs) all in
    separated b (bs ++ rest) both.0 ∙ all_separated bs rest both.1

-- a name and words are read as they are written
words_from : (w : List ℕ) (xs : List Spaced) → is_clean_word w ≡ true → list_all is_spaced xs ≡ true → words (w ++ tail xs) ≡ w ∷ words_of xs
words_from w [] clean all = ap words (append-nil w) ∙ word_last w clean
words_from w (([], v) ∷ xs) clean all = absurd cc
words_from w ((s ∷ ss, v) ∷ xs) clean all =
    let both = and_parts (is_spaced (s ∷ ss, v)) (list_all is_spaced xs) all in
    let parts = and_parts (has_bytes (s ∷ ss) && list_all is_separator (s ∷ ss)) (is_clean_word v) both.0 in
    let seps = and_parts (has_bytes (s ∷ ss)) (list_all is_separator (s ∷ ss)) parts.0 in
    let each = and_parts (is_separator s) (list_all is_separator ss) seps.1 in
    word_then w s (ss ++ (v ++ tail xs)) clean each.0 ∙ ap (λ (ws : List (List ℕ)). w ∷ ws) (all_separated ss (v ++ tail xs) each.1 ∙ words_from v xs parts.1 both.1)

-- ---- lines

line_then_by : (b : ℕ) (bs rest : List ℕ) (t : Bool) → eqb b 10 ≡ t → t ≡ false → lines (bs ++ 10 ∷ rest) ≡ (bs ++ 10 ∷ []) ∷ lines rest → lines (b ∷ bs ++ 10 ∷ rest) ≡ (b ∷ bs ++ 10 ∷ []) ∷ lines rest
line_then_by b bs rest true e apart later = absurd cc
line_then_by b bs rest false e apart later = rw (e, later) refl

not_passed : (t : Bool) → not t ≡ true → t ≡ false
not_passed true e = absurd cc
not_passed false e = refl

-- a line is read as it is
line_then : (l rest : List ℕ) → list_all (λ b. not (eqb b 10)) l ≡ true → lines (l ++ 10 ∷ rest) ≡ (l ++ 10 ∷ []) ∷ lines rest
line_then [] rest e = refl
line_then (b ∷ bs) rest e =
    let both = and_parts (not (eqb b 10)) (list_all (λ b. not (eqb b 10)) bs) e in
    line_then_by b bs rest (eqb b 10) refl (not_passed (eqb b 10) both.0) (line_then bs rest both.1)

-- whether a line of a listing may have this byte before its end
abbrev is_listed : ℕ → Bool
is_listed b = is_clean b || is_separator b

whole_prefix : (p : ℕ → Bool) (xs : List ℕ) → list_all p xs ≡ true → prefix_len p xs ≡ length xs
whole_prefix p [] e = refl
whole_prefix p (x ∷ xs) e = let both = and_parts (p x) (list_all p xs) e in rw (both.0, whole_prefix p xs both.1) (omega arith)

listed_clean : (w : List ℕ) → is_clean_word w ≡ true → list_all is_listed w ≡ true
listed_clean w clean =
    let both = and_parts (has_bytes w) (list_all is_clean w) clean in
    weaker is_clean is_listed (λ b e. rw e refl) w both.1

separator_listed : (b : ℕ) → is_separator b ≡ true → is_listed b ≡ true
separator_listed b e = grind (arith, nat_tests)

listed_tail : (xs : List Spaced) → list_all is_spaced xs ≡ true → list_all is_listed (tail xs) ≡ true
listed_tail [] all = refl
listed_tail (x ∷ xs) all =
    let both = and_parts (is_spaced x) (list_all is_spaced xs) all in
    let parts = and_parts (has_bytes x.0 && list_all is_separator x.0) (is_clean_word x.1) both.0 in
    let seps = and_parts (has_bytes x.0) (list_all is_separator x.0) parts.0 in
    all_both is_listed x.0 (x.1 ++ tail xs) (weaker is_separator is_listed separator_listed x.0 seps.1) (all_both is_listed x.1 (tail xs) (listed_clean x.1 parts.1) (listed_tail xs both.1))

listed_line : (name : List ℕ) (xs : List Spaced) → is_clean_word name ≡ true → list_all is_spaced xs ≡ true → list_all is_listed (name ++ tail xs) ≡ true
listed_line name xs clean all = all_both is_listed name (tail xs) (listed_clean name clean) (listed_tail xs all)

listed_plain : (b : ℕ) → is_listed b ≡ true → is_plain b ≡ true
listed_plain b e = grind (arith, nat_tests)

no_colon : (b : ℕ) → is_listed b ≡ true → not (eqb b 0x3a) ≡ true
no_colon b e = grind (arith, nat_tests)

no_comment : (b : ℕ) → is_listed b ≡ true → not (eqb b 0x3b) ≡ true
no_comment b e = grind (arith, nat_tests)

no_return : (b : ℕ) → is_listed b ≡ true → not (eqb b 0x0d) ≡ true
no_return b e = grind (arith, nat_tests)

no_feed : (b : ℕ) → is_listed b ≡ true → not (eqb b 0x0a) ≡ true
no_feed b e = grind (arith, nat_tests)

not_longer : (n : ℕ) → ltb n n ≡ false
not_longer n = grind (arith, nat_tests)

labelled_again : (b : ℕ) (bs : List ℕ) → is_clean b ≡ true → list_all is_listed (b ∷ bs) ≡ true → labelled (b ∷ bs) ≡ (None, b ∷ bs)
unfolding labelled
labelled_again b bs clean all =
    let none : position (λ c. eqb c 0x3a) (b ∷ bs) ≡ None = rw (whole_prefix (λ c. not (eqb c 0x3a)) (b ∷ bs) (weaker is_listed (λ c. not (eqb c 0x3a)) no_colon (b ∷ bs) all), not_longer (length (b ∷ bs))) refl in
    rw (not_separator b clean, none) refl

byte_passes : (p : ℕ → Bool) (xs : List ℕ) (i : ℕ) → list_all p xs ≡ true → i < length xs → p (get_or xs i 0) ≡ true
byte_passes p [] i e lt = absurd (omega arith)
byte_passes p (x ∷ xs) zero e lt = (and_parts (p x) (list_all p xs) e).0
byte_passes p (x ∷ xs) (suc i) e lt = byte_passes p xs i (and_parts (p x) (list_all p xs) e).1 (omega arith)

front_again : (t : List ℕ) (n : ℕ) → n ≡ length t → take n (t ++ 10 ∷ []) ≡ t
front_again t n e = take-append-le n t (10 ∷ []) (omega arith) ∙ ap (λ k. take k t) e ∙ take-length t

text_again : (t : List ℕ) → 0 < length t → list_all is_listed t ≡ true → text_of (t ++ 10 ∷ []) ≡ t
text_again t some all =
    let n : length (t ++ 10 ∷ []) - 1 ≡ length t = omega (arith, length-append t (10 ∷ [])) in
    let last : get_or (t ++ 10 ∷ []) (length (t ++ 10 ∷ []) - 1) 0 ≡ 10 = get_or_push t 10 0 _ (sym n) in
    let front : take (length (t ++ 10 ∷ []) - 1) (t ++ 10 ∷ []) ≡ t = front_again t _ n in
    let return : eqb (get_or t (length t - 1) 0) 13 ≡ false = not_passed _ (byte_passes (λ b. not (eqb b 13)) t (length t - 1) (weaker is_listed (λ b. not (eqb b 13)) no_return t all) (omega arith)) in
    let comment : prefix_len (λ b. not (eqb b 0x3b)) t ≡ length t = whole_prefix (λ b. not (eqb b 0x3b)) t (weaker is_listed (λ b. not (eqb b 0x3b)) no_comment t all) in
    let end : without_end (t ++ 10 ∷ []) ≡ t = rw (last, front, return) refl in
    ap (λ x. before_first (λ b. eqb b 0x3b) x) end ∙ rw comment (take-length t)

-- a line of a listing: a name, and words
abbrev pub line_with : List ℕ → List Spaced → List ℕ
line_with name xs = name ++ closed xs

line_is : (name : List ℕ) (xs : List Spaced) → line_with name xs ≡ (name ++ tail xs) ++ 0x0a ∷ []
line_is name xs = ap (λ t. name ++ t) (closed_is xs) ∙ sym (append_assoc name (tail xs) (0x0a ∷ []))

-- it is read by its words
pub line_again : (u : Once) (name : List ℕ) (xs : List Spaced) → is_clean_word name ≡ true → list_all is_spaced xs ≡ true → line_of u (line_with name xs) ≡ (statement_of u (name ∷ words_of xs) >>= λ s. Ok (None, s))
unfolding line_of
line_again u [] xs clean all = absurd cc
line_again u (b ∷ bs) xs clean all =
    let listed = listed_line (b ∷ bs) xs clean all in
    let text : text_of (line_with (b ∷ bs) xs) ≡ b ∷ bs ++ tail xs = ap text_of (line_is (b ∷ bs) xs) ∙ text_again (b ∷ bs ++ tail xs) (omega arith) listed in
    let plain : list_all is_plain (b ∷ bs ++ tail xs) ≡ true = weaker is_listed is_plain listed_plain (b ∷ bs ++ tail xs) listed in
    let first : is_clean b ≡ true = (and_parts (is_clean b) (list_all is_clean bs) (and_parts (has_bytes (b ∷ bs)) (list_all is_clean (b ∷ bs)) clean).1).0 in
    let parts : labelled (b ∷ bs ++ tail xs) ≡ (None, b ∷ bs ++ tail xs) = labelled_again b (bs ++ tail xs) first listed in
    let are : words (b ∷ bs ++ tail xs) ≡ (b ∷ bs) ∷ words_of xs = words_from (b ∷ bs) xs clean all in
    rw (text, plain, parts, are) refl

-- and comes before what follows it
pub lines_again : (name : List ℕ) (xs : List Spaced) (rest : List ℕ) → is_clean_word name ≡ true → list_all is_spaced xs ≡ true → lines (line_with name xs ++ rest) ≡ line_with name xs ∷ lines rest
lines_again name xs rest clean all =
    let is = line_is name xs in
    ap (λ l. lines (l ++ rest)) is ∙ ap lines (append_assoc (name ++ tail xs) (10 ∷ []) rest) ∙ line_then (name ++ tail xs) rest (weaker is_listed (λ b. not (eqb b 10)) no_feed (name ++ tail xs) (listed_line name xs clean all))
    ∙ ap (λ (l : List ℕ). l ∷ lines rest) (sym is)
