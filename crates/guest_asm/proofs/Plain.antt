-- Where all bytes of a source are plain or line feeds, those of a line are plain.
use Rattle.std.proofs.Common.{◌≡◌, ℕ, zero, suc, ◌+◌, ◌-◌, ◌<◌, ◌≤◌, Bool, true, false, cond, not, eqb, List, [], ◌∷◌, ◌++◌, length, take, refl, sym, ap, subst, ◌∙◌, arith, length-append}
use Rattle.std.specs.Prelude.{◌||◌}
use Rattle.std.specs.List.{list_all, position_or_len}
use Rattle.std.specs.Str.Lines.{strip_carriage_return}
use Rattle.std.proofs.Math.Seq.{get_or-append_seam, take-append_seam}
use Rattle.std.proofs.lemmas.List.{take_all}
use Rattle.std.proofs.lemmas.Bool.{and_parts}
use Rattle.guest_asm.specs.Lexis.{is_ended, is_plain, text_of, without_end}
use Rattle.guest_asm.specs.Views.{is_clean}

passes_take : (p : ℕ → Bool) (n : ℕ) (xs : List ℕ) → list_all p xs ≡ true → list_all p (take n xs) ≡ true
passes_take p zero xs all = refl
passes_take p (suc n) [] all = refl
passes_take p (suc n) (x ∷ xs) all = let parts = and_parts (p x) (list_all p xs) all in rw (parts.0, passes_take p n xs parts.1) refl

passes_if : (p : ℕ → Bool) (t : Bool) (xs ys : List ℕ) → list_all p xs ≡ true → list_all p ys ≡ true → list_all p (cond t xs ys) ≡ true
passes_if p true xs ys first second = first
passes_if p false xs ys first second = second

pub passes_strip : (p : ℕ → Bool) (xs : List ℕ) → list_all p xs ≡ true → list_all p (strip_carriage_return xs) ≡ true
passes_strip p xs all = passes_if p _ (take (length xs - 1) xs) xs (passes_take p (length xs - 1) xs all) all

plain_text : (line : List ℕ) → list_all is_plain (without_end line) ≡ true → list_all is_plain (text_of line) ≡ true
plain_text line all = passes_take is_plain _ (without_end line) all

-- a line that has its line feed
pub ended : (front : List ℕ) → without_end (front ++ 10 ∷ []) ≡ strip_carriage_return front
ended front =
    let len : length (front ++ 10 ∷ []) - 1 ≡ length front = omega (arith, length-append front (10 ∷ [])) in
    rw (len, get_or-append_seam front 10 [] 0, take-append_seam front (10 ∷ [])) refl

ended_text : (front : List ℕ) → list_all is_plain front ≡ true → list_all is_plain (text_of (front ++ 10 ∷ [])) ≡ true
ended_text front all =
    plain_text (front ++ 10 ∷ []) (rw (ended front) (passes_strip is_plain front all))

-- any line
any_text : (line : List ℕ) → list_all is_plain line ≡ true → list_all is_plain (text_of line) ≡ true
any_text line all =
    plain_text line (passes_if is_plain (is_ended line) _ line (passes_strip is_plain (take (length line - 1) line) (passes_take is_plain (length line - 1) line all)) all)

no_feed : (b : ℕ) (plain : Bool) → (plain || eqb b 10) ≡ true → eqb b 10 ≡ false → plain ≡ true
no_feed b true is other = refl
no_feed b false is other = sym other ∙ is

front_by : (b : ℕ) (bs : List ℕ) (n : ℕ) (t : Bool) → eqb b 10 ≡ t → is_clean b ≡ true → list_all is_plain (take n bs) ≡ true → list_all is_plain (take (cond (not t) (1 + n) 0) (b ∷ bs)) ≡ true
front_by b bs n true is clean later = refl
front_by b bs n false is clean later =
    let k : 1 + n ≡ suc n = omega arith in
    rw (k, no_feed b (is_plain b) clean is, later) refl

front_plain : (bs : List ℕ) → list_all is_clean bs ≡ true → list_all is_plain (take (position_or_len (λ b. eqb b 10) bs) bs) ≡ true
front_plain [] clean = refl
front_plain (b ∷ bs) clean =
    let parts = and_parts (is_clean b) (list_all is_clean bs) clean in
    front_by b bs (position_or_len (λ b. eqb b 10) bs) (eqb b 10) refl parts.0 (front_plain bs parts.1)

pub is_feed : (b : ℕ) → eqb b 10 ≡ true → b ≡ 10
is_feed b is = grind (arith, is)

cut_by : (b : ℕ) (bs : List ℕ) (n : ℕ) (t : Bool) → eqb b 10 ≡ t → (n < length bs → take (n + 1) bs ≡ take n bs ++ 10 ∷ []) → cond (not t) (1 + n) 0 < suc (length bs) → take (cond (not t) (1 + n) 0 + 1) (b ∷ bs) ≡ take (cond (not t) (1 + n) 0) (b ∷ bs) ++ 10 ∷ []
cut_by b bs n true is later lt = ap (λ x. x ∷ []) (is_feed b is)
cut_by b bs n false is later lt =
    let k : 1 + n ≡ suc n = omega arith in
    let e : suc n + 1 ≡ suc (n + 1) = omega arith in
    rw (k, e, later (omega arith)) refl

pub cut : (bs : List ℕ) → position_or_len (λ b. eqb b 10) bs < length bs → take (position_or_len (λ b. eqb b 10) bs + 1) bs ≡ take (position_or_len (λ b. eqb b 10) bs) bs ++ 10 ∷ []
cut [] lt = absurd (omega (arith, lt))
cut (b ∷ bs) lt = cut_by b bs (position_or_len (λ b. eqb b 10) bs) (eqb b 10) refl (cut bs) lt

pub ended_plain : (bs : List ℕ) → list_all is_clean bs ≡ true → position_or_len (λ b. eqb b 10) bs < length bs → list_all is_plain (text_of (take (position_or_len (λ b. eqb b 10) bs + 1) bs)) ≡ true
ended_plain bs clean lt = rw (cut bs lt) (ended_text (take (position_or_len (λ b. eqb b 10) bs) bs) (front_plain bs clean))

pub open_plain : (bs : List ℕ) → list_all is_clean bs ≡ true → length bs ≤ position_or_len (λ b. eqb b 10) bs → list_all is_plain (text_of bs) ≡ true
open_plain bs clean le = any_text bs (subst (λ xs. list_all is_plain xs ≡ true) (take_all (position_or_len (λ b. eqb b 10) bs) bs le) (front_plain bs clean))
