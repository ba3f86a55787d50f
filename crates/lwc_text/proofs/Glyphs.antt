-- The digits of numbers below 16, one for each.
use Rattle.std.proofs.Common.{◌≡◌, ℕ, suc, ◌<◌, false, List, [], ◌∷◌, arith, refl, sym, ap, ◌∙◌, ◌++◌, length}
use Rattle.std.specs.Prelude.{◌==◌, All, Err, IfOk, IsAscii, IsUtf8, Ok, Result, codes, if◌then◌else◌, map}
use Rattle.std.specs.Fmt.{digits}
use Rattle.std.specs.List.{flat_map}
use Rattle.std.proofs.lemmas.Fmt.{hex_one_digit}
use Rattle.std.proofs.lemmas.Str.{IsUtf8-from_ascii}
use Rattle.std.proofs.lemmas.Str.Ascii.{IsAscii-cons, IsAscii-nil}
use Rattle.lwc_text.specs.Glyphs.{glyph}
use Rattle.lwc_text.specs.Lines.{steps_text}

-- they are what a formatter writes of each
pub flat_digits : (numbers : List ℕ) → All (λ n. n < 16) numbers → flat_map (λ n. digits 16 false n) numbers ≡ map glyph numbers
flat_digits [] all = refl
flat_digits (n ∷ ns) all =
    (λ e. hex_one_digit false n (all 0 n (omega arith)) e ++ flat_digits ns (λ i d lt. all (suc i) d (omega (arith, lt))) e)

glyph_ascii : (n : ℕ) → n < 16 → glyph n < 128
glyph_ascii n small = grind arith

glyphs_ascii : (numbers : List ℕ) → All (λ n. n < 16) numbers → IsAscii (map glyph numbers)
glyphs_ascii [] all = IsAscii-nil
glyphs_ascii (n ∷ ns) all =
    IsAscii-cons (glyph n) (map glyph ns) (glyph_ascii n (all 0 n (omega arith))) (glyphs_ascii ns (λ i d lt. all (suc i) d (omega (arith, lt))))

pub glyphs_utf8 : (numbers : List ℕ) → All (λ n. n < 16) numbers → IsUtf8 (map glyph numbers)
glyphs_utf8 numbers all = IsUtf8-from_ascii (map glyph numbers) (glyphs_ascii numbers all)

-- the digits of some steps are their text
pub steps_written : {X E : Type 0} (steps : List ℕ) (bytes : X → List ℕ) (r : Result X E) → (length steps == 0) ≡ false → All (λ n. n < 16) steps →
    IfOk r (λ text. bytes text ≡ map glyph steps) → IfOk r (λ text. bytes text ≡ steps_text steps)
unfolding steps_text
steps_written steps bytes (Ok text) some small is =
    is ∙ sym (flat_digits steps small) ∙ sym (ap (λ b. if b then codes "-" else flat_map (λ t. digits 16 false t) steps) some)
steps_written steps bytes (Err e) some small is = tt
