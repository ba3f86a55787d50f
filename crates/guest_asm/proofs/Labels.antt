-- A label more, and the labels that are used.
use Rattle.std.proofs.Common.{◌≡◌, ℕ, suc, ◌+◌, ◌<◌, true, false, get_or, drop-cons, arith, List, ◌∷◌, length, drop, map, find, Option, Some, Ok, Err, refl, sym, ◌∙◌}
use Rattle.std.specs.Prelude.{not, is_some}
use Rattle.std.specs.Map.{update}
use Rattle.std.specs.Str.{bytes_eq}
use Rattle.guest_asm.specs.declared.error.SourceRule.TheVariants.{BadLabel}
use Rattle.guest_asm.specs.declared.source.Use.{Use as Kept}
use Rattle.guest_asm.specs.Views.{use_in}
use Rattle.guest_asm.specs.Sources.{Source, Use, with_label, at_offset}
use Rattle.guest_asm.specs.Drafts.{resolved}
use mathlib.Core.Path.{fun_ext}

-- a name that is not a label yet
pub is_new : (at : ℕ) (name : List ℕ) (s : Source) (after : List ℕ → Option ℕ) → is_some (s.labels name) ≡ false → ((q : List ℕ) → after q ≡ update bytes_eq s.labels name (Some (length s.text)) q) → at_offset at (with_label (Some name) s) Ok ≡ Ok (record s { labels = after })
is_new at name s after none same =
    let e : after ≡ update bytes_eq s.labels name (Some (length s.text)) = fun_ext same in
    rw (none, e) refl

-- a name that is a label already
pub is_old : (at : ℕ) (name : List ℕ) (s : Source) → is_some (s.labels name) ≡ true → at_offset at (with_label (Some name) s) Ok ≡ Err (record { rule = BadLabel; at = at })
is_old at name s there = rw there refl

-- the use that is next is of an unknown label
pub unknown : (s : Source) (rest more : List Use) (u : Use) → rest ≡ u ∷ more → is_some (s.labels u.name) ≡ false → find (λ u. not (is_some (s.labels u.name))) rest ≡ find (λ u. not (is_some (s.labels u.name))) s.uses → resolved s ≡ Err (record { rule = BadLabel; at = u.at })
unfolding resolved
unknown s rest more u e none clear =
    let found : find (λ u. not (is_some (s.labels u.name))) s.uses ≡ Some u = sym clear ∙ rw (e, none) refl in
    rw found refl

-- the use at a place is of a label
pub known_next : (labels : List ℕ → Option ℕ) (uses : List Kept) (i : ℕ) (d : Kept) → i < length uses → is_some (labels (get_or uses i d).name.now) ≡ true
    → find (λ (u : Use). not (is_some (labels u.name))) (map use_in (drop i uses)) ≡ find (λ (u : Use). not (is_some (labels u.name))) (map use_in (drop (i + 1) uses))
known_next labels uses i d lt known =
    let k : i + 1 ≡ suc i = omega arith in
    rw (k, drop-cons uses i d, known) refl
