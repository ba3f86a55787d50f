-- Bytes of a page that are written one after another.
use Rattle.std.proofs.Common.{◌≡◌, ℕ, ◌+◌, ◌-◌, ◌*◌, ◌<◌, ◌≤◌, ◌⊎◌, inl, inr, ⊎_elim, ◌++◌, drop, take, cond, leb, ltb, ◌&&◌, List, length, get_or, map, sym, ◌∙◌, ap, arith}
use Rattle.std.specs.List.{between, range_with_len}
use borrow.Rule.Slice.PartMut.{put_mid}
use Rattle.std.proofs.lemmas.List.Edits.{get_or-between, length-between}
use Rattle.std.proofs.lemmas.Bool.Decides.{nat_tests}
use Rattle.std.proofs.lemmas.List.{ext_get_or, get_or-append_right, get_or-drop, get_or-map, get_or-take, get_or_append_left, length-append, length-drop, length-map, length-take-le}
use Rattle.std.proofs.lemmas.List.FromFn.{get_or-range_with_len, length-range_with_len}
use Rattle.lwc_base.specs.Store.{Piece, byte_after, bytes_after}

-- the first bytes of a piece from one on are in a page from a place on, and the others of the page are the old ones
pub record PutsBytes (old page bytes : List ℕ) (lo skip k : ℕ) : Type 0 where
  pub long : length page ≡ length old
  pub put : (j : ℕ) → j < k → get_or page (lo + j) 0 ≡ get_or bytes (skip + j) 0
  pub rest : (j : ℕ) → (j < lo) ⊎ (lo + k ≤ j) → get_or page j 0 ≡ get_or old j 0

-- bytes of a piece that were copied over a part of a page
pub PutsBytes-copied : (old bytes mid : List ℕ) (lo skip count : ℕ) → lo + count ≤ length old → skip + count ≤ length bytes → mid ≡ between skip (skip + count) bytes → PutsBytes old (put_mid lo (lo + count - lo) old mid) bytes lo skip count
PutsBytes-copied old bytes mid lo skip count fits within is =
    let size : length mid ≡ count = ap length is ∙ length-between bytes skip (skip + count) within ∙ omega arith in
    let first : length (take lo old) ≡ lo = length-take-le lo old (omega (arith, fits)) in
    let rest : List ℕ = drop (lo + count - lo) (drop lo old) in
    let left : length rest ≡ length old - (lo + count) = length-drop (lo + count - lo) (drop lo old) ∙ omega (arith, length-drop lo old) in
    record {
      long = omega (arith, length-append (take lo old) (mid ++ rest), length-append mid rest, size, first, left, fits);
      put = λ j lt.
          get_or-append_right (take lo old) (mid ++ rest) lo (lo + j) 0 first (omega arith)
          ∙ ap (λ i. get_or (mid ++ rest) i 0) (omega arith)
          ∙ get_or_append_left mid rest 0 j (omega (arith, size, lt))
          ∙ ap (λ l. get_or l j 0) is
          ∙ get_or-between bytes skip (skip + count) j 0 (omega (arith, lt));
      rest = λ j off. ⊎_elim
          (λ before. get_or_append_left (take lo old) (mid ++ rest) 0 j (omega (arith, first, before)) ∙ get_or-take lo old j 0 before)
          (λ past.
          get_or-append_right (take lo old) (mid ++ rest) lo j 0 first (omega (arith, past))
          ∙ get_or-append_right mid rest count (j - lo) 0 size (omega (arith, past))
          ∙ get_or-drop (lo + count - lo) (drop lo old) (j - lo - count) 0
          ∙ get_or-drop lo old (lo + count - lo + (j - lo - count)) 0
          ∙ ap (λ i. get_or old i 0) (omega (arith, past)))
          off;
    }

-- where the piece was put as far as it reaches, the page is what a store makes of it
pub PutsBytes-all : (old page : List ℕ) (piece : Piece) (p lo skip k : ℕ) → length old ≡ 4096 → PutsBytes old page piece.bytes lo skip k → ((j : ℕ) → j < 4096 → piece.at ≤ p * 4096 + j → p * 4096 + j < piece.at + length piece.bytes → (lo ≤ j) × (j < lo + k) × (skip + (j - lo) ≡ p * 4096 + j - piece.at)) → ((j : ℕ) → lo ≤ j → j < lo + k → (piece.at ≤ p * 4096 + j) × (p * 4096 + j < piece.at + length piece.bytes)) → page ≡ bytes_after piece p old
unfolding bytes_after
PutsBytes-all old page piece p lo skip k size puts inner outer =
    let f : ℕ → ℕ = λ i. byte_after piece (p * 4096 + i) (get_or old i 0) in
    ext_get_or 0 page (map f (range_with_len 0 (length old)))
    (puts.long ∙ sym (length-map (range_with_len 0 (length old)) f ∙ length-range_with_len 0 (length old)))
    (λ j lt.
    let below : j < length old = omega (arith, lt, puts.long) in
    at j (omega (arith, below, size))
    ∙ sym (get_or-map f (range_with_len 0 (length old)) j 0 0 (omega (arith, below, length-range_with_len 0 (length old))) ∙ ap f (get_or-range_with_len 0 (length old) j 0 below ∙ omega arith)))
  where
    at : (j : ℕ) → j < 4096 → get_or page j 0 ≡ cond (leb piece.at (p * 4096 + j) && ltb (p * 4096 + j) (piece.at + length piece.bytes)) (get_or piece.bytes (p * 4096 + j - piece.at) 0) (get_or old j 0)
    at j lt =
        grind (arith, nat_tests, puts.put (j - lo), (λ (low : j < lo). puts.rest j (inl low)), (λ (past : lo + k ≤ j). puts.rest j (inr past)), inner j lt, outer j)
