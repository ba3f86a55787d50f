-- Replies by their short rows and their long rows.
use Rattle.std.proofs.Common.{◌≡◌, ℕ, ◌<◌, List, [], ◌∷◌, ◌++◌, length, get_or, set, refl, sym, ◌∙◌, ap, arith}
use Rattle.std.proofs.lemmas.List.{get_or_default, set-get_or}
use Rattle.pool_base.specs.Paired.{paired}
use Rattle.pool_base.proofs.PairedLemmas.{length-paired, get_or-paired, paired-set}
use Rattle.lwc_base.specs.Replies.{seen_reply}

-- a reply with a long row is that row
seen-long : (short long : List ℕ) → 0 < length long → seen_reply short long ≡ long
seen-long short [] some = absurd (omega (arith, some))
seen-long short (byte ∷ bytes) some = refl

-- a row that is looked up twice
same-row : (rows : List (List ℕ)) (r : ℕ) (a b : List ℕ) → r < length rows → a ≡ get_or rows r a → b ≡ get_or rows r b → a ≡ b
same-row rows r a b there is-a is-b = is-a ∙ get_or_default rows r a b there ∙ sym is-b

-- what is appended to no bytes
pub after-none : (bytes piece : List ℕ) → length bytes ≡ 0 → bytes ++ piece ≡ piece
after-none [] piece none = refl
after-none (byte ∷ bytes) piece none = absurd (omega (arith, none))

module _ (short long seen : List (List ℕ)) (view : paired seen_reply short long ≡ seen) (same : length short ≡ length long) (r : ℕ) (there : r < length seen) where
  pub in-short : r < length short
  in-short = omega (arith, there, ap length view, length-paired seen_reply short long same)

  pub in-long : r < length long
  in-long = omega (arith, in-short, same)

  pub short-again : (a b : List ℕ) → a ≡ get_or short r a → b ≡ get_or short r b → a ≡ b
  short-again a b = same-row short r a b in-short

  pub long-again : (a b : List ℕ) → a ≡ get_or long r a → b ≡ get_or long r b → a ≡ b
  long-again a b = same-row long r a b in-long

  -- the bytes of a reply, of its rows
  pub seen-at : (s l : List ℕ) → s ≡ get_or short r s → l ≡ get_or long r l → get_or seen r [] ≡ seen_reply s l
  seen-at s l is-short is-long =
      ap (λ replies. get_or replies r []) (sym view)
      ∙ get_or-paired seen_reply short long r s l [] in-short in-long
      ∙ ap (λ t. seen_reply t (get_or long r l)) (sym is-short)
      ∙ ap (seen_reply s) (sym is-long)

  -- a reply whose long row has no bytes is its short row
  pub seen-at-short : (s l : List ℕ) → s ≡ get_or short r s → l ≡ get_or long r l → length l ≡ 0 → get_or seen r [] ≡ s
  seen-at-short s [] is-short is-long none = seen-at s [] is-short is-long
  seen-at-short s (byte ∷ bytes) is-short is-long none = absurd (omega (arith, none))

  -- a reply whose long row has bytes is that row
  pub seen-at-long : (l : List ℕ) → l ≡ get_or long r l → 0 < length l → get_or seen r [] ≡ l
  seen-at-long l is-long some =
      seen-at (get_or short r []) l (get_or_default short r [] (get_or short r []) in-short) is-long
      ∙ seen-long (get_or short r []) l some

  -- a short row is written where the long row has no bytes
  pub set-short : (l written : List ℕ) → l ≡ get_or long r l → length l ≡ 0 → paired seen_reply (set short r written) long ≡ set seen r written
  set-short [] written is-long none =
      ap (paired seen_reply (set short r written)) (sym (ap (set long r) is-long ∙ set-get_or long r []))
      ∙ paired-set seen_reply short long r written []
      ∙ ap (λ replies. set replies r written) view
  set-short (byte ∷ bytes) written is-long none = absurd (omega (arith, none))

  -- a long row is written, which has bytes from then on
  pub set-long : (written : List ℕ) → 0 < length written → paired seen_reply short (set long r written) ≡ set seen r written
  set-long written some =
      ap (λ rows. paired seen_reply rows (set long r written)) (sym (set-get_or short r []))
      ∙ paired-set seen_reply short long r (get_or short r []) written
      ∙ ap (set (paired seen_reply short long) r) (seen-long (get_or short r []) written some)
      ∙ ap (λ replies. set replies r written) view
