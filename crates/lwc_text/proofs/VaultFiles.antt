-- Reading a vault file page by page.
use Rattle.std.proofs.Common.{◌≡◌, ◌∙◌, ℕ, zero, suc, ◌+◌, ◌-◌, ◌*◌, ◌≤◌, ◌<◌, refl, sym, ap, subst, Bool, true, false, cond, eqb, ◌&&◌, Option, Some, None, List, [], ◌∷◌, ◌++◌, length, drop, Ok, Err, append_assoc, arith, length-append}
use Rattle.std.specs.Prelude.{is_some}
use Rattle.std.proofs.lemmas.Bool.Decides.{nat_tests}
use Rattle.std.proofs.lemmas.List.{length-drop}
use Rattle.guest_image.specs.declared.image.PageImage.{PageImage}
use Rattle.lwc_types.specs.Outcomes.{Fails, ◌>>=◌}
use Rattle.lwc_types.specs.declared.reading.ReadError.{ReadError}
use Rattle.lwc_types.specs.declared.reading.ReadError.TheVariants as errors
use Rattle.lwc_text.specs.declared.fault.InputRule.{InputRule}
use Rattle.lwc_text.specs.VaultFiles.{Read, page_at, pages_at}

-- pages that were read, and those that are read next
abbrev pub extended : List PageImage → Read (List PageImage) → Read (List PageImage)
extended ps r = r >>= (λ l. Ok (ps ++ l))

extended-none : (r : Read (List PageImage)) → extended [] r ≡ r
extended-none (Ok l) = refl
extended-none (Err s) = refl

extended-more : (ps : List PageImage) (p : PageImage) (r : Read (List PageImage)) → extended ps (r >>= (λ l. Ok (p ∷ l))) ≡ extended (ps ++ p ∷ []) r
extended-more ps p (Ok l) = ap Ok (sym (append_assoc ps (p ∷ []) l))
extended-more ps p (Err s) = refl

-- these pages are read of the bytes, and the rest is to be read, after a page with this number
pub record IsSoFar (pages : ℕ) (bytes : List ℕ) (before : List PageImage) (last : Option ℕ) (rest : List ℕ) : Type 0 where
  pub read : extended before (pages_at (64 - length before) pages last (4 + length bytes - length rest) rest) ≡ pages_at 64 pages None 4 bytes
  pub goes : (eqb (length rest) 0 && is_some last) ≡ false
  pub size : length rest + 4100 * length before ≡ length bytes
  pub short : length bytes ≤ 262400
  pub count : length before < 64

not_first : (n : ℕ) → (eqb n 0 && false) ≡ false
not_first n = by (eqb n 0)
  where
    by : (b : Bool) → (b && false) ≡ false
    by true = refl
    by false = refl

pub begins : (pages : ℕ) (bytes : List ℕ) → length bytes ≤ 262400 → IsSoFar pages bytes [] None bytes
begins pages bytes short = record {
  read = extended-none (pages_at 64 pages None (4 + length bytes - length bytes) bytes) ∙ ap (λ n. pages_at 64 pages None n bytes) (omega arith);
  goes = not_first (length bytes);
  size = omega arith;
  short = short;
  count = omega arith;
}

-- one step of the reading
step : (most pages : ℕ) (last : Option ℕ) (at : ℕ) (rest : List ℕ) → (eqb (length rest) 0 && is_some last) ≡ false →
    pages_at (suc most) pages last at rest ≡ (page_at pages last at rest >>= (λ p. pages_at most pages (Some p.number) (at + 4100) (drop 4100 rest) >>= (λ ps. Ok (p ∷ ps))))
unfolding pages_at
step most pages last at rest goes =
    ap (λ b. cond b (Ok []) (page_at pages last at rest >>= (λ p. pages_at most pages (Some p.number) (at + 4100) (drop 4100 rest) >>= (λ ps. Ok (p ∷ ps))))) goes

module _ (pages : ℕ) (bytes : List ℕ) (before : List PageImage) (last : Option ℕ) (rest : List ℕ) (so_far : IsSoFar pages bytes before last rest) where
  abbrev at : ℕ
  at = 4 + length bytes - length rest

  -- one page more is in the file
  pub after_page : (p : PageImage) → 4100 ≤ length rest → page_at pages last at rest ≡ Ok p →
      extended (before ++ p ∷ []) (pages_at (64 - length (before ++ p ∷ [])) pages (Some p.number) (4 + length bytes - length (drop 4100 rest)) (drop 4100 rest)) ≡ pages_at 64 pages None 4 bytes
  after_page p long is =
      let size = so_far.size in
      let short = so_far.short in
      let fuel : suc (64 - length (before ++ p ∷ [])) ≡ 64 - length before = omega (arith, size, short, long, length-append before (p ∷ [])) in
      let next : at + 4100 ≡ 4 + length bytes - length (drop 4100 rest) = omega (arith, size, long, length-drop 4100 rest) in
      let most : ℕ = 64 - length (before ++ p ∷ []) in
      sym (extended-more before p (pages_at most pages (Some p.number) (4 + length bytes - length (drop 4100 rest)) (drop 4100 rest)))
      ∙ ap (λ n. extended before (pages_at most pages (Some p.number) n (drop 4100 rest) >>= (λ ps. Ok (p ∷ ps)))) (sym next)
      ∙ ap (λ r. extended before (r >>= (λ q. pages_at most pages (Some q.number) (at + 4100) (drop 4100 rest) >>= (λ ps. Ok (q ∷ ps))))) (sym is)
      ∙ ap (extended before) (sym (step most pages last at rest so_far.goes))
      ∙ ap (λ n. extended before (pages_at n pages last at rest)) fuel
      ∙ so_far.read

  more_size : (p : PageImage) → 4100 ≤ length rest → length (drop 4100 rest) + 4100 * length (before ++ p ∷ []) ≡ length bytes
  more_size p long = let size = so_far.size in omega (arith, size, long, length-drop 4100 rest, length-append before (p ∷ []))

  room_for : (left : ℕ) → eqb left 0 ≡ false → (count : ℕ) → left + 4100 * count ≡ length bytes → count < 64
  room_for left more count size =
      let short = so_far.short in
      let some : 1 ≤ left = grind (arith, nat_tests) in
      omega (arith, some, size, short)

  pub goes_on : (p : PageImage) → 4100 ≤ length rest → page_at pages last at rest ≡ Ok p → eqb (length (drop 4100 rest)) 0 ≡ false →
      IsSoFar pages bytes (before ++ p ∷ []) (Some p.number) (drop 4100 rest)
  goes_on p long is more = record {
    read = after_page p long is;
    goes = ap (λ b. b && true) more;
    size = more_size p long;
    short = so_far.short;
    count = room_for (length (drop 4100 rest)) more (length (before ++ p ∷ [])) (more_size p long);
  }

  nothing_left : (n : ℕ) (q : ℕ) (place : ℕ) (left : List ℕ) → eqb (length left) 0 ≡ true → pages_at n pages (Some q) place left ≡ Ok []
  unfolding pages_at
  nothing_left zero q place left none = refl
  nothing_left (suc n) q place left none =
      ap (λ b. cond (b && true) (Ok []) (page_at pages (Some q) place left >>= (λ p. pages_at n pages (Some p.number) (place + 4100) (drop 4100 left) >>= (λ ps. Ok (p ∷ ps))))) none

  whole : (ps : List PageImage) → ps ++ [] ≡ ps
  whole [] = refl
  whole (p ∷ ps) = ap (λ l. p ∷ l) (whole ps)

  pub is_done : (p : PageImage) → 4100 ≤ length rest → page_at pages last at rest ≡ Ok p → eqb (length (drop 4100 rest)) 0 ≡ true → pages_at 64 pages None 4 bytes ≡ Ok (before ++ p ∷ [])
  is_done p long is none =
      sym (after_page p long is)
      ∙ ap (extended (before ++ p ∷ [])) (nothing_left (64 - length (before ++ p ∷ [])) p.number (4 + length bytes - length (drop 4100 rest)) (drop 4100 rest) none)
      ∙ ap Ok (whole (before ++ p ∷ []))

  -- it ends at a page
  pub ends : (e : ReadError InputRule) → Fails e (page_at pages last at rest) → Fails e (pages_at 64 pages None 4 bytes)
  ends errors.OutOfMemory failed = tt
  ends (errors.Refused rule place) failed =
      let size = so_far.size in
      let short = so_far.short in
      let going = so_far.count in
      let fuel : suc (64 - length before - 1) ≡ 64 - length before = omega (arith, going) in
      sym so_far.read
      ∙ ap (λ n. extended before (pages_at n pages last at rest)) (sym fuel)
      ∙ ap (extended before) (step (64 - length before - 1) pages last at rest so_far.goes)
      ∙ ap (λ r. extended before (r >>= (λ q. pages_at (64 - length before - 1) pages (Some q.number) (at + 4100) (drop 4100 rest) >>= (λ ps. Ok (q ∷ ps))))) failed

  -- the same, as the code has it
  module _ (p : PageImage) (items : List PageImage) (after : List ℕ) (long : 4100 ≤ length rest) (is : page_at pages last at rest ≡ Ok p) (pushed : items ≡ before ++ p ∷ []) (left : after ≡ drop 4100 rest) where
    pub all_read : eqb (length after) 0 ≡ true → pages_at 64 pages None 4 bytes ≡ Ok items
    all_read none = is_done p long is (ap (λ l. eqb (length l) 0) (sym left) ∙ none) ∙ ap Ok (sym pushed)

    pub read_on : eqb (length after) 0 ≡ false → IsSoFar pages bytes items (Some p.number) after
    read_on more =
        subst (λ l. IsSoFar pages bytes items (Some p.number) l) (sym left)
        (subst (λ ps. IsSoFar pages bytes ps (Some p.number) (drop 4100 rest)) (sym pushed) (goes_on p long is (ap (λ l. eqb (length l) 0) (sym left) ∙ more)))

    pub smaller : length after < length rest
    smaller = omega (arith, long, ap length left, length-drop 4100 rest)

-- the beginning, as the code has it
pub begins_here : (pages : ℕ) (bytes : List ℕ) (items : List PageImage) → items ≡ [] → length bytes ≤ 262400 → IsSoFar pages bytes items None bytes
begins_here pages bytes items none short = subst (λ ps. IsSoFar pages bytes ps None bytes) (sym none) (begins pages bytes short)
