-- What is read of a vault file is the vault that its bytes spell, and each vault is read of its bytes.
use Rattle.std.proofs.Common.{◌≡◌, ◌∙◌, ℕ, zero, suc, ◌+◌, ◌*◌, ◌^◌, ◌≤◌, ◌<◌, refl, sym, ap, subst, All, Bool, true, false, cond, eqb, ltb, not, ◌&&◌, IsTrue, Option, Some, None, List, [], ◌∷◌, ◌++◌, length, get_or, take, drop, Ok, Err, append_assoc, arith, length-append}
use Rattle.std.specs.Int.{w32, from_le_bytes}
use Rattle.std.specs.List.{flat_map}
use Rattle.std.specs.Prelude.{IfErr, IfOk, Result, is_some}
use Rattle.std.proofs.lemmas.Bool.{lt-ltb, ltb-false, ltb-true}
use Rattle.std.proofs.lemmas.Bool.Decides.{nat_tests}
use Rattle.std.proofs.lemmas.List.{get_or-drop, get_or-take, get_or_past, length-drop, length-take, length-take-le, take-append-drop, take-take}
use Rattle.std.proofs.lemmas.List.Elements.{All-cons, All-head, All-nil, All-tail}
use Rattle.std.proofs.lemmas.Nat.{from_le_bytes-to_le_bytes_4, le_bytes_4}
use Rattle.std.proofs.Math.Seq.{drop-append_seam, take-append_seam}
use Rattle.guest_image.specs.Limits.{page_numbers}
use Rattle.guest_image.specs.Numbers.{is_above, rising_after}
use Rattle.guest_image.specs.Spelling.{number, page}
use Rattle.guest_image.specs.declared.image.PageImage.{PageImage}
use Rattle.guest_image.specs.declared.image.Vault.{Vault}
use Rattle.lwc_types.specs.Outcomes.{Answers, ◌>>=◌}
use Rattle.lwc_types.specs.declared.reading.ReadError.{ReadError}
use Rattle.lwc_types.specs.declared.reading.ReadError.TheVariants as errors
use Rattle.lwc_text.specs.declared.fault.InputRule.{InputRule}
use Rattle.lwc_text.specs.declared.fault.InputRule.TheVariants.{BadEntry, BadPage, TooLong, Truncated}
use Rattle.lwc_text.specs.VaultFiles.{IsVaultFile, Read, number_in, page_at, page_in, pages_at, refused, vault_at}

abbrev pub IsBytes : List ℕ → Type 0
IsBytes bytes = (i : ℕ) → get_or bytes i 0 < 256

bytes-drop : (n : ℕ) (bytes : List ℕ) → IsBytes bytes → IsBytes (drop n bytes)
bytes-drop n bytes h i = rw get_or-drop (h (n + i))

bytes-take : (n : ℕ) (bytes : List ℕ) → IsBytes bytes → IsBytes (take n bytes)
bytes-take n bytes h i = by (ltb i n) refl
  where
    by : (b : Bool) → ltb i n ≡ b → get_or (take n bytes) i 0 < 256
    by true low = rw (get_or-take n bytes i 0 (ltb-true i n low)) (h i)
    by false high = let past = ltb-false i n high in rw (get_or_past (take n bytes) i 0 (omega (arith, length-take n bytes, past))) (omega arith)

-- a number that is whole is the one that its bytes spell
spelled_number : (rest : List ℕ) → IsBytes rest → 4 ≤ length rest → number (number_in rest) ≡ take 4 rest
spelled_number rest bytes long = le_bytes_4 (take 4 rest) (number_in rest) (length-take-le 4 rest long) (bytes-take 4 rest bytes) refl

-- so is a page
spelled_page : (rest : List ℕ) → IsBytes rest → 4100 ≤ length rest → rest ≡ page (page_in rest) ++ drop 4100 rest
spelled_page rest bytes long =
    sym (take-append-drop 4100 rest)
    ∙ ap (λ front. front ++ drop 4100 rest)
    (sym (take-append-drop 4 (take 4100 rest)) ∙ ap (λ front. front ++ drop 4 (take 4100 rest)) (take-take 4 4100 rest (omega arith) ∙ sym (spelled_number rest bytes (omega (arith, long)))))

whole_page : (rest : List ℕ) → 4100 ≤ length rest → length (page_in rest).bytes ≡ 4096
whole_page rest long = omega (arith, length-drop 4 (take 4100 rest), length-take-le 4100 rest long)

-- a page that was read
record IsPageIn (pages : ℕ) (last : Option ℕ) (rest : List ℕ) (p : PageImage) : Type 0 where
  is : page_in rest ≡ p
  number : number_in rest < pages
  above : is_above last (number_in rest) ≡ true
  whole : 4100 ≤ length rest

page_read : (pages : ℕ) (last : Option ℕ) (at : ℕ) (rest : List ℕ) (p : PageImage) → page_at pages last at rest ≡ Ok p → IsPageIn pages last rest p
unfolding page_at
page_read pages last at rest p read = by (ltb (length rest) 4) (ltb (number_in rest) pages) refl (is_above last (number_in rest)) refl (ltb (length rest) 4100) refl read
  where
    by : (a b : Bool) → ltb (number_in rest) pages ≡ b → (c : Bool) → is_above last (number_in rest) ≡ c → (d : Bool) → ltb (length rest) 4100 ≡ d →
        cond a (refused {A = PageImage} Truncated (at + length rest)) (cond (not (b && c)) (refused {A = PageImage} BadPage at) (cond d (refused {A = PageImage} Truncated (at + length rest)) (Ok (page_in rest)))) ≡ Ok p →
        IsPageIn pages last rest p
    by true b low c up d long is = cc
    by false false low c up d long is = cc
    by false true low false up d long is = cc
    by false true low true up true long is = cc
    by false true low true up false long is = record { is = cc; number = ltb-true (number_in rest) pages low; above = up; whole = ltb-false (length rest) 4100 long }

-- pages that were read
record ArePagesIn (most pages : ℕ) (last : Option ℕ) (rest : List ℕ) (ps : List PageImage) : Type 0 where
  spelled : rest ≡ flat_map page ps
  few : length ps ≤ most
  some : is_some last ≡ false → 1 ≤ length ps
  numbers : All (λ p. p.number < pages) ps
  rise : IsTrue (rising_after last (page_numbers ps))
  whole : All (λ p. length p.bytes ≡ 4096) ps

none_left : (rest : List ℕ) → length rest ≤ 0 → rest ≡ []
none_left [] few = refl
none_left (b ∷ bs) few = absurd (omega (arith, few))

no_pages : (most pages : ℕ) (last : Option ℕ) (rest : List ℕ) → length rest ≤ 0 → (is_some last ≡ false → ⊥) → ArePagesIn most pages last rest []
unfolding rising_after
no_pages most pages last rest none some = record {
  spelled = none_left rest none;
  few = omega arith;
  some = λ first. absurd (some first);
  numbers = All-nil (λ (p : PageImage). p.number < pages);
  rise = refl;
  whole = All-nil (λ (p : PageImage). length p.bytes ≡ 4096);
}

more_pages : (most pages : ℕ) (last : Option ℕ) (rest : List ℕ) (p : PageImage) (ps : List PageImage) → IsBytes rest → IsPageIn pages last rest p →
    ArePagesIn most pages (Some p.number) (drop 4100 rest) ps → ArePagesIn (suc most) pages last rest (p ∷ ps)
unfolding rising_after
more_pages most pages last rest p ps bytes first later = record {
  spelled = spelled_page rest bytes first.whole ∙ (λ i. page (first.is i) ++ later.spelled i);
  few = omega (arith, later.few);
  some = λ none. omega arith;
  numbers = All-cons (λ (q : PageImage). q.number < pages) p ps (subst (λ (q : PageImage). q.number < pages) first.is first.number) later.numbers;
  rise = (let up : is_above last p.number ≡ true = ap (λ (q : PageImage). is_above last q.number) (sym first.is) ∙ first.above in
      subst (λ b. IsTrue (b && rising_after (Some p.number) (page_numbers ps))) (sym up) later.rise);
  whole = All-cons (λ (q : PageImage). length q.bytes ≡ 4096) p ps (subst (λ (q : PageImage). length q.bytes ≡ 4096) first.is (whole_page rest first.whole)) later.whole;
}

abbrev done : {A : Type 0} → A → Read A
done x = Ok x

ok_is : {A : Type 0} (x y : A) → done x ≡ done y → x ≡ y
ok_is x y e = cc

-- a step of the reading that was not refused
bound : {A B : Type 0} (r : Read A) (f : A → Read B) (y : B) → (r >>= f) ≡ Ok y → (x : A) × (r ≡ Ok x) × (f x ≡ Ok y)
bound (Ok x) f y e = (x, refl, e)
bound (Err d) f y e = absurd cc

pages_found : (most pages : ℕ) (last : Option ℕ) (at : ℕ) (rest : List ℕ) (ps : List PageImage) → IsBytes rest → length rest ≤ 4100 * most → (most ≡ 0 → is_some last ≡ true) →
    pages_at most pages last at rest ≡ Ok ps → ArePagesIn most pages last rest ps
unfolding pages_at
pages_found zero pages last at rest ps bytes short some is =
    subst (ArePagesIn 0 pages last rest) (ok_is [] ps is) (no_pages 0 pages last rest (omega (arith, short)) (λ none. let no : true ≡ false = sym (some refl) ∙ none in cc))
pages_found (suc most) pages last at rest ps bytes short some is =
    by (λ q qs next small fits e. pages_found most pages (Some q) (at + 4100) next qs small fits (λ none. refl) e) (eqb (length rest) 0) refl (is_some last) refl is
  where
    later : ((q : ℕ) (qs : List PageImage) (next : List ℕ) → IsBytes next → length next ≤ 4100 * most → pages_at most pages (Some q) (at + 4100) next ≡ Ok qs → ArePagesIn most pages (Some q) next qs) →
        (page_at pages last at rest >>= (λ p. pages_at most pages (Some p.number) (at + 4100) (drop 4100 rest) >>= (λ qs. Ok (p ∷ qs)))) ≡ Ok ps → ArePagesIn (suc most) pages last rest ps
    later again e =
        let one = bound (page_at pages last at rest) (λ p. pages_at most pages (Some p.number) (at + 4100) (drop 4100 rest) >>= (λ qs. Ok (p ∷ qs))) ps e in
        let p : PageImage = one.0 in
        let two = bound (pages_at most pages (Some p.number) (at + 4100) (drop 4100 rest)) (λ qs. Ok (p ∷ qs)) ps one.2 in
        let first : IsPageIn pages last rest p = page_read pages last at rest p one.1 in
        let same : p ∷ two.0 ≡ ps = ok_is (p ∷ two.0) ps two.2 in
        subst (ArePagesIn (suc most) pages last rest) same
        (more_pages most pages last rest p two.0 bytes first
        (again p.number two.0 (drop 4100 rest) (bytes-drop 4100 rest bytes) (omega (arith, short, first.whole, length-drop 4100 rest)) two.1))

    by : ((q : ℕ) (qs : List PageImage) (next : List ℕ) → IsBytes next → length next ≤ 4100 * most → pages_at most pages (Some q) (at + 4100) next ≡ Ok qs → ArePagesIn most pages (Some q) next qs) →
        (b : Bool) → eqb (length rest) 0 ≡ b → (c : Bool) → is_some last ≡ c →
        cond (b && c) (Ok []) (page_at pages last at rest >>= (λ p. pages_at most pages (Some p.number) (at + 4100) (drop 4100 rest) >>= (λ qs. Ok (p ∷ qs)))) ≡ Ok ps → ArePagesIn (suc most) pages last rest ps
    by again true none true there e =
        let empty : length rest ≤ 0 = grind (arith, nat_tests) in
        let same : [] ≡ ps = ok_is [] ps e in
        subst (ArePagesIn (suc most) pages last rest) same (no_pages (suc most) pages last rest empty (λ no. let bad : true ≡ false = sym there ∙ no in cc))
    by again true none false there e = later again e
    by again false more c there e = later again e

-- what is read is a vault file
pub is_vault_file : (instructions pages : ℕ) (bytes : List ℕ) (v : Vault) → IsBytes bytes → vault_at instructions pages bytes ≡ Ok v → IsVaultFile instructions pages bytes v
unfolding vault_at
is_vault_file instructions pages bytes v small read =
    by (ltb 262404 (length bytes)) refl (ltb (length bytes) 4) refl (ltb (number_in bytes) instructions) refl read
  where
    read_vault : List PageImage → Vault
    read_vault ps = record { entry = number_in bytes; pages = ps }

    found : length bytes ≤ 262404 → 4 ≤ length bytes → number_in bytes < instructions → (pages_at 64 pages None 4 (drop 4 bytes) >>= (λ ps. Ok (record { entry = number_in bytes; pages = ps }))) ≡ Ok v →
        IsVaultFile instructions pages bytes v
    found short long low e =
        let one = bound (pages_at 64 pages None 4 (drop 4 bytes)) (λ ps. Ok (record { entry = number_in bytes; pages = ps })) v e in
        let are = pages_found 64 pages None 4 (drop 4 bytes) one.0 (bytes-drop 4 bytes small) (omega (arith, short, length-drop 4 bytes)) (λ no. absurd (omega (arith, no))) one.1 in
        let same : record { entry = number_in bytes; pages = one.0 } ≡ v = ok_is (read_vault one.0) v one.2 in
        subst (IsVaultFile instructions pages bytes) same
        (record {
          valid = record { entry = low; some = are.some refl; few = are.few; numbers = are.numbers; rise = are.rise; whole = are.whole };
          spelled = sym (take-append-drop 4 bytes) ∙ (λ i. sym (spelled_number bytes small long) i ++ are.spelled i);
        })

    by : (a : Bool) → ltb 262404 (length bytes) ≡ a → (b : Bool) → ltb (length bytes) 4 ≡ b → (c : Bool) → ltb (number_in bytes) instructions ≡ c →
        cond a (refused {A = Vault} TooLong 262404) (cond b (refused {A = Vault} Truncated (length bytes)) (cond (not c) (refused {A = Vault} BadEntry 0)
        (pages_at 64 pages None 4 (drop 4 bytes) >>= (λ ps. Ok (record { entry = number_in bytes; pages = ps }))))) ≡ Ok v → IsVaultFile instructions pages bytes v
    by true long b short c low e = cc
    by false long true short c low e = cc
    by false long false short false low e = cc
    by false long false short true low e = found (ltb-false 262404 (length bytes) long) (ltb-false (length bytes) 4 short) (ltb-true (number_in bytes) instructions low) e

-- a front of this length, and what follows it
front_taken : (n : ℕ) (xs ys : List ℕ) → length xs ≡ n → take n (xs ++ ys) ≡ xs
front_taken n xs ys is = subst (λ k. take k (xs ++ ys) ≡ xs) is (take-append_seam xs ys)

front_dropped : (n : ℕ) (xs ys : List ℕ) → length xs ≡ n → drop n (xs ++ ys) ≡ ys
front_dropped n xs ys is = subst (λ k. drop k (xs ++ ys) ≡ ys) is (drop-append_seam xs ys)

length-number : (n : ℕ) → length (number n) ≡ 4
length-number n = refl

number_back : (n : ℕ) (rest : List ℕ) → n < 2 ^ 32 → number_in (number n ++ rest) ≡ n
number_back n rest small = ap (from_le_bytes w32) (front_taken 4 (number n) rest (length-number n)) ∙ from_le_bytes-to_le_bytes_4 n small

module _ (p : PageImage) (rest : List ℕ) (whole : length p.bytes ≡ 4096) (small : p.number < 2 ^ 32) where
  length-page : length (page p) ≡ 4100
  length-page = length-append (number p.number) p.bytes ∙ ap (λ n. length (number p.number) + n) whole

  number_is : number_in (page p ++ rest) ≡ p.number
  number_is = ap number_in (append_assoc (number p.number) p.bytes rest) ∙ number_back p.number (p.bytes ++ rest) small

  bytes_are : drop 4 (take 4100 (page p ++ rest)) ≡ p.bytes
  bytes_are = ap (drop 4) (front_taken 4100 (page p) rest length-page) ∙ front_dropped 4 (number p.number) p.bytes (length-number p.number)

  page_is : page_in (page p ++ rest) ≡ p
  page_is = λ i. record { number = number_is i; bytes = bytes_are i }

  long_enough : 4100 ≤ length (page p ++ rest)
  long_enough = omega (arith, length-page, length-append (page p) rest)

  not_below : (n : ℕ) → n ≤ 4100 → ltb (length (page p ++ rest)) n ≡ false
  not_below n few = let long = long_enough in grind (arith, nat_tests)

  page_again : (pages : ℕ) (last : Option ℕ) (at : ℕ) → p.number < pages → is_above last p.number ≡ true → page_at pages last at (page p ++ rest) ≡ Ok p
  unfolding page_at
  page_again pages last at low up =
      let below : ltb (number_in (page p ++ rest)) pages ≡ true = ap (λ n. ltb n pages) number_is ∙ lt-ltb p.number pages low in
      let above : is_above last (number_in (page p ++ rest)) ≡ true = ap (is_above last) number_is ∙ up in
      (λ i. cond (not_below 4 (omega arith) i) (refused {A = PageImage} Truncated (at + length (page p ++ rest)))
      (cond (not (below i && above i)) (refused {A = PageImage} BadPage at)
      (cond (not_below 4100 (omega arith) i) (refused {A = PageImage} Truncated (at + length (page p ++ rest))) (Ok (page_is i)))))

both : (a b : Bool) → IsTrue (a && b) → (a ≡ true) × IsTrue b
both true b h = (refl, h)
both false b h = cc

pages_again : (most pages : ℕ) (last : Option ℕ) (at : ℕ) (ps : List PageImage) → pages ≤ 16384 → ArePagesIn most pages last (flat_map page ps) ps → pages_at most pages last at (flat_map page ps) ≡ Ok ps
unfolding pages_at rising_after
pages_again zero pages last at [] few are = refl
pages_again zero pages last at (p ∷ ps) few are = absurd (omega (arith, are.few))
pages_again (suc most) pages None at [] few are = absurd (omega (arith, are.some refl))
pages_again (suc most) pages (Some n) at [] few are = refl
pages_again (suc most) pages last at (p ∷ ps) few are =
    let low : p.number < pages = All-head (λ (q : PageImage). q.number < pages) p ps are.numbers in
    let whole : length p.bytes ≡ 4096 = All-head (λ (q : PageImage). length q.bytes ≡ 4096) p ps are.whole in
    let small : p.number < 2 ^ 32 = omega (arith, low, few) in
    let rest : List ℕ = flat_map page ps in
    let rise = both (is_above last p.number) (rising_after (Some p.number) (page_numbers ps)) are.rise in
    let long = long_enough p rest whole small in
    let more : eqb (length (page p ++ rest)) 0 ≡ false = grind (arith, nat_tests) in
    ap (λ b. cond (b && is_some last) (Ok []) (page_at pages last at (page p ++ rest) >>= (λ q. pages_at most pages (Some q.number) (at + 4100) (drop 4100 (page p ++ rest)) >>= (λ qs. Ok (q ∷ qs))))) more
    ∙ ap (λ r. r >>= (λ q. pages_at most pages (Some q.number) (at + 4100) (drop 4100 (page p ++ rest)) >>= (λ qs. Ok (q ∷ qs)))) (page_again p rest whole small pages last at low rise.0)
    ∙ ap (λ l. pages_at most pages (Some p.number) (at + 4100) l >>= (λ qs. Ok (p ∷ qs))) (front_dropped 4100 (page p) rest (length-page p rest whole small))
    ∙ ap (λ r. r >>= (λ qs. Ok (p ∷ qs)))
    (pages_again most pages (Some p.number) (at + 4100) ps few
    (record {
      spelled = refl;
      few = omega (arith, are.few);
      some = λ no. let bad : true ≡ false = no in cc;
      numbers = All-tail (λ (q : PageImage). q.number < pages) p ps are.numbers;
      rise = rise.1;
      whole = All-tail (λ (q : PageImage). length q.bytes ≡ 4096) p ps are.whole;
    }))

length-pages : (ps : List PageImage) → All (λ p. length p.bytes ≡ 4096) ps → length (flat_map page ps) ≡ 4100 * length ps
length-pages [] whole = refl
length-pages (p ∷ ps) whole =
    let one : length (page p) ≡ 4100 = length-append (number p.number) p.bytes ∙ ap (λ n. length (number p.number) + n) (All-head (λ (q : PageImage). length q.bytes ≡ 4096) p ps whole) in
    let later = length-pages ps (All-tail (λ (q : PageImage). length q.bytes ≡ 4096) p ps whole) in
    omega (arith, length-append (page p) (flat_map page ps), one, later)

-- a vault file is read
pub vault_file_is_read : (instructions pages : ℕ) (bytes : List ℕ) (v : Vault) → instructions ≤ 2 ^ 32 → pages ≤ 16384 → IsVaultFile instructions pages bytes v → vault_at instructions pages bytes ≡ Ok v
unfolding vault_at
vault_file_is_read instructions pages bytes v text few file =
    let is = file.valid in
    let rest : List ℕ = flat_map page v.pages in
    let entry : number_in (number v.entry ++ rest) ≡ v.entry = number_back v.entry rest (omega (arith, is.entry, text)) in
    let count : length (number v.entry ++ rest) ≡ 4 + 4100 * length v.pages = length-append (number v.entry) rest ∙ ap (λ n. length (number v.entry) + n) (length-pages v.pages is.whole) in
    let short : ltb 262404 (length (number v.entry ++ rest)) ≡ false = (let most = is.few in grind (arith, nat_tests)) in
    let long : ltb (length (number v.entry ++ rest)) 4 ≡ false = grind (arith, nat_tests) in
    let low : ltb (number_in (number v.entry ++ rest)) instructions ≡ true = ap (λ n. ltb n instructions) entry ∙ lt-ltb v.entry instructions is.entry in
    ap (vault_at instructions pages) file.spelled
    ∙ (λ i. cond (short i) (refused {A = Vault} TooLong 262404) (cond (long i) (refused {A = Vault} Truncated (length (number v.entry ++ rest))) (cond (not (low i)) (refused {A = Vault} BadEntry 0)
    (pages_at 64 pages None 4 (front_dropped 4 (number v.entry) rest (length-number v.entry) i) >>= (λ ps. Ok (record { entry = entry i; pages = ps }))))))
    ∙ ap (λ r. r >>= (λ ps. Ok (record { entry = v.entry; pages = ps })))
    (pages_again 64 pages None 4 v.pages few (record { spelled = refl; few = is.few; some = λ none. is.some; numbers = is.numbers; rise = is.rise; whole = is.whole }))

-- what an answer says of the file
pub found_in : (instructions pages : ℕ) (bytes : List ℕ) → IsBytes bytes → (result : Result Vault (ReadError InputRule)) → Answers (λ v. v) result (vault_at instructions pages bytes) →
    IfOk result (IsVaultFile instructions pages bytes)
found_in instructions pages bytes small (Ok v) is = is_vault_file instructions pages bytes v small is
found_in instructions pages bytes small (Err e) is = tt

pub only_memory : (instructions pages : ℕ) (bytes : List ℕ) (v : Vault) → instructions ≤ 2 ^ 32 → pages ≤ 16384 → IsVaultFile instructions pages bytes v → (result : Result Vault (ReadError InputRule)) →
    Answers (λ x. x) result (vault_at instructions pages bytes) → IfErr result (λ e. e ≡ errors.OutOfMemory)
only_memory instructions pages bytes v text few file (Ok x) is = tt
only_memory instructions pages bytes v text few file (Err errors.OutOfMemory) is = refl
only_memory instructions pages bytes v text few file (Err (errors.Refused rule at)) is =
    let read = vault_file_is_read instructions pages bytes v text few file in
    let no : Ok v ≡ Err (record { rule = rule; at = at }) = sym read ∙ is in cc
