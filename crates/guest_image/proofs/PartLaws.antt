-- Each value of an image: what is read is spelled so and within the limits, what is spelled so within the limits is read, and what is refused breaks a rule.
use Rattle.std.proofs.Common.{◌≡◌, ◌≢◌, inl, inr, ℕ, zero, suc, ◌+◌, ◌^◌, ◌<◌, ◌≤◌, Bool, true, false, cond, ◌&&◌, ltb, leb, eqb, List, [], ◌∷◌, ◌++◌, length, Option, Some, None, Ok, Err, refl, sym, ap, subst, ◌∙◌, arith, All, lit<}
use Rattle.std.specs.Prelude.{IsTrue, replicate}
use Rattle.std.proofs.lemmas.Bool.{and_parts, and_from, ltb-true, lt-ltb, le-ltb, ltb-false, leb-true, le-leb, false≢true}
use Rattle.std.proofs.lemmas.Bool.Decides.{nat_tests}
use Rattle.std.proofs.lemmas.List.{get_or_append_left, get_or_default, length-append, length-replicate, map_push, map-append}
use Rattle.std.proofs.lemmas.List.Elements.{All-push, All-contains, All-weaker, Contains-push}
use Rattle.std.proofs.lemmas.List.Sums.{sum_by_push, sum_by-append}
use Rattle.lwc_types.specs.Outcomes.{Refusal, ◌>>=◌}
use Rattle.lwc_types.specs.declared.file_image.FileImage.{FileImage}
use Rattle.lwc_types.specs.declared.key.TheConstants.{SLOTS}
use Rattle.lwc_types.specs.declared.limits.TheConstants.{MOST_FILE_BYTES, MOST_RANGES}
use Rattle.lwc_types.specs.declared.page.TheConstants.{PAGE_BYTES}
use Rattle.guest_isa.specs.declared.instr.Instr.{Instr}
use Rattle.guest_isa.specs.Instructions.{IsInstruction}
use Rattle.guest_isa.specs.Spelling.{reading}
use Rattle.guest_isa.specs.Spelling as instructions
use Rattle.guest_image.specs.declared.fault.ImageRule.{ImageRule}
use Rattle.guest_image.specs.declared.fault.ImageRule.TheVariants.{BadFile, BadTarget, BadInstruction, BadPage, BadSlot, BadEntry}
use Rattle.guest_image.specs.declared.header.Header.{Header}
use Rattle.guest_image.specs.declared.image.Form.{Form}
use Rattle.guest_image.specs.declared.image.Form.TheVariants.{One, Two}
use Rattle.guest_image.specs.declared.image.PageImage.{PageImage}
use Rattle.guest_image.specs.declared.image.SlotImage.{SlotImage}
use Rattle.guest_image.specs.declared.image.TheConstants.{FIRST_SLOT}
use Rattle.guest_image.specs.Rest.{Rest}
use Rattle.guest_image.specs.Numbers.{is_above, begins, last, rising, ranges, rising_after, ranges_after}
use Rattle.guest_image.specs.Limits.{pages_of, stays_inside, page_numbers, slot_numbers, content, ArePages, AreFiles, AreSlots}
use Rattle.guest_image.specs.Spelling.{number, flag, page, file, slot}
use Rattle.guest_image.specs.Reading.{bytes_at, number_at, number_where, checked, instruction_at, is_next_page, page_at, public_at, length_at, file_at, is_next_slot, slot_at, entry_at, next_instruction, next_page, next_file, next_slot, next_entry}
use Rattle.guest_image.specs.Refusals.{Breaks, IsCode, PageMayFollow, SlotMayFollow, InText, InPages, InFiles, InSlots, InEntries}
use Rattle.guest_image.proofs.FieldLaws.{IsBytes, from, bind_ok, bind_err, passed, failed, ok_is, Takes, Takes-then, bytes_take, bytes_again, bytes_stop, number_takes, number_again, number_stop, where_takes, where_again, where_stop, where_fails}
use Rattle.guest_image.proofs.Stops.{Stops, ends_early, stops_at}
use Rattle.guest_image.proofs.ValueLaws.{TakesEach, ReadsEach}
use Rattle.guest_image.proofs.Push.{rising-push, page_ranges}
use Rattle.guest_isa.proofs.Inverse.{reading-spelling, spelling-reading}

All-last : {X : Type 0} (P : X → Type 0) (before : List X) (x : X) → All P (before ++ x ∷ []) → P x
All-last P before x all = All-contains P (before ++ x ∷ []) x all (Contains-push before x)

All-front : {X : Type 0} (P : X → Type 0) (before after : List X) → All P (before ++ after) → All P before
All-front P before after all k d lt = subst P (get_or_append_left before after d k lt) (all k d (omega (arith, length-append before after)))

rising-front : (before : Option ℕ) (ns ms : List ℕ) → rising_after before (ns ++ ms) ≡ true → rising_after before ns ≡ true
unfolding rising_after
rising-front before [] ms e = refl
rising-front before (n ∷ ns) ms e =
    let both = and_parts _ _ e in
    and_from _ _ both.0 (rising-front (Some n) ns ms both.1)

ranges-front : (before : Option ℕ) (ns ms : List ℕ) → ranges_after before ns ≤ ranges_after before (ns ++ ms)
unfolding ranges_after
ranges-front before [] ms = omega arith
ranges-front before (n ∷ ns) ms = either (begins before n) (ranges_after (Some n) ns) (ranges_after (Some n) (ns ++ ms)) (ranges-front (Some n) ns ms)
  where
    either : (b : Bool) (j k : ℕ) → j ≤ k → cond b (j + 1) j ≤ cond b (k + 1) k
    either true j k le = omega arith
    either false j k le = le

-- ---- instructions

pub all_bytes : (bytes : List ℕ) → IsBytes bytes → All (λ b. b < 256) bytes
all_bytes bytes fits k d lt = rw (get_or_default bytes k d 0 lt) (fits k)

checked_takes : (count : ℕ) (r : Rest) (o : Option Instr) (i : Instr) → checked count r o ≡ Ok i → (o ≡ Some i) × (stays_inside count i ≡ true)
checked_takes count r None i e = absurd cc
checked_takes count r (Some j) i e =
    let g = passed (stays_inside count j) (record { rule = BadTarget; at = r.at }) j i e in
    (ap (λ (k : Instr). Some k) g.1, subst (λ (k : Instr). stays_inside count k ≡ true) g.1 g.0)

instruction_takes : (count : ℕ) (r : Rest) (i : Instr) (after : Rest) → IsBytes r.bytes → instruction_at count r ≡ Ok (i, after) → Takes r (instructions.spelling i) after × IsInstruction i × (stays_inside count i ≡ true)
unfolding instruction_at
instruction_takes count r i after fits e =
    let a = bind_ok (bytes_at 8 r) _ _ e in
    let b = bind_ok (checked count r (reading a.0.0)) _ _ a.2 in
    let t = bytes_take 8 r a.0.0 a.0.1 fits a.1 in
    let k = checked_takes count r (reading a.0.0) b.0 b.1 in
    let s = spelling-reading a.0.0 b.0 t.1 t.2 k.0 in
    subst (λ (y : Instr × Rest). Takes r (instructions.spelling y.0) y.1 × IsInstruction y.0 × (stays_inside count y.0 ≡ true)) (ok_is (b.0, a.0.1) (i, after) b.2)
    (subst (λ (f : List ℕ). Takes r f a.0.1) s.1 t.0, s.0, k.1)

instruction_again : (count : ℕ) (i : Instr) (at : ℕ) (rest : List ℕ) → IsInstruction i → stays_inside count i ≡ true → instruction_at count (from at (instructions.spelling i ++ rest)) ≡ Ok (i, from (at + 8) rest)
unfolding instruction_at
instruction_again count i at rest is inside = rw (bytes_again 8 at (instructions.spelling i) rest refl, reading-spelling i is, inside) refl

pub code_takes : (count : ℕ) → TakesEach (IsCode count) instructions.spelling (next_instruction count)
code_takes count = record {
  takes = λ before r x after fits p e.
      let t = instruction_takes count r x after fits e in
      (t.0, record { instructions = All-push IsInstruction before x p.instructions t.1; targets = All-push (λ i. IsTrue (stays_inside count i)) before x p.targets t.2 });
}

pub code_reads : (count : ℕ) → ReadsEach (IsCode count) instructions.spelling (next_instruction count)
code_reads count = record {
  reads = λ before x at rest p. instruction_again count x at rest (All-last IsInstruction before x p.instructions) (All-last (λ i. IsTrue (stays_inside count i)) before x p.targets);
  front = λ before after p. record { instructions = All-front IsInstruction before after p.instructions; targets = All-front (λ i. IsTrue (stays_inside count i)) before after p.targets };
}

-- the bytes of an instruction that is not taken
checked_stop : {form : Form} (file : Rest) (h : Header) (text : List Instr) (front : List ℕ) (r : Rest) (bytes rest : List ℕ) (s : Refusal ImageRule) (o : Option Instr) → InText form h text front → Takes file front r → r.bytes ≡ bytes ++ rest → length bytes ≡ 8 → IsBytes bytes
    → reading bytes ≡ o → checked h.instructions r o ≡ Err s → Stops form file s
unfolding Breaks
checked_stop file h text front r bytes rest s None place t is len fits none e =
    let same : s ≡ record { rule = BadInstruction; at = r.at } = cc in
    stops_at file front r BadInstruction s t (h, text, bytes, place, (rest, is), len, λ i instr spelled. let some : reading bytes ≡ Some i = ap reading spelled ∙ reading-spelling i instr in absurd cc) same
checked_stop file h text front r bytes rest s (Some i) place t is len fits some e =
    let f = failed (stays_inside h.instructions i) (record { rule = BadTarget; at = r.at }) s i e in
    let k = spelling-reading bytes i len fits some in
    stops_at file front r BadTarget s t (h, text, i, place, (rest, is ∙ ap (λ (b : List ℕ). b ++ rest) k.1), k.0, f.0) (sym f.1)

pub instruction_stop : {form : Form} (file : Rest) (h : Header) (text : List Instr) (front : List ℕ) (r : Rest) (s : Refusal ImageRule) → InText form h text front → Takes file front r → next_instruction h.instructions text r ≡ Err s → Stops form file s
unfolding instruction_at
instruction_stop file h text front r s place t e =
    elim (bind_err (bytes_at 8 r) (λ field. checked h.instructions r (reading field.0) >>= λ i. Ok (i, field.1)) s e) [
      | inl short ↦ ends_early file front r s t (bytes_stop 8 r s short)
      | inr a ↦
          let took = bytes_take 8 r a.0.0 a.0.1 t.rest_fits a.1 in
          elim (bind_err (checked h.instructions r (reading a.0.0)) (λ i. Ok (i, a.0.1)) s a.2) [
            | inl bad ↦ checked_stop file h text front r a.0.0 a.0.1.bytes s (reading a.0.0) place t took.0.parts took.1 took.2 refl bad
            | inr b ↦ absurd cc
          ]
    ]

-- bytes that spell no instruction are not read
unread : (bytes : List ℕ) (o : Option Instr) → length bytes ≡ 8 → IsBytes bytes → reading bytes ≡ o → ((i : Instr) → IsInstruction i → bytes ≢ instructions.spelling i) → o ≡ None
unread bytes None len fits e none = refl
unread bytes (Some i) len fits e none = let k = spelling-reading bytes i len fits e in absurd (none i k.0 k.1)

pub instruction_fails : (count at : ℕ) (bytes rest : List ℕ) → length bytes ≡ 8 → IsBytes bytes → ((i : Instr) → IsInstruction i → bytes ≢ instructions.spelling i) → instruction_at count (from at (bytes ++ rest)) ≡ Err (record { rule = BadInstruction; at = at })
unfolding instruction_at
instruction_fails count at bytes rest len fits none = rw (bytes_again 8 at bytes rest len, unread bytes (reading bytes) len fits refl none) refl

pub target_fails : (count at : ℕ) (i : Instr) (rest : List ℕ) → IsInstruction i → stays_inside count i ≡ false → instruction_at count (from at (instructions.spelling i ++ rest)) ≡ Err (record { rule = BadTarget; at = at })
unfolding instruction_at
target_fails count at i rest is outside = rw (bytes_again 8 at (instructions.spelling i) rest refl, reading-spelling i is, outside) refl

-- ---- pages

pub pages_few : (form : Form) → pages_of form < 2 ^ 32
pages_few One = lit< tt
pages_few Two = lit< tt

page_rise : (pages : List PageImage) (p : PageImage) → rising (page_numbers (pages ++ p ∷ [])) ≡ (rising (page_numbers pages) && is_above (last (page_numbers pages)) p.number)
page_rise pages p = rw map_push (rising-push None (page_numbers pages) p.number)

module _ (form : Form) where
  abbrev next_number : List PageImage → ℕ → Bool
  next_number pages = is_next_page form (last (page_numbers pages)) (ranges (page_numbers pages))

  -- a page that passes the test of its number comes after pages
  page_follows : (pages : List PageImage) (p : PageImage) → ArePages form pages → next_number pages p.number ≡ true → length p.bytes ≡ PAGE_BYTES → ArePages form (pages ++ p ∷ [])
  page_follows pages p are test whole =
      let tests = and_parts _ _ test in
      let front = and_parts _ _ tests.0 in
      record {
        numbers = All-push (λ p. p.number < pages_of form) pages p are.numbers (ltb-true _ _ front.0);
        rise = page_rise pages p ∙ and_from _ _ are.rise front.1;
        ranges = subst (λ (n : ℕ). n ≤ MOST_RANGES) (sym (page_ranges pages p)) (leb-true _ _ tests.1);
        whole = All-push (λ p. length p.bytes ≡ PAGE_BYTES) pages p are.whole whole;
      }

  -- the number of a page that comes after pages passes the test
  number_follows : (pages : List PageImage) (p : PageImage) → ArePages form (pages ++ p ∷ []) → next_number pages p.number ≡ true
  number_follows pages p are =
      let small = All-last (λ p. p.number < pages_of form) pages p are.numbers in
      let above = and_parts _ _ (sym (page_rise pages p) ∙ are.rise) in
      let few = subst (λ (n : ℕ). n ≤ MOST_RANGES) (page_ranges pages p) are.ranges in
      and_from _ _ (and_from _ _ (lt-ltb _ _ small) above.1) (le-leb _ _ few)

  page_takes : (pages : List PageImage) (r : Rest) (p : PageImage) (after : Rest) → IsBytes r.bytes → next_page form pages r ≡ Ok (p, after) → Takes r (page p) after × (next_number pages p.number ≡ true) × (length p.bytes ≡ PAGE_BYTES)
  unfolding page_at
  page_takes pages r p after fits e =
      let a = bind_ok (number_where (next_number pages) BadPage r) _ _ e in
      let b = bind_ok (bytes_at PAGE_BYTES a.0.1) _ _ a.2 in
      let ta = where_takes _ _ r a.0.0 a.0.1 fits a.1 in
      let tb = bytes_take PAGE_BYTES a.0.1 b.0.0 b.0.1 ta.0.rest_fits b.1 in
      let made : PageImage × Rest = (record { number = a.0.0; bytes = b.0.0 }, b.0.1) in
      subst (λ (y : PageImage × Rest). Takes r (page y.0) y.1 × (next_number pages y.0.number ≡ true) × (length y.0.bytes ≡ PAGE_BYTES)) (ok_is made (p, after) b.2)
      (Takes-then r (number a.0.0) a.0.1 b.0.0 b.0.1 ta.0 tb.0, ta.2, tb.1)

  page_again : (pages : List PageImage) (p : PageImage) (at : ℕ) (rest : List ℕ) → p.number < pages_of form → next_number pages p.number ≡ true → length p.bytes ≡ PAGE_BYTES → next_page form pages (from at (page p ++ rest)) ≡ Ok (p, from (at + length (page p)) rest)
  unfolding page_at
  page_again pages p at rest lt test whole =
      let small : p.number < 2 ^ 32 = omega (arith, lt, pages_few form) in
      let place : (at + 4) + PAGE_BYTES ≡ at + length (page p) = omega (arith, length-append (number p.number) p.bytes) in
      rw (where_again _ _ p.number at (p.bytes ++ rest) small test, bytes_again PAGE_BYTES (at + 4) p.bytes rest whole, place) refl

  pub pages_take : TakesEach (ArePages form) page (next_page form)
  pages_take = record {
    takes = λ before r x after fits p e. let t = page_takes before r x after fits e in (t.0, page_follows before x p t.1 t.2);
  }

  pub pages_read : ReadsEach (ArePages form) page (next_page form)
  pages_read = record {
    reads = λ before x at rest p. page_again before x at rest (All-last (λ p. p.number < pages_of form) before x p.numbers) (number_follows before x p) (All-last (λ p. length p.bytes ≡ PAGE_BYTES) before x p.whole);
    front = λ before after p. record {
      numbers = All-front (λ p. p.number < pages_of form) before after p.numbers;
      rise = rising-front None (page_numbers before) (page_numbers after) (ap rising (sym (map-append (λ p. p.number) before after)) ∙ p.rise);
      ranges =
          let more = ranges-front None (page_numbers before) (page_numbers after) in
          let same : ranges (page_numbers before ++ page_numbers after) ≤ MOST_RANGES = subst (λ (ns : List ℕ). ranges ns ≤ MOST_RANGES) (map-append (λ p. p.number) before after) p.ranges in
          omega arith;
      whole = All-front (λ p. length p.bytes ≡ PAGE_BYTES) before after p.whole;
    };
  }

  pub page_stop : (file : Rest) (h : Header) (pages : List PageImage) (front : List ℕ) (r : Rest) (s : Refusal ImageRule) → InPages form h pages front → Takes file front r → next_page form pages r ≡ Err s → Stops form file s
  unfolding page_at Breaks
  page_stop file h pages front r s place t e =
      elim (bind_err (number_where (next_number pages) BadPage r) (λ n. bytes_at PAGE_BYTES n.1 >>= λ field. Ok (record { number = n.0; bytes = field.0 }, field.1)) s e) [
        | inl stop ↦ elim (where_stop _ _ r s t.rest_fits stop) [
          | inl short ↦ ends_early file front r s t short
          | inr bad ↦ stops_at file front r BadPage s t (
            h,
            pages,
            bad.0,
            place,
            (bad.1.fits, (bad.1.rest, bad.1.is)),
            λ follows. false≢true (sym bad.1.fails ∙ number_follows pages (record { number = bad.0; bytes = follows.0 }) follows.1),
          ) bad.2
        ]
        | inr a ↦
            let ta = where_takes _ _ r a.0.0 a.0.1 t.rest_fits a.1 in
            elim (bind_err (bytes_at PAGE_BYTES a.0.1) (λ field. Ok (record { number = a.0.0; bytes = field.0 }, field.1)) s a.2) [
              | inl short ↦ ends_early file (front ++ number a.0.0) a.0.1 s (Takes-then file front r (number a.0.0) a.0.1 t ta.0) (bytes_stop PAGE_BYTES a.0.1 s short)
              | inr b ↦ absurd cc
            ]
      ]

  -- a number that no page may have fails the test
  no_page : (pages : List PageImage) (n : ℕ) (test : Bool) → ArePages form pages → next_number pages n ≡ test → (PageMayFollow form pages n → ⊥) → test ≡ false
  no_page pages n true are test none = absurd (none (replicate PAGE_BYTES 0, page_follows pages (record { number = n; bytes = replicate PAGE_BYTES 0 }) are test (length-replicate {A = ℕ} PAGE_BYTES 0)))
  no_page pages n false are test none = refl

  pub page_fails : (pages : List PageImage) (n at : ℕ) (rest : List ℕ) → ArePages form pages → n < 2 ^ 32 → (PageMayFollow form pages n → ⊥) → next_page form pages (from at (number n ++ rest)) ≡ Err (record { rule = BadPage; at = at })
  unfolding page_at
  page_fails pages n at rest are lt none = rw (where_fails (next_number pages) BadPage n at rest lt (no_page pages n (next_number pages n) are refl none)) refl

-- ---- files

flag_of : (n : ℕ) → n < 2 → number n ≡ flag (eqb n 1)
flag_of zero lt = refl
flag_of (suc zero) lt = refl
flag_of (suc (suc n)) lt = absurd (omega arith)

public_takes : (r : Rest) (b : Bool) (after : Rest) → IsBytes r.bytes → public_at r ≡ Ok (b, after) → Takes r (flag b) after
public_takes r b after fits e =
    let a = bind_ok (number_where (λ n. ltb n 2) BadFile r) _ _ e in
    let t = where_takes _ _ r a.0.0 a.0.1 fits a.1 in
    let is = flag_of a.0.0 (ltb-true _ _ t.2) in
    subst (λ (y : Bool × Rest). Takes r (flag y.0) y.1) (ok_is (eqb a.0.0 1, a.0.1) (b, after) a.2) (subst (λ (f : List ℕ). Takes r f a.0.1) is t.0)

public_again : (b : Bool) (at : ℕ) (rest : List ℕ) → public_at (from at (flag b ++ rest)) ≡ Ok (b, from (at + 4) rest)
public_again true at rest = rw (where_again (λ n. ltb n 2) BadFile 1 at rest (omega arith) refl) refl
public_again false at rest = rw (where_again (λ n. ltb n 2) BadFile 0 at rest (omega arith) refl) refl

-- a file after others of this number of bytes
record FileFits (before : ℕ) (f : FileImage) : Type 0 where
  owner : f.owner < 2 ^ 32
  room : before + length f.bytes ≤ MOST_FILE_BYTES

file_takes : (before : ℕ) (r : Rest) (f : FileImage) (after : Rest) → IsBytes r.bytes → file_at before r ≡ Ok (f, after) → Takes r (file f) after × FileFits before f
unfolding file_at
file_takes before r f after fits e =
    let a = bind_ok (number_at r) _ _ e in
    let b = bind_ok (public_at a.0.1) _ _ a.2 in
    let c = bind_ok (length_at before b.0.1) _ _ b.2 in
    let d = bind_ok (bytes_at c.0.0 c.0.1) _ _ c.2 in
    let ta = number_takes r a.0.0 a.0.1 fits a.1 in
    let tb = public_takes a.0.1 b.0.0 b.0.1 ta.0.rest_fits b.1 in
    let tc = where_takes _ _ b.0.1 c.0.0 c.0.1 tb.rest_fits c.1 in
    let td = bytes_take c.0.0 c.0.1 d.0.0 d.0.1 tc.0.rest_fits d.1 in
    let e2 = Takes-then b.0.1 (number c.0.0) c.0.1 d.0.0 d.0.1 tc.0 td.0 in
    let e2' : Takes b.0.1 (number (length d.0.0) ++ d.0.0) d.0.1 = subst (λ (n : ℕ). Takes b.0.1 (number n ++ d.0.0) d.0.1) (sym td.1) e2 in
    let e1 = Takes-then a.0.1 (flag b.0.0) b.0.1 (number (length d.0.0) ++ d.0.0) d.0.1 tb e2' in
    let e0 = Takes-then r (number a.0.0) a.0.1 (flag b.0.0 ++ (number (length d.0.0) ++ d.0.0)) d.0.1 ta.0 e1 in
    let room : before + length d.0.0 ≤ MOST_FILE_BYTES = subst (λ (n : ℕ). before + n ≤ MOST_FILE_BYTES) (sym td.1) (leb-true _ _ tc.2) in
    let made : FileImage × Rest = (record { owner = a.0.0; public = b.0.0; bytes = d.0.0 }, d.0.1) in
    subst (λ (y : FileImage × Rest). Takes r (file y.0) y.1 × FileFits before y.0) (ok_is made (f, after) d.2) (e0, record { owner = ta.1; room = room })

pub flag_len : (b : Bool) → length (flag b) ≡ 4
flag_len true = refl
flag_len false = refl

file_len : (f : FileImage) → length (file f) ≡ 12 + length f.bytes
file_len f =
    omega (arith, length-append (number f.owner) (flag f.public ++ (number (length f.bytes) ++ f.bytes)), length-append (flag f.public) (number (length f.bytes) ++ f.bytes), flag_len f.public, length-append (number (length f.bytes)) f.bytes)

file_again : (before : ℕ) (f : FileImage) (at : ℕ) (rest : List ℕ) → FileFits before f → file_at before (from at (file f ++ rest)) ≡ Ok (f, from (at + length (file f)) rest)
unfolding file_at
file_again before f at rest fits =
    let short : length f.bytes < 2 ^ 32 = omega (arith, fits.room) in
    let place : (((at + 4) + 4) + 4) + length f.bytes ≡ at + length (file f) = omega (arith, file_len f) in
    rw (
      number_again f.owner at (flag f.public ++ (number (length f.bytes) ++ (f.bytes ++ rest))) fits.owner,
      public_again f.public (at + 4) (number (length f.bytes) ++ (f.bytes ++ rest)),
      where_again _ _ (length f.bytes) ((at + 4) + 4) (f.bytes ++ rest) short (le-leb _ _ fits.room),
      bytes_again (length f.bytes) (((at + 4) + 4) + 4) f.bytes rest refl,
      place,
    ) refl

pub files_take : TakesEach AreFiles file next_file
files_take = record {
  takes = λ before r x after fits p e.
      let t = file_takes (content before) r x after fits e in (
        t.0,
        record {
          owners = All-push (λ f. f.owner < 2 ^ 32) before x p.owners t.1.owner;
          content = subst (λ (n : ℕ). n ≤ MOST_FILE_BYTES) (sym (sum_by_push (λ f. length f.bytes) before x)) t.1.room;
        },
      );
}

pub files_read : ReadsEach AreFiles file next_file
files_read = record {
  reads = λ before x at rest p. file_again (content before) x at rest (record {
    owner = All-last (λ f. f.owner < 2 ^ 32) before x p.owners;
    room = subst (λ (n : ℕ). n ≤ MOST_FILE_BYTES) (sum_by_push (λ f. length f.bytes) before x) p.content;
  });
  front = λ before after p. record {
    owners = All-front (λ f. f.owner < 2 ^ 32) before after p.owners;
    content = omega (arith, p.content, sum_by-append (λ (f : FileImage). length f.bytes) before after);
  };
}

-- bytes that are some
pub not_nil : (bytes : List ℕ) → (bytes ≡ [] → ⊥) → eqb (length bytes) 0 ≡ false
not_nil [] some = absurd (some refl)
not_nil (b ∷ bytes) some = grind (arith, nat_tests)

-- a number that is not below a limit
at_least : (n limit : ℕ) → ltb n limit ≡ false → limit ≤ n
at_least n limit e = ltb-false n limit e

too_many : (n limit : ℕ) → leb n limit ≡ false → limit < n
too_many n limit e = grind (arith, nat_tests)

pub file_stop : {form : Form} (whole : Rest) (h : Header) (files : List FileImage) (front : List ℕ) (r : Rest) (s : Refusal ImageRule) → InFiles form h files front → Takes whole front r → next_file files r ≡ Err s → Stops form whole s
unfolding file_at Breaks
file_stop whole h files front r s place t e0 =
    elim (bind_err (number_at r) _ s e0) [
      | inl short ↦ ends_early whole front r s t (number_stop r s short)
      | inr a ↦
          let ta = number_takes r a.0.0 a.0.1 t.rest_fits a.1 in
          let t1 = Takes-then whole front r (number a.0.0) a.0.1 t ta.0 in
          elim (bind_err (public_at a.0.1) _ s a.2) [
            | inl e1 ↦ elim (bind_err (number_where (λ n. ltb n 2) BadFile a.0.1) _ s e1) [
              | inl stop ↦ elim (where_stop _ _ a.0.1 s t1.rest_fits stop) [
                | inl short ↦ ends_early whole (front ++ number a.0.0) a.0.1 s t1 short
                | inr bad ↦ stops_at whole (front ++ number a.0.0) a.0.1 BadFile s t1 (inl (record {
                  head = h;
                  files = files;
                  start = front;
                  place = place;
                  owner = a.0.0;
                  fits = ta.1;
                  is = refl;
                  flag = bad.0;
                  next = (bad.1.fits, (bad.1.rest, bad.1.is));
                  high = at_least bad.0 2 bad.1.fails;
                })) bad.2
              ]
              | inr n ↦ absurd cc
            ]
            | inr b ↦
                let tb = public_takes a.0.1 b.0.0 b.0.1 ta.0.rest_fits b.1 in
                let t2 = Takes-then whole front r (number a.0.0 ++ flag b.0.0) b.0.1 t (Takes-then r (number a.0.0) a.0.1 (flag b.0.0) b.0.1 ta.0 tb) in
                elim (bind_err (length_at (content files) b.0.1) _ s b.2) [
                  | inl stop ↦ elim (where_stop _ _ b.0.1 s t2.rest_fits stop) [
                    | inl short ↦ ends_early whole (front ++ (number a.0.0 ++ flag b.0.0)) b.0.1 s t2 short
                    | inr bad ↦ stops_at whole (front ++ (number a.0.0 ++ flag b.0.0)) b.0.1 BadFile s t2 (inr (record {
                      head = h;
                      files = files;
                      start = front;
                      place = place;
                      owner = a.0.0;
                      fits = ta.1;
                      public = b.0.0;
                      is = refl;
                      length = bad.0;
                      next = (bad.1.fits, (bad.1.rest, bad.1.is));
                      high = too_many (content files + bad.0) MOST_FILE_BYTES bad.1.fails;
                    })) bad.2
                  ]
                  | inr c ↦
                      let tc = where_takes _ _ b.0.1 c.0.0 c.0.1 tb.rest_fits c.1 in
                      elim (bind_err (bytes_at c.0.0 c.0.1) _ s c.2) [
                        | inl short ↦ ends_early whole ((front ++ (number a.0.0 ++ flag b.0.0)) ++ number c.0.0) c.0.1 s (Takes-then whole (front ++ (number a.0.0 ++ flag b.0.0)) b.0.1 (number c.0.0) c.0.1 t2 tc.0) (bytes_stop c.0.0 c.0.1 s short)
                        | inr d ↦ absurd cc
                      ]
                ]
          ]
    ]

pub public_fails : (files : List FileImage) (owner n at : ℕ) (rest : List ℕ) → owner < 2 ^ 32 → n < 2 ^ 32 → 2 ≤ n → next_file files (from at (number owner ++ (number n ++ rest))) ≡ Err (record { rule = BadFile; at = at + 4 })
unfolding file_at
public_fails files owner n at rest fits lt high = rw (number_again owner at (number n ++ rest) fits, where_fails (λ n. ltb n 2) BadFile n (at + 4) rest lt (le-ltb _ _ high)) refl

not_within : (n limit : ℕ) → limit < n → leb n limit ≡ false
not_within n limit lt = grind (arith, nat_tests)

pub length_fails : (files : List FileImage) (owner : ℕ) (public : Bool) (n at : ℕ) (rest : List ℕ) → owner < 2 ^ 32 → n < 2 ^ 32 → MOST_FILE_BYTES < content files + n
    → next_file files (from at (number owner ++ (flag public ++ (number n ++ rest)))) ≡ Err (record { rule = BadFile; at = (at + 4) + 4 })
unfolding file_at
length_fails files owner public n at rest fits lt high =
    rw (
      number_again owner at (flag public ++ (number n ++ rest)) fits,
      public_again public (at + 4) (number n ++ rest),
      where_fails (λ n. leb (content files + n) MOST_FILE_BYTES) BadFile n ((at + 4) + 4) rest lt (not_within (content files + n) MOST_FILE_BYTES high),
    ) refl

-- ---- slots

slot_rise : (slots : List SlotImage) (s : SlotImage) → rising (slot_numbers (slots ++ s ∷ [])) ≡ (rising (slot_numbers slots) && is_above (last (slot_numbers slots)) s.slot)
slot_rise slots s = rw map_push (rising-push None (slot_numbers slots) s.slot)

abbrev next_place : List SlotImage → ℕ → Bool
next_place slots = is_next_slot (last (slot_numbers slots))

-- a slot that passes the tests comes after slots
slot_follows : (count : ℕ) (slots : List SlotImage) (s : SlotImage) → AreSlots count slots → next_place slots s.slot ≡ true → s.file < count → AreSlots count (slots ++ s ∷ [])
slot_follows count slots s are test lt =
    let tests = and_parts _ _ test in
    let front = and_parts _ _ tests.0 in
    record {
      above = All-push (λ s. FIRST_SLOT ≤ s.slot) slots s are.above (leb-true _ _ front.0);
      below = All-push (λ s. s.slot < SLOTS) slots s are.below (ltb-true _ _ front.1);
      rise = slot_rise slots s ∙ and_from _ _ are.rise tests.1;
      files = All-push (λ s. s.file < count) slots s are.files lt;
    }

-- the number of a slot that comes after slots passes the test
place_follows : (count : ℕ) (slots : List SlotImage) (s : SlotImage) → AreSlots count (slots ++ s ∷ []) → next_place slots s.slot ≡ true
place_follows count slots s are =
    let from_first = All-last (λ s. FIRST_SLOT ≤ s.slot) slots s are.above in
    let below = All-last (λ s. s.slot < SLOTS) slots s are.below in
    let above = and_parts _ _ (sym (slot_rise slots s) ∙ are.rise) in
    and_from _ _ (and_from _ _ (le-leb _ _ from_first) (lt-ltb _ _ below)) above.1

slot_takes : (count : ℕ) (slots : List SlotImage) (r : Rest) (s : SlotImage) (after : Rest) → IsBytes r.bytes → next_slot count slots r ≡ Ok (s, after) → Takes r (slot s) after × (next_place slots s.slot ≡ true) × (s.file < count)
unfolding slot_at
slot_takes count slots r s after fits e =
    let a = bind_ok (number_where (next_place slots) BadSlot r) _ _ e in
    let b = bind_ok (number_where (λ n. ltb n count) BadSlot a.0.1) _ _ a.2 in
    let ta = where_takes _ _ r a.0.0 a.0.1 fits a.1 in
    let tb = where_takes _ _ a.0.1 b.0.0 b.0.1 ta.0.rest_fits b.1 in
    let made : SlotImage × Rest = (record { slot = a.0.0; file = b.0.0 }, b.0.1) in
    subst (λ (y : SlotImage × Rest). Takes r (slot y.0) y.1 × (next_place slots y.0.slot ≡ true) × (y.0.file < count)) (ok_is made (s, after) b.2)
    (Takes-then r (number a.0.0) a.0.1 (number b.0.0) b.0.1 ta.0 tb.0, ta.2, ltb-true _ _ tb.2)

slot_again : (count : ℕ) (slots : List SlotImage) (s : SlotImage) (at : ℕ) (rest : List ℕ) → count < 2 ^ 32 → s.slot < SLOTS → next_place slots s.slot ≡ true → s.file < count → next_slot count slots (from at (slot s ++ rest)) ≡ Ok (s, from (at + 8) rest)
unfolding slot_at
slot_again count slots s at rest few below test lt =
    let small : s.slot < 2 ^ 32 = omega arith in
    let small' : s.file < 2 ^ 32 = omega arith in
    let place : (at + 4) + 4 ≡ at + 8 = omega arith in
    rw (where_again _ _ s.slot at (number s.file ++ rest) small test, where_again _ _ s.file (at + 4) rest small' (lt-ltb _ _ lt), place) refl

pub slots_take : (count : ℕ) → TakesEach (AreSlots count) slot (next_slot count)
slots_take count = record {
  takes = λ before r x after fits p e. let t = slot_takes count before r x after fits e in (t.0, slot_follows count before x p t.1 t.2);
}

pub slots_read : (count : ℕ) → count < 2 ^ 32 → ReadsEach (AreSlots count) slot (next_slot count)
slots_read count few = record {
  reads = λ before x at rest p. slot_again count before x at rest few (All-last (λ s. s.slot < SLOTS) before x p.below) (place_follows count before x p) (All-last (λ s. s.file < count) before x p.files);
  front = λ before after p. record {
    above = All-front (λ s. FIRST_SLOT ≤ s.slot) before after p.above;
    below = All-front (λ s. s.slot < SLOTS) before after p.below;
    rise = rising-front None (slot_numbers before) (slot_numbers after) (ap rising (sym (map-append (λ s. s.slot) before after)) ∙ p.rise);
    files = All-front (λ s. s.file < count) before after p.files;
  };
}

-- where slots have their files, a slot with the next file may have a number that passes the test
may_follow : (count : ℕ) (slots : List SlotImage) (n : ℕ) → AreSlots count slots → next_place slots n ≡ true → SlotMayFollow slots n
may_follow count slots n are test =
    let more : AreSlots (count + 1) slots = record { above = are.above; below = are.below; rise = are.rise; files = All-weaker (λ s. s.file < count) (λ s. s.file < count + 1) (λ s lt. omega arith) slots are.files } in
    (count + 1, 0, slot_follows (count + 1) slots (record { slot = n; file = 0 }) more test (omega arith))

pub slot_stop : {form : Form} (file : Rest) (h : Header) (slots : List SlotImage) (front : List ℕ) (r : Rest) (s : Refusal ImageRule) → InSlots form h slots front → Takes file front r → next_slot h.files slots r ≡ Err s → Stops form file s
unfolding slot_at Breaks
slot_stop file h slots front r s place t e =
    elim (bind_err (number_where (next_place slots) BadSlot r) _ s e) [
      | inl stop ↦ elim (where_stop _ _ r s t.rest_fits stop) [
        | inl short ↦ ends_early file front r s t short
        | inr bad ↦ stops_at file front r BadSlot s t (inl (
          h,
          slots,
          bad.0,
          place,
          (bad.1.fits, (bad.1.rest, bad.1.is)),
          λ follows. false≢true (sym bad.1.fails ∙ place_follows follows.0 slots (record { slot = bad.0; file = follows.1 }) follows.2),
        )) bad.2
      ]
      | inr a ↦
          let ta = where_takes _ _ r a.0.0 a.0.1 t.rest_fits a.1 in
          let t1 = Takes-then file front r (number a.0.0) a.0.1 t ta.0 in
          elim (bind_err (number_where (λ n. ltb n h.files) BadSlot a.0.1) _ s a.2) [
            | inl stop ↦ elim (where_stop _ _ a.0.1 s t1.rest_fits stop) [
              | inl short ↦ ends_early file (front ++ number a.0.0) a.0.1 s t1 short
              | inr bad ↦ stops_at file (front ++ number a.0.0) a.0.1 BadSlot s t1 (inr (record {
                head = h;
                slots = slots;
                start = front;
                place = place;
                slot = a.0.0;
                fits = may_follow h.files slots a.0.0 place.0.valid ta.2;
                is = refl;
                file = bad.0;
                next = (bad.1.fits, (bad.1.rest, bad.1.is));
                high = at_least bad.0 h.files bad.1.fails;
              })) bad.2
            ]
            | inr b ↦ absurd cc
          ]
    ]

-- a number that no slot may have fails the test
no_slot : (count : ℕ) (slots : List SlotImage) (n : ℕ) (test : Bool) → AreSlots count slots → next_place slots n ≡ test → (SlotMayFollow slots n → ⊥) → test ≡ false
no_slot count slots n true are test none = absurd (none (may_follow count slots n are test))
no_slot count slots n false are test none = refl

pub slot_fails : (count : ℕ) (slots : List SlotImage) (n at : ℕ) (rest : List ℕ) → AreSlots count slots → n < 2 ^ 32 → (SlotMayFollow slots n → ⊥) → next_slot count slots (from at (number n ++ rest)) ≡ Err (record { rule = BadSlot; at = at })
unfolding slot_at
slot_fails count slots n at rest are lt none = rw (where_fails (next_place slots) BadSlot n at rest lt (no_slot count slots n (next_place slots n) are refl none)) refl

pub slot_file_fails : (count : ℕ) (slots : List SlotImage) (n file at : ℕ) (rest : List ℕ) → SlotMayFollow slots n → file < 2 ^ 32 → count ≤ file → next_slot count slots (from at (number n ++ (number file ++ rest))) ≡ Err (record { rule = BadSlot; at = at + 4 })
unfolding slot_at
slot_file_fails count slots n file at rest (some, other, are) lt high =
    let below : n < SLOTS = All-last (λ s. s.slot < SLOTS) slots (record { slot = n; file = other }) are.below in
    rw (
      where_again (next_place slots) BadSlot n at (number file ++ rest) (omega arith) (place_follows some slots (record { slot = n; file = other }) are),
      where_fails (λ n. ltb n count) BadSlot file (at + 4) rest lt (le-ltb _ _ high),
    ) refl

-- ---- entries

pub entries_take : (count : ℕ) → TakesEach (All (λ e. e < count)) number (next_entry count)
entries_take count = record {
  takes = λ before r x after fits p e.
      let t = where_takes _ _ r x after fits e in
      (t.0, All-push (λ e. e < count) before x p (ltb-true _ _ t.2));
}

pub entries_read : (count : ℕ) → count < 2 ^ 32 → ReadsEach (All (λ e. e < count)) number (next_entry count)
entries_read count few = record {
  reads = λ before x at rest p.
      let lt : x < count = All-last (λ e. e < count) before x p in
      let small : x < 2 ^ 32 = omega arith in
      where_again _ _ x at rest small (lt-ltb _ _ lt);
  front = λ before after p. All-front (λ e. e < count) before after p;
}

pub entry_stop : {form : Form} (file : Rest) (h : Header) (entries : List ℕ) (front : List ℕ) (r : Rest) (s : Refusal ImageRule) → InEntries form h entries front → Takes file front r → next_entry h.instructions entries r ≡ Err s → Stops form file s
unfolding Breaks
entry_stop file h entries front r s place t e =
    elim (where_stop _ _ r s t.rest_fits e) [
      | inl short ↦ ends_early file front r s t short
      | inr bad ↦ stops_at file front r BadEntry s t (h, entries, bad.0, place, (bad.1.fits, (bad.1.rest, bad.1.is)), at_least bad.0 h.instructions bad.1.fails) bad.2
    ]

pub entry_fails : (count n at : ℕ) (rest : List ℕ) → n < 2 ^ 32 → count ≤ n → entry_at count (from at (number n ++ rest)) ≡ Err (record { rule = BadEntry; at = at })
entry_fails count n at rest lt high = where_fails (λ n. ltb n count) BadEntry n at rest lt (le-ltb _ _ high)
