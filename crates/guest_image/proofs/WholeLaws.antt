-- The whole image: what is read is an image and its bytes, the bytes of an image are read, and other bytes are refused.
use Rattle.std.proofs.Common.{◌≡◌, inl, inr, ℕ, ◌+◌, ◌*◌, ◌^◌, ◌<◌, ◌≤◌, false, eqb, List, [], ◌∷◌, ◌++◌, length, Ok, Err, refl, sym, ap, subst, ◌∙◌, append_assoc, arith, All}
use Rattle.std.specs.List.{flat_map, sum_by}
use Rattle.std.specs.Prelude.{IsTrue}
use Rattle.std.proofs.lemmas.Bool.{cases_lt, eqb-true, le-ltb, lt-ltb}
use Rattle.std.proofs.lemmas.Bool.Decides.{nat_tests}
use Rattle.std.proofs.lemmas.List.{append-nil, nil_from_length, length-append, get_or_append_left, get_or-append-add, get_or_past}
use Rattle.std.proofs.lemmas.List.Concat.{length-flat_map}
use Rattle.std.proofs.lemmas.List.Elements.{All-nil, All-weaker}
use Rattle.std.proofs.lemmas.List.Sums.{sum_by-le, sum_by-cons}
use Rattle.lwc_types.specs.Outcomes.{Refusal}
use Rattle.lwc_types.specs.declared.file_image.FileImage.{FileImage}
use Rattle.lwc_types.specs.declared.key.TheConstants.{SLOTS}
use Rattle.lwc_types.specs.declared.limits.TheConstants.{MOST_BYTES_OF_FORM_ONE, MOST_IMAGE_BYTES}
use Rattle.lwc_types.specs.declared.page.TheConstants.{PAGE_BYTES}
use Rattle.guest_isa.specs.declared.instr.Instr.{Instr}
use Rattle.guest_isa.specs.Spelling as instructions
use Rattle.guest_image.specs.declared.fault.ImageRule.{ImageRule}
use Rattle.guest_image.specs.declared.fault.ImageRule.TheVariants.{TooLong, BadMagic, Truncated, BadCount, BadInstruction, BadTarget, BadPage, BadFile, BadSlot, BadEntry, Trailing}
use Rattle.guest_image.specs.declared.header.Header.{Header}
use Rattle.guest_image.specs.declared.image.Form.{Form}
use Rattle.guest_image.specs.declared.image.Form.TheVariants.{One, Two}
use Rattle.guest_image.specs.declared.image.Image.{Image}
use Rattle.guest_image.specs.declared.image.PageImage.{PageImage}
use Rattle.guest_image.specs.declared.image.SlotImage.{SlotImage}
use Rattle.guest_image.specs.declared.image.TheConstants.{FIRST_SLOT}
use Rattle.guest_image.specs.Rest.{Rest}
use Rattle.guest_image.specs.Numbers.{rising_after, ranges_after}
use Rattle.guest_image.specs.Limits.{pages_of, stays_inside, content, ArePages, AreFiles, AreSlots, IsImage}
use Rattle.guest_image.specs.Spelling.{number, flag, header, page, file as file_spelling, slot, header_of, body, spelling}
use Rattle.guest_image.specs.Reading.{Read, header_at, next_instruction, next_page, next_file, next_slot, next_entry, instructions_at, pages_at, files_at, slots_at, entries_at, unless_trailing, made_of, parts_at, form_of, limit_of, image_at}
use Rattle.guest_image.specs.Refusals.{count_ranges, counts_of, AreInRanges, IsCode, AfterHeader, AfterText, AfterPages, AfterFiles, AfterSlots, Breaks, IsBroken, IsCutOff, IsRefused}
use Rattle.guest_image.proofs.FieldLaws.{IsBytes, from, bind_ok, bind_err, passed, failed, Takes, end_of}
use Rattle.guest_image.proofs.Stops.{Stops, StopsAt, stops_at}
use Rattle.guest_image.proofs.HeaderLaws.{header_takes, header_again, header_stop, header_breaks_magic, header_breaks_count}
use Rattle.guest_image.proofs.ValueLaws.{values_take, values_stop, values_again, all_read, some_fail}
use Rattle.guest_image.proofs.PartLaws.{flag_len, not_nil, code_takes, code_reads, instruction_stop, instruction_fails, target_fails, pages_take, pages_read, page_stop, page_fails, files_take, files_read, file_stop, public_fails, length_fails, slots_take, slots_read, slot_stop, slot_fails, slot_file_fails, entries_take, entries_read, entry_stop, entry_fails}

no_pages : (form : Form) → ArePages form []
unfolding rising_after ranges_after
no_pages form = record { numbers = All-nil (λ p. p.number < pages_of form); rise = refl; ranges = omega arith; whole = All-nil (λ p. length p.bytes ≡ PAGE_BYTES) }

no_files : AreFiles []
no_files = record { owners = All-nil (λ f. f.owner < 2 ^ 32); content = omega arith }

no_slots : (count : ℕ) → AreSlots count []
unfolding rising_after
no_slots count = record { above = All-nil (λ s. FIRST_SLOT ≤ s.slot); below = All-nil (λ s. s.slot < SLOTS); rise = refl; files = All-nil (λ s. s.file < count) }

no_code : (count : ℕ) → IsCode count []
no_code count = record { instructions = All-nil _; targets = All-nil _ }

no_entries : (count : ℕ) → All (λ (e : ℕ). e < count) []
no_entries count = All-nil (λ e. e < count)

same_header : (form : Form) (h k : Header) → h.instructions ≡ k.instructions → h.pages ≡ k.pages → h.files ≡ k.files → h.slots ≡ k.slots → h.threads ≡ k.threads → h.uid ≡ k.uid → header form h ≡ header form k
same_header form h k a b c d t u = rw (a, b, c, d, t, u) refl

-- lists that are as long as a header says
record AreLists (form : Form) (h : Header) (xs : List Instr) (ps : List PageImage) (fs : List FileImage) (ss : List SlotImage) (es : List ℕ) : Type 0 where
  text : IsCode h.instructions xs × (length xs ≡ h.instructions)
  pages : ArePages form ps × (length ps ≡ h.pages)
  files : AreFiles fs × (length fs ≡ h.files)
  slots : AreSlots h.files ss × (length ss ≡ h.slots)
  entries : All (λ e. e < h.instructions) es × (length es ≡ h.threads)

-- an image of such lists is within the limits
within : (form : Form) (h : Header) (front : List ℕ) (text : List Instr) (pages : List PageImage) (files : List FileImage) (slots : List SlotImage) (entries : List ℕ) → AfterHeader form h front → AreLists form h text pages files slots entries → IsImage (made_of form h text pages files slots entries)
within form h front text pages files slots entries fits are = record {
  text = record { some = omega (arith, are.text.1, fits.counts.0.0); bounded = omega (arith, are.text.1, fits.counts.0.1); instructions = are.text.0.instructions };
  targets = subst (λ (n : ℕ). All (λ i. IsTrue (stays_inside n i)) text) (sym are.text.1) are.text.0.targets;
  uid = fits.uid;
  page_count = omega (arith, are.pages.1, fits.counts.1.0.1);
  pages = are.pages.0;
  file_count = omega (arith, are.files.1, fits.counts.1.1.0.1);
  files = are.files.0;
  slot_count = omega (arith, are.slots.1, fits.counts.1.1.1.0.1);
  slots = subst (λ (n : ℕ). AreSlots n slots) (sym are.files.1) are.slots.0;
  some_thread = omega (arith, are.entries.1, fits.counts.1.1.1.1.0.0);
  thread_count = omega (arith, are.entries.1, fits.counts.1.1.1.1.0.1);
  entries = subst (λ (n : ℕ). All (λ e. e < n) entries) (sym are.text.1) are.entries.0;
}

-- the parts of a file, one after another
abbrev joined : Form → Header → List Instr → List PageImage → List FileImage → List SlotImage → List ℕ → List ℕ
joined form h text pages files slots entries =
    ((((header form h ++ flat_map instructions.spelling text) ++ flat_map page pages) ++ flat_map file_spelling files) ++ flat_map slot slots) ++ flat_map number entries

spelled : (form : Form) (h : Header) (text : List Instr) (pages : List PageImage) (files : List FileImage) (slots : List SlotImage) (entries : List ℕ) → AreLists form h text pages files slots entries → joined form h text pages files slots entries ≡ spelling (made_of form h text pages files slots entries)
unfolding spelling
spelled form h text pages files slots entries are =
    let t = flat_map instructions.spelling text in
    let p = flat_map page pages in
    let f = flat_map file_spelling files in
    let s = flat_map slot slots in
    let e = flat_map number entries in
    let image = made_of form h text pages files slots entries in
    append_assoc (((header form h ++ t) ++ p) ++ f) s e
    ∙ append_assoc ((header form h ++ t) ++ p) f (s ++ e)
    ∙ append_assoc (header form h ++ t) p (f ++ (s ++ e))
    ∙ append_assoc (header form h) t (p ++ (f ++ (s ++ e)))
    ∙ ap (λ (l : List ℕ). l ++ body image) (same_header form h (header_of image) (sym are.text.1) (sym are.pages.1) (sym are.files.1) (sym are.slots.1) (sym are.entries.1) refl)

-- what was taken up to a byte behind the last entry
record Parts (file : Rest) (image : Image) (after : Rest) : Type 0 where
  is : IsImage image
  takes : Takes file (spelling image) after

no_trailing : (r : Rest) (made image : Image) → unless_trailing r made ≡ Ok image → (r.bytes ≡ []) × (made ≡ image)
no_trailing r made image e =
    let g = passed (eqb (length r.bytes) 0) (record { rule = Trailing; at = r.at }) made image e in
    (nil_from_length r.bytes (eqb-true _ _ g.0), g.1)

module _ (form : Form) (file : Rest) (fits : IsBytes file.bytes) where
  -- every part of the file was taken
  parts_ok : (h : Header) (text : List Instr) (pages : List PageImage) (files : List FileImage) (slots : List SlotImage) (entries : List ℕ) (r0 r1 r2 r3 r4 r5 : Rest)
      → header_at form file ≡ Ok (h, r0) → instructions_at h.instructions r0 ≡ Ok (text, r1) → pages_at form h.pages r1 ≡ Ok (pages, r2) → files_at h.files r2 ≡ Ok (files, r3) → slots_at h.files h.slots r3 ≡ Ok (slots, r4) → entries_at h.instructions h.threads r4 ≡ Ok (entries, r5)
      → Parts file (made_of form h text pages files slots entries) r5
  parts_ok h text pages files slots entries r0 r1 r2 r3 r4 r5 e0 e1 e2 e3 e4 e5 =
      let t0 = header_takes form file h r0 fits e0 in
      let t1 = values_take file (IsCode h.instructions) instructions.spelling (next_instruction h.instructions) (code_takes h.instructions) h.instructions (header form h) r0 text r1 (no_code h.instructions) t0.0 e1 in
      let f1 = header form h ++ flat_map instructions.spelling text in
      let t2 = values_take file (ArePages form) page (next_page form) (pages_take form) h.pages f1 r1 pages r2 (no_pages form) t1.2 e2 in
      let f2 = f1 ++ flat_map page pages in
      let t3 = values_take file AreFiles file_spelling next_file files_take h.files f2 r2 files r3 no_files t2.2 e3 in
      let f3 = f2 ++ flat_map file_spelling files in
      let t4 = values_take file (AreSlots h.files) slot (next_slot h.files) (slots_take h.files) h.slots f3 r3 slots r4 (no_slots h.files) t3.2 e4 in
      let f4 = f3 ++ flat_map slot slots in
      let t5 = values_take file (All (λ e. e < h.instructions)) number (next_entry h.instructions) (entries_take h.instructions) h.threads f4 r4 entries r5 (no_entries h.instructions) t4.2 e5 in
      let are : AreLists form h text pages files slots entries = record { text = (t1.0, t1.1); pages = (t2.0, t2.1); files = (t3.0, t3.1); slots = (t4.0, t4.1); entries = (t5.0, t5.1) } in
      record {
        is = within form h (header form h) text pages files slots entries t0.1 are;
        takes = subst (λ (l : List ℕ). Takes file l r5) (spelled form h text pages files slots entries are) t5.2;
      }

  parts_take : (image : Image) → parts_at form file ≡ Ok image → IsImage image × (file.bytes ≡ spelling image)
  unfolding parts_at
  parts_take image e =
      let h = bind_ok (header_at form file) _ _ e in
      let x = bind_ok (instructions_at h.0.0.instructions h.0.1) _ _ h.2 in
      let p = bind_ok (pages_at form h.0.0.pages x.0.1) _ _ x.2 in
      let f = bind_ok (files_at h.0.0.files p.0.1) _ _ p.2 in
      let s = bind_ok (slots_at h.0.0.files h.0.0.slots f.0.1) _ _ f.2 in
      let t = bind_ok (entries_at h.0.0.instructions h.0.0.threads s.0.1) _ _ s.2 in
      let made = made_of form h.0.0 x.0.0 p.0.0 f.0.0 s.0.0 t.0.0 in
      let g = no_trailing t.0.1 made image t.2 in
      let all = parts_ok h.0.0 x.0.0 p.0.0 f.0.0 s.0.0 t.0.0 h.0.1 x.0.1 p.0.1 f.0.1 s.0.1 t.0.1 h.1 x.1 p.1 f.1 s.1 t.1 in
      let whole : file.bytes ≡ spelling made = all.takes.parts ∙ ap (λ (l : List ℕ). spelling made ++ l) g.0 ∙ append-nil (spelling made) in
      subst (λ (i : Image). IsImage i × (file.bytes ≡ spelling i)) g.1 (all.is, whole)

  -- a byte follows the last entry
  trailing_stop : (r : Rest) (made : Image) (s : Refusal ImageRule) → Parts file made r → made.form ≡ form → unless_trailing r made ≡ Err s → Stops form file s
  unfolding Breaks
  trailing_stop r made s parts same e =
      let f = failed (eqb (length r.bytes) 0) (record { rule = Trailing; at = r.at }) s made e in
      stops_at file (spelling made) r Trailing s parts.takes (made, parts.is, same, refl, λ none. let zero : length r.bytes ≡ 0 = ap length none in absurd (grind (arith, nat_tests))) (sym f.1)

  pub parts_stop : (s : Refusal ImageRule) → parts_at form file ≡ Err s → Stops form file s
  unfolding parts_at
  parts_stop s e =
      elim (bind_err (header_at form file) _ s e) [
        | inl stop ↦ header_stop form file s fits stop
        | inr h ↦
            let k = h.0.0 in
            let t0 = header_takes form file k h.0.1 fits h.1 in
            elim (bind_err (instructions_at k.instructions h.0.1) _ s h.2) [
              | inl stop ↦ values_stop file (IsCode k.instructions) instructions.spelling (next_instruction k.instructions) (code_takes k.instructions) k.instructions (header form k) (AfterHeader form k) t0.1 (instruction_stop file k) h.0.1 s (no_code k.instructions) t0.0 stop
              | inr x ↦
                  let t1 = values_take file (IsCode k.instructions) instructions.spelling (next_instruction k.instructions) (code_takes k.instructions) k.instructions (header form k) h.0.1 x.0.0 x.0.1 (no_code k.instructions) t0.0 x.1 in
                  let f1 = header form k ++ flat_map instructions.spelling x.0.0 in
                  let a1 : AfterText form k f1 = (x.0.0, record { start = header form k; before = t0.1; valid = t1.0; spelled = refl }, t1.1) in
                  elim (bind_err (pages_at form k.pages x.0.1) _ s x.2) [
                    | inl stop ↦ values_stop file (ArePages form) page (next_page form) (pages_take form) k.pages f1 (AfterText form k) a1 (page_stop form file k) x.0.1 s (no_pages form) t1.2 stop
                    | inr p ↦
                        let t2 = values_take file (ArePages form) page (next_page form) (pages_take form) k.pages f1 x.0.1 p.0.0 p.0.1 (no_pages form) t1.2 p.1 in
                        let f2 = f1 ++ flat_map page p.0.0 in
                        let a2 : AfterPages form k f2 = (p.0.0, record { start = f1; before = a1; valid = t2.0; spelled = refl }, t2.1) in
                        elim (bind_err (files_at k.files p.0.1) _ s p.2) [
                          | inl stop ↦ values_stop file AreFiles file_spelling next_file files_take k.files f2 (AfterPages form k) a2 (file_stop file k) p.0.1 s no_files t2.2 stop
                          | inr f ↦
                              let t3 = values_take file AreFiles file_spelling next_file files_take k.files f2 p.0.1 f.0.0 f.0.1 no_files t2.2 f.1 in
                              let f3 = f2 ++ flat_map file_spelling f.0.0 in
                              let a3 : AfterFiles form k f3 = (f.0.0, record { start = f2; before = a2; valid = t3.0; spelled = refl }, t3.1) in
                              elim (bind_err (slots_at k.files k.slots f.0.1) _ s f.2) [
                                | inl stop ↦ values_stop file (AreSlots k.files) slot (next_slot k.files) (slots_take k.files) k.slots f3 (AfterFiles form k) a3 (slot_stop file k) f.0.1 s (no_slots k.files) t3.2 stop
                                | inr t ↦
                                    let t4 = values_take file (AreSlots k.files) slot (next_slot k.files) (slots_take k.files) k.slots f3 f.0.1 t.0.0 t.0.1 (no_slots k.files) t3.2 t.1 in
                                    let f4 = f3 ++ flat_map slot t.0.0 in
                                    let a4 : AfterSlots form k f4 = (t.0.0, record { start = f3; before = a3; valid = t4.0; spelled = refl }, t4.1) in
                                    elim (bind_err (entries_at k.instructions k.threads t.0.1) _ s t.2) [
                                      | inl stop ↦ values_stop file (All (λ e. e < k.instructions)) number (next_entry k.instructions) (entries_take k.instructions) k.threads f4 (AfterSlots form k) a4 (entry_stop file k) t.0.1 s (no_entries k.instructions) t4.2 stop
                                      | inr u ↦ trailing_stop u.0.1 (made_of form k x.0.0 p.0.0 f.0.0 t.0.0 u.0.0) s (parts_ok k x.0.0 p.0.0 f.0.0 t.0.0 u.0.0 h.0.1 x.0.1 p.0.1 f.0.1 t.0.1 u.0.1 h.1 x.1 p.1 f.1 t.1 u.1) refl u.2
                                    ]
                              ]
                        ]
                  ]
            ]
      ]

-- ---- what was written is read again

regroup : (t p f s e rest : List ℕ) → (t ++ (p ++ (f ++ (s ++ e)))) ++ rest ≡ t ++ (p ++ (f ++ (s ++ (e ++ rest))))
regroup t p f s e rest = simp append_assoc

parts_again : (image : Image) (rest : List ℕ) → IsImage image → parts_at image.form (from 0 (spelling image ++ rest)) ≡ unless_trailing (from (length (spelling image)) rest) image
unfolding parts_at spelling
parts_again image rest is =
    let h = header_of image in
    let count = length image.text in
    let t = flat_map instructions.spelling image.text in
    let p = flat_map page image.pages in
    let f = flat_map file_spelling image.files in
    let s = flat_map slot image.slots in
    let e = flat_map number image.entries in
    let are : AreInRanges (count_ranges image.form) (counts_of h) =
    ((is.text.some, is.text.bounded), ((omega arith, is.page_count), ((omega arith, is.file_count), ((omega arith, is.slot_count), ((is.some_thread, is.thread_count), tt))))) in
    let code : IsCode count image.text = record { instructions = is.text.instructions; targets = is.targets } in
    let short : count < 2 ^ 32 = omega (arith, is.text.bounded) in
    let few : length image.files < 2 ^ 32 = omega (arith, is.file_count) in
    let place : ((((28 + length t) + length p) + length f) + length s) + length e ≡ length (spelling image) =
    omega (arith, length-append (header image.form h) (t ++ (p ++ (f ++ (s ++ e)))), length-append t (p ++ (f ++ (s ++ e))), length-append p (f ++ (s ++ e)), length-append f (s ++ e), length-append s e) in
    let all : spelling image ++ rest ≡ header image.form h ++ (t ++ (p ++ (f ++ (s ++ (e ++ rest))))) = append_assoc (header image.form h) (body image) rest ∙ ap (λ (l : List ℕ). header image.form h ++ l) (regroup t p f s e rest) in
    let read : parts_at image.form (from 0 (header image.form h ++ (t ++ (p ++ (f ++ (s ++ (e ++ rest))))))) ≡ unless_trailing (from (((((28 + length t) + length p) + length f) + length s) + length e) rest) image =
    rw (
      header_again image.form h (t ++ (p ++ (f ++ (s ++ (e ++ rest))))) are is.uid,
      values_again (IsCode count) instructions.spelling (next_instruction count) (code_reads count) image.text 28 (p ++ (f ++ (s ++ (e ++ rest)))) code,
      values_again (ArePages image.form) page (next_page image.form) (pages_read image.form) image.pages (28 + length t) (f ++ (s ++ (e ++ rest))) is.pages,
      values_again AreFiles file_spelling next_file files_read image.files ((28 + length t) + length p) (s ++ (e ++ rest)) is.files,
      values_again (AreSlots (length image.files)) slot (next_slot (length image.files)) (slots_read (length image.files) few) image.slots (((28 + length t) + length p) + length f) (e ++ rest) is.slots,
      values_again (All (λ e. e < count)) number (next_entry count) (entries_read count short) image.entries ((((28 + length t) + length p) + length f) + length s) rest is.entries,
    ) refl in
    ap (λ (l : List ℕ). parts_at image.form (from 0 l)) all ∙ read ∙ ap (λ (n : ℕ). unless_trailing (from n rest) image) place

-- ---- an image is short enough

text_len : (text : List Instr) → length (flat_map instructions.spelling text) ≤ length text * 8
text_len text = rw (length-flat_map instructions.spelling text) (sum_by-le (λ i. length (instructions.spelling i)) 8 text (λ k d lt. omega arith))

pages_len : (pages : List PageImage) → All (λ p. length p.bytes ≡ PAGE_BYTES) pages → length (flat_map page pages) ≤ length pages * 4100
pages_len pages whole = rw (length-flat_map page pages) (sum_by-le (λ p. length (page p)) 4100 pages (All-weaker (λ p. length p.bytes ≡ PAGE_BYTES) (λ p. length (page p) ≤ 4100) (λ p e. omega (arith, e)) pages whole))

files_sum : (files : List FileImage) → sum_by (λ f. length (file_spelling f)) files ≤ length files * 12 + content files
files_sum [] = omega arith
files_sum (f ∷ fs) =
    let rest = files_sum fs in
    let a = sum_by-cons (λ (f : FileImage). length (file_spelling f)) f fs in
    let b = sum_by-cons (λ (f : FileImage). length f.bytes) f fs in
    omega arith

files_len : (files : List FileImage) → length (flat_map file_spelling files) ≤ length files * 12 + content files
files_len files = rw (length-flat_map file_spelling files) (files_sum files)

slots_len : (slots : List SlotImage) → length (flat_map slot slots) ≤ length slots * 8
slots_len slots = rw (length-flat_map slot slots) (sum_by-le (λ s. length (slot s)) 8 slots (λ k d lt. omega arith))

entries_len : (entries : List ℕ) → length (flat_map number entries) ≤ length entries * 4
entries_len entries = rw (length-flat_map number entries) (sum_by-le (λ e. length (number e)) 4 entries (λ k d lt. omega arith))

-- the most bytes of an image of a form
most_of : Form → ℕ
most_of One = MOST_BYTES_OF_FORM_ONE
most_of Two = MOST_IMAGE_BYTES

-- so many bytes, with a page of 4100 bytes each
few_bytes : (form : Form) (n m : ℕ) → n ≤ pages_of form → m ≤ n * 4100 + 1574372 → m ≤ most_of form
unfolding most_of
few_bytes One n m few is = omega (arith, few, is)
few_bytes Two n m few is = omega (arith, few, is)

spelling_len : (image : Image) → IsImage image → length (spelling image) ≤ most_of image.form
unfolding spelling
spelling_len image is =
    let a = text_len image.text in
    let b = pages_len image.pages is.pages.whole in
    let c = files_len image.files in
    let d = slots_len image.slots in
    let e = entries_len image.entries in
    let f = flat_map instructions.spelling image.text in
    let g = flat_map page image.pages in
    let h = flat_map file_spelling image.files in
    let i = flat_map slot image.slots in
    let j = flat_map number image.entries in
    let k = length-append f (g ++ (h ++ (i ++ j))) in
    let l = length-append g (h ++ (i ++ j)) in
    let m = length-append h (i ++ j) in
    let n = length-append i j in
    let o : length (header image.form (header_of image) ++ body image) ≡ 28 + length (body image) = length-append (header image.form (header_of image)) (body image) in
    few_bytes image.form (length image.pages) _ is.page_count (omega (arith, is.text.bounded, is.file_count, is.files.content, is.slot_count, is.thread_count))

-- ---- refusals

abbrev refusal_of : Refusal ImageRule → Read Image
refusal_of s = Err s

-- the header was read
abbrev HeaderRead : Form → Header → List ℕ → Rest → Type 0
HeaderRead form h bytes r = header_at form (from 0 bytes) ≡ Ok (h, r)

header_read : (form : Form) (h : Header) (start rest : List ℕ) → AfterHeader form h start → HeaderRead form h (start ++ rest) (from (length start) rest)
header_read form h start rest after =
    let is : start ≡ header form h = after.spelled in
    rw (is, header_again form h rest after.counts after.uid) refl

short_text : (form : Form) (h : Header) (front : List ℕ) → AfterHeader form h front → h.instructions < 2 ^ 32
short_text form h front after = omega (arith, after.counts.0.1)

few_files : (form : Form) (h : Header) (front : List ℕ) → AfterHeader form h front → h.files < 2 ^ 32
few_files form h front after = omega (arith, after.counts.1.1.0.1)

module _ (form : Form) (h : Header) where
  -- the header and the instructions were read
  abbrev TextRead : List ℕ → Rest → Type 0
  TextRead bytes r = (r1 : Rest) × (text : List Instr) × HeaderRead form h bytes r1 × (instructions_at h.instructions r1 ≡ Ok (text, r))

  -- .. and the pages
  abbrev PagesRead : List ℕ → Rest → Type 0
  PagesRead bytes r = (r1 : Rest) × (pages : List PageImage) × TextRead bytes r1 × (pages_at form h.pages r1 ≡ Ok (pages, r))

  -- .. and the files
  abbrev FilesRead : List ℕ → Rest → Type 0
  FilesRead bytes r = (r1 : Rest) × (files : List FileImage) × PagesRead bytes r1 × (files_at h.files r1 ≡ Ok (files, r))

  -- .. and the slots
  abbrev SlotsRead : List ℕ → Rest → Type 0
  SlotsRead bytes r = (r1 : Rest) × (slots : List SlotImage) × FilesRead bytes r1 × (slots_at h.files h.slots r1 ≡ Ok (slots, r))

  text_read : (start rest : List ℕ) → AfterText form h start → TextRead (start ++ rest) (from (length start) rest)
  text_read start rest after = all_read (IsCode h.instructions) instructions.spelling (next_instruction h.instructions) (code_reads h.instructions) (AfterHeader form h) h.instructions (HeaderRead form h) (header_read form h) start rest after

  pages_were_read : (start rest : List ℕ) → AfterPages form h start → PagesRead (start ++ rest) (from (length start) rest)
  pages_were_read start rest after = all_read (ArePages form) page (next_page form) (pages_read form) (AfterText form h) h.pages TextRead text_read start rest after

  files_were_read : (start rest : List ℕ) → AfterFiles form h start → FilesRead (start ++ rest) (from (length start) rest)
  files_were_read start rest after = all_read AreFiles file_spelling next_file files_read (AfterPages form h) h.files PagesRead pages_were_read start rest after

  -- the header before pages
  header_before : (start : List ℕ) → AfterFiles form h start → (front : List ℕ) × AfterHeader form h front
  header_before start after = let pages = after.1.before in let text = pages.1.before in (text.1.start, text.1.before)

  slots_were_read : h.files < 2 ^ 32 → (start rest : List ℕ) → AfterSlots form h start → SlotsRead (start ++ rest) (from (length start) rest)
  slots_were_read few start rest after = all_read (AreSlots h.files) slot (next_slot h.files) (slots_read h.files few) (AfterFiles form h) h.slots FilesRead files_were_read start rest after

  -- where a list is refused, so are all parts
  in_text : (bytes : List ℕ) (s : Refusal ImageRule) → (r : Rest) × HeaderRead form h bytes r × (instructions_at h.instructions r ≡ Err s) → parts_at form (from 0 bytes) ≡ Err s
  unfolding parts_at
  in_text bytes s (r, e0, e) = rw (e0, e) refl

  in_pages : (bytes : List ℕ) (s : Refusal ImageRule) → (r : Rest) × TextRead bytes r × (pages_at form h.pages r ≡ Err s) → parts_at form (from 0 bytes) ≡ Err s
  unfolding parts_at
  in_pages bytes s (r, (r1, text, e0, e1), e) = rw (e0, e1, e) refl

  in_files : (bytes : List ℕ) (s : Refusal ImageRule) → (r : Rest) × PagesRead bytes r × (files_at h.files r ≡ Err s) → parts_at form (from 0 bytes) ≡ Err s
  unfolding parts_at
  in_files bytes s (r, (r2, pages, (r1, text, e0, e1), e2), e) = rw (e0, e1, e2, e) refl

  in_slots : (bytes : List ℕ) (s : Refusal ImageRule) → (r : Rest) × FilesRead bytes r × (slots_at h.files h.slots r ≡ Err s) → parts_at form (from 0 bytes) ≡ Err s
  unfolding parts_at
  in_slots bytes s (r, (r3, files, (r2, pages, (r1, text, e0, e1), e2), e3), e) = rw (e0, e1, e2, e3, e) refl

  in_entries : (bytes : List ℕ) (s : Refusal ImageRule) → (r : Rest) × SlotsRead bytes r × (entries_at h.instructions h.threads r ≡ Err s) → parts_at form (from 0 bytes) ≡ Err s
  unfolding parts_at
  in_entries bytes s (r, (r4, slots, (r3, files, (r2, pages, (r1, text, e0, e1), e2), e3), e4), e) = rw (e0, e1, e2, e3, e4, e) refl

header_refused : (form : Form) (bytes : List ℕ) (s : Refusal ImageRule) → header_at form (from 0 bytes) ≡ Err s → parts_at form (from 0 bytes) ≡ Err s
unfolding parts_at
header_refused form bytes s e = rw e refl

-- the bytes of a file from an offset on are bytes
IsBytes-behind : (before after : List ℕ) → IsBytes (before ++ after) → IsBytes after
IsBytes-behind before after fits i = subst (λ (n : ℕ). n < 256) (get_or-append-add before after i 0) (fits (length before + i))

IsBytes-front : (before after : List ℕ) → IsBytes (before ++ after) → IsBytes before
IsBytes-front before after fits i =
    elim (cases_lt i (length before)) [
      | inl lt ↦ subst (λ (n : ℕ). n < 256) (get_or_append_left before after 0 i lt) (fits i)
      | inr le ↦ rw (get_or_past before i 0 le) (omega arith)
    ]

module _ (form : Form) where
  -- a rule that is broken is the refusal
  pub parts_fail : (rule : ImageRule) (before after : List ℕ) → IsBytes (before ++ after) → Breaks form rule before after → parts_at form (from 0 (before ++ after)) ≡ Err (record { rule = rule; at = length before })
  unfolding Breaks
  parts_fail BadMagic before after fits b = header_refused form (before ++ after) _ (header_breaks_magic form before after b)
  parts_fail BadCount before after fits b = header_refused form (before ++ after) _ (header_breaks_count form before after b)
  parts_fail BadInstruction before after fits (h, text, bytes, place, (rest, is), len, none) =
      let own : IsBytes bytes = IsBytes-front bytes rest (subst IsBytes is (IsBytes-behind before after fits)) in
      in_text form h (before ++ after) _ (some_fail (IsCode h.instructions) instructions.spelling (next_instruction h.instructions) (code_reads h.instructions) (AfterHeader form h) h.instructions (HeaderRead form h) (header_read form h) text before after _ place
      (subst (λ (l : List ℕ). next_instruction h.instructions text (from (length before) l) ≡ Err (record { rule = BadInstruction; at = length before })) (sym is) (instruction_fails h.instructions (length before) bytes rest len own none)))
  parts_fail BadTarget before after fits (h, text, i, place, (rest, is), instr, outside) =
      in_text form h (before ++ after) _ (some_fail (IsCode h.instructions) instructions.spelling (next_instruction h.instructions) (code_reads h.instructions) (AfterHeader form h) h.instructions (HeaderRead form h) (header_read form h) text before after _ place
      (subst (λ (l : List ℕ). next_instruction h.instructions text (from (length before) l) ≡ Err (record { rule = BadTarget; at = length before })) (sym is) (target_fails h.instructions (length before) i rest instr outside)))
  parts_fail BadPage before after fits (h, pages, n, place, (lt, (rest, is)), none) =
      in_pages form h (before ++ after) _ (some_fail (ArePages form) page (next_page form) (pages_read form) (AfterText form h) h.pages (TextRead form h) (text_read form h) pages before after _ place
      (subst (λ (l : List ℕ). next_page form pages (from (length before) l) ≡ Err (record { rule = BadPage; at = length before })) (sym is) (page_fails form pages n (length before) rest place.0.valid lt none)))
  parts_fail BadFile before after fits (inl b) =
      let h = b.head in
      let same : b.start ++ (number b.owner ++ after) ≡ before ++ after = sym (append_assoc b.start (number b.owner) after) ∙ ap (λ (l : List ℕ). l ++ after) (sym b.is) in
      let at : length b.start + 4 ≡ length before = omega (arith, ap length b.is, length-append b.start (number b.owner)) in
      let refusal : Refusal ImageRule = record { rule = BadFile; at = length b.start + 4 } in
      let fails : next_file b.files (from (length b.start) (number b.owner ++ after)) ≡ Err refusal =
      subst (λ (l : List ℕ). next_file b.files (from (length b.start) (number b.owner ++ l)) ≡ Err refusal) (sym b.next.1.1) (public_fails b.files b.owner b.flag (length b.start) b.next.1.0 b.fits b.next.0 b.high) in
      subst (λ (l : List ℕ). parts_at form (from 0 l) ≡ Err (record { rule = BadFile; at = length before })) same
      (subst (λ (n : ℕ). parts_at form (from 0 (b.start ++ (number b.owner ++ after))) ≡ Err (record { rule = BadFile; at = n })) at
      (in_files form h (b.start ++ (number b.owner ++ after)) refusal (some_fail AreFiles file_spelling next_file files_read (AfterPages form h) h.files (PagesRead form h) (pages_were_read form h) b.files b.start (number b.owner ++ after) refusal b.place fails)))
  parts_fail BadFile before after fits (inr b) =
      let h = b.head in
      let head = number b.owner ++ flag b.public in
      let same : b.start ++ (head ++ after) ≡ before ++ after = sym (append_assoc b.start head after) ∙ ap (λ (l : List ℕ). l ++ after) (sym b.is) in
      let at : (length b.start + 4) + 4 ≡ length before = omega (arith, ap length b.is, length-append b.start head, length-append (number b.owner) (flag b.public), flag_len b.public) in
      let refusal : Refusal ImageRule = record { rule = BadFile; at = (length b.start + 4) + 4 } in
      let fails : next_file b.files (from (length b.start) (head ++ after)) ≡ Err refusal =
      subst (λ (l : List ℕ). next_file b.files (from (length b.start) (head ++ l)) ≡ Err refusal) (sym b.next.1.1) (length_fails b.files b.owner b.public b.length (length b.start) b.next.1.0 b.fits b.next.0 b.high) in
      subst (λ (l : List ℕ). parts_at form (from 0 l) ≡ Err (record { rule = BadFile; at = length before })) same
      (subst (λ (n : ℕ). parts_at form (from 0 (b.start ++ (head ++ after))) ≡ Err (record { rule = BadFile; at = n })) at
      (in_files form h (b.start ++ (head ++ after)) refusal (some_fail AreFiles file_spelling next_file files_read (AfterPages form h) h.files (PagesRead form h) (pages_were_read form h) b.files b.start (head ++ after) refusal b.place fails)))
  parts_fail BadSlot before after fits (inl (h, slots, n, place, (lt, (rest, is)), none)) =
      let top = header_before form h place.0.start place.0.before in
      in_slots form h (before ++ after) _ (some_fail (AreSlots h.files) slot (next_slot h.files) (slots_read h.files (few_files form h top.0 top.1)) (AfterFiles form h) h.slots (FilesRead form h) (files_were_read form h) slots before after _ place
      (subst (λ (l : List ℕ). next_slot h.files slots (from (length before) l) ≡ Err (record { rule = BadSlot; at = length before })) (sym is) (slot_fails h.files slots n (length before) rest place.0.valid lt none)))
  parts_fail BadSlot before after fits (inr b) =
      let h = b.head in
      let top = header_before form h b.place.0.start b.place.0.before in
      let same : b.start ++ (number b.slot ++ after) ≡ before ++ after = sym (append_assoc b.start (number b.slot) after) ∙ ap (λ (l : List ℕ). l ++ after) (sym b.is) in
      let at : length b.start + 4 ≡ length before = omega (arith, ap length b.is, length-append b.start (number b.slot)) in
      let refusal : Refusal ImageRule = record { rule = BadSlot; at = length b.start + 4 } in
      let fails : next_slot h.files b.slots (from (length b.start) (number b.slot ++ after)) ≡ Err refusal =
      subst (λ (l : List ℕ). next_slot h.files b.slots (from (length b.start) (number b.slot ++ l)) ≡ Err refusal) (sym b.next.1.1) (slot_file_fails h.files b.slots b.slot b.file (length b.start) b.next.1.0 b.fits b.next.0 b.high) in
      subst (λ (l : List ℕ). parts_at form (from 0 l) ≡ Err (record { rule = BadSlot; at = length before })) same
      (subst (λ (n : ℕ). parts_at form (from 0 (b.start ++ (number b.slot ++ after))) ≡ Err (record { rule = BadSlot; at = n })) at
      (in_slots form h (b.start ++ (number b.slot ++ after)) refusal (some_fail (AreSlots h.files) slot (next_slot h.files) (slots_read h.files (few_files form h top.0 top.1)) (AfterFiles form h) h.slots (FilesRead form h) (files_were_read form h) b.slots b.start (number b.slot ++ after) refusal b.place fails)))
  parts_fail BadEntry before after fits (h, entries, n, place, (lt, (rest, is)), high) =
      let files = place.0.before.1.before in
      let top = header_before form h place.0.before.1.start files in
      in_entries form h (before ++ after) _ (some_fail (All (λ e. e < h.instructions)) number (next_entry h.instructions) (entries_read h.instructions (short_text form h top.0 top.1)) (AfterSlots form h) h.threads (SlotsRead form h) (slots_were_read form h (few_files form h top.0 top.1)) entries before after _ place
      (subst (λ (l : List ℕ). next_entry h.instructions entries (from (length before) l) ≡ Err (record { rule = BadEntry; at = length before })) (sym is) (entry_fails h.instructions n (length before) rest lt high)))
  parts_fail Trailing before after fits (image, is_image, same, is, some) =
      let left : eqb (length after) 0 ≡ false = not_nil after some in
      rw (is, ← same) (parts_again image after is_image ∙ rw left refl)
  parts_fail TooLong before after fits b = absurd b
  parts_fail Truncated before after fits b = absurd b

-- ---- the whole file

same_refusal : (a b : Refusal ImageRule) → refusal_of a ≡ refusal_of b → a ≡ b
same_refusal a b e = cc

not_truncated : (form : Form) (rule : ImageRule) (before after : List ℕ) → Breaks form rule before after → rule ≡ Truncated → ⊥
unfolding Breaks
not_truncated form Truncated before after b e = b
not_truncated form rule before after b e = cc

-- the fourth byte of an image's bytes tells its form
form_spelled : (image : Image) → form_of (spelling image) ≡ image.form
unfolding spelling
form_spelled image = by_form image.form (header_of image) (body image)
  where
    by_form : (form : Form) (h : Header) (rest : List ℕ) → form_of (header form h ++ rest) ≡ form
    by_form One h rest = refl
    by_form Two h rest = refl

-- and its bytes are within the limit
within_limit : (image : Image) → IsImage image → length (spelling image) ≤ limit_of (spelling image)
unfolding limit_of most_of spelling
within_limit image is = by_form image.form refl (spelling_len image is)
  where
    by_form : (form : Form) → image.form ≡ form → length (spelling image) ≤ most_of image.form → length (spelling image) ≤ limit_of (spelling image)
    by_form One same few = grind (arith, few)
    by_form Two same few = grind (arith, few)

short_file : (bytes : List ℕ) → length bytes ≤ limit_of bytes → image_at bytes ≡ parts_at (form_of bytes) (from 0 bytes)
unfolding image_at
short_file bytes short = rw (le-ltb (limit_of bytes) (length bytes) short) refl

long_file : (bytes : List ℕ) → limit_of bytes < length bytes → image_at bytes ≡ Err (record { rule = TooLong; at = limit_of bytes })
unfolding image_at
long_file bytes long = rw (lt-ltb (limit_of bytes) (length bytes) long) refl

long_limit : (bytes : List ℕ) → MOST_IMAGE_BYTES < length bytes → limit_of bytes ≡ MOST_IMAGE_BYTES
unfolding limit_of
long_limit bytes long = grind (arith, nat_tests, long)

-- a file that is too long for each form is refused at the limit of all images
pub too_long : (bytes : List ℕ) → MOST_IMAGE_BYTES < length bytes → image_at bytes ≡ Err (record { rule = TooLong; at = MOST_IMAGE_BYTES })
too_long bytes long =
    let limit = long_limit bytes long in
    long_file bytes (omega (arith, limit, long)) ∙ ap (λ (n : ℕ). Err (record { rule = TooLong; at = n })) limit

stops_broken : (bytes : List ℕ) (s : Refusal ImageRule) → StopsAt (form_of bytes) (from 0 bytes) s → IsBroken bytes s.rule s.at
stops_broken bytes s h = record { before = h.before; after = h.after.bytes; split = h.takes.parts; offset = omega (arith, h.offset, h.takes.moved); breaks = h.breaks }

pub image_takes : (bytes : List ℕ) (image : Image) → IsBytes bytes → image_at bytes ≡ Ok image → IsImage image × (bytes ≡ spelling image)
image_takes bytes image fits e =
    elim (cases_lt (limit_of bytes) (length bytes)) [
      | inl long ↦ let refused = long_file bytes long in absurd cc
      | inr short ↦ parts_take (form_of bytes) (from 0 bytes) fits image (sym (short_file bytes short) ∙ e)
    ]

pub image_again : (image : Image) → IsImage image → image_at (spelling image) ≡ Ok image
image_again image is =
    short_file (spelling image) (within_limit image is)
    ∙ ap (λ (f : Form). parts_at f (from 0 (spelling image))) (form_spelled image)
    ∙ ap (λ (l : List ℕ). parts_at image.form (from 0 l)) (sym (append-nil (spelling image)))
    ∙ parts_again image [] is

broken_fails : (bytes : List ℕ) (rule : ImageRule) (at : ℕ) → IsBytes bytes → length bytes ≤ limit_of bytes → IsBroken bytes rule at → image_at bytes ≡ Err (record { rule = rule; at = at })
broken_fails bytes rule at fits short b =
    let own : IsBytes (b.before ++ b.after) = subst IsBytes b.split fits in
    short_file bytes short ∙ ap (λ (l : List ℕ). parts_at (form_of bytes) (from 0 l)) b.split ∙ parts_fail (form_of bytes) rule b.before b.after own b.breaks ∙ ap (λ (n : ℕ). Err (record { rule = rule; at = n })) (sym b.offset)

-- a file that is cut off is refused at its end
cut_off : (bytes : List ℕ) (r : Read Image) → IsBytes bytes → length bytes ≤ limit_of bytes → IsCutOff bytes → image_at bytes ≡ r → r ≡ Err (record { rule = Truncated; at = length bytes })
cut_off bytes (Ok image) fits short cut e = let k = image_takes bytes image fits e in absurd (cut.no_image image k.0 k.1)
cut_off bytes (Err s) fits short cut e =
    elim (parts_stop (form_of bytes) (from 0 bytes) fits s (sym (short_file bytes short) ∙ e)) [
      | inl end ↦ ap (λ (t : Refusal ImageRule). Err t) (end ∙ ap (λ (n : ℕ). record { rule = Truncated; at = n }) (omega arith))
      | inr h ↦ absurd (cut.unbroken s.rule s.at (stops_broken bytes s h))
    ]

-- a file that is refused is refused by this rule, at this offset
pub refused_fails : (bytes : List ℕ) (rule : ImageRule) (at : ℕ) → IsBytes bytes → IsRefused bytes rule at → image_at bytes ≡ Err (record { rule = rule; at = at })
unfolding IsRefused
refused_fails bytes TooLong at fits (long, is) = long_file bytes long ∙ ap (λ (n : ℕ). Err (record { rule = TooLong; at = n })) (sym is)
refused_fails bytes Truncated at fits (short, cut, is) = cut_off bytes (image_at bytes) fits short cut refl ∙ ap (λ (n : ℕ). Err (record { rule = Truncated; at = n })) (sym is)
refused_fails bytes BadMagic at fits (short, b) = broken_fails bytes BadMagic at fits short b
refused_fails bytes BadCount at fits (short, b) = broken_fails bytes BadCount at fits short b
refused_fails bytes BadInstruction at fits (short, b) = broken_fails bytes BadInstruction at fits short b
refused_fails bytes BadTarget at fits (short, b) = broken_fails bytes BadTarget at fits short b
refused_fails bytes BadPage at fits (short, b) = broken_fails bytes BadPage at fits short b
refused_fails bytes BadFile at fits (short, b) = broken_fails bytes BadFile at fits short b
refused_fails bytes BadSlot at fits (short, b) = broken_fails bytes BadSlot at fits short b
refused_fails bytes BadEntry at fits (short, b) = broken_fails bytes BadEntry at fits short b
refused_fails bytes Trailing at fits (short, b) = broken_fails bytes Trailing at fits short b

-- a rule that is broken is a refusal
broken_refused : (bytes : List ℕ) (rule : ImageRule) (at : ℕ) → length bytes ≤ limit_of bytes → IsBroken bytes rule at → IsRefused bytes rule at
unfolding IsRefused Breaks
broken_refused bytes TooLong at short b = absurd b.breaks
broken_refused bytes Truncated at short b = absurd b.breaks
broken_refused bytes BadMagic at short b = (short, b)
broken_refused bytes BadCount at short b = (short, b)
broken_refused bytes BadInstruction at short b = (short, b)
broken_refused bytes BadTarget at short b = (short, b)
broken_refused bytes BadPage at short b = (short, b)
broken_refused bytes BadFile at short b = (short, b)
broken_refused bytes BadSlot at short b = (short, b)
broken_refused bytes BadEntry at short b = (short, b)
broken_refused bytes Trailing at short b = (short, b)

truncated_refused : (bytes : List ℕ) (s : Refusal ImageRule) → IsBytes bytes → length bytes ≤ limit_of bytes → image_at bytes ≡ Err s → s ≡ end_of (from 0 bytes) → IsRefused bytes s.rule s.at
unfolding IsRefused Breaks
truncated_refused bytes s fits short e end =
    subst (λ (t : Refusal ImageRule). IsRefused bytes t.rule t.at) (sym end) (
      short,
      record {
        unbroken = λ rule at b. let other = broken_fails bytes rule at fits short b in not_truncated (form_of bytes) rule b.before b.after b.breaks (ap (λ (t : Refusal ImageRule). t.rule) (same_refusal (record { rule = rule; at = at }) s (sym other ∙ e) ∙ end));
        no_image = λ image is spelled_so. let read : image_at bytes ≡ Ok image = ap image_at spelled_so ∙ image_again image is in absurd cc;
      },
      omega arith,
    )

-- a refusal is a fact of the bytes
pub fails_refused : (bytes : List ℕ) (s : Refusal ImageRule) → IsBytes bytes → image_at bytes ≡ Err s → IsRefused bytes s.rule s.at
unfolding IsRefused
fails_refused bytes s fits e =
    elim (cases_lt (limit_of bytes) (length bytes)) [
      | inl long ↦
          let is : s ≡ record { rule = TooLong; at = limit_of bytes } = let refused = long_file bytes long in cc in
          subst (λ (t : Refusal ImageRule). IsRefused bytes t.rule t.at) (sym is) (long, refl)
      | inr short ↦ elim (parts_stop (form_of bytes) (from 0 bytes) fits s (sym (short_file bytes short) ∙ e)) [
        | inl end ↦ truncated_refused bytes s fits short e end
        | inr h ↦ broken_refused bytes s.rule s.at short (stops_broken bytes s h)
      ]
    ]
