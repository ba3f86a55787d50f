-- The listing of an image is assembled to the image.
use Rattle.std.proofs.Common.{◌≡◌, ℕ, suc, ◌+◌, ◌*◌, ◌-◌, ◌<◌, ◌≤◌, ◌^◌, Bool, true, false, List, [], ◌∷◌, ◌++◌, length, map, Ok, Err, Result, refl, sym, ap, ◌∙◌, arith, All, length-append, replicate}
use Rattle.std.specs.Prelude.{IfOk, OnOk, codes, decimal}
use Rattle.std.specs.List.{flat_map}
use Rattle.std.proofs.lemmas.List.{length-map}
use Rattle.std.proofs.lemmas.List.Sums.{sum_by-cons}
use Rattle.std.proofs.lemmas.List.Folds.{flat_map-map}
use Rattle.std.proofs.lemmas.List.Elements.{All-nil, All-cons, All-head, All-tail}
use Rattle.lwc_types.specs.declared.file_image.FileImage.{FileImage}
use Rattle.lwc_types.specs.declared.limits.TheConstants.{MOST_SOURCE_BYTES}
use Rattle.guest_isa.specs.Instructions.{IsInstruction, HasFieldsInRange}
use Rattle.guest_image.specs.declared.image.Form.{Form}
use Rattle.guest_image.specs.declared.image.Form.TheVariants.{One, Two}
use Rattle.guest_image.specs.declared.image.Image.{Image}
use Rattle.guest_image.specs.declared.image.PageImage.{PageImage}
use Rattle.guest_image.specs.declared.image.SlotImage.{SlotImage}
use Rattle.guest_image.specs.Limits.{pages_of, IsImage, content}
use Rattle.guest_image.specs.Spelling as image
use Rattle.guest_image.proofs.Lifted.{most_pages}
use Rattle.guest_asm.specs.Drafts as draft
use Rattle.guest_asm.specs.Drafts.{assembled, draft_bytes}
use Rattle.guest_dis.specs.Listing.{HasBytes, trimmed, flag, bytes_text, form_line, uid_line, entry_line, instruction_line, page_line, file_line, slot_line, listing}
use Rattle.guest_dis.proofs.Numerals.{decimal_short, text_length}
use Rattle.guest_dis.proofs.Operations.{instruction_short}
use Rattle.guest_dis.proofs.Trims.{padded_again, trimmed_short}
use Rattle.guest_dis.proofs.Rounds.{page_for, file_for, slot_for, draft_for, IsListed, draft_again}
use Rattle.guest_image.proofs.WholeLaws.{image_again}
use Rattle.guest_isa.proofs.Fields.{in_range}

-- what follows for each value of a list
all_from : {X : Type 0} (P Q : X → Type 0) → ((x : X) → P x → Q x) → (xs : List X) → All P xs → All Q xs
all_from P Q h [] all = All-nil Q
all_from P Q h (x ∷ xs) all = All-cons Q x xs (h x (All-head P x xs all)) (all_from P Q h xs (All-tail P x xs all))

all_both : {X : Type 0} (P Q : X → Type 0) (xs : List X) → All P xs → All Q xs → All (λ x. P x × Q x) xs
all_both P Q [] p q = All-nil (λ x. P x × Q x)
all_both P Q (x ∷ xs) p q = All-cons (λ x. P x × Q x) x xs (All-head P x xs p, All-head Q x xs q) (all_both P Q xs (All-tail P x xs p) (All-tail Q x xs q))

all_three : {X : Type 0} (P Q R : X → Type 0) (xs : List X) → All P xs → All Q xs → All R xs → All (λ x. P x × Q x × R x) xs
all_three P Q R [] p q r = All-nil (λ x. P x × Q x × R x)
all_three P Q R (x ∷ xs) p q r = All-cons (λ x. P x × Q x × R x) x xs (All-head P x xs p, All-head Q x xs q, All-head R x xs r) (all_three P Q R xs (All-tail P x xs p) (All-tail Q x xs q) (All-tail R x xs r))

pub is_listed : (i : Image) → IsImage i → HasBytes i → IsListed i
is_listed i is has = record {
  uid = is.uid;
  entries = all_from (λ e. e < length i.text) (λ n. n < 2 ^ 32) (λ e lt. omega (arith, lt, is.text.bounded)) i.entries is.entries;
  text = all_from IsInstruction (λ x. HasFieldsInRange x × IsInstruction x) (λ x h. (in_range x h, h)) i.text is.text.instructions;
  pages = all_three (λ p. p.number < 2 ^ 32) (λ p. length p.bytes ≡ 4096) (λ p. All (λ b. b < 256) p.bytes) i.pages (all_from (λ p. p.number < pages_of i.form) (λ p. p.number < 2 ^ 32) (λ p lt. omega (arith, lt, most_pages i.form)) i.pages is.pages.numbers) is.pages.whole has.pages;
  files = all_both (λ f. f.owner < 2 ^ 32) (λ f. All (λ b. b < 256) f.bytes) i.files is.files.owners has.files;
  slots = all_both (λ s. s.slot < 2 ^ 32) (λ s. s.file < 2 ^ 32) i.slots (all_from (λ s. s.slot < 64) (λ s. s.slot < 2 ^ 32) (λ s lt. omega (arith, lt)) i.slots is.slots.below)
      (all_from (λ s. s.file < length i.files) (λ s. s.file < 2 ^ 32) (λ s lt. omega (arith, lt, is.file_count)) i.slots is.slots.files);
}

-- ---- the bytes of the draft

page_again : (p : PageImage) → length p.bytes ≡ 4096 → draft.page (page_for p) ≡ image.page p
page_again p whole = ap (λ bytes. image.number p.number ++ bytes) (ap (λ n. trimmed p.bytes ++ replicate (n - length (trimmed p.bytes)) 0) (sym whole) ∙ padded_again p.bytes)

pages_again : (ps : List PageImage) → All (λ p. length p.bytes ≡ 4096) ps → flat_map draft.page (map page_for ps) ≡ flat_map image.page ps
pages_again [] all = refl
pages_again (p ∷ ps) all =
    let later = pages_again ps (All-tail (λ p. length p.bytes ≡ 4096) p ps all) in
    ap (λ bytes. bytes ++ flat_map draft.page (map page_for ps)) (page_again p (All-head (λ p. length p.bytes ≡ 4096) p ps all)) ∙ ap (λ bytes. image.page p ++ bytes) later

bytes_again : (i : Image) → All (λ p. length p.bytes ≡ 4096) i.pages → draft_bytes (draft_for i) ≡ image.spelling i
unfolding draft_bytes image.spelling
bytes_again i whole =
    rw (length-map i.pages page_for, length-map i.files file_for, length-map i.slots slot_for, pages_again i.pages whole, flat_map-map draft.file file_for i.files, flat_map-map draft.slot slot_for i.slots) refl

-- ---- its length

at_most : {X : Type 0} (f : X → List ℕ) (k : ℕ) (P : X → Type 0) → ((x : X) → P x → length (f x) ≤ k) → (xs : List X) → All P xs → length (flat_map f xs) ≤ length xs * k
at_most f k P h [] all = omega arith
at_most f k P h (x ∷ xs) all =
    let later = at_most f k P h xs (All-tail P x xs all) in
    let one = h x (All-head P x xs all) in
    let more : suc (length xs) * k ≡ k + length xs * k = grind arith in
    omega (arith, later, one, more, length-append (f x) (flat_map f xs))

files_at_most : (fs : List FileImage) → All (λ f. f.owner < 2 ^ 32) fs → length (flat_map file_line fs) ≤ 64 * length fs + 2 * content fs
files_at_most [] all = omega arith
files_at_most (f ∷ fs) all =
    let later = files_at_most fs (All-tail (λ f. f.owner < 2 ^ 32) f fs all) in
    omega (arith, later, sum_by-cons (λ (f : FileImage). length f.bytes) f fs, one f (All-head (λ f. f.owner < 2 ^ 32) f fs all), length-append (file_line f) (flat_map file_line fs))
  where
    flag_short : (b : Bool) → length (decimal (flag b)) ≤ 10
    flag_short true = decimal_short 1 (omega arith)
    flag_short false = decimal_short 0 (omega arith)

    one : (f : FileImage) → f.owner < 2 ^ 32 → length (file_line f) ≤ 64 + 2 * length f.bytes
    one f small =
        let c = bytes_text f.bytes in
        let b = decimal (flag f.public) in
        let a = decimal f.owner in
        omega (arith, decimal_short f.owner small, flag_short f.public, text_length f.bytes, length-append a (codes " " ++ (b ++ (codes " " ++ (c ++ codes "\n")))), length-append b (codes " " ++ (c ++ codes "\n")), length-append c (codes "\n"))

entry_short : (n : ℕ) → n < 2 ^ 32 → length (entry_line n) ≤ 18
entry_short n small = omega (arith, decimal_short n small, length-append (decimal n) (codes "\n"))

uid_short : (n : ℕ) → n < 2 ^ 32 → length (uid_line n) ≤ 16
uid_short n small = omega (arith, decimal_short n small, length-append (decimal n) (codes "\n"))

page_short : (p : PageImage) → p.number < 2 ^ 32 → length p.bytes ≡ 4096 → length (page_line p) ≤ 8211
page_short p small whole =
    let t = bytes_text (trimmed p.bytes) in
    omega (arith, decimal_short p.number small, text_length (trimmed p.bytes), trimmed_short p.bytes, whole, length-append (decimal p.number) (codes " " ++ (t ++ codes "\n")), length-append t (codes "\n"))

form_short : (form : Form) → length (form_line form) ≤ 8
form_short One = omega arith
form_short Two = omega arith

slot_short : (s : SlotImage) → s.slot < 2 ^ 32 → s.file < 2 ^ 32 → length (slot_line s) ≤ 28
slot_short s slot file =
    omega (arith, decimal_short s.slot slot, decimal_short s.file file, length-append (decimal s.slot) (codes " " ++ (decimal s.file ++ codes "\n")), length-append (decimal s.file) (codes "\n"))

listing_short : (i : Image) → IsImage i → IsListed i → length (listing i) ≤ MOST_SOURCE_BYTES
unfolding listing
listing_short i is listed =
    let o = form_line i.form in
    let u = uid_line i.uid in
    let e = flat_map entry_line i.entries in
    let t = flat_map instruction_line i.text in
    let p = flat_map page_line i.pages in
    let f = flat_map file_line i.files in
    let s = flat_map slot_line i.slots in
    let es = at_most entry_line 18 (λ n. n < 2 ^ 32) entry_short i.entries listed.entries in
    let ts = at_most instruction_line 44 (λ x. HasFieldsInRange x × IsInstruction x) (λ x h. instruction_short x h.0) i.text listed.text in
    let ps = at_most page_line 8211 (λ p. (p.number < 2 ^ 32) × (length p.bytes ≡ 4096) × All (λ b. b < 256) p.bytes) (λ p h. page_short p h.0 h.1) i.pages listed.pages in
    let ss = at_most slot_line 28 (λ s. (s.slot < 2 ^ 32) × (s.file < 2 ^ 32)) (λ s h. slot_short s h.0 h.1) i.slots listed.slots in
    let fs = files_at_most i.files is.files.owners in
    omega (
      arith,
      form_short i.form,
      most_pages i.form,
      uid_short i.uid listed.uid,
      es,
      ts,
      ps,
      ss,
      fs,
      is.thread_count,
      is.text.bounded,
      is.page_count,
      is.file_count,
      is.slot_count,
      is.files.content,
      length-append o (u ++ (e ++ (t ++ (p ++ (f ++ s))))),
      length-append u (e ++ (t ++ (p ++ (f ++ s)))),
      length-append e (t ++ (p ++ (f ++ s))),
      length-append t (p ++ (f ++ s)),
      length-append p (f ++ s),
      length-append f s,
    )

pub assembled_again : (i : Image) → IsImage i → HasBytes i → assembled (listing i) ≡ Ok i
unfolding assembled
assembled_again i is has =
    let listed = is_listed i is has in
    rw (draft_again i listed (listing_short i is listed), bytes_again i is.pages.whole, image_again i is) refl

pub read_back : {X E : Type 0} (i : Image) → IsImage i → (r : Result X E) (items : X → List ℕ) → IfOk r (λ v. items v ≡ listing i) → OnOk r (HasBytes i) → IfOk r (λ v. assembled (items v) ≡ Ok i)
read_back i image (Ok v) items is has = ap assembled is ∙ assembled_again i image has
read_back i image (Err e) items is has = tt
