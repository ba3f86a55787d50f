-- The listing of an image makes its draft.
use Rattle.std.proofs.Common.{◌≡◌, ℕ, ◌+◌, ◌<◌, ◌≤◌, ◌^◌, Bool, true, false, ltb, List, [], ◌∷◌, ◌++◌, length, map, Option, Some, None, Ok, refl, sym, ap, subst, ◌∙◌, arith, append_assoc, All}
use Rattle.std.specs.Prelude.{is_some, decimal, codes, unwrap_or}
use Rattle.std.specs.List.{flat_map, list_all}
use Rattle.std.proofs.lemmas.List.{append-nil, map-append}
use Rattle.std.proofs.lemmas.List.Elements.{All-head, All-tail}
use Rattle.std.proofs.lemmas.Bool.{le-ltb}
use Rattle.lwc_types.specs.declared.file_image.FileImage.{FileImage}
use Rattle.lwc_types.specs.declared.limits.TheConstants.{MOST_SOURCE_BYTES}
use Rattle.guest_isa.specs.declared.instr.Instr.{Instr}
use Rattle.guest_isa.specs.Instructions.{IsInstruction, HasFieldsInRange}
use Rattle.guest_image.specs.declared.image.Form.{Form}
use Rattle.guest_image.specs.declared.image.Form.TheVariants.{One, Two}
use Rattle.guest_image.specs.declared.image.Image.{Image}
use Rattle.guest_image.specs.declared.image.PageImage.{PageImage}
use Rattle.guest_image.specs.declared.image.SlotImage.{SlotImage}
use Rattle.guest_asm.specs.declared.parts.PageDraft.{PageDraft}
use Rattle.guest_asm.specs.declared.parts.FileDraft.{FileDraft}
use Rattle.guest_asm.specs.declared.parts.SlotDraft.{SlotDraft}
use Rattle.guest_asm.specs.Lexis.{lines}
use Rattle.guest_asm.specs.Numbers.{digits_of, number_of}
use Rattle.guest_asm.specs.Statements.{Once, Immediate, Value, Coded, Statement, Uid, OfForm, Entry, Page, File, Slot, named}
use Rattle.guest_asm.specs.Sources.{Source, nothing, once_said, with_said, with_line, with_lines}
use Rattle.guest_asm.specs.Drafts.{Draft, value_of, instruction_with, resolved, draft_at}
use Rattle.guest_dis.specs.Listing.{trimmed, flag, bytes_text, form_line, uid_line, entry_line, instruction_line, page_line, file_line, slot_line, listing}
use Rattle.guest_dis.proofs.Bytes.{Spaced, is_spaced, line_again, lines_again}
use Rattle.guest_dis.proofs.Numerals.{decimal_clean, number_of-decimal, bytes_again, bytes_clean, is_text, text_fits}
use Rattle.guest_dis.proofs.Operations.{IsLine, coded_for, instruction_for, instruction_is, instruction_again}
use Rattle.guest_dis.proofs.Trims.{trimmed_all, trimmed_short}

-- a page, a file and a slot of an image, as a source says them
abbrev pub page_for : PageImage → PageDraft
page_for p = record { number = p.number; bytes = trimmed p.bytes }

abbrev pub file_for : FileImage → FileDraft
file_for f = record { owner = f.owner; public = flag f.public; bytes = f.bytes }

abbrev pub slot_for : SlotImage → SlotDraft
slot_for s = record { slot = s.slot; file = s.file }

-- ---- each line

one_word : (n : ℕ) → n < 2 ^ 32 → list_all is_spaced ((codes " ", decimal n) ∷ []) ≡ true
one_word n small = rw (decimal_clean n small) refl

-- what earlier lines have: no uid, and the form or none
abbrev pub before_uid : Bool → Once
before_uid form = record { uid = false; form = form }

abbrev pub after_uid : Bool → Once
after_uid form = record { uid = true; form = form }

-- the line of form 2
form_is : IsLine (before_uid false) (form_line Two) (OfForm Two)
unfolding named number_of digits_of
form_is =
    let xs : List Spaced = (codes " ", codes "2") ∷ [] in
    record {
      says = line_again (before_uid false) (codes ".form") xs refl refl ∙ refl;
      first = λ rest. lines_again (codes ".form") xs rest refl refl;
    }

pub uid_is : (form : Bool) (n : ℕ) → n < 2 ^ 32 → IsLine (before_uid form) (uid_line n) (Uid n)
unfolding named
uid_is form n small =
    let xs : List Spaced = (codes " ", decimal n) ∷ [] in
    record {
      says = line_again (before_uid form) (codes ".uid") xs refl (one_word n small) ∙ rw (number_of-decimal n small) refl;
      first = λ rest. lines_again (codes ".uid") xs rest refl (one_word n small);
    }

pub entry_is : (u : Once) (n : ℕ) → n < 2 ^ 32 → IsLine u (entry_line n) (Entry (Value n))
unfolding named
entry_is u n small =
    let xs : List Spaced = (codes " ", decimal n) ∷ [] in
    record {
      says = line_again u (codes ".entry") xs refl (one_word n small) ∙ rw (number_of-decimal n small) refl;
      first = λ rest. lines_again (codes ".entry") xs rest refl (one_word n small);
    }

pub slot_is : (u : Once) (s : SlotImage) → s.slot < 2 ^ 32 → s.file < 2 ^ 32 → IsLine u (slot_line s) (Slot (slot_for s))
unfolding named
slot_is u s slot file =
    let xs : List Spaced = (codes " ", decimal s.slot) ∷ (codes " ", decimal s.file) ∷ [] in
    let all : list_all is_spaced xs ≡ true = rw (decimal_clean s.slot slot, decimal_clean s.file file) refl in
    record {
      says = line_again u (codes ".slot") xs refl all ∙ rw (number_of-decimal s.slot slot, number_of-decimal s.file file) refl;
      first = λ rest. lines_again (codes ".slot") xs rest refl all;
    }

pub page_is : (u : Once) (p : PageImage) → p.number < 2 ^ 32 → length p.bytes ≤ 4096 → All (λ b. b < 256) p.bytes → IsLine u (page_line p) (Page (page_for p))
unfolding named
page_is u p small short bytes =
    let text = bytes_text (trimmed p.bytes) in
    let part = trimmed_all (λ b. b < 256) p.bytes bytes in
    let xs : List Spaced = (codes " ", decimal p.number) ∷ (codes " ", text) ∷ [] in
    let all : list_all is_spaced xs ≡ true = rw (decimal_clean p.number small, bytes_clean (trimmed p.bytes) part) refl in
    record {
      says = line_again u (codes ".page") xs refl all ∙ rw (number_of-decimal p.number small, is_text 8192 (trimmed p.bytes) part (omega (arith, short, trimmed_short p.bytes)), bytes_again (trimmed p.bytes) part) refl;
      first = λ rest. lines_again (codes ".page") xs rest refl all;
    }

flag_small : (b : Bool) → flag b < 2 ^ 32
flag_small true = omega arith
flag_small false = omega arith

pub file_is : (u : Once) (f : FileImage) → f.owner < 2 ^ 32 → All (λ b. b < 256) f.bytes → IsLine u (file_line f) (File (file_for f))
unfolding named
file_is u f small bytes =
    let text = bytes_text f.bytes in
    let xs : List Spaced = (codes " ", decimal f.owner) ∷ (codes " ", decimal (flag f.public)) ∷ (codes " ", text) ∷ [] in
    let all : list_all is_spaced xs ≡ true = rw (decimal_clean f.owner small, decimal_clean (flag f.public) (flag_small f.public), bytes_clean f.bytes bytes) refl in
    record {
      says = line_again u (codes ".file") xs refl all ∙ rw (number_of-decimal f.owner small, number_of-decimal (flag f.public) (flag_small f.public), text_fits f.bytes bytes, bytes_again f.bytes bytes) refl;
      first = λ rest. lines_again (codes ".file") xs rest refl all;
    }

-- ---- line after line

one_line : (at : ℕ) (line rest : List ℕ) (source : Source) (s : Statement) → IsLine (once_said source) line s → with_lines at (lines (line ++ rest)) source ≡ with_lines (at + length line) (lines rest) (with_said at s source)
unfolding with_lines with_line
one_line at line rest source s is = rw (is.first rest, is.says) refl

-- the lines of a list, which are read up to some offset, and then the rest
pub section : {A : Type 0} (line : A → List ℕ) (s : A → Statement) (grow : List A → Source) (u : Once) → ((xs : List A) → once_said (grow xs) ≡ u) → ((at : ℕ) (xs : List A) (x : A) → with_said at (s x) (grow xs) ≡ grow (xs ++ x ∷ []))
    → (P : A → Type 0) → ((x : A) → P x → IsLine u (line x) (s x)) → (xs before : List A) (at : ℕ) (rest : List ℕ) → All P xs
    → (end : ℕ) × (with_lines at (lines (flat_map line xs ++ rest)) (grow before) ≡ with_lines end (lines rest) (grow (before ++ xs)))
section line s grow u uid step P each [] before at rest all = (at, ap (λ ys. with_lines at (lines rest) (grow ys)) (sym (append-nil before)))
section line s grow u uid step P each (x ∷ xs) before at rest all =
    let is = subst (λ t. IsLine t (line x) (s x)) (sym (uid before)) (each x (All-head P x xs all)) in
    let later = section line s grow u uid step P each xs (before ++ x ∷ []) (at + length (line x)) rest (All-tail P x xs all) in (
      later.0,
      ap (λ b. with_lines at (lines b) (grow before)) (append_assoc (line x) (flat_map line xs) rest) ∙ one_line at (line x) (flat_map line xs ++ rest) (grow before) (s x) is
          ∙ ap (λ t. with_lines (at + length (line x)) (lines (flat_map line xs ++ rest)) t) (step at before x) ∙ later.1 ∙ ap (λ ys. with_lines later.0 (lines rest) (grow ys)) (append_assoc before (x ∷ []) xs),
    )

-- what lines of a listing have said
abbrev said : Option Form → ℕ → List Coded → List PageDraft → List FileDraft → List SlotDraft → List Immediate → Source
said form uid text pages files slots entries = record {
  labels = λ name. None;
  uses = [];
  uid = Some uid;
  form = form;
  text = text;
  pages = pages;
  files = files;
  slots = slots;
  entries = entries;
}

-- the draft of an image
abbrev pub draft_for : Image → Draft
draft_for image = record {
  form = image.form;
  uid = image.uid;
  text = image.text;
  pages = map page_for image.pages;
  files = map file_for image.files;
  slots = map slot_for image.slots;
  entries = image.entries;
}

-- what is asked of each part of an image
pub record IsListed (image : Image) : Type 0 where
  pub uid : image.uid < 2 ^ 32
  pub entries : All (λ n. n < 2 ^ 32) image.entries
  pub text : All (λ i. HasFieldsInRange i × IsInstruction i) image.text
  pub pages : All (λ p. (p.number < 2 ^ 32) × (length p.bytes ≡ 4096) × All (λ b. b < 256) p.bytes) image.pages
  pub files : All (λ f. (f.owner < 2 ^ 32) × All (λ b. b < 256) f.bytes) image.files
  pub slots : All (λ s. (s.slot < 2 ^ 32) × (s.file < 2 ^ 32)) image.slots

-- what the line of a form says, if there is one
abbrev said_form : Form → Option Form
said_form One = None
said_form Two = Some Two

abbrev with_form : Option Form → Source
with_form form = record nothing { form = form }

-- the line of the form is read, if there is one
form_read : (form : Form) (rest : List ℕ) → with_lines 0 (lines (form_line form ++ rest)) nothing ≡ with_lines (length (form_line form)) (lines rest) (with_form (said_form form))
form_read One rest = refl
form_read Two rest = one_line 0 (form_line Two) rest nothing (OfForm Two) form_is

form_back : (form : Form) → unwrap_or (said_form form) One ≡ form
form_back One = refl
form_back Two = refl

all_read : (image : Image) → IsListed image
    → with_lines 0 (lines (listing image)) nothing ≡ Ok (said (said_form image.form) image.uid (map coded_for image.text) (map page_for image.pages) (map file_for image.files) (map slot_for image.slots) (map Value image.entries))
unfolding listing with_lines
all_read image is =
    let g = said_form image.form in
    let uid = image.uid in
    let slots = flat_map slot_line image.slots in
    let files = flat_map file_line image.files ++ slots in
    let pages = flat_map page_line image.pages ++ files in
    let text = flat_map instruction_line image.text ++ pages in
    let entries = flat_map entry_line image.entries ++ text in
    let t = map coded_for image.text in
    let p = map page_for image.pages in
    let f = map file_for image.files in
    let s = map slot_for image.slots in
    let e = map Value image.entries in
    let form = form_read image.form (uid_line uid ++ entries) in
    let at = length (form_line image.form) in
    let zero = one_line at (uid_line uid) entries (with_form g) (Uid uid) (uid_is (is_some g) uid is.uid) in
    let one = section entry_line (λ n. Entry (Value n)) (λ ns. said g uid [] [] [] [] (map Value ns)) (after_uid (is_some g)) (λ ns. refl) (λ at ns n. ap (said g uid [] [] [] []) (sym (map-append Value ns (n ∷ [])))) (λ n. n < 2 ^ 32) (entry_is (after_uid (is_some g))) image.entries [] (at + length (uid_line uid)) text is.entries in
    let two = section instruction_line instruction_for (λ is. said g uid (map coded_for is) [] [] [] e) (after_uid (is_some g)) (λ is. refl) (λ at is i. ap (λ t. said g uid t [] [] [] e) (sym (map-append coded_for is (i ∷ [])))) (λ i. HasFieldsInRange i × IsInstruction i) (λ i h. instruction_is (after_uid (is_some g)) i h.0) image.text [] one.0 pages is.text in
    let three = section page_line (λ p. Page (page_for p)) (λ ps. said g uid t (map page_for ps) [] [] e) (after_uid (is_some g)) (λ ps. refl) (λ at ps p. ap (λ ps. said g uid t ps [] [] e) (sym (map-append page_for ps (p ∷ [])))) (λ p. (p.number < 2 ^ 32) × (length p.bytes ≡ 4096) × All (λ b. b < 256) p.bytes) (λ p h. page_is (after_uid (is_some g)) p h.0 (omega (arith, h.1)) h.2) image.pages [] two.0 files is.pages in
    let four = section file_line (λ f. File (file_for f)) (λ fs. said g uid t p (map file_for fs) [] e) (after_uid (is_some g)) (λ fs. refl) (λ at fs f. ap (λ fs. said g uid t p fs [] e) (sym (map-append file_for fs (f ∷ [])))) (λ f. (f.owner < 2 ^ 32) × All (λ b. b < 256) f.bytes) (λ f h. file_is (after_uid (is_some g)) f h.0 h.1) image.files [] three.0 slots is.files in
    let five = section slot_line (λ s. Slot (slot_for s)) (λ ss. said g uid t p f (map slot_for ss) e) (after_uid (is_some g)) (λ ss. refl) (λ at ss s. ap (λ ss. said g uid t p f ss e) (sym (map-append slot_for ss (s ∷ [])))) (λ s. (s.slot < 2 ^ 32) × (s.file < 2 ^ 32)) (λ s h. slot_is (after_uid (is_some g)) s h.0 h.1) image.slots [] four.0 [] is.slots in
    form ∙ zero ∙ one.1 ∙ two.1 ∙ three.1 ∙ four.1 ∙ ap (λ b. with_lines four.0 (lines b) (said g uid t p f [] e)) (sym (append-nil slots)) ∙ five.1

text_again : (labels : List ℕ → Option ℕ) (text : List Instr) → All (λ i. HasFieldsInRange i × IsInstruction i) text → map (instruction_with labels) (map coded_for text) ≡ text
text_again labels [] all = refl
text_again labels (i ∷ is) all =
    let one = instruction_again i labels (All-head (λ i. HasFieldsInRange i × IsInstruction i) i is all).1 in
    let later = text_again labels is (All-tail (λ i. HasFieldsInRange i × IsInstruction i) i is all) in
    ap (λ (j : Instr). j ∷ map (instruction_with labels) (map coded_for is)) one ∙ ap (λ (js : List Instr). i ∷ js) later

values_again : (labels : List ℕ → Option ℕ) (ns : List ℕ) → map (value_of labels) (map Value ns) ≡ ns
values_again labels [] = refl
values_again labels (n ∷ ns) = ap (λ (ms : List ℕ). n ∷ ms) (values_again labels ns)

-- the listing of an image makes its draft
pub draft_again : (image : Image) → IsListed image → length (listing image) ≤ MOST_SOURCE_BYTES → draft_at (listing image) ≡ Ok (draft_for image)
unfolding draft_at resolved
draft_again image is short =
    let fits : ltb MOST_SOURCE_BYTES (length (listing image)) ≡ false = le-ltb _ _ short in
    rw (fits, all_read image is, form_back image.form, text_again (λ name. None) image.text is.text, values_again (λ name. None) image.entries) refl
