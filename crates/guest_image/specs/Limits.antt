-- What an image is.
use Rattle.std.specs.Prelude.{ℕ, ◌<◌, ◌≤◌, ◌^◌, ◌≡◌, Bool, not, ◌||◌, nat_lt, IsTrue, List, length, map, All}
use Rattle.std.specs.List.{sum_by}
use Rattle.lwc_types.specs.declared.file_image.FileImage.{FileImage}
use Rattle.lwc_types.specs.declared.key.TheConstants.{SLOTS}
use Rattle.lwc_types.specs.declared.limits.TheConstants.{MOST_FILE_BYTES, MOST_FILES, MOST_IMAGE_SLOTS, MOST_PAGES}
use Rattle.lwc_types.specs.declared.limits.TheConstants.{MOST_RANGES, MOST_THREADS, PAGES_OF_FORM_ONE}
use Rattle.lwc_types.specs.declared.page.TheConstants.{PAGE_BYTES}
use Rattle.guest_isa.specs.declared.instr.Instr.{Instr}
use Rattle.guest_isa.specs.Opcodes.{has_target}
use Rattle.guest_isa.specs.Instructions.{IsText}
use Rattle.guest_image.specs.declared.image.Form.{Form}
use Rattle.guest_image.specs.declared.image.Form.TheVariants.{One, Two}
use Rattle.guest_image.specs.declared.image.Image.{Image}
use Rattle.guest_image.specs.declared.image.PageImage.{PageImage}
use Rattle.guest_image.specs.declared.image.SlotImage.{SlotImage}
use Rattle.guest_image.specs.declared.image.Vault.{Vault}
use Rattle.guest_image.specs.declared.image.TheConstants.{FIRST_SLOT, MOST_VAULT_PAGES}
use Rattle.guest_image.specs.Numbers.{rising, ranges}

-- whether the target of an instruction, if it has one, is in a text of this length
abbrev pub stays_inside : ℕ → Instr → Bool
stays_inside count i = not (has_target i.op) || nat_lt i.imm count

-- the number of pages of a context of an image of a form
abbrev pub pages_of : Form → ℕ
pages_of One = PAGES_OF_FORM_ONE
pages_of Two = MOST_PAGES

-- the numbers of pages
abbrev pub page_numbers : List PageImage → List ℕ
page_numbers pages = map (λ p. p.number) pages

-- the numbers of slots
abbrev pub slot_numbers : List SlotImage → List ℕ
slot_numbers slots = map (λ s. s.slot) slots

-- the number of bytes that the files have together
abbrev pub content : List FileImage → ℕ
content files = sum_by (λ f. length f.bytes) files

-- pages in rising order and in at most MOST_RANGES ranges, each of PAGE_BYTES bytes
pub record ArePages (form : Form) (pages : List PageImage) : Type 0 where
  pub numbers : All (λ p. p.number < pages_of form) pages
  pub rise : IsTrue (rising (page_numbers pages))
  pub ranges : ranges (page_numbers pages) ≤ MOST_RANGES
  pub whole : All (λ p. length p.bytes ≡ PAGE_BYTES) pages

-- files of at most MOST_FILE_BYTES bytes together
pub record AreFiles (files : List FileImage) : Type 0 where
  pub owners : All (λ f. f.owner < 2 ^ 32) files
  pub content : content files ≤ MOST_FILE_BYTES

-- slots from FIRST_SLOT on in rising order, each with one of the files, of which there are `count`
pub record AreSlots (count : ℕ) (slots : List SlotImage) : Type 0 where
  pub above : All (λ s. FIRST_SLOT ≤ s.slot) slots
  pub below : All (λ s. s.slot < SLOTS) slots
  pub rise : IsTrue (rising (slot_numbers slots))
  pub files : All (λ s. s.file < count) slots

-- an image within the limits of its form
pub record IsImage (image : Image) : Type 0 where
  pub text : IsText image.text
  pub targets : All (λ i. IsTrue (stays_inside (length image.text) i)) image.text
  pub uid : image.uid < 2 ^ 32
  pub page_count : length image.pages ≤ pages_of image.form
  pub pages : ArePages image.form image.pages
  pub file_count : length image.files ≤ MOST_FILES
  pub files : AreFiles image.files
  pub slot_count : length image.slots ≤ MOST_IMAGE_SLOTS
  pub slots : AreSlots (length image.files) image.slots
  pub some_thread : 1 ≤ length image.entries
  pub thread_count : length image.entries ≤ MOST_THREADS
  pub entries : All (λ e. e < length image.text) image.entries

-- a vault beside a text of this length, with contexts of this number of pages: it is entered in the text, and has
-- 1 to MOST_VAULT_PAGES whole pages, in rising order
pub record IsVault (instructions pages : ℕ) (vault : Vault) : Type 0 where
  pub entry : vault.entry < instructions
  pub some : 1 ≤ length vault.pages
  pub few : length vault.pages ≤ MOST_VAULT_PAGES
  pub numbers : All (λ p. p.number < pages) vault.pages
  pub rise : IsTrue (rising (page_numbers vault.pages))
  pub whole : All (λ p. length p.bytes ≡ PAGE_BYTES) vault.pages

-- the image in form 2, with nothing else changed
abbrev pub lifted : Image → Image
lifted image = record image { form = Two }
