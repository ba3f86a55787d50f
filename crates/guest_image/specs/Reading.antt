-- Reading an image from its first byte to its last, up to the first refusal.
use Rattle.std.specs.Prelude.{ℕ, zero, suc, ◌+◌, Bool, false, ◌&&◌, nat_lt, nat_le, ◌==◌, if◌then◌else◌, List, []}
use Rattle.std.specs.Prelude.{◌∷◌, ◌++◌, length, take, drop, slice_index, Option, Some, None, Result, Ok, Err}
use Rattle.std.specs.Int.{w32, from_le_bytes}
use Rattle.lwc_types.specs.Outcomes.{Refusal, ◌>>=◌}
use Rattle.lwc_types.specs.declared.file_image.FileImage.{FileImage}
use Rattle.lwc_types.specs.declared.key.TheConstants.{SLOTS}
use Rattle.lwc_types.specs.declared.limits.TheConstants.{MOST_FILE_BYTES, MOST_FILES, MOST_IMAGE_BYTES}
use Rattle.lwc_types.specs.declared.limits.TheConstants.{MOST_IMAGE_SLOTS, MOST_BYTES_OF_FORM_ONE, MOST_INSTRUCTIONS}
use Rattle.lwc_types.specs.declared.limits.TheConstants.{MOST_RANGES, MOST_THREADS}
use Rattle.lwc_types.specs.declared.page.TheConstants.{PAGE_BYTES}
use Rattle.guest_isa.specs.declared.instr.Instr.{Instr}
use Rattle.guest_isa.specs.Spelling.{reading}
use Rattle.guest_image.specs.declared.fault.ImageRule.{ImageRule}
use Rattle.guest_image.specs.declared.fault.ImageRule.TheVariants.{TooLong, BadMagic, Truncated, BadCount}
use Rattle.guest_image.specs.declared.fault.ImageRule.TheVariants.{BadInstruction, BadTarget, BadPage, BadFile}
use Rattle.guest_image.specs.declared.fault.ImageRule.TheVariants.{BadSlot, BadEntry, Trailing}
use Rattle.guest_image.specs.declared.header.Header.{Header}
use Rattle.guest_image.specs.declared.image.Form.{Form}
use Rattle.guest_image.specs.declared.image.Form.TheVariants.{One, Two}
use Rattle.guest_image.specs.declared.image.Image.{Image}
use Rattle.guest_image.specs.declared.image.PageImage.{PageImage}
use Rattle.guest_image.specs.declared.image.SlotImage.{SlotImage}
use Rattle.guest_image.specs.declared.image.TheConstants.{FIRST_SLOT}
use Rattle.guest_image.specs.Rest.{Rest}
use Rattle.guest_image.specs.Numbers.{is_above, ranges_with, last, ranges}
use Rattle.guest_image.specs.Spelling.{digit}
use Rattle.guest_image.specs.Limits.{pages_of, stays_inside, page_numbers, slot_numbers, content}

-- a value, or the first refusal
abbrev pub Read : Type 0 → Type 0
Read A = Result A (Refusal ImageRule)

-- the refusal of the field that comes next
abbrev pub refused : {A : Type 0} → ImageRule → Rest → Read A
refused rule rest = Err (record { rule = rule; at = rest.at })

-- the refusal of a file that ends too early
abbrev pub truncated : {A : Type 0} → Rest → Read A
truncated rest = Err (record { rule = Truncated; at = rest.at + length rest.bytes })

-- a number of bytes, and what follows them
abbrev pub bytes_at : ℕ → Rest → Read (List ℕ × Rest)
bytes_at count rest =
    if nat_lt (length rest.bytes) count then truncated rest
    else Ok (take count rest.bytes, record { at = rest.at + count; bytes = drop count rest.bytes })

-- a number of four bytes, and what follows it
abbrev pub number_at : Rest → Read (ℕ × Rest)
number_at rest = do
  field ← bytes_at 4 rest
  Ok (from_le_bytes w32 field.0, field.1)

-- a number that passes a test, or else the rule is broken at it
unfoldable pub number_where : (ℕ → Bool) → ImageRule → Rest → Read (ℕ × Rest)
number_where test rule rest = do
  n ← number_at rest
  if test n.0 then Ok n else refused rule rest

-- a number below a limit
abbrev pub number_below : ℕ → ImageRule → Rest → Read (ℕ × Rest)
number_below limit = number_where (λ n. nat_lt n limit)

-- what follows this byte of the magic
unfoldable pub byte_at : ℕ → Rest → Read Rest
byte_at expected rest = do
  field ← bytes_at 1 rest
  if slice_index field.0 0 == expected then Ok field.1 else refused BadMagic rest

-- what follows the magic of a form
unfoldable pub magic_at : Form → Rest → Read Rest
magic_at form rest = byte_at 0x4c rest >>= byte_at 0x57 >>= byte_at 0x43 >>= byte_at (digit form)

-- a count within its range
abbrev pub count_at : ℕ → ℕ → Rest → Read (ℕ × Rest)
count_at least most = number_where (λ n. nat_le least n && nat_le n most) BadCount

-- the magic, the counts and the uid
unfoldable pub header_at : Form → Rest → Read (Header × Rest)
header_at form rest = do
  counts ← magic_at form rest
  instructions ← count_at 1 MOST_INSTRUCTIONS counts
  pages ← count_at 0 (pages_of form) instructions.1
  files ← count_at 0 MOST_FILES pages.1
  slots ← count_at 0 MOST_IMAGE_SLOTS files.1
  threads ← count_at 1 MOST_THREADS slots.1
  uid ← number_at threads.1
  Ok (
    record {
      instructions = instructions.0;
      pages = pages.0;
      files = files.0;
      slots = slots.0;
      threads = threads.0;
      uid = uid.0;
    },
    uid.1,
  )

-- the instruction that was read, in a text of this length
abbrev pub checked : ℕ → Rest → Option Instr → Read Instr
checked count rest None = refused BadInstruction rest
checked count rest (Some i) = if stays_inside count i then Ok i else refused BadTarget rest

-- an instruction of a text of this length
unfoldable pub instruction_at : ℕ → Rest → Read (Instr × Rest)
instruction_at count rest = do
  field ← bytes_at 8 rest
  i ← checked count rest (reading field.0)
  Ok (i, field.1)

-- whether a page of this number may come after pages with this last number and number of ranges
abbrev pub is_next_page : Form → Option ℕ → ℕ → ℕ → Bool
is_next_page form last ranges n =
    nat_lt n (pages_of form) && is_above last n && nat_le (ranges_with ranges last n) MOST_RANGES

-- the number of a page, after pages with this last number and number of ranges
abbrev pub page_number_at : Form → Option ℕ → ℕ → Rest → Read (ℕ × Rest)
page_number_at form last ranges = number_where (is_next_page form last ranges) BadPage

-- a page, after pages with this last number and number of ranges
unfoldable pub page_at : Form → Option ℕ → ℕ → Rest → Read (PageImage × Rest)
page_at form last ranges rest = do
  n ← page_number_at form last ranges rest
  field ← bytes_at PAGE_BYTES n.1
  Ok (record { number = n.0; bytes = field.0 }, field.1)

-- whether a file is public: 1 or 0
abbrev pub public_at : Rest → Read (Bool × Rest)
public_at rest = do
  flag ← number_below 2 BadFile rest
  Ok (flag.0 == 1, flag.1)

-- a file's length, after files with this number of bytes
abbrev pub length_at : ℕ → Rest → Read (ℕ × Rest)
length_at content = number_where (λ n. nat_le (content + n) MOST_FILE_BYTES) BadFile

-- a file, after files with this number of bytes
unfoldable pub file_at : ℕ → Rest → Read (FileImage × Rest)
file_at content rest = do
  owner ← number_at rest
  public ← public_at owner.1
  len ← length_at content public.1
  field ← bytes_at len.0 len.1
  Ok (record { owner = owner.0; public = public.0; bytes = field.0 }, field.1)

-- whether a slot of this number may come after one with this number
abbrev pub is_next_slot : Option ℕ → ℕ → Bool
is_next_slot last n = nat_le FIRST_SLOT n && nat_lt n SLOTS && is_above last n

-- the number of a slot, after a slot with this number
abbrev pub slot_number_at : Option ℕ → Rest → Read (ℕ × Rest)
slot_number_at last = number_where (is_next_slot last) BadSlot

-- a slot with one of the files, of which there are `files`, after a slot with this number
unfoldable pub slot_at : ℕ → Option ℕ → Rest → Read (SlotImage × Rest)
slot_at files last rest = do
  s ← slot_number_at last rest
  f ← number_below files BadSlot s.1
  Ok (record { slot = s.0; file = f.0 }, f.1)

-- where a thread begins, in a text of this length
abbrev pub entry_at : ℕ → Rest → Read (ℕ × Rest)
entry_at count = number_below count BadEntry

-- values one after another, as many as are asked for, each read by what is known of those before it
unfoldable pub list_at : {A : Type 0}
    → (List A → Rest → Read (A × Rest)) → ℕ → List A → Rest → Read (List A × Rest)
list_at read zero before rest = Ok (before, rest)
list_at read (suc n) before rest = do
  x ← read before rest
  list_at read n (before ++ x.0 ∷ []) x.1

-- an instruction after others
abbrev pub next_instruction : ℕ → List Instr → Rest → Read (Instr × Rest)
next_instruction count before = instruction_at count

-- a page after others
abbrev pub next_page : Form → List PageImage → Rest → Read (PageImage × Rest)
next_page form before = page_at form (last (page_numbers before)) (ranges (page_numbers before))

-- a file after others
abbrev pub next_file : List FileImage → Rest → Read (FileImage × Rest)
next_file before = file_at (content before)

-- a slot after others
abbrev pub next_slot : ℕ → List SlotImage → Rest → Read (SlotImage × Rest)
next_slot files before = slot_at files (last (slot_numbers before))

-- an entry after others
abbrev pub next_entry : ℕ → List ℕ → Rest → Read (ℕ × Rest)
next_entry count before = entry_at count

abbrev pub instructions_at : ℕ → Rest → Read (List Instr × Rest)
instructions_at count = list_at (next_instruction count) count []

abbrev pub pages_at : Form → ℕ → Rest → Read (List PageImage × Rest)
pages_at form count = list_at (next_page form) count []

abbrev pub files_at : ℕ → Rest → Read (List FileImage × Rest)
files_at count = list_at next_file count []

abbrev pub slots_at : ℕ → ℕ → Rest → Read (List SlotImage × Rest)
slots_at files count = list_at (next_slot files) count []

abbrev pub entries_at : ℕ → ℕ → Rest → Read (List ℕ × Rest)
entries_at instructions count = list_at (next_entry instructions) count []

-- the image of these parts
abbrev pub made_of : Form → Header → List Instr → List PageImage → List FileImage → List SlotImage → List ℕ → Image
made_of form h text pages files slots entries = record {
  form = form;
  text = text;
  uid = h.uid;
  pages = pages;
  files = files;
  slots = slots;
  entries = entries;
}

-- the image, where no byte is left
abbrev pub unless_trailing : Rest → Image → Read Image
unless_trailing rest image = if length rest.bytes == 0 then Ok image else refused Trailing rest

-- every part of the file, and nothing after the last
unfoldable pub parts_at : Form → Rest → Read Image
parts_at form rest = do
  h ← header_at form rest
  text ← instructions_at h.0.instructions h.1
  pages ← pages_at form h.0.pages text.1
  files ← files_at h.0.files pages.1
  slots ← slots_at h.0.files h.0.slots files.1
  entries ← entries_at h.0.instructions h.0.threads slots.1
  unless_trailing entries.1 (made_of form h.0 text.0 pages.0 files.0 slots.0 entries.0)

-- the form that the fourth byte of a file tells: form 2 by the digit 2, and else form 1
abbrev pub form_of : List ℕ → Form
form_of (a ∷ b ∷ c ∷ d ∷ rest) = if d == 0x32 then Two else One
form_of _ = One

-- whether a file begins with the magic of form 1
abbrev pub begins_as_one : List ℕ → Bool
begins_as_one (a ∷ b ∷ c ∷ d ∷ rest) = a == 0x4c && b == 0x57 && c == 0x43 && d == 0x31
begins_as_one _ = false

-- the most bytes that a file may have. One that is longer than every image is refused at the limit of them
-- all, whatever it begins with; else a file that begins as form 1 has a limit of its own
unfoldable pub limit_of : List ℕ → ℕ
limit_of bytes =
    if nat_lt MOST_IMAGE_BYTES (length bytes) then MOST_IMAGE_BYTES
    else if begins_as_one bytes then MOST_BYTES_OF_FORM_ONE
    else MOST_IMAGE_BYTES

-- the image that the bytes spell, or the first refusal
unfoldable pub image_at : List ℕ → Read Image
image_at bytes =
    if nat_lt (limit_of bytes) (length bytes) then Err (record { rule = TooLong; at = limit_of bytes })
    else parts_at (form_of bytes) (record { at = 0; bytes = bytes })
