-- The bytes of an image.
use Rattle.std.specs.Prelude.{ℕ, Bool, if◌then◌else◌, List, [], ◌∷◌, ◌++◌, length, codes, slice_set}
use Rattle.std.specs.List.{flat_map}
use Rattle.std.specs.Int.{w32, to_le_bytes}
use Rattle.lwc_types.specs.declared.file_image.FileImage.{FileImage}
use Rattle.guest_isa.specs.Spelling as instructions
use Rattle.guest_image.specs.declared.image.Form.{Form}
use Rattle.guest_image.specs.declared.image.Form.TheVariants.{One, Two}
use Rattle.guest_image.specs.declared.image.Image.{Image}
use Rattle.guest_image.specs.declared.image.PageImage.{PageImage}
use Rattle.guest_image.specs.declared.image.SlotImage.{SlotImage}
use Rattle.guest_image.specs.declared.header.Header.{Header}

-- four bytes, the lowest first
abbrev pub number : ℕ → List ℕ
number n = to_le_bytes w32 n

-- 1 or 0 in four bytes
abbrev pub flag : Bool → List ℕ
flag b = number (if b then 1 else 0)

-- the digit of a form
abbrev pub digit : Form → ℕ
digit One = 0x31
digit Two = 0x32

-- the four bytes that an image of a form begins with: LWC, and its digit
abbrev pub magic : Form → List ℕ
magic form = codes "LWC" ++ digit form ∷ []

-- the magic, five counts and the uid
abbrev pub header : Form → Header → List ℕ
header form h =
    magic form ++ (number h.instructions ++ (number h.pages
    ++ (number h.files ++ (number h.slots ++ (number h.threads ++ number h.uid)))))

-- a page: its number and its bytes
abbrev pub page : PageImage → List ℕ
page p = number p.number ++ p.bytes

-- a file: its owner, whether it is public, its length and its bytes
abbrev pub file : FileImage → List ℕ
file f = number f.owner ++ (flag f.public ++ (number (length f.bytes) ++ f.bytes))

-- a slot and its file
abbrev pub slot : SlotImage → List ℕ
slot s = number s.slot ++ number s.file

-- the number of values of each list of an image, and its uid
abbrev pub header_of : Image → Header
header_of image = record {
  instructions = length image.text;
  pages = length image.pages;
  files = length image.files;
  slots = length image.slots;
  threads = length image.entries;
  uid = image.uid;
}

-- the parts after the header, one after another
abbrev pub body : Image → List ℕ
body image =
    flat_map instructions.spelling image.text ++ (flat_map page image.pages
    ++ (flat_map file image.files ++ (flat_map slot image.slots ++ flat_map number image.entries)))

-- the bytes of an image
unfoldable pub spelling : Image → List ℕ
spelling image = header image.form (header_of image) ++ body image

-- the bytes of an image with another last byte of the magic
abbrev pub last_of_magic : ℕ → List ℕ → List ℕ
last_of_magic byte bytes = slice_set bytes 3 byte
