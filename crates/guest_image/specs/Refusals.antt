-- Which files are refused: by which rule, and at which offset.
use Rattle.std.specs.Prelude.{◌≡◌, ◌≢◌, ◌⊎◌, ℕ, ◌+◌, ◌<◌, ◌≤◌, ◌^◌, Bool, false, IsTrue, List, [], ◌∷◌, ◌++◌, length}
use Rattle.std.specs.Prelude.{All, Some, slice_get}
use Rattle.std.specs.List.{flat_map}
use Rattle.lwc_types.specs.declared.file_image.FileImage.{FileImage}
use Rattle.lwc_types.specs.declared.limits.TheConstants.{MOST_FILE_BYTES, MOST_FILES, MOST_IMAGE_SLOTS}
use Rattle.lwc_types.specs.declared.limits.TheConstants.{MOST_INSTRUCTIONS, MOST_THREADS}
use Rattle.guest_isa.specs.declared.instr.Instr.{Instr}
use Rattle.guest_isa.specs.Instructions.{IsInstruction}
use Rattle.guest_isa.specs.Spelling as instructions
use Rattle.guest_image.specs.declared.fault.ImageRule.{ImageRule}
use Rattle.guest_image.specs.declared.fault.ImageRule.TheVariants.{TooLong, BadMagic, Truncated, BadCount}
use Rattle.guest_image.specs.declared.fault.ImageRule.TheVariants.{BadInstruction, BadTarget, BadPage, BadFile}
use Rattle.guest_image.specs.declared.fault.ImageRule.TheVariants.{BadSlot, BadEntry, Trailing}
use Rattle.guest_image.specs.declared.header.Header.{Header}
use Rattle.guest_image.specs.declared.image.Form.{Form}
use Rattle.guest_image.specs.declared.image.Image.{Image}
use Rattle.guest_image.specs.declared.image.PageImage.{PageImage}
use Rattle.guest_image.specs.declared.image.SlotImage.{SlotImage}
use Rattle.guest_image.specs.Limits.{IsImage, ArePages, AreFiles, AreSlots, content, pages_of, stays_inside}
use Rattle.guest_image.specs.Reading.{form_of, limit_of}
use Rattle.guest_image.specs.Spelling.{number, flag, magic, header, page, file, slot, spelling}

-- the bytes begin with these
abbrev pub BeginsWith : List ℕ → List ℕ → Type 0
BeginsWith start bytes = (rest : List ℕ) × (bytes ≡ start ++ rest)

-- the bytes begin with this number
abbrev pub BeginsWithNumber : ℕ → List ℕ → Type 0
BeginsWithNumber n bytes = (n < 2 ^ 32) × BeginsWith (number n) bytes

-- the least and the most of each count, in the order of the header
abbrev pub count_ranges : Form → List (ℕ × ℕ)
count_ranges form =
    (1, MOST_INSTRUCTIONS) ∷ (0, pages_of form) ∷ (0, MOST_FILES)
    ∷ (0, MOST_IMAGE_SLOTS) ∷ (1, MOST_THREADS) ∷ []

-- a number is in its range
abbrev pub IsInRange : ℕ × ℕ → ℕ → Type 0
IsInRange range n = (range.0 ≤ n) × (n ≤ range.1)

-- each number is in its range
abbrev pub AreInRanges : List (ℕ × ℕ) → List ℕ → Type 0
AreInRanges ranges [] = Unit {0}
AreInRanges [] (n ∷ ns) = ⊥
AreInRanges (range ∷ ranges) (n ∷ ns) = IsInRange range n × AreInRanges ranges ns

-- the counts of a header
abbrev pub counts_of : Header → List ℕ
counts_of h = h.instructions ∷ h.pages ∷ h.files ∷ h.slots ∷ h.threads ∷ []

-- instructions of a text of this length
pub record IsCode (count : ℕ) (text : List Instr) : Type 0 where
  pub instructions : All IsInstruction text
  pub targets : All (λ i. IsTrue (stays_inside count i)) text

-- valid values of a list, spelled one after another behind the parts before the list
pub record Values
    {A : Type 0} (Before : List ℕ → Type 0) (AreValid : List A → Type 0) (spell : A → List ℕ)
    (values : List A) (bytes : List ℕ) : Type 0 where
  pub start : List ℕ
  pub before : Before start
  pub valid : AreValid values
  pub spelled : bytes ≡ start ++ flat_map spell values

-- all values of a list, which has this length
abbrev pub AllValues : {A : Type 0}
    → (List ℕ → Type 0) → (List A → Type 0) → (A → List ℕ) → ℕ → List ℕ → Type 0
AllValues {A} Before AreValid spell count bytes =
    (values : List A) × Values Before AreValid spell values bytes × (length values ≡ count)

-- the first values of a list, which has this length, but not all
abbrev pub SomeValues : {A : Type 0}
    → (List ℕ → Type 0) → (List A → Type 0) → (A → List ℕ) → ℕ → List A → List ℕ → Type 0
SomeValues Before AreValid spell count values bytes =
    Values Before AreValid spell values bytes × (length values < count)

-- the bytes are a header that breaks no rule
pub record AfterHeader (form : Form) (h : Header) (bytes : List ℕ) : Type 0 where
  pub counts : AreInRanges (count_ranges form) (counts_of h)
  pub uid : h.uid < 2 ^ 32
  pub spelled : bytes ≡ header form h

-- the bytes are a header and all of its instructions
abbrev pub AfterText : Form → Header → List ℕ → Type 0
AfterText form h = AllValues (AfterHeader form h) (IsCode h.instructions) instructions.spelling h.instructions

-- .. and all of its pages
abbrev pub AfterPages : Form → Header → List ℕ → Type 0
AfterPages form h = AllValues (AfterText form h) (ArePages form) page h.pages

-- .. and all of its files
abbrev pub AfterFiles : Form → Header → List ℕ → Type 0
AfterFiles form h = AllValues (AfterPages form h) AreFiles file h.files

-- .. and all of its slots
abbrev pub AfterSlots : Form → Header → List ℕ → Type 0
AfterSlots form h = AllValues (AfterFiles form h) (AreSlots h.files) slot h.slots

-- an instruction comes next, after these
abbrev pub InText : Form → Header → List Instr → List ℕ → Type 0
InText form h = SomeValues (AfterHeader form h) (IsCode h.instructions) instructions.spelling h.instructions

-- a page comes next, after these
abbrev pub InPages : Form → Header → List PageImage → List ℕ → Type 0
InPages form h = SomeValues (AfterText form h) (ArePages form) page h.pages

-- a file comes next, after these
abbrev pub InFiles : Form → Header → List FileImage → List ℕ → Type 0
InFiles form h = SomeValues (AfterPages form h) AreFiles file h.files

-- a slot comes next, after these
abbrev pub InSlots : Form → Header → List SlotImage → List ℕ → Type 0
InSlots form h = SomeValues (AfterFiles form h) (AreSlots h.files) slot h.slots

-- an entry comes next, after these
abbrev pub InEntries : Form → Header → List ℕ → List ℕ → Type 0
InEntries form h = SomeValues (AfterSlots form h) (All (λ e. e < h.instructions)) number h.threads

-- a page of this number may come after these
abbrev pub PageMayFollow : Form → List PageImage → ℕ → Type 0
PageMayFollow form pages n = (bytes : List ℕ) × ArePages form (pages ++ record { number = n; bytes = bytes } ∷ [])

-- a slot of this number may come after these, with some file
abbrev pub SlotMayFollow : List SlotImage → ℕ → Type 0
SlotMayFollow slots n = (count file : ℕ) × AreSlots count (slots ++ record { slot = n; file = file } ∷ [])

-- a file's second number is neither 1 nor 0
pub record BreaksPublic (form : Form) (before after : List ℕ) : Type 0 where
  pub head : Header
  pub files : List FileImage
  pub start : List ℕ
  pub place : InFiles form head files start
  pub owner : ℕ
  pub fits : owner < 2 ^ 32
  pub is : before ≡ start ++ number owner
  pub flag : ℕ
  pub next : BeginsWithNumber flag after
  pub high : 2 ≤ flag

-- with a file's length the files have too many bytes together
pub record BreaksLength (form : Form) (before after : List ℕ) : Type 0 where
  pub head : Header
  pub files : List FileImage
  pub start : List ℕ
  pub place : InFiles form head files start
  pub owner : ℕ
  pub fits : owner < 2 ^ 32
  pub public : Bool
  pub is : before ≡ start ++ (number owner ++ flag public)
  pub length : ℕ
  pub next : BeginsWithNumber length after
  pub high : MOST_FILE_BYTES < content files + length

-- a slot of this number may not come next
abbrev pub BreaksSlot : Form → List ℕ → List ℕ → Type 0
BreaksSlot form before after =
    (h : Header) × (slots : List SlotImage) × (n : ℕ)
    × InSlots form h slots before × BeginsWithNumber n after × (SlotMayFollow slots n → ⊥)

-- a slot has a file that is not there
pub record BreaksSlotFile (form : Form) (before after : List ℕ) : Type 0 where
  pub head : Header
  pub slots : List SlotImage
  pub start : List ℕ
  pub place : InSlots form head slots start
  pub slot : ℕ
  pub fits : SlotMayFollow slots slot
  pub is : before ≡ start ++ number slot
  pub file : ℕ
  pub next : BeginsWithNumber file after
  pub high : head.files ≤ file

-- a rule is broken by the field that comes next, after fields that break none
unfoldable pub Breaks : Form → ImageRule → List ℕ → List ℕ → Type 0
Breaks form BadMagic before after =
    (expected b : ℕ) × (later : List ℕ)
    × (magic form ≡ before ++ expected ∷ later) × BeginsWith (b ∷ []) after × (b ≢ expected)
Breaks form BadCount before after =
    (counts : List ℕ) × (range : ℕ × ℕ) × (n : ℕ)
    × (before ≡ magic form ++ flat_map number counts) × AreInRanges (count_ranges form) counts
    × (slice_get (count_ranges form) (length counts) ≡ Some range)
    × BeginsWithNumber n after × (IsInRange range n → ⊥)
Breaks form BadInstruction before after =
    (h : Header) × (text : List Instr) × (bytes : List ℕ) × InText form h text before
    × BeginsWith bytes after × (length bytes ≡ 8)
    × ((i : Instr) → IsInstruction i → bytes ≢ instructions.spelling i)
Breaks form BadTarget before after =
    (h : Header) × (text : List Instr) × (i : Instr) × InText form h text before
    × BeginsWith (instructions.spelling i) after × IsInstruction i
    × (stays_inside h.instructions i ≡ false)
Breaks form BadPage before after =
    (h : Header) × (pages : List PageImage) × (n : ℕ)
    × InPages form h pages before × BeginsWithNumber n after × (PageMayFollow form pages n → ⊥)
Breaks form BadFile before after = BreaksPublic form before after ⊎ BreaksLength form before after
Breaks form BadSlot before after = BreaksSlot form before after ⊎ BreaksSlotFile form before after
Breaks form BadEntry before after =
    (h : Header) × (entries : List ℕ) × (n : ℕ)
    × InEntries form h entries before × BeginsWithNumber n after × (h.instructions ≤ n)
Breaks form Trailing before after =
    (image : Image) × IsImage image × (image.form ≡ form) × (before ≡ spelling image) × (after ≢ [])
Breaks form _ before after = ⊥

-- a rule is broken at an offset of the file, as one of the form that its fourth byte tells
pub record IsBroken (bytes : List ℕ) (rule : ImageRule) (at : ℕ) : Type 0 where
  pub before : List ℕ
  pub after : List ℕ
  pub split : bytes ≡ before ++ after
  pub offset : at ≡ length before
  pub breaks : Breaks (form_of bytes) rule before after

-- the file ends too early: it breaks no rule, and is no image
pub record IsCutOff (bytes : List ℕ) : Type 0 where
  pub unbroken : (rule : ImageRule) (at : ℕ) → IsBroken bytes rule at → ⊥
  pub no_image : (image : Image) → IsImage image → bytes ≢ spelling image

-- the file is refused by this rule at this offset
unfoldable pub IsRefused : List ℕ → ImageRule → ℕ → Type 0
IsRefused bytes TooLong at = (limit_of bytes < length bytes) × (at ≡ limit_of bytes)
IsRefused bytes Truncated at = (length bytes ≤ limit_of bytes) × IsCutOff bytes × (at ≡ length bytes)
IsRefused bytes rule at = (length bytes ≤ limit_of bytes) × IsBroken bytes rule at
