-- The image that a source makes.
use Rattle.std.specs.Prelude.{ℕ, ◌-◌, not, nat_lt, if◌then◌else◌, List, ◌++◌, length, map, find, replicate, Option}
use Rattle.std.specs.Prelude.{Some, None, is_some, Result, Ok, Err}
use Rattle.std.specs.Option.{unwrap_or}
use Rattle.std.specs.List.{flat_map}
use Rattle.lwc_types.specs.Outcomes.{Refusal, ◌>>=◌}
use Rattle.lwc_types.specs.declared.page.TheConstants.{PAGE_BYTES}
use Rattle.guest_isa.specs.declared.instr.Instr.{Instr}
use Rattle.guest_isa.specs.Spelling as instructions
use Rattle.guest_image.specs.declared.fault.ImageRule.{ImageRule}
use Rattle.guest_image.specs.declared.image.Form.{Form}
use Rattle.guest_image.specs.declared.image.Form.TheVariants.{One}
use Rattle.guest_image.specs.declared.image.Image.{Image}
use Rattle.guest_image.specs.Spelling.{number, magic}
use Rattle.guest_image.specs.Reading.{image_at}
use Rattle.guest_asm.specs.declared.error.SourceRule.{SourceRule}
use Rattle.guest_asm.specs.declared.error.SourceRule.TheVariants as rules
use Rattle.guest_asm.specs.declared.parts.PageDraft.{PageDraft}
use Rattle.guest_asm.specs.declared.parts.FileDraft.{FileDraft}
use Rattle.guest_asm.specs.declared.parts.SlotDraft.{SlotDraft}
use Rattle.lwc_types.specs.declared.limits.TheConstants.{MOST_SOURCE_BYTES}
use Rattle.guest_asm.specs.Lexis.{lines}
use Rattle.guest_asm.specs.Statements.{Immediate, Value, Label, Coded}
use Rattle.guest_asm.specs.Sources.{Source, Use, nothing, with_lines}

-- the parts of an image before it is tested: numbers that may not fit, pages that may be short
pub record Draft : Type 0 where
  pub form : Form
  pub uid : ℕ
  pub text : List Instr
  pub pages : List PageDraft
  pub files : List FileDraft
  pub slots : List SlotDraft
  pub entries : List ℕ

-- the number that an immediate stands for
abbrev pub value_of : (List ℕ → Option ℕ) → Immediate → ℕ
value_of labels (Value n) = n
value_of labels (Label name) = unwrap_or (labels name) 0

-- an instruction with the number of its immediate
abbrev pub instruction_with : (List ℕ → Option ℕ) → Coded → Instr
instruction_with labels coded = record coded.0 { imm = value_of labels coded.1 }

-- the draft of what all lines say
abbrev pub draft_of : Source → Draft
draft_of source = record {
  form = unwrap_or source.form One;
  uid = unwrap_or source.uid 0;
  text = map (instruction_with source.labels) source.text;
  pages = source.pages;
  files = source.files;
  slots = source.slots;
  entries = map (value_of source.labels) source.entries;
}

-- the first use of a label that no line defines
abbrev pub first_unknown : Source → Option Use
first_unknown source = find (λ u. not (is_some (source.labels u.name))) source.uses

-- a draft, or the refusal of a use
abbrev pub unless_unknown : Option Use → Draft → Result Draft (Refusal SourceRule)
unless_unknown None draft = Ok draft
unless_unknown (Some u) draft = Err (record { rule = rules.BadLabel; at = u.at })

-- the draft of what all lines say, where each label that is used is defined
unfoldable pub resolved : Source → Result Draft (Refusal SourceRule)
resolved source = unless_unknown (first_unknown source) (draft_of source)

-- the draft that a source makes, or its first refusal
unfoldable pub draft_at : List ℕ → Result Draft (Refusal SourceRule)
draft_at bytes =
    if nat_lt MOST_SOURCE_BYTES (length bytes)
    then Err (record { rule = rules.TooLong; at = MOST_SOURCE_BYTES })
    else with_lines 0 (lines bytes) nothing >>= resolved

-- the magic, five counts and the uid
abbrev pub header : Draft → List ℕ
header d =
    magic d.form ++ (number (length d.text) ++ (number (length d.pages) ++ (number (length d.files)
    ++ (number (length d.slots) ++ (number (length d.entries) ++ number d.uid)))))

-- bytes and zeros after them, to the length of a page
abbrev pub padded : List ℕ → List ℕ
padded bytes = bytes ++ replicate (PAGE_BYTES - length bytes) 0

-- a page: its number and its bytes
abbrev pub page : PageDraft → List ℕ
page p = number p.number ++ padded p.bytes

-- a file: its owner, whether it is public, its length and its bytes
abbrev pub file : FileDraft → List ℕ
file f = number f.owner ++ (number f.public ++ (number (length f.bytes) ++ f.bytes))

-- a slot and its file
abbrev pub slot : SlotDraft → List ℕ
slot s = number s.slot ++ number s.file

-- the parts after the header, one after another
abbrev pub body : Draft → List ℕ
body d =
    flat_map instructions.spelling d.text ++ (flat_map page d.pages
    ++ (flat_map file d.files ++ (flat_map slot d.slots ++ flat_map number d.entries)))

-- the bytes of a draft, as those of an image
unfoldable pub draft_bytes : Draft → List ℕ
draft_bytes d = header d ++ body d

-- an image, or the refusal of its bytes as that of the source
abbrev pub of_image : Result Image (Refusal ImageRule) → Result Image (Refusal SourceRule)
of_image (Ok image) = Ok image
of_image (Err refusal) = Err (record { rule = rules.Image refusal.rule; at = refusal.at })

-- the image that a source makes, or the first refusal: of the source, or else of the image's bytes
unfoldable pub assembled : List ℕ → Result Image (Refusal SourceRule)
assembled source = draft_at source >>= λ d. of_image (image_at (draft_bytes d))
