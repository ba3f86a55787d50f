-- What the values that borrow from a source stand for.
use Rattle.std.specs.Prelude.{◌≡◌, ◌==◌, ◌||◌, ℕ, ◌+◌, Bool, List, [], ◌∷◌, map, Option, Some, None, Result, Ok, Err}
use Rattle.std.specs.Option.{option_map}
use Rattle.std.specs.HashMap as hash
use Rattle.std.specs.Str.{bytes_eq}
use Rattle.guest_isa.specs.declared.instr.Instr.{Instr}
use Rattle.guest_asm.specs.declared.error.SourceRule.{SourceRule}
use Rattle.guest_asm.specs.declared.error.SourceRule.TheVariants.{BadLine}
use Rattle.guest_asm.specs.declared.operand.Immediate.{Immediate}
use Rattle.guest_asm.specs.declared.operand.Immediate.TheVariants as immediates
use Rattle.guest_asm.specs.declared.statement.Statement.{Statement}
use Rattle.guest_asm.specs.declared.statement.Statement.TheVariants as statements
use Rattle.guest_asm.specs.declared.statement.Line.{Line}
use Rattle.guest_asm.specs.declared.name.Name.{Name}
use Rattle.guest_asm.specs.declared.source.Use.{Use}
use Rattle.guest_asm.specs.declared.source.Source.{Source}
use Rattle.guest_asm.specs.Lexis.{is_plain, is_separator}
use Rattle.guest_asm.specs.Statements as said
use Rattle.guest_asm.specs.Sources as source
use Rattle.guest_asm.specs.Drafts as draft
use denote.Bor.{Bor}

-- whether a byte may come outside a comment, or is a line feed
abbrev pub is_clean : ℕ → Bool
is_clean b = is_plain b || b == 0x0a

-- whether a byte ends the text of a line: a line feed, or the `;` of a comment
abbrev pub ends_text : ℕ → Bool
ends_text b = b == 0x0a || b == 0x3b

-- whether a byte ends a word or a label
abbrev pub ends_part : ℕ → Bool
ends_part b = is_separator b || b == 0x3a

-- the name of a register of one digit
abbrev pub short_name : ℕ → List ℕ
short_name n = 0x72 ∷ (0x30 + n) ∷ []

-- a borrowed text, as its bytes
abbrev pub bytes_in : Bor (List ℕ) → List ℕ
bytes_in text = text.now

-- the bytes of a name
abbrev pub name_in : Name → List ℕ
name_in name = name.bytes.now

-- an immediate
abbrev pub immediate_in : Immediate → said.Immediate
immediate_in (immediates.Value n) = said.Value n
immediate_in (immediates.Label name) = said.Label name.now

-- an instruction and its immediate
abbrev pub coded_in : Instr × Immediate → said.Coded
coded_in coded = (coded.0, immediate_in coded.1)

-- a statement; the bytes of pages and files are still hexadecimal in it
abbrev pub statement_in : Statement → said.Statement
statement_in (statements.Instruction i n) = said.Instruction i (immediate_in n)
statement_in (statements.Uid n) = said.Uid n
statement_in (statements.OfForm f) = said.OfForm f
statement_in (statements.Entry n) = said.Entry (immediate_in n)
statement_in (statements.Page n text) = said.Page (record { number = n; bytes = said.bytes_of text.now })
statement_in (statements.File owner public text) =
    said.File (record { owner = owner; public = public; bytes = said.bytes_of text.now })
statement_in (statements.Slot s) = said.Slot s

-- a line: its label and its statement
abbrev pub line_in : Line → Option (List ℕ) × Option said.Statement
line_in line = (option_map bytes_in line.label, option_map statement_in line.statement)

-- the use of a label
abbrev pub use_in : Use → source.Use
use_in u = record { at = u.at; name = u.name.now }

-- what a map of labels has at a name
abbrev pub label_at : {S : Type 0} → hash.HashMap Name ℕ S → List ℕ → Option ℕ
label_at labels name = hash.get_by (λ k. bytes_eq name (name_in k)) labels

-- what lines have said
abbrev pub source_in : Source → source.Source
source_in s = record {
  labels = label_at s.labels;
  uses = map use_in s.uses.items;
  uid = s.uid;
  form = s.form;
  text = map coded_in s.text.items;
  pages = s.pages.items;
  files = s.files.items;
  slots = s.slots.items;
  entries = map immediate_in s.entries.items;
}

-- the draft of what lines have said
abbrev pub draft_in : Source → draft.Draft
draft_in s = draft.draft_of (source_in s)

-- an answer, seen by view, is what a line gives
abbrev pub Gives : {X Y : Type 0} → (X → Y) → Result X SourceRule → Result Y SourceRule → Type 0
Gives view (Ok x) read = read ≡ Ok (view x)
Gives view (Err rule) read = read ≡ Err rule

-- a number of words that is not the right one
abbrev pub only : {X : Type 0} → Option X → Result X SourceRule
only (Some x) = Ok x
only None = Err BadLine

-- a list of one word
abbrev pub one : {X : Type 0} → List X → Option X
one (x ∷ []) = Some x
one _ = None

-- a list of two words
abbrev pub two : {X : Type 0} → List X → Option (X × X)
two (x ∷ y ∷ []) = Some (x, y)
two _ = None

-- a list of three words
abbrev pub three : {X : Type 0} → List X → Option (X × X × X)
three (x ∷ y ∷ z ∷ []) = Some (x, y, z)
three _ = None
