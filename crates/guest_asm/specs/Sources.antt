-- What a source says, line after line.
use Rattle.std.specs.Prelude.{ℕ, ◌+◌, if◌then◌else◌, List, [], ◌∷◌, ◌++◌, length, Option, Some, None, is_some}
use Rattle.std.specs.Prelude.{Result, Ok, Err}
use Rattle.std.specs.Map.{update}
use Rattle.std.specs.Str.{bytes_eq}
use Rattle.lwc_types.specs.Outcomes.{Refusal}
use Rattle.guest_image.specs.declared.image.Form.{Form}
use Rattle.guest_asm.specs.declared.error.SourceRule.{SourceRule}
use Rattle.guest_asm.specs.declared.error.SourceRule.TheVariants.{BadLabel}
use Rattle.guest_asm.specs.declared.parts.PageDraft.{PageDraft}
use Rattle.guest_asm.specs.declared.parts.FileDraft.{FileDraft}
use Rattle.guest_asm.specs.declared.parts.SlotDraft.{SlotDraft}
use Rattle.guest_asm.specs.Statements.{Once, Immediate, Value, Label, Statement, Instruction, Uid, OfForm, Entry}
use Rattle.guest_asm.specs.Statements.{Page, File, Slot, Coded, ◌>>=◌, line_of}

-- the use of a label, and the offset of its line
pub record Use : Type 0 where
  pub at : ℕ
  pub name : List ℕ

-- what lines have said: the index that each label stands for, the uses of labels, and the parts of an image
pub record Source : Type 0 where
  pub labels : List ℕ → Option ℕ
  pub uses : List Use
  pub uid : Option ℕ
  pub form : Option Form
  pub text : List Coded
  pub pages : List PageDraft
  pub files : List FileDraft
  pub slots : List SlotDraft
  pub entries : List Immediate

-- nothing yet
abbrev pub nothing : Source
nothing = record {
  labels = λ name. None;
  uses = [];
  uid = None;
  form = None;
  text = [];
  pages = [];
  files = [];
  slots = [];
  entries = [];
}

-- with one label more, which stands for the index of the next instruction; it must be new
abbrev pub with_label : Option (List ℕ) → Source → Result Source SourceRule
with_label None source = Ok source
with_label (Some name) source =
    if is_some (source.labels name) then Err BadLabel
    else Ok (record source { labels = update bytes_eq source.labels name (Some (length source.text)) })

-- the use of a label, if an immediate is one
abbrev pub uses_in : ℕ → Immediate → List Use
uses_in at (Value n) = []
uses_in at (Label name) = record { at = at; name = name } ∷ []

-- with more uses
abbrev pub with_uses : List Use → Source → Source
with_uses more source = record source { uses = source.uses ++ more }

-- with one statement more, on the line at an offset
abbrev pub with_said : ℕ → Statement → Source → Source
with_said at (Instruction i n) source =
    with_uses (uses_in at n) (record source { text = source.text ++ (i, n) ∷ [] })
with_said at (Uid n) source = record source { uid = Some n }
with_said at (OfForm f) source = record source { form = Some f }
with_said at (Entry n) source =
    with_uses (uses_in at n) (record source { entries = source.entries ++ n ∷ [] })
with_said at (Page p) source = record source { pages = source.pages ++ p ∷ [] }
with_said at (File f) source = record source { files = source.files ++ f ∷ [] }
with_said at (Slot s) source = record source { slots = source.slots ++ s ∷ [] }

-- with the statement of a line, if it has one
abbrev pub with_statement : ℕ → Option Statement → Source → Source
with_statement at None source = source
with_statement at (Some s) source = with_said at s source

-- which of the directives that may stand once have been said
abbrev pub once_said : Source → Once
once_said source = record { uid = is_some source.uid; form = is_some source.form }

-- with the line at an offset, or the rule that it breaks
unfoldable pub with_line : ℕ → List ℕ → Source → Result Source SourceRule
with_line at line source =
    line_of (once_said source) line >>= λ l. with_label l.0 source >>= λ next.
    Ok (with_statement at l.1 next)

-- a step after the line at an offset
abbrev pub at_offset : {A B : Type 0}
    → ℕ → Result A SourceRule → (A → Result B (Refusal SourceRule)) → Result B (Refusal SourceRule)
at_offset at (Ok x) next = next x
at_offset at (Err rule) next = Err (record { rule = rule; at = at })

-- with lines one after another, the first of them at an offset
unfoldable pub with_lines : ℕ → List (List ℕ) → Source → Result Source (Refusal SourceRule)
with_lines at [] source = Ok source
with_lines at (line ∷ later) source =
    at_offset at (with_line at line source) (λ next. with_lines (at + length line) later next)
