-- The lines of a source, and the label and the words of a line.
use Rattle.std.specs.Prelude.{ℕ, ◌+◌, ◌-◌, Bool, false, not, ◌||◌, ◌&&◌, nat_le, ◌==◌, if◌then◌else◌, List, [], ◌∷◌}
use Rattle.std.specs.Prelude.{length, take, drop, slice_index, filter, Option, Some, None}
use Rattle.std.specs.List.{slice_split, onto_first, position, before_first, prefix_len, list_all}
use Rattle.std.specs.Str.Lines.{strip_carriage_return}

-- the lines of a source, each with the line feed that ends it
abbrev pub lines : List ℕ → List (List ℕ)
lines [] = []
lines (b ∷ bs) = if b == 0x0a then (b ∷ []) ∷ lines bs else onto_first b (lines bs)

-- whether a line has its line feed
abbrev pub is_ended : List ℕ → Bool
is_ended line = slice_index line (length line - 1) == 0x0a

-- a line without the line feed that ends it and the carriage return before that
abbrev pub without_end : List ℕ → List ℕ
without_end line =
    if is_ended line then strip_carriage_return (take (length line - 1) line) else line

-- a line up to its comment
abbrev pub text_of : List ℕ → List ℕ
text_of line = before_first (λ b. b == 0x3b) (without_end line)

-- whether a byte may come outside a comment: printable ASCII or a tab
abbrev pub is_plain : ℕ → Bool
is_plain b = (nat_le 0x20 b && nat_le b 0x7e) || b == 0x09

-- whether a byte separates words: a blank, a tab or a comma
abbrev pub is_separator : ℕ → Bool
is_separator b = b == 0x20 || b == 0x09 || b == 0x2c

-- whether a word has a byte
abbrev pub has_bytes : List ℕ → Bool
has_bytes word = not (length word == 0)

-- the words of a text; several separators count as one
unfoldable pub words : List ℕ → List (List ℕ)
words text = filter has_bytes (slice_split is_separator text)

-- a text from its first word on
abbrev pub from_first_word : List ℕ → List ℕ
from_first_word text = drop (prefix_len is_separator text) text

-- a letter or `_`
abbrev pub begins_name : ℕ → Bool
begins_name b =
    (nat_le 0x41 b && nat_le b 0x5a) || (nat_le 0x61 b && nat_le b 0x7a) || b == 0x5f

-- a letter, a digit or `_`
abbrev pub is_in_name : ℕ → Bool
is_in_name b = begins_name b || (nat_le 0x30 b && nat_le b 0x39)

-- a letter or `_`, and up to 31 letters, digits or `_`
abbrev pub is_name : List ℕ → Bool
is_name [] = false
is_name (b ∷ bs) = begins_name b && list_all is_in_name bs && nat_le (length bs) 31

-- a label that ends at the colon, if a name comes before it, and what follows; else no label
abbrev pub labelled_at : List ℕ → Option ℕ → Option (List ℕ) × List ℕ
labelled_at text None = (None, text)
labelled_at text (Some colon) =
    if is_name (take colon text) then (Some (take colon text), drop (colon + 1) text)
    else (None, text)

-- the label that a text begins with, if it does, and what follows it
unfoldable pub labelled : List ℕ → Option (List ℕ) × List ℕ
labelled text =
    let from = from_first_word text in
    labelled_at from (position (λ b. b == 0x3a) from)
