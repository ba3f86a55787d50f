-- What a caller hands over, as contracts see it.
use Rattle.std.specs.Prelude.{ℕ, List, ◌∷◌, All, IsUtf8, codes, map}
use Rattle.lwc_io.specs.Memory.{Named}
use Rattle.memory_lines.specs.declared.border.Bytes.{Bytes}
use Rattle.memory_lines.specs.declared.border.FileBytes.{FileBytes}
use Rattle.memory_lines.specs.declared.border.LineError.{LineError}
use Rattle.memory_lines.specs.declared.border.LineError.TheVariants as errors

-- the words of a line: the program's name, and the bytes of each word
abbrev pub line_of : List Bytes → List (List ℕ)
line_of words = codes "lwcrun" ∷ map (λ word. word.bytes.now) words

-- a file and its name
abbrev pub named : FileBytes → Named
named file = record { name = file.name.now; bytes = file.bytes.now }

-- all words of a line, and all names of its files, are text in UTF-8
abbrev pub AreText : List Bytes → List FileBytes → Type 0
AreText words files =
    All (λ word. IsUtf8 word.bytes.now) words × All (λ file. IsUtf8 file.name.now) files

-- the number of an error, which is no other exit status but that of out of memory
abbrev pub error_number : LineError → ℕ
error_number errors.OutOfMemory = 1
error_number errors.NeedsThreads = 8
error_number errors.NotText = 9
