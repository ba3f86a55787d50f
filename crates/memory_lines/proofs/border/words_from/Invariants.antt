use Rattle.std.proofs.Common.{◌≡◌, map, take, string_bytes}
use Rattle.memory_lines.specs.Border.{line_of}
use Rattle.memory_lines.proofs.border.words_from.Given as goal

-- the program's name, and the words so far
abbrev pub invariant-words : goal.invariant-words
invariant-words l = map string_bytes l.texts.items ≡ line_of (take l.word-index l.words)
