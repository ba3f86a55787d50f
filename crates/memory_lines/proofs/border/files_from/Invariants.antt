use Rattle.std.proofs.Common.{◌≡◌, map, take}
use Rattle.memory_lines.specs.Border.{named}
use Rattle.memory_lines.proofs.border.files_from.Given as goal

-- the files so far
abbrev pub invariant-files : goal.invariant-files
invariant-files l = l.taken.items ≡ map named (take l.file-index l.files)
