-- What files in memory hold, and how a call over them is seen.
use Rattle.std.specs.Prelude.{ℕ, List, [], None, Some, unwrap_or}
use Rattle.lwc_io.specs.Memory.{Named, bytes_of}
use Rattle.lwc_io.specs.Outside.{FilesView, SinkView}
use Rattle.lwc_io.specs.Sure.{FilesThatNeverFail}

-- the bytes under a name; a name that was not given is an empty file
abbrev pub contents : List Named → List ℕ → List ℕ
contents files name = unwrap_or (bytes_of files name) []

-- files that never fail: the contents of each are known
abbrev pub files_view : FilesThatNeverFail → FilesView
files_view files =
    record { contents = λ name. Some (contents files.files name); faults = λ _. 0; fetches = files.fetches }

-- an output that takes each piece, and keeps nothing of it
abbrev pub unseen : SinkView
unseen = record { taken = None; faults = 0 }
