-- The files and the sink in memory, as their contracts see them.
use Rattle.std.specs.Prelude.{ℕ, Bool, ◌&&◌, ◌||◌, List, ◌∷◌, ◌++◌, [], length, Option, option_map, unwrap_or}
use Rattle.std.specs.Prelude.{is_none, slice_get, slice_index, slice_set, bytes_eq, position, ◌==◌, nat_lt}
use Rattle.std.specs.List.{list_any}
use Rattle.lwc_io.specs.Outside.{Fetch, incremented}

-- a name, and the bytes of its file
pub record Named : Type 0 where
  pub name : List ℕ
  pub bytes : List ℕ

-- the place of the first file of that name, or the number of files
abbrev pub place_of : List Named → List ℕ → ℕ
place_of files name = unwrap_or (position (λ file. bytes_eq file.name name) files) (length files)

-- the bytes of the first file of that name
abbrev pub bytes_of : List Named → List ℕ → Option (List ℕ)
bytes_of files name = option_map (λ file. file.bytes) (slice_get files (place_of files name))

-- files in memory: the faults by file and last of all other names, the calls so far, the calls that fail, and
-- the fetches so far
pub record FilesInMemory : Type 0 where
  pub files : List Named
  pub faults : List ℕ
  pub calls : ℕ
  pub failing : List ℕ
  pub fetches : List Fetch

-- how often a fetch of that name failed
abbrev pub faults_of : FilesInMemory → List ℕ → ℕ
faults_of state name = slice_index state.faults (place_of state.files name)

-- whether the next fetch of that name fails: it is one of the calls that fail, or no file has the name
abbrev pub fetch_fails : FilesInMemory → List ℕ → Bool
fetch_fails state name =
    list_any (λ call. call == state.calls) state.failing || is_none (bytes_of state.files name)

-- the files after a fetch
abbrev pub after_fetch : FilesInMemory → Fetch → FilesInMemory
after_fetch state fetch = record state {
  calls = incremented state.calls;
  fetches = state.fetches ++ fetch ∷ [];
}

-- the files with one more fault of that name
abbrev pub with_fault : FilesInMemory → List ℕ → FilesInMemory
with_fault state name = record state {
  faults = slice_set state.faults (place_of state.files name) (incremented (faults_of state name));
}

-- a sink in memory: its bytes and the capacity for them, the most that it takes a call, and as for files
pub record SinkInMemory : Type 0 where
  pub bytes : List ℕ
  pub capacity : ℕ
  pub most : ℕ
  pub faults : ℕ
  pub calls : ℕ
  pub failing : List ℕ

-- whether the next write fails: it is one of the calls that fail, or the sink takes nothing of a piece
abbrev pub write_fails : SinkInMemory → List ℕ → Bool
write_fails state piece =
    list_any (λ call. call == state.calls) state.failing || (state.most == 0 && nat_lt 0 (length piece))

-- the sink after a write that took these bytes
abbrev pub after_write : SinkInMemory → List ℕ → SinkInMemory
after_write state piece = record state { bytes = state.bytes ++ piece; calls = incremented state.calls }

-- the sink after a write that failed
abbrev pub after_failed_write : SinkInMemory → SinkInMemory
after_failed_write state = record state { faults = incremented state.faults; calls = incremented state.calls }
