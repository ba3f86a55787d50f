-- What calls of guests read and write beside the world, and the descriptors of it.
use Rattle.std.specs.Prelude.{ℕ, ◌==◌, ◌<◌, ◌≤◌, ◌||◌, Bool, List, [], All, length, map, replicate, slice_index_or}
use Rattle.std.specs.List.{sum_by}
use Rattle.lwc_base.specs.declared.descriptor.Descriptor.{Descriptor}
use Rattle.lwc_base.specs.declared.descriptor.Descriptor.TheVariants.{File, Request, Reply}
use Rattle.lwc_base.specs.Holders.{Rules, everywhere, Keeps}
use Rattle.lwc_base.specs.Keys.{ValueOf}
use Rattle.lwc_base.specs.World.{World}
use Rattle.lwc_types.specs.declared.file_image.FileImage.{FileImage}
use Rattle.lwc_types.specs.declared.key.Key.{Key}
use Rattle.lwc_types.specs.declared.key.Key.TheVariants.{Page, Slot, Cred}
use Rattle.lwc_types.specs.declared.limits.TheConstants.{MOST_FILES, MOST_FILE_BYTES, MOST_REQUESTS, MOST_REQUEST_BYTES}

-- the files of the image, the requests, and the bytes written to the console and to the reply of each request
pub record Channels : Type 0 where
  pub files : List FileImage
  pub requests : List (List ℕ)
  pub console : List ℕ
  pub replies : List (List ℕ)

-- channels to which nothing has been written
abbrev pub opened : List FileImage → List (List ℕ) → Channels
opened files requests =
    record { files = files; requests = requests; console = []; replies = replicate (length requests) [] }

-- files and requests are within the limits of a run
pub record AreSmall (files : List FileImage) (requests : List (List ℕ)) : Type 0 where
  pub few_files : length files ≤ MOST_FILES
  pub file_bytes : sum_by (λ file. length file.bytes) files ≤ MOST_FILE_BYTES
  pub few_requests : length requests ≤ MOST_REQUESTS
  pub request_bytes : All (λ request. length request ≤ MOST_REQUEST_BYTES) requests

-- the bytes of each file
abbrev pub contents : List FileImage → List (List ℕ)
contents files = map (λ file. file.bytes) files

-- the bytes that a list has at a place; none past its end
abbrev pub bytes_in : List (List ℕ) → ℕ → List ℕ
bytes_in lists i = slice_index_or lists i []

-- whether a uid may open a file: it is 0 or the owner, or the file is public
abbrev pub may_open : ℕ → ℕ → Bool → Bool
may_open uid owner public = uid == 0 || uid == owner || public

-- whether a uid may become the one that is asked for: it is 0 or that one
abbrev pub may_set : ℕ → ℕ → Bool
may_set uid asked = uid == 0 || uid == asked

-- there is a list of bytes at a place, and an offset is at most its length
pub record IsWithin (lists : List (List ℕ)) (i at : ℕ) : Type 0 where
  pub there : i < length lists
  pub within : at ≤ length (bytes_in lists i)

-- what a descriptor names is there, and it has been read up to its end at most
abbrev pub IsInRange : Channels → Descriptor → Type 0
IsInRange io (File file at) = IsWithin (contents io.files) file at
IsInRange io (Request r at) = IsWithin io.requests r at
IsInRange io (Reply r) = r < length io.requests
IsInRange io _ = Unit {0}

-- each descriptor is in range; what is under other keys is free
abbrev pub IsInRangeAt : Channels → (k : Key) → ValueOf k → Type 0
IsInRangeAt io (Page p) value = Unit {0}
IsInRangeAt io (Slot n) value = IsInRange io value
IsInRangeAt io Cred value = Unit {0}

-- a cell may name each group, where each descriptor is in range
abbrev pub in_range : Channels → Rules
in_range io = everywhere (λ k g. Unit {0}) (IsInRangeAt io)

-- each descriptor in the world is in range
abbrev pub HasItsFiles : Channels → World → Type 0
HasItsFiles io w = Keeps (in_range io) w
