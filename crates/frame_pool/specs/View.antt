-- What a pool keeps, seen as the list of its frames.
use Rattle.std.specs.Prelude.{◌≡◌, ℕ, ◌≤◌, List, length, slice_index}
use Rattle.lwc_types.specs.declared.name.Tag.{Tag}
use Rattle.lwc_types.specs.Pages.{zero_page}
use Rattle.pool_base.specs.HoldCounts.{Places}
use Rattle.pool_base.specs.Padded.{padded}
use Rattle.pool_base.specs.Paired.{paired}
use Rattle.frame_pool.specs.Frame.{Frame}

-- what a frame holds beside its count
pub record Content : Type 0 where
  pub stamp : Tag
  pub bytes : List ℕ

-- a content, of its parts
abbrev pub content : Tag → List ℕ → Content
content stamp bytes = record { stamp = stamp; bytes = bytes }

-- the stamp of a frame that was never taken
abbrev pub no_tag : Tag
no_tag = record { job = 0; k = 0 }

-- a frame, of its count and its content
abbrev pub seen_frame : ℕ → Content → Frame
seen_frame count held = record { count = count; stamp = held.stamp; bytes = held.bytes }

-- the contents of this number of frames; one that was never taken has zeros
abbrev pub seen_contents : ℕ → List Tag → List (List ℕ) → List Content
seen_contents size stamps bytes = paired content (padded size no_tag stamps) (padded size zero_page bytes)

-- the frames, of their counts, stamps and bytes
abbrev pub seen_frames : Places → List Tag → List (List ℕ) → List Frame
seen_frames places stamps bytes = paired seen_frame places.counts (seen_contents (length places.counts) stamps bytes)

-- each frame that was taken has a stamp and bytes, and no other frame is held
pub record IsWhole (places : Places) (stamps : List Tag) (bytes : List (List ℕ)) : Type 0 where
  pub stamped : length stamps ≡ places.taken
  pub filled : length bytes ≡ places.taken
  pub within : places.taken ≤ length places.counts
  pub fresh : (n : ℕ) → places.taken ≤ n → slice_index places.counts n ≡ 0
