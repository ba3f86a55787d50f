-- A pool of frames as the list of its frames.
use Rattle.std.specs.Prelude.{ℕ, ◌==◌, List, [], count_by, nat_lt, slice_index_or, slice_set}
use Rattle.lwc_types.specs.declared.name.Tag.{Tag}
use Rattle.lwc_types.specs.Pages.{zero_page}

-- a frame: how often it is held, its stamp, and its bytes
pub record Frame : Type 0 where
  pub count : ℕ
  pub stamp : Tag
  pub bytes : List ℕ

-- a frame whose bytes are all 0
abbrev pub zero_frame : ℕ → Tag → Frame
zero_frame count stamp = record { count = count; stamp = stamp; bytes = zero_page }

-- what is read past the end of a pool
abbrev pub no_frame : Frame
no_frame = record { count = 0; stamp = record { job = 0; k = 0 }; bytes = [] }

-- the frame at a place
abbrev pub frame_at : List Frame → ℕ → Frame
frame_at frames f = slice_index_or frames f no_frame

-- how often a frame is held
abbrev pub frame_count : List Frame → ℕ → ℕ
frame_count frames f = (frame_at frames f).count

-- the stamp of a frame
abbrev pub frame_stamp : List Frame → ℕ → Tag
frame_stamp frames f = (frame_at frames f).stamp

-- the bytes of a frame
abbrev pub frame_bytes : List Frame → ℕ → List ℕ
frame_bytes frames f = (frame_at frames f).bytes

-- the frames, where one is held so often
abbrev pub recount_frame : List Frame → ℕ → ℕ → List Frame
recount_frame frames f c = slice_set frames f (record (frame_at frames f) { count = c })

-- the frames, where one has other bytes
abbrev pub refill_frame : List Frame → ℕ → List ℕ → List Frame
refill_frame frames f bs = slice_set frames f (record (frame_at frames f) { bytes = bs })

-- how many frames are free
abbrev pub free_frames : List Frame → ℕ
free_frames frames = count_by (λ frame. frame.count == 0) frames

-- how many frames are held
abbrev pub used_frames : List Frame → ℕ
used_frames frames = count_by (λ frame. nat_lt 0 frame.count) frames
