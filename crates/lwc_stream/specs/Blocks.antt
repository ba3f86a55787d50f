-- The memory in which a worker keeps the bytes of its replies.
use Rattle.std.specs.Prelude.{◌≡◌, ℕ, ◌≤◌, ◌*◌, List, Some, Vec, slice_get, vec_capacity}
use Rattle.std.specs.declared.alloc.Global.{Global}
use Rattle.lwc_types.specs.declared.limits.TheConstants.{MOST_REPLY_BYTES}
use Rattle.lwc_stream.specs.declared.store.TheConstants.{LAST}

-- the largest of a worker's blocks has room for so many replies, however long each is
abbrev pub HaveRoom : ℕ → List (Vec ℕ Global) → Type 0
HaveRoom replies blocks = (block : Vec ℕ Global) → slice_get blocks LAST ≡ Some block
    → replies * MOST_REPLY_BYTES ≤ vec_capacity block
