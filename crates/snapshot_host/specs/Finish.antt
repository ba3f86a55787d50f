-- What channels have of a request that is finished.
use Rattle.std.specs.Prelude.{◌≡◌, ◌<◌, length, take}
use Rattle.lwc_base.specs.Channels.{Channels, bytes_in}
use Rattle.snapshot_host.specs.declared.finishing.Finished.{Finished}

-- a record is of one of the requests, and its bytes are the first ones that are written to the reply
pub record StillHas (io : Channels) (told : Finished) : Type 0 where
  pub known : told.request < length io.requests
  pub first : take (length told.bytes) (bytes_in io.replies told.request) ≡ told.bytes
