-- A pool that lends the bytes of a frame.
use Rattle.std.specs.Prelude.{ℕ, List}
use Rattle.std.specs.Borrow.{Lends, MutBor, Fml, Array, u8}
use Rattle.lwc_types.specs.declared.page.TheConstants.{PAGE_BYTES}
use Rattle.frame_pool.specs.contracts.pool.Pool.{the_row}
use Rattle.frame_pool.specs.Frame.{Frame, refill_frame}

-- the pool ends with the bytes that were left behind r as the bytes of the frame
abbrev pub LendsBytes : MutBor (List Frame) → ℕ → MutBor (List ℕ) → Fml
LendsBytes pool f r = Lends the_row (Array u8 PAGE_BYTES) pool r (refill_frame pool.now f)
