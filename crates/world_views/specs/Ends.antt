-- Calls of guests that end alike in two worlds that look alike to a job.
use Rattle.std.specs.Prelude.{◌≡◌, ◌≢◌, ◌+◌, ℕ, List, slice_index}
use Rattle.guest_call.specs.Guest.{descriptor_for}
use Rattle.lwc_base.specs.Channels.{Channels}
use Rattle.lwc_base.specs.Store.{Piece}
use Rattle.lwc_base.specs.World.{World}
use Rattle.lwc_types.specs.declared.refusal.Refusal.TheVariants.{NoFrame}
use Rattle.lwc_syscall.specs.Plain.{Outcome, moved}
use Rattle.lwc_syscall.specs.declared.answer.CallAnswer.TheVariants.{Refused}
use Rattle.lwc_syscall.specs.declared.calls.CallContexts.{CallContexts}
use Rattle.world_views.specs.ByJob.{Home, LooksAlike}
use Rattle.world_views.specs.Views.{channel_view}

-- two calls give the same answer, and leave worlds that look alike to a job
pub record EndsAlike {A : Type 0} (home : Home) (job t s : ℕ) (a b : A × World) : Type 0 where
  pub answer : a.0 ≡ b.0
  pub worlds : LooksAlike home job t s a.1 b.1

-- two plain calls for a request give the same answer, and leave what looks alike to its job
pub record OutcomesAlike (home : Home) (r t s : ℕ) (a b : Outcome) : Type 0 where
  pub answer : a.answer ≡ b.answer
  pub worlds : LooksAlike home (r + 1) t s a.world b.world
  pub channels : channel_view r a.io ≡ channel_view r b.io

-- a call is not refused for want of frames
abbrev pub HasFrames : Outcome → Type 0
HasFrames outcome = outcome.answer ≢ Refused NoFrame

-- the contexts of a plain call are all of a job
pub record AreOf (job : ℕ) (targets : CallContexts) : Type 0 where
  pub memory : targets.memory.job ≡ job
  pub slots : targets.slots.job ≡ job
  pub cred : targets.cred.job ≡ job

-- the bytes that a read moves to the memory
abbrev pub read_piece : World → Channels → CallContexts → List ℕ → Piece
read_piece w io targets args = record {
  at = slice_index args 1;
  bytes = moved io (descriptor_for w targets.slots (slice_index args 0)) (slice_index args 2);
}
