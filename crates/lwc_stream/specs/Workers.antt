-- Workers, each with the pass of a process and the end of a queue.
use Rattle.std.specs.Prelude.{◌≡◌, ℕ, List, [], All, map, true}
use Rattle.kernel_core.specs.Machine.{has_ended}
use Rattle.process_core.specs.declared.opened.Opened.{Opened}
use Rattle.lwc_stream.specs.Queues.{End}
use Rattle.lwc_stream.specs.Replies.{finished_by}
use Rattle.process_core.specs.Running.{Carried, IsPassOf}
use Rattle.turnstile.specs.Passes.{Lock}

-- a worker that has made no step, has counted no turn, and has put nothing into its queue
pub record IsFresh (process : Lock Opened) (pass : Carried) (turns : ℕ) (puts : End) : Type 0 where
  pub ours : IsPassOf process pass
  pub unseen : pass.held.seen ≡ []
  pub unturned : turns ≡ 0
  pub empty : puts.values ≡ []

-- a worker whose thread has ended, and that has put what its steps finished into its queue
pub record HasServed (process : Lock Opened) (pass : Carried) (puts : End) : Type 0 where
  pub ours : IsPassOf process pass
  pub ended : has_ended pass.last.status ≡ true
  pub put : puts.values ≡ finished_by process.name.inputs pass

-- the workers have served, each with its own pass and its own queue
pub record HaveServed {V : Type 0} (pass : V → Carried) (puts : V → End) (process : Lock Opened)
    (before after : List V) : Type 0 where
  pub served : All (λ w. HasServed process (pass w) (puts w)) after
  pub numbers : map (λ w. (pass w).held.number) after ≡ map (λ w. (pass w).held.number) before
  pub queues : map (λ w. (puts w).queue) after ≡ map (λ w. (puts w).queue) before
