-- What a serve has beside the requests that are served.
use Rattle.std.specs.Prelude.{◌≡◌, ◌≢◌, ℕ, [], Some, length, slice_get, true}
use Rattle.std.specs.FinMap as fm
use Rattle.kernel_core.specs.Machine.{Machine}
use Rattle.kernel_core.specs.Runs.{frames_of}
use Rattle.kernel_core.specs.Start.{Inputs, start}
use Rattle.kernel_core.specs.declared.thread.Thread.{Thread}
use Rattle.lwc_base.specs.Holders.{IsGroup}
use Rattle.lwc_base.specs.World.{Context, is_live}
use Rattle.lwc_types.specs.declared.fault.ThreadStatus.TheVariants.{Running}
use Rattle.lwc_types.specs.declared.name.Name.{Name}

-- a worker serves a request of this job
pub record IsServed (m : Machine) (job : ℕ) : Type 0 where
  pub number : ℕ
  pub thread : Thread
  pub found : slice_get m.threads number ≡ Some thread
  pub running : thread.status ≡ Running
  pub job_is : thread.job ≡ job

-- no worker serves a request
abbrev pub AllRest : Machine → Type 0
AllRest m = (t : ℕ) (x : Thread) → slice_get m.threads t ≡ Some x → x.status ≢ Running

-- the homes are as at the start, what else lives is of a request that is served, and nothing is on the console
pub record KeepsHomes (inputs : Inputs) (m : Machine) : Type 0 where
  pub homes : (c : Name) → c.job ≡ 0 →
      fm.get m.environment.world.contexts c ≡ fm.get (start inputs).environment.world.contexts c
  pub contexts : (c : Name) → c.job ≢ 0 → is_live m.environment.world c ≡ true → IsServed m c.job
  pub groups : (g : Name) → IsGroup m.environment.world g → IsServed m g.job
  pub console : m.environment.channels.console ≡ []

-- the contexts and groups are those of the start, and the frames in use those of the image's pages
pub record IsRestored (inputs : Inputs) (m : Machine) : Type 0 where
  pub contexts : m.environment.world.contexts ≡ (start inputs).environment.world.contexts
  pub groups : m.environment.world.groups ≡ fm.empty
  pub frames : frames_of m ≡ length inputs.image.pages

-- a machine whose world has this context under a name
abbrev pub with_context : Machine → Name → Context → Machine
with_context m c x =
    let w = m.environment.world in
    record m { environment = record m.environment { world = record w { contexts = fm.insert w.contexts c x } } }
