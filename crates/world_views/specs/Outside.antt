-- Contexts that cannot open a context, and what calls from there do where that is blank.
use Rattle.std.specs.Prelude.{◌≡◌, ◌≢◌, ◌≤◌, if◌then◌else◌, ℕ, Bool, List, false, Option}
use Rattle.guest_call.specs.Guest.{descriptor_for}
use Rattle.lwc_base.specs.Capabilities.{has_key}
use Rattle.lwc_base.specs.Channels.{Channels}
use Rattle.lwc_base.specs.Modes.{IsKey}
use Rattle.lwc_base.specs.World.{World, next_context}
use Rattle.lwc_base.specs.declared.answer.Moved.{Moved}
use Rattle.lwc_base.specs.declared.answer.Moved.TheVariants.{To, Refused}
use Rattle.lwc_base.specs.declared.descriptor.Cap.{Cap}
use Rattle.lwc_base.specs.declared.descriptor.Descriptor.TheVariants.{Ctx}
use Rattle.lwc_types.specs.Registers.{fresh_registers}
use Rattle.lwc_types.specs.declared.key.Key.{Key}
use Rattle.lwc_types.specs.declared.limits.TheConstants.{MOST_PAGES}
use Rattle.lwc_types.specs.declared.name.Name.{Name}
use Rattle.lwc_types.specs.declared.regs.Regs.{Regs}
use Rattle.lwc_create.specs.Create.{create}
use Rattle.lwc_overlay.specs.OverlayCall.{overlay}
use Rattle.lwc_overlay.specs.RestrictCall.{restrict}
use Rattle.lwc_switch.specs.Switch.{switch}
use Rattle.lwc_syscall.specs.Plain.{Outcome, plain}
use Rattle.lwc_syscall.specs.Syscall.{lw_syscall}
use Rattle.lwc_syscall.specs.declared.calls.CallContexts.{CallContexts}
use Rattle.lwc_syscall.specs.declared.plain_call.PlainCall.{PlainCall}
use Rattle.world_views.specs.Blank.{blank, tells_registers}

-- a capability has no key
abbrev pub LacksKeys : Cap → Type 0
LacksKeys cap = (k : Key) → IsKey MOST_PAGES k → has_key cap k ≡ false

-- each descriptor of a context in another one's slots has no key
abbrev pub IsShut : Name → Name → World → Type 0
IsShut v c w = (n : ℕ) (cap : Cap) → descriptor_for w c n ≡ Ctx v cap → LacksKeys cap

-- another context, for a job whose next context is another one too; none of its descriptors opens v
pub record IsOutside (v c : Name) (own : ℕ) (w : World) : Type 0 where
  pub context : c ≢ v
  pub new : next_context w own ≢ v
  pub shut : IsShut v c w
  pub pages : (1 ≤ w.size.pages) × (w.size.pages ≤ MOST_PAGES)

-- three contexts, each another one
pub record AreOutside (v : Name) (targets : CallContexts) : Type 0 where
  pub memory : targets.memory ≢ v
  pub slots : targets.slots ≢ v
  pub cred : targets.cred ≢ v

-- an answer, with a world in which a context is blank
abbrev pub blank_end : {A : Type 0} → Bool → Name → A × World → A × World
blank_end keep v r = (r.0, blank keep v r.1)

-- the end of a plain call, with a world in which a context is blank
abbrev pub blank_outcome : Bool → Name → Outcome → Outcome
blank_outcome keep v o = record o { world = blank keep v o.world }

-- where a switch leads, without the registers of a thread that enters a context which keeps none
abbrev pub covered : Bool → Name → Moved → Moved
covered keep v (To d regs) =
    To d (if tells_registers keep v d then regs else fresh_registers 0)
covered keep v (Refused refusal) = Refused refusal

-- the end of a switch, so covered
abbrev pub covered_end : Bool → Name → Moved × World → Moved × World
covered_end keep v r = (covered keep v r.0, r.1)

-- each call is the same call where the context is blank; a thread that enters it is the same but for its registers,
-- where it keeps none
pub record CallsAlike (keep : Bool) (v c : Name) (own t : ℕ) (w : World) (io : Channels) : Type 0 where
  pub create : (regs : Regs) → create (blank keep v w) c own regs ≡ blank_end keep v (create w c own regs)
  pub restrict : (regs : Regs) → restrict (blank keep v w) c regs ≡ blank_end keep v (restrict w c regs)
  pub overlay : (regs : Regs) → overlay (blank keep v w) c own regs ≡ blank_end keep v (overlay w c own regs)
  pub switch : (regs : Regs) → covered_end keep v (switch (blank keep v w) c t regs)
      ≡ blank_end keep v (covered_end keep v (switch w c t regs))
  pub plain : (targets : CallContexts) (call : Option PlainCall) (args : List ℕ) → AreOutside v targets →
      plain (blank keep v w) io targets own call args ≡ blank_outcome keep v (plain w io targets own call args)
  pub syscall : (regs : Regs) →
      lw_syscall (blank keep v w) io c own regs ≡ blank_outcome keep v (lw_syscall w io c own regs)
