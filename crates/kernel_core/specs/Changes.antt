-- How functions of the code say which outcome they have made.
use Rattle.std.specs.Prelude.{◌≡◌, ℕ, if◌then◌else◌, List, Option, None, Some, slice_get, slice_set}
use Rattle.std.specs.Option.{option_map}
use Rattle.kernel_core.specs.Machine.{Environment, Serve, recorded}
use Rattle.kernel_core.specs.Step.{AfterStep, Outcome, beside, unchanged}
use Rattle.kernel_core.specs.declared.acting.Change.{Change}
use Rattle.kernel_core.specs.declared.acting.Change.TheVariants as change
use Rattle.kernel_core.specs.declared.acting.Effect.{Effect}
use Rattle.kernel_core.specs.declared.thread.Thread.{Thread}
use Rattle.lwc_base.specs.Channels.{Channels}
use Rattle.lwc_base.specs.Life.{IsReaped}
use Rattle.lwc_base.specs.World.{World}
use Rattle.lwc_base.specs.declared.answer.Answer.{Answer}
use Rattle.lwc_base.specs.declared.answer.Answer.TheVariants.{Done, Refused}
use Rattle.lwc_types.specs.declared.name.Name.{Name}
use Rattle.lwc_syscall.specs.Changes.{cuts_none, leaves_world}
use Rattle.lwc_syscall.specs.declared.answer.CallAnswer.{CallAnswer}
use Rattle.lwc_syscall.specs.declared.answer.CallAnswer.TheVariants.{Value, Exit}
use Rattle.lwc_syscall.specs.declared.answer.CallAnswer.TheVariants as answers
use Rattle.lwc_syscall.specs.declared.plain_call.PlainCall.{PlainCall}

-- an outcome of the first world, channels and thread is the second ones
abbrev pub MakesAll :
    (Environment → Thread → Outcome) → World → Channels → Thread → World → Channels → Thread → Type 0
MakesAll outcome w io x v after y = outcome (beside w io) x ≡ unchanged (beside v after) y

-- an outcome of the first world and thread is the second ones, and any channels stay
abbrev pub Makes : (Environment → Thread → Outcome) → World → Thread → World → Thread → Type 0
Makes outcome w x v y = (io : Channels) → MakesAll outcome w io x v io y

-- where nothing was left to drop, nothing is once a thread has gone from one context to another
abbrev pub LeavesNothing : World → Name → World → Name → Type 0
LeavesNothing w c v d =
    (contexts : List Name) (t : ℕ) → slice_get contexts t ≡ Some c → IsReaped w contexts →
    IsReaped v (slice_set contexts t d)

-- by what has changed: neither the world nor the thread's context, or no link is cut, or one may be
abbrev pub Keeps : Change → World → Thread → World → Thread → Type 0
Keeps change.Thread w x v y = (v ≡ w) × (y.context ≡ x.context)
Keeps change.World w x v y = LeavesNothing w x.context v y.context
Keeps change.Links w x v y = Unit {0}

-- what a call has changed by its answer: this, or no more than the thread if it was refused
abbrev pub change_by : Answer → Change → Change
change_by (Done regs) accepted = accepted
change_by (Refused refusal) accepted = change.Thread

-- what a plain call may have changed where it is accepted
abbrev pub change_by_plain : Option PlainCall → Change
change_by_plain call =
    if leaves_world call then change.Thread else (if cuts_none call then change.World else change.Links)

-- and what a plain call has changed by its answer
abbrev pub change_by_end : CallAnswer → Change → Change
change_by_end (Value value) accepted = accepted
change_by_end (Exit code) accepted = accepted
change_by_end (answers.Refused refusal) accepted = change.Thread

-- what a step leaves, by its effect
abbrev pub after_effect : Effect → Environment → Option Serve → Thread → AfterStep
after_effect effect e serve x =
    record { thread = x; environment = e; serve = serve; finished = recorded serve effect.finished }

-- an effect has the number of the request that it has finished, if any
abbrev pub IsNumbered : Effect → Option Serve → Type 0
IsNumbered effect serve = effect.finished ≡ option_map (λ f. f.request) (recorded serve effect.finished)

-- what a step leaves, if one was made
abbrev pub made : Option Effect → Environment → Option Serve → Thread → Option AfterStep
made effect e serve x = option_map (λ f. after_effect f e serve x) effect

-- by what a step has changed, if one was made; else everything is as it was
abbrev pub KeepsAll :
    Option Effect → World → Channels → Option Serve → Thread → World → Channels → Option Serve → Thread → Type 0
KeepsAll None w io serve x v after now y = (v ≡ w) × ((after ≡ io) × ((now ≡ serve) × (y ≡ x)))
KeepsAll (Some effect) w io serve x v after now y = Keeps effect.change w x v y
