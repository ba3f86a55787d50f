-- The two calls that a guard adds to those under traps: fuel, and a switch that takes up a thread again.
use Rattle.std.specs.Prelude.{ℕ, ◌==◌, ◌&&◌, Bool, true, false, not, List, [], ◌∷◌, Option, None, Some, is_none, nat_lt}
use Rattle.std.specs.Prelude.{if◌then◌else◌, slice_index}
use Rattle.std.specs.Option.{option_and_then, option_map_or}
use Rattle.std.specs.Ordering.{eq_by_cmp}
use Rattle.std.specs.FinMap as fm
use Rattle.guest_call.specs.Guest.{descriptor_for, link_of}
use Rattle.kernel_core.specs.Machine.{Environment}
use Rattle.kernel_core.specs.Step.{Calls, Outcome, unchanged, with_world}
use Rattle.kernel_core.specs.declared.calling.TheConstants.{LW_SWITCH}
use Rattle.kernel_core.specs.declared.thread.Thread.{Thread}
use Rattle.lwc_base.specs.Refusals.{first_refusal}
use Rattle.lwc_base.specs.Saved.{entered}
use Rattle.lwc_base.specs.Summaries.{is_empty}
use Rattle.lwc_base.specs.World.{World, context}
use Rattle.lwc_guard.specs.Guards.{Guards, fuelled, guard_or_new, holding, holds}
use Rattle.lwc_guard.specs.declared.guard.Guard.{Guard}
use Rattle.lwc_guard.specs.declared.numbers.TheConstants.{LW_FUEL, MOST_FUEL}
use Rattle.lwc_monitor.specs.Calls.{calls_under, trapping}
use Rattle.lwc_monitor.specs.Traps.{Traps, is_trapped, named}
use Rattle.lwc_monitor.specs.declared.trapping.TrapRefusal.{TrapRefusal}
use Rattle.lwc_monitor.specs.declared.trapping.TrapRefusal.TheVariants.{Plain, Trapped}
use Rattle.lwc_overlay.specs.Named.{link}
use Rattle.lwc_switch.specs.Switch.{left}
use Rattle.lwc_types.specs.Names.{name_cmp}
use Rattle.lwc_types.specs.declared.name.Name.{Name}
use Rattle.lwc_types.specs.declared.refusal.Refusal.TheVariants.{BadFd, BadRange, WrongKind}
use Rattle.lwc_types.specs.declared.regs.Regs.{Regs}

-- whether a context is trapped by this one
abbrev pub is_trapped_by : Traps → Name → Name → Bool
is_trapped_by traps c d = option_map_or (eq_by_cmp name_cmp c) (fm.get traps d) false

-- why a context gets no fuel: the first of these that holds
unfoldable pub fuel_rows : Traps → World → Name → Regs → List (Bool × TrapRefusal)
fuel_rows traps w c regs =
    let d = descriptor_for w c (slice_index regs.r 1) in
    (is_empty d, Plain BadFd)
    ∷ (is_none (link_of d), Plain WrongKind)
    ∷ (not (is_trapped_by traps c (link w c regs).0), Trapped)
    ∷ (nat_lt MOST_FUEL (slice_index regs.r 2), Plain BadRange)
    ∷ []

-- the context that the slot in r1 names, if this one has trapped it and it holds the thread of a number
abbrev pub held_by : Traps → Guards → ℕ → Name → Name → Option Name
held_by traps guards t c d = if is_trapped_by traps c d && holds guards d t then Some d else None

unfoldable pub taken_up : Traps → Guards → ℕ → World → Name → Regs → Option Name
taken_up traps guards t w c regs = option_and_then (held_by traps guards t c) (named w c regs)

-- a thread is taken up: its registers are kept where it is, and it goes on with those that the context has for it
abbrev pub taking_up : ℕ → Environment → Thread → Name → Outcome
taking_up t e x d = unchanged
    (with_world e (left e.world x.context t x.regs))
    (record x { context = d; regs = entered (context e.world d) t })

-- a switch, by the context that holds its thread, if it is one that takes it up
abbrev pub switching_up : Traps → Option Name → Calls
switching_up traps None number t e x = calls_under traps number t e x
switching_up traps (Some d) number t e x = taking_up t e x d

-- the table of calls under guards
unfoldable pub calls_guarded : Traps → Guards → Calls
calls_guarded traps guards number t e x =
    if number == LW_FUEL && not (is_trapped traps x.context)
    then unchanged e (trapping x (first_refusal (fuel_rows traps e.world x.context x.regs)))
    else (if number == LW_SWITCH
    then switching_up traps (taken_up traps guards t e.world x.context x.regs) number t e x
    else calls_under traps number t e x)

-- the guards with what a change makes of that of one context
abbrev pub with_guard : Guards → Name → (Guard → Guard) → Guards
with_guard guards d change = fm.insert guards d (change (guard_or_new (fm.get guards d)))

-- the guards after the call that gives fuel, by why it does not
abbrev pub fuelled_by : Guards → Name → ℕ → Option TrapRefusal → Guards
fuelled_by guards d fuel None = with_guard guards d (fuelled fuel)
fuelled_by guards d fuel (Some refusal) = guards

-- the guards after a switch, by the context that held its thread, if it takes one up
abbrev pub released : Guards → ℕ → Option Name → Guards
released guards t None = guards
released guards t (Some d) = with_guard guards d (holding t false)

-- the guards after a call of a thread in a context that is not guarded, if it makes one
abbrev pub guards_after_call : Traps → Guards → ℕ → World → Thread → Option ℕ → Guards
guards_after_call traps guards t w x None = guards
guards_after_call traps guards t w x (Some number) =
    if number == LW_FUEL && not (is_trapped traps x.context)
    then fuelled_by guards (link w x.context x.regs).0 (slice_index x.regs.r 2)
    (first_refusal (fuel_rows traps w x.context x.regs))
    else (if number == LW_SWITCH then released guards t (taken_up traps guards t w x.context x.regs) else guards)
