-- What each step under guards keeps: the machine is ready, each trapped context lives, and each guarded one is trapped.
use Rattle.std.proofs.Common.{◌≡◌, ◌⊎◌, inl, inr, ℕ, suc, ◌+◌, ◌-◌, ◌≤◌, refl, sym, ap, subst, ◌∙◌, Bool, true, false, cond, eqb, ◌&&◌, Option, Some, None, List, [], ◌∷◌, length, arith}
use Rattle.std.specs.Prelude.{is_none, is_some, nat_lt, not, slice_get, slice_index}
use Rattle.std.specs.FinMap as fm
use Rattle.std.specs.Option.{option_map_or}
use Rattle.std.specs.Ordering.{eq_by_cmp}
use Rattle.guest_isa.specs.declared.instr.Instr.{Instr}
use Rattle.guest_machine.specs.Advances.{advanced}
use Rattle.guest_machine.specs.declared.progress.Advance.{Advance}
use Rattle.kernel_core.proofs.HomeStart.{ready_start}
use Rattle.kernel_core.proofs.ReadyRuns.{ready_later, ready_thread}
use Rattle.kernel_core.specs.Kernel.{CanOpen}
use Rattle.kernel_core.specs.Machine.{Environment, Machine, Serve}
use Rattle.kernel_core.specs.Ready.{IsReady}
use Rattle.kernel_core.specs.Start.{Inputs, serve_at, start}
use Rattle.kernel_core.specs.Step.{AfterStep, after_outcome, next_outcome, with_regs}
use Rattle.kernel_core.specs.declared.calling.TheConstants.{LW_SWITCH}
use Rattle.kernel_core.specs.declared.settings.Job.{Job}
use Rattle.kernel_core.specs.declared.settings.Job.TheVariants as job
use Rattle.kernel_core.specs.declared.thread.Thread.{Thread}
use Rattle.guest_call.specs.Guest.{descriptor_for, link_of}
use Rattle.lwc_base.specs.Life.{HasItsContexts}
use Rattle.lwc_base.specs.Refusals.{first_refusal}
use Rattle.lwc_base.specs.World.{World, is_live}
use Rattle.lwc_guard.proofs.Ready.{after_left, ready_outcome, taken-named}
use Rattle.lwc_guard.specs.Calls.{fuel_rows, fuelled_by, guards_after_call, is_trapped_by, released, taken_up}
use Rattle.lwc_guard.specs.GivingBack.{guarded_course}
use Rattle.lwc_guard.specs.Guards.{Guards}
use Rattle.lwc_guard.specs.Promises.{AreTrapped}
use Rattle.lwc_guard.specs.Reports.{begun}
use Rattle.lwc_guard.specs.Steps.{Guarded, guarded_step, left_by, left_found, left_of, left_running, run_guarded}
use Rattle.lwc_guard.specs.declared.guard.Guard.{Guard}
use Rattle.lwc_guard.specs.declared.numbers.TheConstants.{LW_FUEL, MOST_FUEL}
use Rattle.lwc_monitor.proofs.Few.{few_traps}
use Rattle.lwc_monitor.proofs.Guarding.{all-kept, kept-trap, retained-get, trapped-live}
use Rattle.lwc_monitor.specs.Calls.{trapped_by, traps_after_call}
use Rattle.lwc_monitor.specs.Steps.{call_by, call_next, traps_after}
use Rattle.lwc_monitor.specs.Traps.{Traps, is_trapped, trap_rows}
use Rattle.lwc_monitor.specs.declared.numbers.TheConstants.{LW_TRAP}
use Rattle.lwc_monitor.specs.declared.trapping.TrapRefusal.{TrapRefusal}
use Rattle.lwc_monitor.specs.declared.trapping.TrapRefusal.TheVariants.{Plain, Trapped}
use Rattle.lwc_base.specs.Summaries.{is_empty}
use Rattle.lwc_types.specs.declared.refusal.Refusal.TheVariants.{BadFd, BadRange, WrongKind}
use Rattle.lwc_overlay.specs.Named.{link}
use Rattle.lwc_types.proofs.Orders.{cases_name, name-itself, name_cmp-total, other_name, same_name}
use Rattle.lwc_types.specs.Names.{name_cmp}
use Rattle.lwc_types.specs.declared.fault.ThreadStatus.{ThreadStatus}
use Rattle.lwc_types.specs.declared.fault.ThreadStatus.TheVariants as status
use Rattle.lwc_types.specs.declared.name.Name.{Name}
use Rattle.lwc_types.specs.declared.regs.Regs.{Regs}

-- what a run under guards keeps
pub record IsKept (inputs : Inputs) (steps : ℕ) (s : Guarded) : Type 0 where
  pub ready : IsReady inputs steps s.machine
  pub run : s.machine.serve ≡ None
  pub live : (d m : Name) → fm.get s.traps d ≡ Some m → is_live s.machine.environment.world d ≡ true
  pub trapped : AreTrapped s.traps s.guards

module _ {X : Type 0} (m : fm.FinMap name_cmp X) (k : Name) (v : X) where
  pub get-put : (q : Name) → fm.get (fm.insert m k v) q ≡ cond (eq_by_cmp name_cmp q k) (Some v) (fm.get m q)
  get-put q = fm.get-insert name_cmp-total m k v q

  -- a key of the map with one more is this one or was there
  was-there : (d : Name) → fm.contains_key (fm.insert m k v) d ≡ true → (d ≡ k) ⊎ (fm.contains_key m d ≡ true)
  was-there d there = by (eq_by_cmp name_cmp d k) refl (sym (ap is_some (get-put d)) ∙ there)
    where
      by : (b : Bool) → eq_by_cmp name_cmp d k ≡ b → is_some (cond b (Some v) (fm.get m d)) ≡ true → (d ≡ k) ⊎ (fm.contains_key m d ≡ true)
      by true same is = inl (same_name d k same)
      by false other is = inr is

  still-there : (d : Name) → fm.contains_key m d ≡ true → fm.contains_key (fm.insert m k v) d ≡ true
  still-there d there = ap is_some (get-put d) ∙ by (eq_by_cmp name_cmp d k)
    where
      by : (b : Bool) → is_some (cond b (Some v) (fm.get m d)) ≡ true
      by true = refl
      by false = there

-- a context that is trapped by one is trapped
trapped-by : (traps : Traps) (c d : Name) → is_trapped_by traps c d ≡ true → is_trapped traps d ≡ true
trapped-by traps c d is = by (fm.get traps d) is
  where
    by : (o : Option Name) → option_map_or (eq_by_cmp name_cmp c) o false ≡ true → is_some o ≡ true
    by None there = there
    by (Some m) there = refl

-- a call keeps each trap
still-trapped : (traps : Traps) (w : World) (x : Thread) (o : Option ℕ) (d : Name) → is_trapped traps d ≡ true → is_trapped (traps_after_call traps w x o) d ≡ true
still-trapped traps w x None d there = there
still-trapped traps w x (Some number) d there = by (eqb number LW_TRAP && not (is_trapped traps x.context))
  where
    trapping : (first : Option TrapRefusal) → is_trapped (trapped_by traps w x.context x.regs first) d ≡ true
    trapping None = still-there traps (link w x.context x.regs).0 x.context d there
    trapping (Some refusal) = there

    by : (b : Bool) → is_trapped (cond b (trapped_by traps w x.context x.regs (first_refusal (trap_rows traps w x.context x.regs))) traps) d ≡ true
    by true = trapping _
    by false = there

-- where no row holds, the third one does not
third-none : (a b p q : Bool) (i j k l : TrapRefusal) → cond a (Some i) (cond b (Some j) (cond (not p) (Some k) (cond q (Some l) None))) ≡ None → p ≡ true
third-none true b p q i j k l none = cc
third-none false true p q i j k l none = cc
third-none false false true q i j k l none = refl
third-none false false false q i j k l none = cc

fuelled-trapped : (traps : Traps) (w : World) (c : Name) (regs : Regs) → first_refusal (fuel_rows traps w c regs) ≡ None → is_trapped_by traps c (link w c regs).0 ≡ true
unfolding fuel_rows
fuelled-trapped traps w c regs none =
    let d = descriptor_for w c (slice_index regs.r 1) in
    third-none (is_empty d) (is_none (link_of d)) (is_trapped_by traps c (link w c regs).0) (nat_lt MOST_FUEL (slice_index regs.r 2)) (Plain BadFd) (Plain WrongKind) Trapped (Plain BadRange) none

module _ (traps : Traps) (guards : Guards) (t : ℕ) (trapped : AreTrapped traps guards) where
  put-trapped : (k : Name) (v : Guard) → is_trapped traps k ≡ true → AreTrapped traps (fm.insert guards k v)
  put-trapped k v there d has = elim (was-there guards k v d has) [
    | inl same ↦ subst (λ (n : Name). is_trapped traps n ≡ true) (sym same) there
    | inr old ↦ trapped d old
  ]

  module _ (w : World) (x : Thread) where
    by_fuel : (first : Option TrapRefusal) → first_refusal (fuel_rows traps w x.context x.regs) ≡ first → AreTrapped traps (fuelled_by guards (link w x.context x.regs).0 (slice_index x.regs.r 2) first)
    by_fuel None none = put-trapped (link w x.context x.regs).0 _ (trapped-by traps x.context (link w x.context x.regs).0 (fuelled-trapped traps w x.context x.regs none))
    by_fuel (Some refusal) is = trapped

    by_switch : (o : Option Name) → taken_up traps guards t w x.context x.regs ≡ o → AreTrapped traps (released guards t o)
    by_switch None is = trapped
    by_switch (Some d) is = put-trapped d _ (trapped-by traps x.context d (taken-named traps guards t w x.context d x.regs is).1)

    by_number : (a b : Bool) → AreTrapped traps (cond a (fuelled_by guards (link w x.context x.regs).0 (slice_index x.regs.r 2) (first_refusal (fuel_rows traps w x.context x.regs)))
        (cond b (released guards t (taken_up traps guards t w x.context x.regs)) guards))
    by_number true b = by_fuel _ refl
    by_number false true = by_switch _ refl
    by_number false false = trapped

    after-call : (o : Option ℕ) → AreTrapped traps (guards_after_call traps guards t w x o)
    after-call None = trapped
    after-call (Some number) = by_number (eqb number LW_FUEL && not (is_trapped traps x.context)) (eqb number LW_SWITCH)

  after-running : (e : Environment) (x : Thread) (advance : Advance) (o : Option Guard) → fm.get guards x.context ≡ o → AreTrapped traps (left_by o traps guards t e x advance).guards
  after-running e x advance None is = after-call e.world (with_regs x advance.after) (call_next advance.next)
  after-running e x advance (Some g) is = put-trapped x.context _ (trapped x.context (ap is_some is))

  after-status : (e : Environment) (text : List Instr) (x : Thread) (st : ThreadStatus) → AreTrapped traps (left_of traps guards t e None text x st).1
  unfolding left_running
  after-status e text x status.Running = after-running e x (advanced text x.regs) (fm.get guards x.context) refl
  after-status e text x status.Idle = trapped
  after-status e text x (status.Done code) = trapped
  after-status e text x (status.Faulted f) = trapped

-- the guards after a step are of contexts that are trapped after it
pub guards-within : (traps : Traps) (guards later : Guards) (t : ℕ) (e : Environment) (text : List Instr) (x : Thread) → AreTrapped traps guards → (made : Option AfterStep) → left_of traps guards t e None text x x.status ≡ (made, later) →
    AreTrapped (traps_after_call traps e.world (with_regs x (advanced text x.regs).after) (call_by text x x.status)) later
guards-within traps guards later t e text x trapped made is d has =
    still-trapped traps e.world (with_regs x (advanced text x.regs).after) (call_by text x x.status) d
    (after-status traps guards t trapped e text x x.status d (ap (λ (p : Option AfterStep × Guards). fm.contains_key p.1 d) is ∙ has))

-- guards of trapped contexts are kept with these
pub all-guards-kept : (traps : Traps) (guards : Guards) (keep : Name → Bool) → ((d m : Name) → fm.get traps d ≡ Some m → keep d ≡ true) → AreTrapped traps guards → fm.retain_keys guards keep ≡ guards
all-guards-kept traps guards keep all trapped = all-kept guards keep (λ d g is. by d (fm.get traps d) refl (trapped d (ap is_some is)))
  where
    by : (d : Name) (o : Option Name) → fm.get traps d ≡ o → is_some o ≡ true → keep d ≡ true
    by d None is there = cc
    by d (Some m) is there = all d m is

pub few_guards : (traps : Traps) (guards : Guards) (w : World) → ((d m : Name) → fm.get traps d ≡ Some m → is_live w d ≡ true) → AreTrapped traps guards → fm.len guards ≤ fm.len w.contexts
few_guards traps guards w live trapped = few_traps guards w (λ d g is. by d (fm.get traps d) refl (trapped d (ap is_some is)))
  where
    by : (d : Name) (o : Option Name) → fm.get traps d ≡ o → is_some o ≡ true → is_live w d ≡ true
    by d None is there = cc
    by d (Some m) is there = live d m is

-- what is left of guards and traps, by what is kept of both
both-kept : (traps : Traps) (guards : Guards) (keep : Name → Bool) → AreTrapped traps guards → AreTrapped (fm.retain_keys traps keep) (fm.retain_keys guards keep)
both-kept traps guards keep trapped d has = ap is_some (retained-get traps keep d) ∙ by (keep d) (ap is_some (sym (retained-get guards keep d)) ∙ has)
  where
    by : (b : Bool) → is_some (cond b (fm.get guards d) None) ≡ true → is_some (cond b (fm.get traps d) None) ≡ true
    by true there = trapped d there
    by false there = there

module _ (inputs : Inputs) (steps : ℕ) (s : Guarded) (t : ℕ) (kept : IsKept inputs steps s) where
  unmade : IsReady inputs (steps + 1) s.machine × (s.machine.serve ≡ None)
  unmade = (ready_later inputs steps (steps + 1) s.machine (omega arith) kept.ready, kept.run)

  by_made : (x : Thread) → slice_get s.machine.threads t ≡ Some x → (made : Option AfterStep) (later : Guards) → left_of s.traps s.guards t s.machine.environment None s.machine.text x x.status ≡ (made, later) →
      IsReady inputs (steps + 1) (after_outcome s.machine t made) × ((after_outcome s.machine t made).serve ≡ None)
  by_made x found None later is = unmade
  by_made x found (Some after) later is =
      let left = after_left inputs steps t s.machine x kept.ready found s.traps s.guards later x.status after refl is in
      (ready_outcome inputs steps t s.machine x kept.ready found after left.0 left.1, left.1)

  by_found : (o : Option Thread) → slice_get s.machine.threads t ≡ o → IsReady inputs (steps + 1) (after_outcome s.machine t (left_found s t o).0) × ((after_outcome s.machine t (left_found s t o).0).serve ≡ None)
  by_found None is = unmade
  by_found (Some x) is =
      subst (λ (serve : Option Serve). IsReady inputs (steps + 1) (after_outcome s.machine t (left_of s.traps s.guards t s.machine.environment serve s.machine.text x x.status).0)
      × ((after_outcome s.machine t (left_of s.traps s.guards t s.machine.environment serve s.machine.text x x.status).0).serve ≡ None)) (sym kept.run)
      (by_made x is _ _ refl)

  within-found : (o : Option Thread) → AreTrapped (traps_after s.traps s.machine o) (left_found s t o).1
  within-found None = kept.trapped
  within-found (Some x) =
      subst (λ (serve : Option Serve). AreTrapped (traps_after s.traps s.machine (Some x)) (left_of s.traps s.guards t s.machine.environment serve s.machine.text x x.status).1) (sym kept.run)
      (guards-within s.traps s.guards _ t s.machine.environment s.machine.text x kept.trapped _ refl)

  -- a step keeps what a run does
  pub kept-step : IsKept inputs (steps + 1) (guarded_step s t)
  unfolding guarded_step
  kept-step = record {
    ready = (by_found (slice_get s.machine.threads t) refl).0;
    run = (by_found (slice_get s.machine.threads t) refl).1;
    live = λ d m is. (kept-trap _ _ d m is).0;
    trapped = both-kept _ _ _ (within-found (slice_get s.machine.threads t));
  }

-- and so does each run
kept-run : (inputs : Inputs) (steps : ℕ) (ts : List ℕ) (s : Guarded) → IsKept inputs steps s → IsKept inputs (steps + length ts) (run_guarded s ts)
kept-run inputs steps [] s kept = record { ready = ready_later inputs steps (steps + 0) s.machine (omega arith) kept.ready; run = kept.run; live = kept.live; trapped = kept.trapped }
kept-run inputs steps (t ∷ ts) s kept =
    let rest = kept-run inputs (steps + 1) ts (guarded_step s t) (kept-step inputs steps s t kept) in
    record { ready = ready_later inputs (steps + 1 + length ts) (steps + suc (length ts)) _ (omega arith) rest.ready; run = rest.run; live = rest.live; trapped = rest.trapped }

kept-start : (inputs : Inputs) → CanOpen inputs → inputs.settings.job ≡ job.Run → IsKept inputs 0 (begun inputs)
unfolding start
kept-start inputs can run = record {
  ready = ready_start inputs can;
  run = ap (λ (j : Job). serve_at j inputs.settings.budget (length inputs.requests)) run;
  live = λ d m is. absurd (nothing d m is);
  trapped = λ d has. absurd (none d has);
}
  where
    nothing : (d m : Name) → fm.get (fm.empty {K = Name} {X = Name} {R = name_cmp}) d ≡ Some m → ⊥
    nothing d m is = let none = fm.get-empty {X = Name} name_cmp d in cc

    none : (d : Name) → fm.contains_key (fm.empty {K = Name} {X = Guard} {R = name_cmp}) d ≡ true → ⊥
    none d has = let no : fm.contains_key (fm.empty {K = Name} {X = Guard} {R = name_cmp}) d ≡ false = ap is_some (fm.get-empty {X = Guard} name_cmp d) in cc

-- what is kept after each list of steps
pub kept-after : (inputs : Inputs) (steps : List ℕ) → CanOpen inputs → inputs.settings.job ≡ job.Run → IsKept inputs (0 + length steps) (run_guarded (begun inputs) steps)
kept-after inputs steps can run = kept-run inputs 0 steps (begun inputs) (kept-start inputs can run)
