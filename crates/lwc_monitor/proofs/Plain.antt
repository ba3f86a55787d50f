-- Where no step traps a context, a run under traps is the kernel's.
use Rattle.std.proofs.Common.{◌≡◌, ◌≢◌, ◌-◌, ℕ, refl, sym, ap, subst, ◌∙◌, Bool, true, false, cond, ◌&&◌, arith, Option, Some, None, List, [], ◌∷◌, ◌++◌, length, append-nil}
use Rattle.std.specs.Prelude.{max, not, slice_get}
use Rattle.std.specs.FinMap as fm
use Rattle.std.specs.List.{flat_map}
use Rattle.std.proofs.lemmas.Bool.{ne_eqb}
use Rattle.guest_isa.specs.declared.instr.Instr.{Instr}
use Rattle.guest_isa.specs.declared.op.Op.{Op}
use Rattle.guest_isa.specs.declared.op.Op.TheVariants.{Sys}
use Rattle.guest_machine.specs.Advances.{advanced}
use Rattle.guest_machine.specs.declared.progress.Next.{Next}
use Rattle.guest_machine.specs.declared.progress.Next.TheVariants as next
use Rattle.kernel_core.specs.Machine.{Environment, Machine, Serve, is_ended}
use Rattle.kernel_core.specs.Refused.{advanced_thread}
use Rattle.kernel_core.specs.Runs.{frames_of, kept, peak, run}
use Rattle.kernel_core.specs.Start.{Inputs, start}
use Rattle.kernel_core.specs.Step.{Outcome, advance_outcome, after_outcome, after_thread, counted, guest_calls, next_outcome, settled, shared_outcome, step, step_by, thread_outcome, with_regs}
use Rattle.kernel_core.specs.declared.thread.Thread.{Thread}
use Rattle.lwc_base.specs.Refusals.{first_refusal}
use Rattle.lwc_base.specs.World.{World, is_live}
use Rattle.lwc_types.specs.Names.{name_cmp}
use Rattle.lwc_types.specs.declared.fault.ThreadStatus.{ThreadStatus}
use Rattle.lwc_types.specs.declared.fault.ThreadStatus.TheVariants as status
use Rattle.lwc_types.specs.declared.name.Name.{Name}
use Rattle.lwc_monitor.proofs.Guarding.{all-kept}
use Rattle.lwc_monitor.proofs.Tables.{without_traps}
use Rattle.lwc_monitor.specs.Calls.{calls_under, trapped_by, traps_after_call}
use Rattle.lwc_monitor.specs.Promises.{TrapsNone}
use Rattle.lwc_monitor.specs.Reports.{begun, monitored_text, report_after_under, report_under, traps_text}
use Rattle.lwc_monitor.specs.Steps.{Monitored, call_by, call_in, call_next, call_of, kept_under, monitored_step, peak_under, run_under, traps_after, unmonitored}
use Rattle.lwc_monitor.specs.Traps.{Traps, is_trapped, trap_rows}
use Rattle.lwc_monitor.specs.declared.numbers.TheConstants.{LW_TRAP}
use Rattle.lwc_text.specs.Lines.{groups_line, tail_lines, trap_line}
use Rattle.lwc_text.specs.Report.{contexts_text, replies_text, report_of, report_of_schedule, threads_text}

abbrev nothing : Traps
nothing = fm.empty

module _ (t : ℕ) (e : Environment) (x : Thread) where
  shared-same : (i : Instr) (op : Op) → call_in op i.imm ≢ Some LW_TRAP → shared_outcome (calls_under nothing) t e x i op ≡ shared_outcome guest_calls t e x i op
  unfolding shared_outcome
  shared-same i Sys other = without_traps i.imm t e x (λ same. other (ap Some same))
  shared-same i _ other = refl

  next-same : (n : Next) → call_next n ≢ Some LW_TRAP → next_outcome (calls_under nothing) t e x n ≡ next_outcome guest_calls t e x n
  unfolding next_outcome
  next-same next.Pause other = refl
  next-same next.BadPc other = refl
  next-same (next.Shared i) other = shared-same i i.op other

-- the traps after a call that does not trap
call-none : (w : World) (x : Thread) (o : Option ℕ) → o ≢ Some LW_TRAP → traps_after_call nothing w x o ≡ nothing
call-none w x None other = refl
call-none w x (Some number) other =
    ap (λ b. cond (b && not (is_trapped nothing x.context)) (trapped_by nothing w x.context x.regs (first_refusal (trap_rows nothing w x.context x.regs))) nothing)
    (ne_eqb number LW_TRAP (λ same. other (ap Some same)))

module _ (m : Machine) (t : ℕ) where
  status-same : (x : Thread) (serve : Option Serve) (st : ThreadStatus) → call_by m.text x st ≢ Some LW_TRAP →
      thread_outcome (calls_under nothing) t m.environment serve m.text x st ≡ thread_outcome guest_calls t m.environment serve m.text x st
  unfolding advance_outcome
  status-same x serve status.Running other =
      ap (λ (o : Outcome). Some (settled t serve (counted (x.budget - 1) o))) (next-same t m.environment (with_regs x (advanced m.text x.regs).after) (advanced m.text x.regs).next other)
  status-same x serve status.Idle other = refl
  status-same x serve (status.Done code) other = refl
  status-same x serve (status.Faulted f) other = refl

  abbrev Quiet : Option Thread → Type 0
  Quiet o = (x : Thread) → o ≡ Some x → call_of m x ≢ Some LW_TRAP

  thread-same : (o : Option Thread) → Quiet o → after_thread (calls_under nothing) m t o ≡ after_thread guest_calls m t o
  thread-same None quiet = refl
  thread-same (Some x) quiet = ap (after_outcome m t) (status-same x m.serve x.status (quiet x refl))

  traps-same : (o : Option Thread) → Quiet o → traps_after nothing m o ≡ nothing
  traps-same None quiet = refl
  traps-same (Some x) quiet = call-none m.environment.world (advanced_thread m x) (call_of m x) (quiet x refl)

  empty-kept : (keep : Name → Bool) → fm.retain_keys nothing keep ≡ nothing
  empty-kept keep = all-kept nothing keep (λ d c is. let none = fm.get-empty {X = Name} name_cmp d in cc)

  pub step-same : Quiet (slice_get m.threads t) → monitored_step (unmonitored m) t ≡ unmonitored (step m t)
  unfolding monitored_step step_by
  step-same quiet =
      let machines = thread-same (slice_get m.threads t) quiet in
      let traps : fm.retain_keys (traps_after nothing m (slice_get m.threads t)) (is_live (after_thread (calls_under nothing) m t (slice_get m.threads t)).environment.world) ≡ nothing =
      ap (λ (z : Traps). fm.retain_keys z (is_live (after_thread (calls_under nothing) m t (slice_get m.threads t)).environment.world)) (traps-same (slice_get m.threads t) quiet) ∙ empty-kept _ in
      λ i. record { machine = machines i; traps = traps i }

-- no step from here on traps
abbrev QuietRun : Machine → List ℕ → Type 0
QuietRun m ts = (before rest : List ℕ) (t : ℕ) (x : Thread) → ts ≡ before ++ t ∷ rest → slice_get (run m before).threads t ≡ Some x → call_of (run m before) x ≢ Some LW_TRAP

later : (m : Machine) (t : ℕ) (ts : List ℕ) → QuietRun m (t ∷ ts) → QuietRun (step m t) ts
later m t ts quiet before rest u x is found = quiet (t ∷ before) rest u x (ap (λ l. t ∷ l) is) found

first : (m : Machine) (t : ℕ) (ts : List ℕ) → QuietRun m (t ∷ ts) → monitored_step (unmonitored m) t ≡ unmonitored (step m t)
first m t ts quiet = step-same m t (λ x found. quiet [] ts t x refl found)

-- the kept steps, the machine after them and their peak are the kernel's
record AreSame (m : Machine) (ts : List ℕ) : Type 0 where
  steps : kept_under (unmonitored m) ts ≡ kept m ts
  state : run_under (unmonitored m) (kept m ts) ≡ unmonitored (run m (kept m ts))
  most : peak_under (unmonitored m) (kept m ts) ≡ peak m (kept m ts)

-- none of the steps traps that are kept from here on
abbrev QuietKept : Machine → List ℕ → Type 0
QuietKept m ts = QuietRun m (kept_under (unmonitored m) ts)

module _ (m : Machine) (t : ℕ) (ts : List ℕ) where
  abbrev stepped : Monitored
  stepped = monitored_step (unmonitored m) t

  -- the thread had ended, or it had not
  ended : is_ended m t ≡ true → AreSame m ts → AreSame m (t ∷ ts)
  ended is here =
      let skips : kept m (t ∷ ts) ≡ kept m ts = ap (λ b. cond b (kept m ts) (t ∷ kept (step m t) ts)) is in
      record {
        steps = ap (λ b. cond b (kept_under (unmonitored m) ts) (t ∷ kept_under stepped ts)) is ∙ here.steps ∙ sym skips;
        state = subst (λ (l : List ℕ). run_under (unmonitored m) l ≡ unmonitored (run m l)) (sym skips) here.state;
        most = subst (λ (l : List ℕ). peak_under (unmonitored m) l ≡ peak m l) (sym skips) here.most;
      }

  going : is_ended m t ≡ false → stepped ≡ unmonitored (step m t) → AreSame (step m t) ts → AreSame m (t ∷ ts)
  going is next_is there =
      let ks : List ℕ = kept (step m t) ts in
      let keeps : kept m (t ∷ ts) ≡ t ∷ ks = ap (λ b. cond b (kept m ts) (t ∷ kept (step m t) ts)) is in
      record {
        steps = ap (λ b. cond b (kept_under (unmonitored m) ts) (t ∷ kept_under stepped ts)) is
            ∙ ap (λ (s : Monitored). t ∷ kept_under s ts) next_is ∙ ap (λ l. t ∷ l) there.steps ∙ sym keeps;
        state = subst (λ (l : List ℕ). run_under (unmonitored m) l ≡ unmonitored (run m l)) (sym keeps) (ap (λ (s : Monitored). run_under s ks) next_is ∙ there.state);
        most = subst (λ (l : List ℕ). peak_under (unmonitored m) l ≡ peak m l) (sym keeps)
            (ap (λ (s : Monitored). max (frames_of m) (peak_under s ks)) next_is ∙ ap (max (frames_of m)) there.most);
      }

  by_end : (b : Bool) → is_ended m t ≡ b → QuietRun m (cond b (kept_under (unmonitored m) ts) (t ∷ kept_under stepped ts)) → (QuietKept m ts → AreSame m ts) → (QuietKept (step m t) ts → AreSame (step m t) ts) → AreSame m (t ∷ ts)
  by_end true is quiet here there = ended is (here quiet)
  by_end false is quiet here there =
      let next_is = first m t (kept_under stepped ts) quiet in
      going is next_is (there (subst (λ (s : Monitored). QuietRun (step m t) (kept_under s ts)) next_is (later m t (kept_under stepped ts) quiet)))

all-same : (ts : List ℕ) (m : Machine) → QuietKept m ts → AreSame m ts
all-same [] m quiet = record { steps = refl; state = refl; most = refl }
all-same (t ∷ ts) m quiet = by_end m t ts (is_ended m t) refl quiet (all-same ts m) (all-same ts (step m t))

nil_of_length : {X : Type 0} (xs : List X) → length xs ≡ 0 → xs ≡ []
nil_of_length [] none = refl
nil_of_length (x ∷ xs) none = absurd (omega (arith, none))

no-lines : traps_text nothing ≡ []
unfolding traps_text
no-lines = ap (flat_map (λ (e : Name × Name). trap_line e.0 e.1)) (nil_of_length (fm.entries nothing) (sym (fm.len-entries nothing) ∙ fm.len-empty name_cmp Name))

-- the report of a machine without traps
plain-report : (m : Machine) (most : ℕ) (steps : List ℕ) → report_under (unmonitored m) most steps ≡ report_of m most steps
unfolding report_under report_of
plain-report m most steps =
    let front : List ℕ = threads_text m ++ contexts_text m.environment.world in
    ap (λ (l : List ℕ). l ++ groups_line (fm.len m.environment.world.groups) ++ replies_text m ++ tail_lines m.environment.channels.console (frames_of m) most steps)
    (ap (λ (l : List ℕ). front ++ l) no-lines ∙ append-nil front)

-- without a step that traps, the text is the kernel's
pub plain_text : (inputs : Inputs) (schedule : List ℕ) → TrapsNone inputs (kept_under (begun inputs) schedule) → monitored_text inputs schedule ≡ report_of_schedule inputs schedule
unfolding monitored_text report_of_schedule
plain_text inputs schedule quiet =
    let same = all-same schedule (start inputs) quiet in
    let ks : List ℕ = kept (start inputs) schedule in
    ap (report_after_under inputs) same.steps
    ∙ ap (λ (s : Monitored). report_under s (peak_under (begun inputs) ks) ks) same.state
    ∙ ap (λ n. report_under (unmonitored (run (start inputs) ks)) n ks) same.most
    ∙ plain-report (run (start inputs) ks) (peak (start inputs) ks) ks
