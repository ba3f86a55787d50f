-- Where no step comes to the call that gives fuel, a run under guards is one under traps.
use Rattle.std.proofs.Common.{◌≡◌, ◌≢◌, ◌-◌, ℕ, refl, sym, ap, subst, ◌∙◌, Bool, true, false, cond, eqb, ◌&&◌, Option, Some, None, List, [], ◌∷◌, ◌++◌, max}
use Rattle.std.proofs.lemmas.Bool.{ne_eqb}
use Rattle.std.specs.Prelude.{not, slice_get, slice_index, slice_index_or}
use Rattle.std.specs.FinMap as fm
use Rattle.std.specs.List.{flat_map}
use Rattle.std.specs.Option.{option_and_then, option_map, option_map_or}
use Rattle.guest_isa.specs.declared.instr.Instr.{Instr}
use Rattle.guest_isa.specs.declared.op.Op.{Op}
use Rattle.guest_isa.specs.declared.op.Op.TheVariants.{Sys}
use Rattle.guest_machine.specs.Advances.{advanced}
use Rattle.guest_machine.specs.declared.progress.Advance.{Advance}
use Rattle.guest_machine.specs.declared.progress.Next.{Next}
use Rattle.guest_machine.specs.declared.progress.Next.TheVariants as next
use Rattle.kernel_core.specs.Machine.{Environment, Machine, Serve, is_ended}
use Rattle.kernel_core.specs.Runs.{frames_of}
use Rattle.kernel_core.specs.Start.{Inputs, start}
use Rattle.kernel_core.specs.Step.{AfterStep, Outcome, advance_outcome, after_outcome, after_thread, counted, next_outcome, settled, shared_outcome, step_by, thread_outcome, unchanged, with_regs}
use Rattle.kernel_core.specs.declared.calling.TheConstants.{LW_SWITCH}
use Rattle.kernel_core.specs.declared.thread.Thread.{Thread}
use Rattle.lwc_base.specs.Refusals.{first_refusal}
use Rattle.lwc_base.specs.World.{World, is_live}
use Rattle.lwc_guard.specs.Calls.{calls_guarded, fuel_rows, fuelled_by, guards_after_call, held_by, is_trapped_by, released, switching_up, taken_up}
use Rattle.lwc_guard.specs.Guards.{Guards, holds}
use Rattle.lwc_guard.specs.Promises.{FuelsNone}
use Rattle.lwc_guard.specs.Reports.{begun, fuel_of, guard_line, guarded_text, guards_text, report_after_guarded, report_guarded}
use Rattle.lwc_guard.specs.Steps.{Guarded, Left, guarded_step, kept_guarded, left_by, left_found, left_of, left_running, peak_guarded, run_guarded}
use Rattle.lwc_guard.specs.declared.guard.Guard.{Guard}
use Rattle.lwc_guard.specs.declared.numbers.TheConstants.{LW_FUEL}
use Rattle.lwc_monitor.proofs.Guarding.{all-kept}
use Rattle.lwc_monitor.specs.Calls.{calls_under, trapping}
use Rattle.lwc_monitor.specs.Reports as monitored
use Rattle.lwc_monitor.specs.Reports.{monitored_text, report_after_under, report_under, traps_text}
use Rattle.lwc_monitor.specs.Steps.{Monitored, call_by, call_in, call_next, call_of, kept_under, monitored_step, peak_under, run_under, traps_after, unmonitored}
use Rattle.lwc_monitor.specs.Traps.{Traps, is_trapped, named}
use Rattle.lwc_overlay.specs.Named.{link}
use Rattle.lwc_text.specs.Lines.{groups_line, tail_lines, trap_line}
use Rattle.lwc_text.specs.Report.{contexts_text, replies_text, threads_text}
use Rattle.lwc_types.specs.Names.{name_cmp}
use Rattle.lwc_types.specs.declared.fault.ThreadStatus.{ThreadStatus}
use Rattle.lwc_types.specs.declared.fault.ThreadStatus.TheVariants as status
use Rattle.lwc_types.specs.declared.name.Name.{Name}
use Rattle.lwc_types.specs.declared.regs.Regs.{Regs}

abbrev nothing : Guards
nothing = fm.empty

no-guard : (d : Name) → fm.get nothing d ≡ None
no-guard d = fm.get-empty {X = Guard} name_cmp d

none-held : (traps : Traps) (t : ℕ) (w : World) (c : Name) (regs : Regs) → taken_up traps nothing t w c regs ≡ None
unfolding taken_up
none-held traps t w c regs = by (named w c regs)
  where
    either : (d : Name) (a : Bool) → cond (a && holds nothing d t) (Some d) None ≡ None
    either d true = ap (λ (o : Option Guard). cond (option_map_or (λ (g : Guard). slice_index_or g.held t false) o false) (Some d) None) (no-guard d)
    either d false = refl

    by : (o : Option Name) → option_and_then (held_by traps nothing t c) o ≡ None
    by None = refl
    by (Some d) = either d (is_trapped_by traps c d)

module _ (traps : Traps) (t : ℕ) (e : Environment) (x : Thread) where
  -- each call but the one that gives fuel is that under traps
  call-same : (number : ℕ) → number ≢ LW_FUEL → calls_guarded traps nothing number t e x ≡ calls_under traps number t e x
  unfolding calls_guarded
  call-same number other =
      let switching : ◌≡◌ {A = Outcome} (switching_up traps (taken_up traps nothing t e.world x.context x.regs) number t e x) (calls_under traps number t e x) =
      ap (λ (o : Option Name). switching_up traps o number t e x) (none-held traps t e.world x.context x.regs) in
      ap (λ (b : Bool). cond (b && not (is_trapped traps x.context)) (unchanged e (trapping x (first_refusal (fuel_rows traps e.world x.context x.regs))))
      (cond (eqb number LW_SWITCH) (switching_up traps (taken_up traps nothing t e.world x.context x.regs) number t e x) (calls_under traps number t e x))) (ne_eqb number LW_FUEL other)
      ∙ ap (λ (o : Outcome). cond (eqb number LW_SWITCH) o (calls_under traps number t e x)) switching
      ∙ both (eqb number LW_SWITCH)
    where
      both : (b : Bool) → cond b (calls_under traps number t e x) (calls_under traps number t e x) ≡ calls_under traps number t e x
      both true = refl
      both false = refl

  shared-same : (i : Instr) (op : Op) → call_in op i.imm ≢ Some LW_FUEL → shared_outcome (calls_guarded traps nothing) t e x i op ≡ shared_outcome (calls_under traps) t e x i op
  unfolding shared_outcome
  shared-same i Sys other = call-same i.imm (λ same. other (ap Some same))
  shared-same i _ other = refl

  next-same : (n : Next) → call_next n ≢ Some LW_FUEL → next_outcome (calls_guarded traps nothing) t e x n ≡ next_outcome (calls_under traps) t e x n
  unfolding next_outcome
  next-same next.Pause other = refl
  next-same next.BadPc other = refl
  next-same (next.Shared i) other = shared-same i i.op other

-- the guards after a call that gives no fuel
guards-none : (traps : Traps) (t : ℕ) (w : World) (x : Thread) (o : Option ℕ) → o ≢ Some LW_FUEL → guards_after_call traps nothing t w x o ≡ nothing
guards-none traps t w x None other = refl
guards-none traps t w x (Some number) other =
    ap (λ (b : Bool). cond (b && not (is_trapped traps x.context)) (fuelled_by nothing (link w x.context x.regs).0 (slice_index x.regs.r 2) (first_refusal (fuel_rows traps w x.context x.regs)))
    (cond (eqb number LW_SWITCH) (released nothing t (taken_up traps nothing t w x.context x.regs)) nothing)) (ne_eqb number LW_FUEL (λ same. other (ap Some same)))
    ∙ ap (λ (q : Option Name). cond (eqb number LW_SWITCH) (released nothing t q) nothing) (none-held traps t w x.context x.regs)
    ∙ both (eqb number LW_SWITCH)
  where
    both : (b : Bool) → cond b nothing nothing ≡ nothing
    both true = refl
    both false = refl

empty-kept : (keep : Name → Bool) → fm.retain_keys nothing keep ≡ nothing
empty-kept keep = all-kept nothing keep (λ d g is. let none = no-guard d in cc)

-- a machine under traps, with no guards
abbrev bare : Monitored → Guarded
bare s = record { machine = s.machine; traps = s.traps; guards = nothing }

module _ (s : Monitored) (t : ℕ) where
  abbrev e : Environment
  e = s.machine.environment

  abbrev table : Option Serve → Thread → ThreadStatus → Option AfterStep
  table serve x st = thread_outcome (calls_under s.traps) t e serve s.machine.text x st

  running-same : (x : Thread) (serve : Option Serve) (a : Advance) → call_next a.next ≢ Some LW_FUEL →
      ◌≡◌ {A = Option AfterStep × Guards} (Some (settled t serve (counted (x.budget - 1) (left_running s.traps nothing t e x a).outcome)), (left_running s.traps nothing t e x a).guards)
      (Some (settled t serve (advance_outcome (calls_under s.traps) t e x a)), nothing)
  unfolding left_running advance_outcome
  running-same x serve a other =
      ap (λ (o : Option Guard). (Some (settled t serve (counted (x.budget - 1) (left_by o s.traps nothing t e x a).outcome)), (left_by o s.traps nothing t e x a).guards)) (no-guard x.context)
      ∙ (λ i. (Some (settled t serve (counted (x.budget - 1) (next-same s.traps t e (with_regs x a.after) a.next other i))), guards-none s.traps t e.world (with_regs x a.after) (call_next a.next) other i))

  status-same : (x : Thread) (serve : Option Serve) (st : ThreadStatus) → call_by s.machine.text x st ≢ Some LW_FUEL → left_of s.traps nothing t e serve s.machine.text x st ≡ (table serve x st, nothing)
  status-same x serve status.Running other = running-same x serve (advanced s.machine.text x.regs) other
  status-same x serve status.Idle other = refl
  status-same x serve (status.Done code) other = refl
  status-same x serve (status.Faulted f) other = refl

  abbrev Quiet : Option Thread → Type 0
  Quiet o = (x : Thread) → o ≡ Some x → call_of s.machine x ≢ Some LW_FUEL

  found-same : (o : Option Thread) → Quiet o → (after_outcome s.machine t (left_found (bare s) t o).0 ≡ after_thread (calls_under s.traps) s.machine t o) × ((left_found (bare s) t o).1 ≡ nothing)
  found-same None quiet = (refl, refl)
  found-same (Some x) quiet =
      let same = status-same x s.machine.serve x.status (quiet x refl) in
      (ap (λ (p : Option AfterStep × Guards). after_outcome s.machine t p.0) same, ap (λ (p : Option AfterStep × Guards). p.1) same)

  step-same : Quiet (slice_get s.machine.threads t) → guarded_step (bare s) t ≡ bare (monitored_step s t)
  unfolding guarded_step monitored_step step_by
  step-same quiet =
      let same = found-same (slice_get s.machine.threads t) quiet in
      let traps : Traps = traps_after s.traps s.machine (slice_get s.machine.threads t) in
      let guards : fm.retain_keys (left_found (bare s) t (slice_get s.machine.threads t)).1 (is_live (after_outcome s.machine t (left_found (bare s) t (slice_get s.machine.threads t)).0).environment.world) ≡ nothing =
      ap (λ (z : Guards). fm.retain_keys z (is_live (after_outcome s.machine t (left_found (bare s) t (slice_get s.machine.threads t)).0).environment.world)) same.1 ∙ empty-kept _ in
      λ i. record { machine = same.0 i; traps = fm.retain_keys traps (is_live (same.0 i).environment.world); guards = guards i }

-- no step from here on gives fuel
abbrev QuietRun : Monitored → List ℕ → Type 0
QuietRun s ts = (before rest : List ℕ) (t : ℕ) (x : Thread) → ts ≡ before ++ t ∷ rest → slice_get (run_under s before).machine.threads t ≡ Some x → call_of (run_under s before).machine x ≢ Some LW_FUEL

later : (s : Monitored) (t : ℕ) (ts : List ℕ) → QuietRun s (t ∷ ts) → QuietRun (monitored_step s t) ts
later s t ts quiet before rest u x is found = quiet (t ∷ before) rest u x (ap (λ l. t ∷ l) is) found

first : (s : Monitored) (t : ℕ) (ts : List ℕ) → QuietRun s (t ∷ ts) → guarded_step (bare s) t ≡ bare (monitored_step s t)
first s t ts quiet = step-same s t (λ x found. quiet [] ts t x refl found)

-- the kept steps, the machine after them and their peak are those under traps
record AreSame (s : Monitored) (ts : List ℕ) : Type 0 where
  steps : kept_guarded (bare s) ts ≡ kept_under s ts
  state : run_guarded (bare s) (kept_under s ts) ≡ bare (run_under s (kept_under s ts))
  most : peak_guarded (bare s) (kept_under s ts) ≡ peak_under s (kept_under s ts)

module _ (s : Monitored) (t : ℕ) (ts : List ℕ) where
  abbrev next_one : Monitored
  next_one = monitored_step s t

  -- the thread had ended, or it had not
  ended : is_ended s.machine t ≡ true → AreSame s ts → AreSame s (t ∷ ts)
  ended is here =
      let skips : kept_under s (t ∷ ts) ≡ kept_under s ts = ap (λ b. cond b (kept_under s ts) (t ∷ kept_under next_one ts)) is in
      record {
        steps = ap (λ b. cond b (kept_guarded (bare s) ts) (t ∷ kept_guarded (guarded_step (bare s) t) ts)) is ∙ here.steps ∙ sym skips;
        state = subst (λ (l : List ℕ). run_guarded (bare s) l ≡ bare (run_under s l)) (sym skips) here.state;
        most = subst (λ (l : List ℕ). peak_guarded (bare s) l ≡ peak_under s l) (sym skips) here.most;
      }

  going : is_ended s.machine t ≡ false → guarded_step (bare s) t ≡ bare next_one → AreSame next_one ts → AreSame s (t ∷ ts)
  going is next_is there =
      let ks : List ℕ = kept_under next_one ts in
      let keeps : kept_under s (t ∷ ts) ≡ t ∷ ks = ap (λ b. cond b (kept_under s ts) (t ∷ kept_under next_one ts)) is in
      record {
        steps = ap (λ b. cond b (kept_guarded (bare s) ts) (t ∷ kept_guarded (guarded_step (bare s) t) ts)) is
            ∙ ap (λ (z : Guarded). t ∷ kept_guarded z ts) next_is ∙ ap (λ l. t ∷ l) there.steps ∙ sym keeps;
        state = subst (λ (l : List ℕ). run_guarded (bare s) l ≡ bare (run_under s l)) (sym keeps) (ap (λ (z : Guarded). run_guarded z ks) next_is ∙ there.state);
        most = subst (λ (l : List ℕ). peak_guarded (bare s) l ≡ peak_under s l) (sym keeps)
            (ap (λ (z : Guarded). max (frames_of s.machine) (peak_guarded z ks)) next_is ∙ ap (max (frames_of s.machine)) there.most);
      }

  by_end : (b : Bool) → is_ended s.machine t ≡ b → QuietRun s (cond b (kept_under s ts) (t ∷ kept_under next_one ts)) → (QuietRun s (kept_under s ts) → AreSame s ts) → (QuietRun next_one (kept_under next_one ts) → AreSame next_one ts) → AreSame s (t ∷ ts)
  by_end true is quiet here there = ended is (here quiet)
  by_end false is quiet here there = going is (first s t (kept_under next_one ts) quiet) (there (later s t (kept_under next_one ts) quiet))

all-same : (ts : List ℕ) (s : Monitored) → QuietRun s (kept_under s ts) → AreSame s ts
all-same [] s quiet = record { steps = refl; state = refl; most = refl }
all-same (t ∷ ts) s quiet = by_end s t ts (is_ended s.machine t) refl quiet (all-same ts s) (all-same ts (monitored_step s t))

-- the lines of traps without guards
bare-lines : (traps : Traps) → guards_text traps nothing ≡ traps_text traps
unfolding guards_text traps_text
bare-lines traps = λ i. flat_map (λ (e : Name × Name). guard_line (option_map (λ (g : Guard). g.fuel) (no-guard e.0 i)) e.0 e.1) (fm.entries traps)

bare-report : (s : Monitored) (most : ℕ) (steps : List ℕ) → report_guarded (bare s) most steps ≡ report_under s most steps
unfolding report_guarded report_under
bare-report s most steps =
    ap (λ (l : List ℕ). threads_text s.machine ++ contexts_text s.machine.environment.world ++ l
    ++ groups_line (fm.len s.machine.environment.world.groups) ++ replies_text s.machine
    ++ tail_lines s.machine.environment.channels.console (frames_of s.machine) most steps) (bare-lines s.traps)

-- where no step comes to the call that gives fuel, the text is that under traps
pub plain_text : (inputs : Inputs) (schedule : List ℕ) → FuelsNone inputs (kept_under (monitored.begun inputs) schedule) → guarded_text inputs schedule ≡ monitored_text inputs schedule
unfolding guarded_text monitored_text
plain_text inputs schedule quiet =
    let same = all-same schedule (monitored.begun inputs) quiet in
    let ks : List ℕ = kept_under (monitored.begun inputs) schedule in
    ap (report_after_guarded inputs) same.steps
    ∙ ap (λ (z : Guarded). report_guarded z (peak_guarded (begun inputs) ks) ks) same.state
    ∙ ap (λ n. report_guarded (bare (run_under (monitored.begun inputs) ks)) n ks) same.most
    ∙ bare-report (run_under (monitored.begun inputs) ks) (peak_under (monitored.begun inputs) ks) ks
