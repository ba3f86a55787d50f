-- A run under traps stays steady over a step.
use Rattle.std.proofs.Common.{◌≡◌, ◌≢◌, ℕ, ◌+◌, ◌-◌, ◌≤◌, ◌<◌, refl, sym, ap, subst, ◌∙◌, Bool, true, false, cond, Option, Some, None, List, [], ◌∷◌, ◌++◌, length, arith, length-append, get_or, append-nil, ltb}
use Rattle.std.proofs.lemmas.Bool.{ltb-false, ltb-true}
use Rattle.std.proofs.lemmas.List.{length-map}
use Rattle.std.specs.Prelude.{All, max, slice_get, slice_set}
use Rattle.std.specs.FinMap as fm
use Rattle.std.specs.List.{flat_map, range_with_len}
use Rattle.std.specs.Option.{option_map, option_map_or}
use Rattle.std.proofs.lemmas.Option.{slice_get-get_or}
use Rattle.guest_image.specs.Limits.{IsImage}
use Rattle.guest_image.specs.declared.image.Image.{Image}
use Rattle.guest_isa.specs.declared.instr.Instr.{Instr}
use Rattle.guest_machine.specs.Advances.{advanced}
use Rattle.kernel_core.proofs.Others.{found_set}
use Rattle.kernel_core.proofs.Reaping.{uncut}
use Rattle.kernel_core.proofs.ReadyRuns.{live_after, ready_later, ready_thread, running_acts, step_made, while_running}
use Rattle.kernel_core.proofs.Steps.{contexts_part}
use Rattle.kernel_core.specs.Changes.{Keeps, KeepsAll, after_effect, made}
use Rattle.kernel_core.specs.Kernel.{CanOpen, History, MayHave, turn_of, view_of}
use Rattle.kernel_core.specs.Machine.{Environment, Machine, has_ended, is_ended, reply_of}
use Rattle.kernel_core.proofs.Limits.{has_place}
use Rattle.kernel_core.specs.Ready.{CanAct, IsReadyThread, IsRunnable, WhileRunning, jobs_of}
use Rattle.kernel_core.specs.Runs.{frames_of, peak}
use Rattle.kernel_core.specs.Start.{Inputs, inputs_of, serve_at, start, thread_count}
use Rattle.kernel_core.specs.Settings.{IsSettings}
use Rattle.kernel_core.specs.Steady.{history, machine}
use Rattle.kernel_core.specs.Step.{AfterStep, after_outcome, after_thread, beside, roots, step_by, thread_outcome, with_regs}
use Rattle.kernel_core.specs.declared.acting.Change.{Change}
use Rattle.kernel_core.specs.declared.acting.Change.TheVariants as changes
use Rattle.kernel_core.specs.declared.acting.Effect.{Effect}
use Rattle.kernel_core.specs.declared.settings.Job.{Job}
use Rattle.kernel_core.specs.declared.settings.Job.TheVariants as job
use Rattle.kernel_core.specs.declared.settings.Settings.{Settings}
use Rattle.kernel_core.specs.declared.thread.Thread.{Thread}
use Rattle.lwc_base.proofs.Reaped.{reap-reaped}
use Rattle.lwc_base.specs.Channels.{Channels}
use Rattle.lwc_base.specs.Frames.{used}
use Rattle.lwc_base.specs.Life.{IsReaped, reap}
use Rattle.lwc_base.specs.World.{World, is_live}
use Rattle.lwc_types.specs.declared.fault.ThreadStatus.{ThreadStatus}
use Rattle.lwc_types.specs.declared.fault.ThreadStatus.TheVariants as status
use Rattle.lwc_types.specs.declared.limits.TheConstants.{MOST_CONTEXTS, MOST_STEPS}
use Rattle.lwc_types.specs.declared.name.Name.{Name}
use Rattle.lwc_types.specs.declared.size.WorldSize.{WorldSize}
use Rattle.lwc_monitor.proofs.Few.{few_traps}
use Rattle.lwc_monitor.proofs.Guarding.{all-kept, trapped-live}
use Rattle.lwc_monitor.proofs.Keeping.{IsKept, leaves-step}
use Rattle.lwc_monitor.specs.Promises.{LeavesEachTrapped}
use Rattle.lwc_monitor.proofs.Promised.{kept-after}
use Rattle.lwc_monitor.proofs.Tables.{acts_under}
use Rattle.lwc_monitor.specs.Calls.{calls_under, traps_after_call}
use Rattle.lwc_monitor.specs.Reports.{begun, report_after_under, report_under, traps_text}
use Rattle.lwc_monitor.specs.Steady.{IsSteady, state_of, stepped_under, turn_under}
use Rattle.lwc_monitor.specs.Steps.{Monitored, call_by, monitored_step, peak_under, run_under, traps_after}
use Rattle.lwc_monitor.specs.Traps.{Traps}
use Rattle.lwc_text.specs.Lines.{groups_line, reply_line, tail_lines}
use Rattle.lwc_text.specs.Report.{contexts_text, replies_text, threads_text}

-- a history with one more step
abbrev pub longer : History → ℕ → History
longer h t = record h { steps = h.steps ++ t ∷ []; room = h.room - 1 }

run-push : (s : Monitored) (ts : List ℕ) (t : ℕ) → run_under s (ts ++ t ∷ []) ≡ monitored_step (run_under s ts) t
run-push s [] t = refl
run-push s (u ∷ ts) t = run-push (monitored_step s u) ts t

max-assoc : (a b c : ℕ) → max a (max b c) ≡ max (max a b) c
max-assoc a b c = omega arith

peak-push : (s : Monitored) (ts : List ℕ) (t : ℕ) → peak_under s (ts ++ t ∷ []) ≡ max (peak_under s ts) (frames_of (monitored_step (run_under s ts) t).machine)
peak-push s [] t = refl
peak-push s (u ∷ ts) t =
    ap (max (frames_of s.machine)) (peak-push (monitored_step s u) ts t)
    ∙ max-assoc (frames_of s.machine) (peak_under (monitored_step s u) ts) (frames_of (monitored_step (run_under (monitored_step s u) ts) t).machine)

used-last : (s : Monitored) (ts : List ℕ) → frames_of (run_under s ts).machine ≤ peak_under s ts
used-last s [] = omega arith
used-last s (t ∷ ts) = omega (arith, used-last (monitored_step s t) ts)

-- the history under another name
pub as_seen : (s : Monitored) (most : ℕ) (h value : History) → h ≡ value → IsSteady s most h → IsSteady s most value
as_seen s most h value is steady = subst (IsSteady s most) is steady

-- a steady run, its parts, peak and history under other names
pub steady_as : (w : World) (io other_io : Channels) (threads other_threads : List Thread) (text other_text : List Instr) (traps : Traps) (most now : ℕ) (h after : History) →
    other_io ≡ io → other_threads ≡ threads → other_text ≡ text → now ≡ most → after ≡ h →
    IsSteady (record { machine = machine w io threads text None; traps = traps }) most h → IsSteady (record { machine = machine w other_io other_threads other_text None; traps = traps }) now after
steady_as w io other_io threads other_threads text other_text traps most now h after io_is threads_are text_is peak_is is steady =
    let same : machine w other_io other_threads other_text None ≡ machine w io threads text None = λ i. machine w (io_is i) (threads_are i) (text_is i) None in
    let other : Machine → Monitored = λ (k : Machine). record { machine = k; traps = traps } in
    subst (λ (k : Machine). IsSteady (other k) now after) (sym same)
    (subst (λ (n : ℕ). IsSteady (other (machine w io threads text None)) n after) (sym peak_is) (subst (IsSteady (other (machine w io threads text None)) most) (sym is) steady))

-- the history of a run's parts after one more step
pub one_longer : (image : Image) (settings : Settings) (steps after : List ℕ) (room left t : ℕ) (value : History) →
    history image None [] settings steps room ≡ value → after ≡ steps ++ t ∷ [] → left ≡ room - 1 → history image None [] settings after left ≡ longer value t
one_longer image settings steps after room left t value is appended fewer =
    (λ i. history image None [] settings (appended i) (fewer i)) ∙ ap (λ h. longer h t) is

had_ended : (traps : Traps) (t : ℕ) (e : Environment) (text : List Instr) (x : Thread) (st : ThreadStatus) → thread_outcome (calls_under traps) t e None text x st ≡ None → (has_ended st ≡ true) × (call_by text x st ≡ None)
had_ended traps t e text x status.Idle none = cc
had_ended traps t e text x status.Running none = cc
had_ended traps t e text x (status.Done code) none = (refl, refl)
had_ended traps t e text x (status.Faulted f) none = (refl, refl)

not_ended : (traps : Traps) (t : ℕ) (e : Environment) (text : List Instr) (x : Thread) (st : ThreadStatus) (after : AfterStep) → thread_outcome (calls_under traps) t e None text x st ≡ Some after → has_ended st ≡ false
not_ended traps t e text x status.Idle after made = refl
not_ended traps t e text x status.Running after made = refl
not_ended traps t e text x (status.Done code) after made = cc
not_ended traps t e text x (status.Faulted f) after made = cc

module _ (w : World) (io : Channels) (threads : List Thread) (text : List Instr) (traps : Traps) (most : ℕ) (h : History) where
  abbrev m : Machine
  m = machine w io threads text None

  abbrev s : Monitored
  s = record { machine = m; traps = traps }

  module _ (steady : IsSteady s most h) where
    pub kept : IsKept h.inputs (length h.steps) s
    unfolding state_of
    kept =
        let there = kept-after h.inputs h.steps steady.inputs steady.run in
        subst (IsKept h.inputs (length h.steps)) (sym steady.state)
        (record { ready = ready_later h.inputs (0 + length h.steps) (length h.steps) _ (omega arith) there.ready; run = there.run; guarded = there.guarded })

    pub leaves_trapped : (t : ℕ) → LeavesEachTrapped (state_of h) t
    unfolding state_of
    leaves_trapped t = leaves-step h.inputs (0 + length h.steps) (run_under (begun h.inputs) h.steps) t (kept-after h.inputs h.steps steady.inputs steady.run)

    pub within : (t : ℕ) → t < thread_count h.inputs → t < length threads
    within t few = omega (arith, few, kept.ready.count)

    pub few : length threads ≤ 16
    few = kept.ready.few

    -- there are fewer traps than there may be contexts
    pub few_trapped : fm.len traps < MOST_CONTEXTS
    few_trapped =
        let place = has_place h.inputs.image.form h.inputs.settings.frames w (jobs_of threads) kept.ready.size kept.ready.limits (omega (arith, few, length-map threads (λ (y : Thread). y.job))) in
        omega (arith, place, few_traps traps w kept.guarded.live, ap (λ (z : WorldSize). z.contexts) kept.ready.size)

    pub used_below : used w ≤ most
    unfolding state_of
    used_below = omega (arith, used-last (begun h.inputs) h.steps, steady.peak, ap (λ (z : Monitored). frames_of z.machine) steady.state)

    pub viewed : (t : ℕ) (x : Thread) → t < length threads → x ≡ get_or threads t x → view_of (state_of h).machine t ≡ Some (record { status = x.status; context = x.context; regs = x.regs })
    unfolding view_of
    viewed t x inside index =
        let there : slice_get threads t ≡ Some x = slice_get-get_or threads t x inside ∙ ap Some (sym index) in
        ap (λ (z : Monitored). option_map (λ (y : Thread). record { status = y.status; context = y.context; regs = y.regs }) (slice_get z.machine.threads t)) (sym steady.state)
        ∙ ap (option_map (λ (y : Thread). record { status = y.status; context = y.context; regs = y.regs })) there

    -- a run has no replies
    pub no-replies : replies_text (state_of h).machine ≡ []
    unfolding replies_text
    no-replies =
        let none : h.inputs.requests ≡ [] = subst (λ (j : Job). MayHave j h.inputs.requests) steady.run steady.inputs.requests in
        ap (λ (l : List (List ℕ)). flat_map (λ r. reply_line r (reply_of (state_of h).machine r)) (range_with_len 0 (length l))) (ap (λ (z : Monitored). z.machine.environment.channels.requests) (sym steady.state) ∙ kept.ready.given_requests ∙ none)

    -- the report of the lines
    pub report-is : (a b d f g : List ℕ) (n u : ℕ) (console schedule : List ℕ) → a ≡ threads_text (state_of h).machine → b ≡ a ++ contexts_text w → d ≡ b ++ traps_text traps →
        f ≡ d ++ groups_line n → n ≡ fm.len w.groups → g ≡ f ++ tail_lines console u most schedule → console ≡ io.console → u ≡ used w → schedule ≡ h.steps → g ≡ report_after_under h.inputs h.steps
    unfolding state_of report_under
    report-is a b d f g n u console schedule one two three four groups five console_is used_is steps_are =
        let lines = λ (front : List ℕ) (z : Monitored) (most_used : ℕ) (steps : List ℕ). front ++ contexts_text z.machine.environment.world ++ traps_text z.traps
        ++ groups_line (fm.len z.machine.environment.world.groups) ++ replies_text z.machine ++ tail_lines z.machine.environment.channels.console (frames_of z.machine) most_used steps in
        let bare : g ≡ threads_text (state_of h).machine ++ contexts_text w ++ traps_text traps ++ groups_line (fm.len w.groups) ++ tail_lines io.console (used w) most h.steps = grind (arith) in
        bare
        ∙ ap (λ (l : List ℕ). l ++ tail_lines io.console (used w) most h.steps)
        (sym (ap (λ (l : List ℕ). threads_text (state_of h).machine ++ contexts_text w ++ traps_text traps ++ groups_line (fm.len w.groups) ++ l) (ap (λ (z : Monitored). replies_text z.machine) steady.state ∙ no-replies) ∙ append-nil _))
        ∙ ap (λ (z : Monitored). lines (threads_text (state_of h).machine) z most h.steps) steady.state
        ∙ ap (λ (k : ℕ). lines (threads_text (state_of h).machine) (state_of h) k h.steps) steady.peak

    module _ (t : ℕ) (x : Thread) (inside : t < thread_count h.inputs) (index : x ≡ get_or threads t x) where
      found : slice_get threads t ≡ Some x
      found = slice_get-get_or threads t x (within t inside) ∙ ap Some (sym index)

      pub acts : WhileRunning x.status (CanAct w x)
      acts = running_acts h.inputs (length h.steps) t m x kept.ready (omega (arith, steady.room)) found

      here : IsReadyThread w x
      here = ready_thread h.inputs (length h.steps) t m x kept.ready found

      pub has_steps : WhileRunning x.status (0 < x.budget)
      has_steps = while_running (IsRunnable w x) (0 < x.budget) x.status (λ runs. omega (arith, runs.some_step)) here.runs

      ended_as : is_ended (state_of h).machine t ≡ has_ended x.status
      unfolding is_ended
      ended_as = ap (λ (z : Monitored). is_ended z.machine t) (sym steady.state) ∙ ap (λ o. option_map_or (λ (y : Thread). has_ended y.status) o true) found

      abbrev adv : Thread
      adv = with_regs x (advanced text x.regs).after

      module _ (effect : Option Effect) (v : World) (after : Channels) (y : Thread) (later : Traps)
          (outcome : thread_outcome (calls_under traps) t (beside w io) None text x x.status ≡ made effect (beside v after) None y)
          (trapped : later ≡ traps_after_call traps w adv (call_by text x x.status))
          (keeps : KeepsAll effect w io None x v after None y) where
        -- a step of a thread that has ended
        pub record IsRest : Type 0 where
          pub ended : is_ended (state_of h).machine t ≡ true
          pub resting : stepped_under h t ≡ h
          pub turn : turn_under h t ≡ Some (turn_of y None)
          pub settles : IsSteady (record { machine = machine v after threads text None; traps = later }) most h

        pub rested : effect ≡ None → IsRest
        unfolding stepped_under turn_under
        rested is =
            let none = had_ended traps t (beside w io) text x x.status (outcome ∙ ap (λ k. made k (beside v after) None y) is) in
            let stays = subst (λ (k : Option Effect). KeepsAll k w io None x v after None y) is keeps in
            let ended : is_ended (state_of h).machine t ≡ true = ended_as ∙ none.0 in
            let same : later ≡ traps = trapped ∙ ap (traps_after_call traps w adv) none.1 in
            record {
              ended = ended;
              resting = ap (λ b. cond b h (longer h t)) ended;
              turn = ap (λ (z : Monitored). option_map (λ u. turn_of u None) (slice_get z.machine.threads t)) (sym steady.state) ∙ ap (option_map (λ u. turn_of u None)) found ∙ ap (λ u. Some (turn_of u None)) (sym stays.1.1.1);
              settles = subst (λ (u : World). IsSteady (record { machine = machine u after threads text None; traps = later }) most h) (sym stays.0)
                  (subst (λ (c : Channels). IsSteady (record { machine = machine w c threads text None; traps = later }) most h) (sym stays.1.0)
                  (subst (λ (z : Traps). IsSteady (record { machine = m; traps = z }) most h) (sym same) steady));
            }

        module _ (f : Effect) (is : effect ≡ Some f) where
          abbrev left : AfterStep
          left = after_effect f (beside v after) None y

          made_as : thread_outcome (calls_under traps) t (beside w io) None text x x.status ≡ Some left
          made_as = outcome ∙ ap (λ k. made k (beside v after) None y) is

          abbrev names : List Name
          names = roots (slice_set threads t y) None

          pub going : is_ended (state_of h).machine t ≡ false
          going = ended_as ∙ not_ended traps t (beside w io) text x x.status left made_as

          pub live : All (λ c. is_live v c ≡ true) names
          live = live_after (calls_under traps) (acts_under traps) h.inputs (length h.steps) t m x kept.ready tt found left made_as

          keeps_here : Keeps f.change w x v y
          keeps_here = subst (λ (k : Option Effect). KeepsAll k w io None x v after None y) is keeps

          pub nothing_left : f.change ≢ changes.Links → IsReaped v names
          nothing_left other = uncut f.change w v threads None t x y keeps_here other found kept.ready.reaped

          stays : (c : Name) → is_live w c ≡ true → is_live v c ≡ true
          stays = (step_made (calls_under traps) (acts_under traps) h.inputs (length h.steps) t m x kept.ready tt found left made_as).0.stay

          pub live_there : All (λ (a : Thread). is_live v a.context ≡ true) (slice_set threads t y)
          live_there = contexts_part (λ c. is_live v c ≡ true) (slice_set threads t y) [] live

          -- a change of the thread alone does not raise the peak
          pub used_kept : f.change ≡ changes.Thread → used v ≤ most
          used_kept thread =
              let alone : Keeps changes.Thread w x v y = subst (λ (c : Change). Keeps c w x v y) thread keeps_here in
              omega (arith, ap used alone.0, used_below)

          module _ (u : World) (reaped : u ≡ reap v names) where
            -- where no link is cut all traps stay
            pub traps_stay : f.change ≢ changes.Links → later ≡ fm.retain_keys later (is_live u)
            traps_stay other =
                let same : u ≡ v = reaped ∙ reap-reaped v names (nothing_left other) in
                sym (all-kept later (is_live u) (λ d c got.
                ap (λ (z : World). is_live z d) same
                ∙ stays d (trapped-live traps w adv (call_by text x x.status) kept.guarded.live kept.ready.named here.live d c (ap (λ (z : Traps). fm.get z d) (sym trapped) ∙ got))))

            module _ (z : Traps) (those : z ≡ fm.retain_keys later (is_live u)) where
              abbrev now : Monitored
              now = record { machine = machine u after (slice_set threads t y) text None; traps = z }

              stepped : monitored_step s t ≡ now
              unfolding monitored_step step_by
              stepped =
                  let machines : after_thread (calls_under traps) m t (slice_get threads t) ≡ machine u after (slice_set threads t y) text None =
                  ap (after_thread (calls_under traps) m t) found ∙ ap (after_outcome m t) made_as ∙ ap (λ (k : World). machine k after (slice_set threads t y) text None) (sym reaped) in
                  let traps_are : fm.retain_keys (traps_after traps m (slice_get threads t)) (is_live (after_thread (calls_under traps) m t (slice_get threads t)).environment.world) ≡ z =
                  ap (λ (k : Machine). fm.retain_keys (traps_after traps m (slice_get threads t)) (is_live k.environment.world)) machines
                  ∙ ap (λ o. fm.retain_keys (traps_after traps m o) (is_live u)) found ∙ ap (λ (l : Traps). fm.retain_keys l (is_live u)) (sym trapped) ∙ sym those in
                  λ i. record { machine = machines i; traps = traps_are i }

              come_to : now ≡ state_of (longer h t)
              unfolding state_of
              come_to = sym (run-push (begun h.inputs) h.steps t ∙ ap (λ (k : Monitored). monitored_step k t) (sym steady.state) ∙ stepped)

              pub steady_next : 0 < h.room → IsSteady now (max most (used u)) (longer h t)
              unfolding state_of
              steady_next some = record {
                inputs = steady.inputs;
                run = steady.run;
                state = come_to;
                peak = ap (λ n. max n (used u)) steady.peak
                    ∙ ap (λ (k : Monitored). max (peak_under (begun h.inputs) h.steps) (frames_of k.machine)) (come_to ∙ run-push (begun h.inputs) h.steps t)
                    ∙ sym (peak-push (begun h.inputs) h.steps t);
                room = omega (arith, length-append h.steps (t ∷ []), steady.room, some);
              }

              pub turn_next : turn_under (longer h t) t ≡ Some (turn_of y None)
              unfolding turn_under
              turn_next = ap (λ (k : Monitored). option_map (λ a. turn_of a None) (slice_get k.machine.threads t)) (sym come_to) ∙ ap (option_map (λ a. turn_of a None)) (found_set threads t x y found)

          pub stepped_to : stepped_under h t ≡ longer h t
          unfolding stepped_under
          stepped_to = ap (λ b. cond b h (longer h t)) going

fits-by : (pages frames : ℕ) → (frames < pages → ⊥) → pages ≤ frames
fits-by pages frames never = by (ltb frames pages) refl
  where
    by : (b : Bool) → ltb frames pages ≡ b → pages ≤ frames
    by true is = absurd (never (ltb-true frames pages is))
    by false is = ltb-false frames pages is

-- what a run of an image that fits is opened with
pub can-open : (image : Image) (settings : Settings) → IsImage image → IsSettings settings → settings.job ≡ job.Run → (settings.frames < length image.pages → ⊥) → CanOpen (inputs_of image [] settings)
can-open image settings of_image in_limits run never = record {
  image = of_image;
  vault = tt;
  settings = in_limits;
  fits = fits-by (length image.pages) settings.frames never;
  requests = subst (λ (j : Job). MayHave j []) (sym run) refl;
}

-- the machine of a start's parts
pub begins-with : (inputs : Inputs) → inputs.settings.job ≡ job.Run → (w : World) (io : Channels) (threads : List Thread) (text : List Instr) → w ≡ (start inputs).environment.world → io ≡ (start inputs).environment.channels →
    threads ≡ (start inputs).threads → text ≡ inputs.image.text → machine w io threads text None ≡ start inputs
unfolding start
begins-with inputs run w io threads text world_is io_is threads_are text_is = λ i. record {
  threads = threads_are i;
  environment = record { world = world_is i; channels = io_is i };
  text = text_is i;
  serve = sym (ap (λ (j : Job). serve_at j inputs.settings.budget (length inputs.requests)) run) i;
}

-- a run whose parts are those of a start
pub steady_start : (inputs : Inputs) (steps : List ℕ) (room : ℕ) (w : World) (io : Channels) (threads : List Thread) (text : List Instr) (traps : Traps) (most : ℕ) → CanOpen inputs → inputs.settings.job ≡ job.Run →
    room ≤ MOST_STEPS → steps ≡ [] → machine w io threads text None ≡ start inputs → traps ≡ fm.empty → most ≡ used w →
    IsSteady (record { machine = machine w io threads text None; traps = traps }) most (record { inputs = inputs; steps = steps; room = room })
unfolding state_of
steady_start inputs steps room w io threads text traps most can run short none begins no_traps used_is =
    subst (λ (l : List ℕ). IsSteady (record { machine = machine w io threads text None; traps = traps }) most (record { inputs = inputs; steps = l; room = room })) (sym none)
    (record {
      inputs = can;
      run = run;
      state = (λ i. record { machine = begins i; traps = no_traps i });
      peak = used_is ∙ ap frames_of begins;
      room = omega (arith, short);
    })
