-- A run in which no step meets a limit of pages tells the same where there are more pages.
use Rattle.std.proofs.Common.{◌≡◌, ◌∙◌, ◌+◌, ◌≤◌, refl, sym, ap, subst, ℕ, Bool, true, false, cond, List, [], ◌∷◌, ◌++◌, max}
use Rattle.std.specs.List.{flat_map}
use Rattle.guest_image.proofs.Lifted.{most_pages}
use Rattle.kernel_core.proofs.ReadyRuns.{ready_step}
use Rattle.kernel_core.proofs.Runs.{step_of_ended}
use Rattle.kernel_core.specs.Histories.{IsLegal}
use Rattle.kernel_core.specs.Kernel.{view_of}
use Rattle.kernel_core.specs.Machine.{Machine, is_ended, reply_of}
use Rattle.kernel_core.specs.Ready.{IsReady}
use Rattle.kernel_core.specs.Runs.{frames_of, kept, peak, run}
use Rattle.kernel_core.specs.Start.{Inputs}
use Rattle.kernel_core.specs.Step.{step}
use Rattle.lwc_base.specs.World.{World}
use Rattle.lwc_types.specs.declared.limits.TheConstants.{MOST_PAGES}
use Rattle.lwc_types.specs.declared.size.WorldSize.{WorldSize}
use Rattle.lwc_text.specs.Lines.{context_line, groups_line, tail_lines}
use Rattle.lwc_text.specs.Report.{contexts_text, replies_text, report_of, threads_text}
use Rattle.lift_law.proofs.Counts.{summary-wide, used-wide}
use Rattle.lift_law.proofs.Pages.{HasNoMore, no_more}
use Rattle.lift_law.proofs.Running.{step-kept, step-wide}
use Rattle.lift_law.proofs.Staying.{KeepsWhole}
use Rattle.lift_law.proofs.Stepping.{wide_machine}
use Rattle.lift_law.proofs.Tables.{keys-with, len-with}
use Rattle.lift_law.proofs.Wide.{wide, wide_context, wide_group}
use Rattle.lift_law.specs.Lifting.{MeetNoLimit}

ended-wide : (m : Machine) (t : ℕ) → is_ended (wide_machine m) t ≡ is_ended m t
unfolding is_ended
ended-wide m t = refl

-- a machine of a run in which no capability was narrowed
pub record IsFine (inputs : Inputs) (m : Machine) : Type 0 where
  pub count : ℕ
  pub ready : IsReady inputs count m
  pub keeps : KeepsWhole m.environment.world.size.pages m.environment.world

module _ (inputs : Inputs) where
  pub ends-fine : (m : Machine) → IsFine inputs m → HasNoMore m.environment.world
  ends-fine m fine = no_more m.environment.world fine.ready.sound (subst (λ (z : WorldSize). z.pages ≤ MOST_PAGES) (sym fine.ready.size) (most_pages inputs.image.form))

  module _ (m : Machine) (fine : IsFine inputs m) (t : ℕ) (steps : List ℕ) (meets : MeetNoLimit m (t ∷ steps)) where
    pub next-wide : step (wide_machine m) t ≡ wide_machine (step m t)
    next-wide = step-wide inputs fine.count t m fine.ready fine.keeps meets.0

    pub next-fine : IsFine inputs (step m t)
    next-fine =
        let next = ready_step inputs fine.count t m fine.ready in record {
          count = fine.count + 1;
          ready = next;
          keeps = subst (λ (z : WorldSize). KeepsWhole z.pages (step m t).environment.world) (fine.ready.size ∙ sym next.size) (step-kept inputs fine.count t m fine.ready fine.keeps meets.0);
        }

  pub run-wide : (m : Machine) (steps : List ℕ) → IsFine inputs m → MeetNoLimit m steps → run (wide_machine m) steps ≡ wide_machine (run m steps)
  run-wide m [] fine meets = refl
  run-wide m (t ∷ ts) fine meets = ap (λ n. run n ts) (next-wide m fine t ts meets) ∙ run-wide (step m t) ts (next-fine m fine t ts meets) meets.1

  pub run-fine : (m : Machine) (steps : List ℕ) → IsFine inputs m → MeetNoLimit m steps → IsFine inputs (run m steps)
  run-fine m [] fine meets = fine
  run-fine m (t ∷ ts) fine meets = run-fine (step m t) ts (next-fine m fine t ts meets) meets.1

  pub kept-wide : (m : Machine) (steps : List ℕ) → IsFine inputs m → MeetNoLimit m steps → kept (wide_machine m) steps ≡ kept m steps
  kept-wide m [] fine meets = refl
  kept-wide m (t ∷ ts) fine meets =
      ap (λ b. cond b (kept (wide_machine m) ts) (t ∷ kept (step (wide_machine m) t) ts)) (ended-wide m t)
      ∙ by (is_ended m t) refl (kept-wide m ts fine)
      (ap (λ n. t ∷ kept n ts) (next-wide m fine t ts meets) ∙ ap (λ us. t ∷ us) (kept-wide (step m t) ts (next-fine m fine t ts meets) meets.1))
    where
      by : (b : Bool) → is_ended m t ≡ b → (MeetNoLimit m ts → kept (wide_machine m) ts ≡ kept m ts) → t ∷ kept (step (wide_machine m) t) ts ≡ t ∷ kept (step m t) ts →
          cond b (kept (wide_machine m) ts) (t ∷ kept (step (wide_machine m) t) ts) ≡ cond b (kept m ts) (t ∷ kept (step m t) ts)
      by true ended here later = here (subst (λ n. MeetNoLimit n ts) (step_of_ended m t ended) meets.1)
      by false ended here later = later

  frames-wide : (m : Machine) → IsFine inputs m → frames_of (wide_machine m) ≡ frames_of m
  frames-wide m fine = used-wide m.environment.world (ends-fine m fine)

  pub peak-wide : (m : Machine) (steps : List ℕ) → IsFine inputs m → MeetNoLimit m steps → peak (wide_machine m) steps ≡ peak m steps
  peak-wide m [] fine meets = frames-wide m fine
  peak-wide m (t ∷ ts) fine meets =
      ap (λ n. max n (peak (step (wide_machine m) t) ts)) (frames-wide m fine)
      ∙ ap (max (frames_of m)) (ap (λ n. peak n ts) (next-wide m fine t ts meets) ∙ peak-wide (step m t) ts (next-fine m fine t ts meets) meets.1)

  contexts-wide : (w : World) → HasNoMore w → contexts_text (wide w) ≡ contexts_text w
  unfolding contexts_text
  contexts-wide w ends = λ i. flat_map (λ c. context_line c (summary-wide w ends c i)) (keys-with wide_context w.contexts i)

  threads-wide : (m : Machine) → threads_text (wide_machine m) ≡ threads_text m
  unfolding threads_text view_of
  threads-wide m = refl

  replies-wide : (m : Machine) → replies_text (wide_machine m) ≡ replies_text m
  unfolding replies_text reply_of
  replies-wide m = refl

  report-wide : (m : Machine) (most : ℕ) (steps : List ℕ) → IsFine inputs m → report_of (wide_machine m) most steps ≡ report_of m most steps
  unfolding report_of
  report-wide m most steps fine = λ i.
      threads-wide m i ++ contexts-wide m.environment.world (ends-fine m fine) i ++ groups_line (len-with wide_group m.environment.world.groups i)
      ++ replies-wide m i ++ tail_lines m.environment.channels.console (frames-wide m fine i) most steps

  pub text-wide : (m : Machine) (steps : List ℕ) → IsFine inputs m → MeetNoLimit m steps → report_of (run (wide_machine m) steps) (peak (wide_machine m) steps) steps ≡ report_of (run m steps) (peak m steps) steps
  text-wide m steps fine meets =
      (λ i. report_of (run-wide m steps fine meets i) (peak-wide m steps fine meets i) steps) ∙ report-wide (run m steps) (peak m steps) steps (run-fine m steps fine meets)

  pub legal-wide : (m : Machine) (steps : List ℕ) → IsFine inputs m → MeetNoLimit m steps → IsLegal m steps → IsLegal (wide_machine m) steps
  legal-wide m steps fine meets legal = kept-wide m steps fine meets ∙ legal
