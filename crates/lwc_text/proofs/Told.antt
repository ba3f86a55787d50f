-- What a report tells of a world: who is live and what each has, how many groups and frames; no byte of a page.
use Rattle.std.proofs.Common.{◌≡◌, ℕ, refl, List, ◌++◌}
use Rattle.std.specs.FinMap as fm
use Rattle.std.specs.List.{flat_map}
use Rattle.kernel_core.specs.Kernel.{view_of}
use Rattle.kernel_core.specs.Machine.{Machine, reply_of}
use Rattle.kernel_core.specs.Step.{with_world}
use Rattle.lwc_base.specs.Frames.{used}
use Rattle.lwc_base.specs.Summaries.{summary_of}
use Rattle.lwc_base.specs.World.{World}
use Rattle.lwc_types.specs.declared.name.Name.{Name}
use Rattle.lwc_text.specs.Lines.{context_line, groups_line, tail_lines}
use Rattle.lwc_text.specs.Report.{contexts_text, replies_text, report_of, threads_text}

-- worlds of which a report tells the same
pub record TellAlike (w v : World) : Type 0 where
  pub live : fm.keys v.contexts ≡ fm.keys w.contexts
  pub summary : (c : Name) → summary_of v c ≡ summary_of w c
  pub groups : fm.len v.groups ≡ fm.len w.groups
  pub used : used v ≡ used w

pub contexts_alike : (w v : World) → TellAlike w v → contexts_text v ≡ contexts_text w
unfolding contexts_text
contexts_alike w v alike = λ i. flat_map (λ c. context_line c (alike.summary c i)) (alike.live i)

module _ (m : Machine) (v : World) where
  threads-alike : threads_text (record m { environment = with_world m.environment v }) ≡ threads_text m
  unfolding threads_text view_of
  threads-alike = refl

  replies-alike : replies_text (record m { environment = with_world m.environment v }) ≡ replies_text m
  unfolding replies_text reply_of
  replies-alike = refl

  pub report_alike : TellAlike m.environment.world v → (most : ℕ) (steps : List ℕ) → report_of (record m { environment = with_world m.environment v }) most steps ≡ report_of m most steps
  unfolding report_of
  report_alike alike most steps = λ i.
      threads-alike i ++ contexts_alike m.environment.world v alike i ++ groups_line (alike.groups i)
      ++ replies-alike i ++ tail_lines m.environment.channels.console (alike.used i) most steps
