use Rattle.std.proofs.Common.{◌≡◌, ◌<◌, ◌++◌, ◌∙◌, ℕ, [], List, ap, arith, length, refl, rules, subst, sym}
use Rattle.std.specs.Prelude.{max}
use Rattle.std.specs.FinMap as fm
use Rattle.kernel_core.specs.Kernel.{History, machine_of, opened}
use Rattle.kernel_core.specs.Start.{Inputs, inputs_of, thread_count}
use Rattle.lwc_base.specs.Channels.{Channels}
use Rattle.lwc_base.specs.Frames.{used}
use Rattle.lwc_base.specs.World.{World}
use Rattle.lwc_session.proofs.Sittings.{can_rest, has_one, last_step, report_is, still_one}
use Rattle.lwc_session.proofs.Workers.{one_worker}
use Rattle.lwc_session.proofs.reporting.report.Goals as goal
use Rattle.lwc_text.specs.Lines.{thread_lines}
use Rattle.lwc_text.specs.Report.{contexts_text}

pub make_step-requires-clause-within : goal.make_step-requires-clause-within
make_step-requires-clause-within g c κs within =
    one_worker _ (ap (λ (h : History). h.inputs.settings.job) c.in_ok-kernel.ensures ∙ c.requires.worker)

pub thread-requires-after_bounds : goal.thread-requires-after_bounds
thread-requires-after_bounds g c κs within =
    let opened_is = c.in_ok-kernel.ensures ∙ ap (λ (l : List (List ℕ)). opened (inputs_of c.args.session.now.image l c.args.settings.now) 1) (c.of-none.ensures ∙ c.new.ensures.items) in
    let still = still_one c.args.settings.now c.args.session.now.image _ _ c.requires.worker opened_is c.in_ok-make_step.ensures.step in
    one_worker _ (ap (λ (i : Inputs). i.settings.job) still ∙ c.requires.worker)

pub returns : goal.returns
returns g c = λ s at.
    let now = c.args.session.now in
    let settings = c.args.settings.now in
    let after = c.make_step.new.self in
    let w = (machine_of after).environment.world in
    let opened_is = c.in_ok-kernel.ensures ∙ ap (λ (l : List (List ℕ)). opened (inputs_of now.image l settings) 1) (c.of-none.ensures ∙ c.new.ensures.items) in
    let still = still_one settings now.image _ after c.requires.worker opened_is c.in_ok-make_step.ensures.step in
    let can = can_rest now.image settings c.requires.image c.requires.fits c.requires.settings c.requires.worker in
    report_is settings s now after c.thread.result w _ c.group_count.result c.used.result _ _ _ _ _ _ _ at
    (last_step settings s now.image _ after at.image c.requires.worker opened_is c.in_ok-make_step.ensures.step) (has_one settings now.image after still can c.requires.worker) c.thread.ensures
    refl (c.console.ensures.bytes ∙ ap (λ (io : Channels). io.console) c.channels.ensures) (c.group_count.ensures ∙ ap (λ (v : World). fm.len v.groups) c.world-2.ensures) (c.used.ensures ∙ ap used c.world-3.ensures)
    (c.max-peak.ensures ∙ ap (max now.peak) c.peak.ensures) (c.as_slice-2.ensures.value ∙ search rules)
    (c.in_ok-thread_lines.ensures.ok ∙ ap (λ (l : List ℕ). l ++ thread_lines 0 c.thread.result) c.new-text.ensures.items)
    (c.in_ok-context_lines.ensures.ok ∙ ap (λ (v : World). c.thread_lines.new.out.items ++ contexts_text v) c.world.ensures)
    c.in_ok-groups_line.ensures.ok (c.in_ok-extend_from_slice.ensures.items ∙ ap (λ (l : List ℕ). c.groups_line.new.out.items ++ l) c.as_slice.ensures.value) c.in_ok-tail_lines.ensures.ok
