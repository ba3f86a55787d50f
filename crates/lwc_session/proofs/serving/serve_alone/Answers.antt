use Rattle.std.proofs.Common.{◌≡◌, ◌∙◌, None, Some, ap, subst, sym}
use Rattle.std.specs.Option.{option_map}
use Rattle.kernel_core.specs.Kernel.{CanOpen}
use Rattle.lwc_session.proofs.Courses.{served_pages, served_steps, serving_on, serving_room, serving_start}
use Rattle.lwc_session.proofs.serving.serve_alone.Goals as goal

pub steps-init : goal.steps-init
steps-init g c = serving_start c.args.kernel.now c.requires.fresh c.requires.room

pub next_step-requires-clause-opened : goal.next_step-requires-clause-opened
next_step-requires-clause-opened g c κs within = subst CanOpen (sym c.steps.invariant.given) c.was_opened.ensures

pub next_step-requires-clause-room : goal.next_step-requires-clause-room
next_step-requires-clause-room g c κs within =
    serving_room c.args.kernel.now.inputs c.steps.kernel _ c.was_opened.ensures c.steps.invariant (sym c.has_ended.ensures ∙ c.steps-test.true)

pub steps-preserved-in-Some : goal.steps-preserved-in-Some
steps-preserved-in-Some g c =
    let made = c.in_ok-pages.ensures in
    serving_on _ c.steps.kernel c.next_step.new.kernel (option_map (λ v. v.items) c.steps.kept) (option_map (λ v. v.items) (Some c.in-Some.pages)) c.steps.invariant (sym c.has_ended.ensures ∙ c.steps-test.true)
    made.inputs made.steps made.room made.work (ap (option_map (λ v. v.items)) (sym c.in-Some.is) ∙ made.pages)

pub steps-preserved : goal.steps-preserved
steps-preserved g c =
    let made = c.in_ok-pages.ensures in
    serving_on _ c.steps.kernel c.next_step.new.kernel (option_map (λ v. v.items) c.steps.kept) None c.steps.invariant (sym c.has_ended.ensures ∙ c.steps-test.true)
    made.inputs made.steps made.room made.work (ap (option_map (λ v. v.items)) (sym c.in_default.is) ∙ made.pages)

pub returns : goal.returns
returns g c = record {
  inputs = c.steps.invariant.given;
  steps = served_steps _ c.steps.kernel _ c.steps.invariant (sym c.has_ended.ensures ∙ c.steps-test.false);
  pages = c.those_fitting.ensures ∙ served_pages _ c.steps.kernel _ c.args.frames c.requires.frames c.steps.invariant (sym c.has_ended.ensures ∙ c.steps-test.false);
}
