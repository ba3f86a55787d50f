use Rattle.std.proofs.Common.{◌≡◌, ◌∙◌, ap, arith, cond, subst, sym, Bool, List, Option, Some, None}
use Rattle.std.specs.Option.{option_map}
use Rattle.guest_image.specs.declared.image.PageImage.{PageImage}
use Rattle.guest_isa.specs.declared.instr.Instr.{Instr}
use Rattle.guest_machine.specs.Advances.{advanced}
use Rattle.kernel_core.specs.Kernel.{machine_of}
use Rattle.lwc_base.specs.World.{World}
use Rattle.lwc_session.proofs.Workers.{in_first, left_pages, live_by_view, one_worker, proposal_is, steps_stepped}
use Rattle.lwc_session.proofs.serving.next_step.Goals as goal
use Rattle.lwc_session.proofs.serving.next_step.Goals.{then-may_end+in_ok-pages_in, else-may_end}
use Rattle.lwc_session.specs.Pages.{pages_in}
use Rattle.lwc_session.specs.Served.{is_done}
use Rattle.lwc_types.specs.declared.fault.ThreadStatus.{ThreadStatus}
use Rattle.lwc_types.specs.declared.name.Name.{Name}
use Rattle.snapshot_host.specs.Begin.{request_context}
use Rattle.world_face.specs.Calls.{IsLive}

pub thread-view-requires-after_bounds : goal.thread-view-requires-after_bounds
thread-view-requires-after_bounds g c κs within = one_worker _ c.requires.worker

pub pages_in-requires-after_bounds : goal.pages_in-requires-after_bounds
pages_in-requires-after_bounds g c κs within =
    let live = live_by_view c.args.kernel.now 0 c.thread-view.result c.requires.opened c.thread-view.ensures in
    let first = in_first c.thread-view.result c.advance-advance.result.next (sym c.may_end.ensures ∙ c.if-may_end.true) in
    subst (λ (w : World). IsLive w (request_context 0)) (sym c.world.ensures)
    (subst (IsLive (machine_of c.args.kernel.now).environment.world) first live)

pub make_step-requires-clause-within : goal.make_step-requires-clause-within
make_step-requires-clause-within g c κs within = one_worker _ c.requires.worker

pub make_step-requires-clause-proposal : goal.make_step-requires-clause-proposal
make_step-requires-clause-proposal g c κs within =
    proposal_is c.args.kernel.now.inputs.image.text c.text.result.now c.thread-view.result.regs c.advance-advance.result c.text.ensures c.advance-advance.ensures.exact

pub returns-then-is_done-clause-inputs : goal.returns-then-is_done-clause-inputs
returns-then-is_done-clause-inputs g c = (steps_stepped _ _ 0 c.requires.goes_on c.in_ok-make_step.ensures.step).0

pub returns-then-is_done-clause-steps : goal.returns-then-is_done-clause-steps
returns-then-is_done-clause-steps g c = (steps_stepped _ _ 0 c.requires.goes_on c.in_ok-make_step.ensures.step).1

pub returns-then-is_done-clause-pages : goal.returns-then-is_done-clause-pages
returns-then-is_done-clause-pages g c =
    let here : Option (List PageImage) = Some (pages_in (machine_of c.args.kernel.now).environment.world (request_context 0)) in
    let before : option_map (λ v. v.items) c.if-may_end.pages ≡ cond c.may_end.result here None = elim c.if-may_end.branch [
      | then-may_end+in_ok-pages_in w ↦
          ap (option_map (λ v. v.items)) w.pages-is ∙ ap Some (w.in_ok-pages_in.ensures ∙ ap (λ (v : World). pages_in v (request_context 0)) w.world.ensures)
          ∙ ap (λ (b : Bool). cond b here None) (sym w.if-may_end.true)
      | else-may_end w ↦ ap (option_map (λ v. v.items)) w.pages-is ∙ ap (λ (b : Bool). cond b here None) (sym w.if-may_end.false)
    ] in
    ap (λ (b : Bool). cond b (option_map (λ v. v.items) c.if-may_end.pages) None) (sym c.if-is_done.true)
    ∙ left_pages c.args.kernel.now c.make_step.new.self c.thread-view.result c.advance-advance.result c.may_end.result c.is_done.result (option_map (λ v. v.items) c.if-may_end.pages) c.requires.opened c.thread-view.ensures
    (c.advance-advance.ensures.exact ∙ ap (λ (l : List Instr). advanced l c.thread-view.result.regs) c.text.ensures) c.requires.goes_on c.in_ok-make_step.ensures.step c.may_end.ensures
    (c.is_done.ensures ∙ ap is_done c.reply_status.ensures) before

pub returns-else-is_done-clause-inputs : goal.returns-else-is_done-clause-inputs
returns-else-is_done-clause-inputs g c = (steps_stepped _ _ 0 c.requires.goes_on c.in_ok-make_step.ensures.step).0

pub returns-else-is_done-clause-steps : goal.returns-else-is_done-clause-steps
returns-else-is_done-clause-steps g c = (steps_stepped _ _ 0 c.requires.goes_on c.in_ok-make_step.ensures.step).1

pub returns-else-is_done-clause-pages : goal.returns-else-is_done-clause-pages
returns-else-is_done-clause-pages g c =
    let here : Option (List PageImage) = Some (pages_in (machine_of c.args.kernel.now).environment.world (request_context 0)) in
    let before : option_map (λ v. v.items) c.if-may_end.pages ≡ cond c.may_end.result here None = elim c.if-may_end.branch [
      | then-may_end+in_ok-pages_in w ↦
          ap (option_map (λ v. v.items)) w.pages-is ∙ ap Some (w.in_ok-pages_in.ensures ∙ ap (λ (v : World). pages_in v (request_context 0)) w.world.ensures)
          ∙ ap (λ (b : Bool). cond b here None) (sym w.if-may_end.true)
      | else-may_end w ↦ ap (option_map (λ v. v.items)) w.pages-is ∙ ap (λ (b : Bool). cond b here None) (sym w.if-may_end.false)
    ] in
    ap (λ (b : Bool). cond b (option_map (λ v. v.items) c.if-may_end.pages) None) (sym c.if-is_done.false)
    ∙ left_pages c.args.kernel.now c.make_step.new.self c.thread-view.result c.advance-advance.result c.may_end.result c.is_done.result (option_map (λ v. v.items) c.if-may_end.pages) c.requires.opened c.thread-view.ensures
    (c.advance-advance.ensures.exact ∙ ap (λ (l : List Instr). advanced l c.thread-view.result.regs) c.text.ensures) c.requires.goes_on c.in_ok-make_step.ensures.step c.may_end.ensures
    (c.is_done.ensures ∙ ap is_done c.reply_status.ensures) before
