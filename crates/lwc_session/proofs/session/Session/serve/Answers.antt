use Rattle.std.proofs.Common.{◌≡◌, ◌≤◌, ◌+◌, ◌-◌, ◌∷◌, ◌∙◌, ℕ, [], List, Option, ap, arith, length, subst, sym}
use Rattle.std.specs.Prelude.{IfSome, max}
use Rattle.std.specs.Option.{option_map}
use Rattle.guest_image.specs.Limits.{IsImage, pages_of}
use Rattle.guest_image.specs.declared.image.Image.{Image}
use Rattle.guest_image.specs.declared.image.PageImage.{PageImage}
use Rattle.kernel_core.specs.Kernel.{History}
use Rattle.kernel_core.specs.Machine.{work}
use Rattle.kernel_core.specs.Start.{Inputs, inputs_of, start}
use Rattle.lwc_session.proofs.KeptPages.{AreFitting}
use Rattle.lwc_session.proofs.Onward.{HasServed, can_alone, few_steps, image_fits, image_holds, served_at, served_fitting, some_mapped, some_step, work_alone}
use Rattle.lwc_session.proofs.session.Session.serve.Goals as goal
use Rattle.lwc_session.specs.Served.{history, served}

pub serve_alone-requires-clause-room : goal.serve_alone-requires-clause-room
serve_alone-requires-clause-room g c κs within =
    let most = work_alone c.args.self.now.image c.args.request.now c.args.settings.now c.requires.worker in
    subst (λ (h : History). work (start h.inputs) ≤ h.room) (sym c.in_ok-kernel.ensures) (omega (arith, most))

pub overflow_sub-self : goal.overflow_sub-self
overflow_sub-self g c =
    let before = inputs_of c.args.self.now.image (c.args.request.now ∷ []) c.args.settings.now in
    let steps : c.serve_alone.new.kernel.steps ≡ history before = c.in_ok-kept.ensures.steps ∙ ap (λ (h : History). history h.inputs) c.in_ok-kernel.ensures in
    let some = some_step c.args.self.now.image c.args.request.now c.args.settings.now c.requires.worker in
    omega (arith, some, ap length steps, ap length c.schedule.ensures.steps)

pub returns-clause-at : goal.returns-clause-at
returns-clause-at g c = λ s at.
    let old = c.args.self.now in
    let before = inputs_of old.image (c.args.request.now ∷ []) c.args.settings.now in
    let has : HasServed before c.serve_alone.new.kernel = record {
      given = c.in_ok-kept.ensures.inputs ∙ ap (λ (h : History). h.inputs) c.in_ok-kernel.ensures;
      steps = c.in_ok-kept.ensures.steps ∙ ap (λ (h : History). history h.inputs) c.in_ok-kernel.ensures;
    } in
    let pages : option_map (λ v. v.items) c.in_ok-kept.kept ≡ (served before).pages = c.in_ok-kept.ensures.pages ∙ ap (λ (h : History). (served h.inputs).pages) c.in_ok-kernel.ensures in
    served_at c.args.settings.now s old c.keep.new.self c.args.request.now c.serve_alone.new.kernel (option_map (λ v. v.items) c.in_ok-kept.kept) _ _ at has pages
    (c.is_some.ensures ∙ some_mapped (λ v. v.items) c.in_ok-kept.kept) c.reply.ensures c.keep.ensures.image (c.keep.ensures.replies ∙ c.in_ok-served_line.ensures) c.keep.ensures.served
    (c.keep.ensures.steps ∙ ap (λ (l : List ℕ). old.steps + (length l - 1)) c.schedule.ensures.steps) (c.keep.ensures.peak ∙ c.max-self.ensures ∙ ap (max old.peak) c.peak.ensures)

pub returns-clause-image : goal.returns-clause-image
returns-clause-image g c =
    let old = c.args.self.now in
    let frames = c.args.settings.now.frames in
    let before = inputs_of old.image (c.args.request.now ∷ []) c.args.settings.now in
    let can = can_alone old.image c.args.request.now c.args.settings.now c.requires.image c.requires.fits c.requires.settings c.requires.worker c.requires.short in
    let pages : option_map (λ v. v.items) c.in_ok-kept.kept ≡ (served before).pages = c.in_ok-kept.ensures.pages ∙ ap (λ (h : History). (served h.inputs).pages) c.in_ok-kernel.ensures in
    subst IsImage (sym c.keep.ensures.image) (image_holds frames old.image (option_map (λ v. v.items) c.in_ok-kept.kept) c.requires.image
    (subst (λ (o : Option (List PageImage)). IfSome o (AreFitting (pages_of old.image.form) frames)) (sym pages) (served_fitting before can)))

pub returns-clause-fits : goal.returns-clause-fits
returns-clause-fits g c =
    let old = c.args.self.now in
    let frames = c.args.settings.now.frames in
    let before = inputs_of old.image (c.args.request.now ∷ []) c.args.settings.now in
    let can = can_alone old.image c.args.request.now c.args.settings.now c.requires.image c.requires.fits c.requires.settings c.requires.worker c.requires.short in
    let pages : option_map (λ v. v.items) c.in_ok-kept.kept ≡ (served before).pages = c.in_ok-kept.ensures.pages ∙ ap (λ (h : History). (served h.inputs).pages) c.in_ok-kernel.ensures in
    subst (λ (i : Image). length i.pages ≤ frames) (sym c.keep.ensures.image) (image_fits frames old.image (option_map (λ v. v.items) c.in_ok-kept.kept) c.requires.fits
    (subst (λ (o : Option (List PageImage)). IfSome o (AreFitting (pages_of old.image.form) frames)) (sym pages) (served_fitting before can)))

pub returns-clause-steps : goal.returns-clause-steps
returns-clause-steps g c =
    let before = inputs_of c.args.self.now.image (c.args.request.now ∷ []) c.args.settings.now in
    let steps : c.serve_alone.new.kernel.steps ≡ history before = c.in_ok-kept.ensures.steps ∙ ap (λ (h : History). history h.inputs) c.in_ok-kernel.ensures in
    let most = work_alone c.args.self.now.image c.args.request.now c.args.settings.now c.requires.worker in
    omega (arith, most, few_steps before, ap length steps, ap length c.schedule.ensures.steps, c.keep.ensures.steps)
