use Rattle.std.proofs.Common.{◌∙◌, ◌&&◌, ap, Bool}
use Rattle.lwc_base.specs.Capabilities.{covers, has_key, is_named}
use Rattle.lwc_base.specs.declared.descriptor.Cap.{Cap}
use Rattle.access_cap.proofs.Covered.{had_exactly}
use Rattle.lwc_base.proofs.Caps.{restricted-has}
use Rattle.access_cap.proofs.sets.covers.Goals as goal

pub returns : goal.returns
unfolding covers
returns c =
    had_exactly c.args.pages c.args.cap.now c.meet.result (is_named c.args.spec.now) c.requires
    (λ k most. ap (λ (x : Cap). has_key x k) c.meet.ensures ∙ restricted-has c.full.result c.args.spec.now k most ∙ ap (λ (t : Bool). t && is_named c.args.spec.now k) (c.full.ensures.keys k most))
    _ c.includes.ensures
