use Rattle.std.proofs.Common.{◌≡◌, ◌++◌, ◌∙◌, List, ap, arith, length, subst, sym}
use Rattle.std.specs.Prelude.{All}
use Rattle.kernel_core.specs.Machine.{homes_of}
use Rattle.kernel_core.specs.Step.{contexts_of}
use Rattle.kernel_core.specs.declared.acting.Change.TheVariants as changes
use Rattle.kernel_core.specs.declared.thread.Thread.{Thread}
use Rattle.lwc_base.proofs.Reaped.{reap-reaped}
use Rattle.lwc_base.specs.Frames.{used}
use Rattle.lwc_base.specs.Life.{IsReaped, reap}
use Rattle.world_face.specs.Calls.{IsLive}
use Rattle.kernel_core.proofs.parts.Parts.keep_step.Goals as goal

pub drop_unreached-requires-clause-few : goal.drop_unreached-requires-clause-few
drop_unreached-requires-clause-few g c =
    omega (arith, ap (λ (l : List Thread). length l) c.as_slice.ensures.value, c.requires.few)

pub drop_unreached-requires-clause-live : goal.drop_unreached-requires-clause-live
drop_unreached-requires-clause-live g c κs bounds =
    subst (All (λ (x : Thread). IsLive (g.W.World.seen c.args.self.now.world) x.context)) (sym c.as_slice.ensures.value) c.requires.live

pub drop_unreached-requires-clause-uncut : goal.drop_unreached-requires-clause-uncut
drop_unreached-requires-clause-uncut g c κs bounds other =
    subst (λ (l : List Thread). IsReaped (g.W.World.seen c.args.self.now.world) (contexts_of l ++ homes_of c.args.workers)) (sym c.as_slice.ensures.value) (c.requires.uncut other)

pub peak_after-self-requires-after_bounds : goal.peak_after-self-requires-after_bounds
peak_after-self-requires-after_bounds g c κs bounds thread =
    let w = g.W.World.seen c.args.self.now.world in
    let left = c.requires.uncut (λ same. let both : changes.Thread ≡ changes.Links = sym thread ∙ same in cc) in
    let same = c.drop_unreached.ensures ∙ ap (λ (l : List Thread). reap w (contexts_of l ++ homes_of c.args.workers)) c.as_slice.ensures.value ∙ reap-reaped w _ left in
    omega (arith, ap used same, c.requires.used thread)
