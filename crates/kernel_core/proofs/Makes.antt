-- An outcome that was made, under another definition that gives the same.
use Rattle.std.proofs.Common.{◌≡◌, ◌∙◌}
use Rattle.std.specs.Prelude.{Result, OnOk}
use Rattle.std.proofs.lemmas.Result.{on_ok_weaker}
use Rattle.kernel_core.specs.Changes.{Makes, MakesAll}
use Rattle.kernel_core.specs.Machine.{Environment}
use Rattle.kernel_core.specs.Step.{Outcome, beside}
use Rattle.kernel_core.specs.declared.thread.Thread.{Thread}
use Rattle.lwc_base.specs.Channels.{Channels}
use Rattle.lwc_base.specs.World.{World}

pub makes_as : {T E : Type 0} (r : Result T E) (f g : Environment → Thread → Outcome) (w : World) (x : Thread) (v : World) (y : Thread) →
    ((io : Channels) → g (beside w io) x ≡ f (beside w io) x) → OnOk r (Makes f w x v y) → OnOk r (Makes g w x v y)
makes_as r f g w x v y same made =
    let step : Makes f w x v y → Makes g w x v y = λ makes io. same io ∙ makes io in on_ok_weaker r step made

-- or with these channels
pub makes_with : {T E : Type 0} (r : Result T E) (f g : Environment → Thread → Outcome) (w : World) (io : Channels) (x : Thread) (v : World) (y : Thread) →
    g (beside w io) x ≡ f (beside w io) x → OnOk r (Makes f w x v y) → OnOk r (MakesAll g w io x v io y)
makes_with r f g w io x v y same made =
    let step : Makes f w x v y → MakesAll g w io x v io y = λ makes. same ∙ makes io in on_ok_weaker r step made

-- or where channels may change
pub makes_all : {T E : Type 0} (r : Result T E) (f g : Environment → Thread → Outcome) (w : World) (io : Channels) (x : Thread) (v : World) (after : Channels) (y : Thread) →
    g (beside w io) x ≡ f (beside w io) x → OnOk r (MakesAll f w io x v after y) → OnOk r (MakesAll g w io x v after y)
makes_all r f g w io x v after y same made =
    let step : MakesAll f w io x v after y → MakesAll g w io x v after y = λ makes. same ∙ makes in on_ok_weaker r step made
