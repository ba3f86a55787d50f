use Rattle.std.proofs.Common.{subst, sym}
use Rattle.guest_call.specs.Guest.{with_answer}
use Rattle.lwc_base.specs.declared.descriptor.Descriptor.TheVariants.{Ctx}
use Rattle.lwc_base.specs.Capabilities.{empty_cap}
use Rattle.lwc_base.specs.Saved.{save}
use Rattle.lwc_types.specs.declared.key.Key.TheVariants.{Slot}
use Rattle.lwc_switch.proofs.Rest.{leaves_rest}
use Rattle.lwc_switch.specs.Switch.{LeavesRest}
use Rattle.guest_call.proofs.Changes.{putting, saving}
use Rattle.lwc_switch.proofs.laws.a_switch_leaves_the_rest.Goals as goal

pub returns : goal.returns
returns c = λ w v from d t regs arrived moved.
    subst (λ v. LeavesRest w v from d t moved.slot) (sym moved.made)
    (leaves_rest w _ _ from d t moved.slot (saving w from t (with_answer regs 0))
    (putting (save w from t (with_answer regs 0)) d (Slot moved.slot) (Ctx from empty_cap)))
