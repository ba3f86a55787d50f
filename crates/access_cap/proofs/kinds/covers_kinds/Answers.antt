use Rattle.access_cap.specs.Kinds.{has_kinds, is_chosen}
use Rattle.lwc_base.specs.Modes.{kind_of}
use Rattle.lwc_types.specs.declared.key.Key.{Key}
use Rattle.access_cap.proofs.Covered.{had_exactly}
use Rattle.access_cap.proofs.kinds.covers_kinds.Goals as goal

pub returns : goal.returns
unfolding has_kinds
returns c =
    had_exactly c.args.pages c.args.cap.now c.of_kinds.result (λ (k : Key). is_chosen c.args.mask.0 (kind_of k)) c.requires c.of_kinds.ensures _ c.includes.ensures
