use Rattle.std.proofs.Common.{◌∙◌, refl, arith}
use Rattle.access_cap.proofs.Keys.{masked_bit}
use Rattle.access_cap.proofs.kinds.Mask.chooses.Goals as goal

pub returns-in-Slot : goal.returns-in-Slot
returns-in-Slot c = rw c.in-Slot.is (c.contains-in-Slot.ensures tt ∙ masked_bit c.args.self.0 1 2 refl (omega arith))

pub returns-in-Cred : goal.returns-in-Cred
returns-in-Cred c = rw c.in-Cred.is (c.contains-in-Cred.ensures tt ∙ masked_bit c.args.self.0 2 4 refl (omega arith))
