use Rattle.std.proofs.Common.{rules, subst, sym}
use Rattle.guest_image.specs.Limits.{IsImage}
use Rattle.guest_image.specs.declared.image.Image.{Image}
use Rattle.lwc_gen.proofs.Images.{server_is_image}
use Rattle.lwc_gen.proofs.generating.server.Goals as goal

pub returns-clause-server : goal.returns-clause-server
returns-clause-server c = search rules

pub returns-clause-image : goal.returns-clause-image
returns-clause-image c = subst (λ (i : Image). IsImage i) (sym (returns-clause-server c)) server_is_image
