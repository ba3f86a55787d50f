use Rattle.guest_dis.proofs.Images.{read_back}
use Rattle.guest_dis.proofs.listing.disassemble.Goals as goal

pub returns-clause-read_back : goal.returns-clause-read_back
returns-clause-read_back c = read_back c.args.image.now c.requires c.list.result (λ v. v.items) c.list.ensures.source c.list.ensures.bytes
