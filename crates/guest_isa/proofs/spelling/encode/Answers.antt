use Rattle.guest_isa.proofs.Inverse.{reading-spelling}
use Rattle.guest_isa.proofs.spelling.encode.Goals as goal

pub returns-clause-read_back : goal.returns-clause-read_back
returns-clause-read_back c = rw (c.number.ensures, c.to_le_bytes.ensures) (reading-spelling c.args.instruction.now c.requires)
