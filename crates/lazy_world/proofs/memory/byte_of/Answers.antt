use Rattle.std.proofs.Common.{◌∙◌, ap, sym}
use Rattle.std.specs.Option.{option_copied}
use Rattle.lazy_world.proofs.MemoryLemmas.{byte-none}
use Rattle.lazy_world.proofs.memory.byte_of.Goals as goal

pub returns-in-None : goal.returns-in-None
returns-in-None c = λ value same. byte-none value c.args.at (ap option_copied (sym c.in-None.is) ∙ same)
