-- The descriptor that a lent one stands for.
use Rattle.lwc_base.specs.Capabilities.{empty_cap, full_cap}
use Rattle.lwc_base.specs.declared.descriptor.Cap.{Cap}
use Rattle.lwc_base.specs.declared.descriptor.Descriptor.{Descriptor}
use Rattle.lwc_base.specs.declared.descriptor.Descriptor.TheVariants as owned
use Rattle.lwc_base.specs.declared.descriptor.Grant.{Grant}
use Rattle.lwc_base.specs.declared.descriptor.Grant.TheVariants.{All, None, Of}
use Rattle.lwc_base.specs.declared.descriptor.Lent.{Lent}
use Rattle.lwc_base.specs.declared.descriptor.Lent.TheVariants.{Empty, Console, File, Request, Reply, Ctx}

-- the capability of lent keys
abbrev pub keys_of : Grant → Cap
keys_of (All pages) = full_cap pages
keys_of None = empty_cap
keys_of (Of cap) = cap.now

-- the descriptor that a lent one stands for
abbrev pub descriptor_of : Lent → Descriptor
descriptor_of Empty = owned.Empty
descriptor_of Console = owned.Console
descriptor_of (File file at) = owned.File file at
descriptor_of (Request r at) = owned.Request r at
descriptor_of (Reply r) = owned.Reply r
descriptor_of (Ctx name keys) = owned.Ctx name (keys_of keys)
