-- The cells that stored ones stand for, with the words of a capability beside them.
use Rattle.std.specs.Prelude.{Option, None, Some}
use Rattle.lwc_base.specs.Capabilities.{empty_cap, full_cap}
use Rattle.lwc_base.specs.declared.cell.Cell.{Cell}
use Rattle.lwc_base.specs.declared.cell.Cell.TheVariants.{Own, Common}
use Rattle.lwc_base.specs.declared.descriptor.Cap.{Cap}
use Rattle.lwc_base.specs.declared.descriptor.Descriptor.{Descriptor}
use Rattle.lwc_base.specs.declared.descriptor.Descriptor.TheVariants.{Empty, Console, File, Request, Reply, Ctx}
use Rattle.lwc_base.specs.declared.descriptor.Grant.{Grant}
use Rattle.lwc_base.specs.declared.descriptor.Grant.TheVariants as grants
use Rattle.lwc_base.specs.declared.descriptor.Lent.{Lent}
use Rattle.lwc_base.specs.declared.descriptor.Lent.TheVariants as lent
use Rattle.fd_table.specs.declared.stored.StoredCell.{StoredCell}
use Rattle.fd_table.specs.declared.stored.StoredCell.TheVariants as stored
use Rattle.fd_table.specs.declared.stored.StoredKeys.{StoredKeys}
use Rattle.fd_table.specs.declared.stored.StoredKeys.TheVariants as keys

-- the words of lent keys, if they are the keys of a capability
abbrev pub words_of_keys : Grant → Option Cap
words_of_keys (grants.Of cap) = Some cap.now
words_of_keys _ = None

-- the words of the descriptor in a cell, if it has some
abbrev pub words_of : Cell Lent → Option Cap
words_of (Own (lent.Ctx name keys)) = words_of_keys keys
words_of _ = None

-- the capability of stored keys
abbrev pub keys_in : StoredKeys → Cap → Cap
keys_in (keys.All pages) words = full_cap pages
keys_in keys.None words = empty_cap
keys_in keys.Words words = words

-- the cell that a stored one stands for
abbrev pub cell_in : StoredCell → Cap → Cell Descriptor
cell_in stored.Empty words = Own Empty
cell_in stored.Console words = Own Console
cell_in (stored.File file at) words = Own (File file at)
cell_in (stored.Request r at) words = Own (Request r at)
cell_in (stored.Reply r) words = Own (Reply r)
cell_in (stored.Ctx name keys) words = Own (Ctx name (keys_in keys words))
cell_in (stored.Common g) words = Common g
