-- The rights of pages.
use Rattle.std.specs.Prelude.{ℕ, if◌then◌else◌, Bool, true, false}
use Rattle.std.specs.List.{list_all}
use Rattle.lwc_base.specs.Memory.{touched}
use Rattle.lwc_base.specs.World.{World, context}
use Rattle.lwc_types.specs.declared.name.Name.{Name}
use Rattle.lwc_types.specs.declared.right.Right.{Right}
use Rattle.lwc_types.specs.declared.right.Right.TheVariants.{Write, Read}

-- whether two rights are the same
abbrev pub same_right : Right → Right → Bool
same_right Write Write = true
same_right Read Read = true
same_right _ _ = false

-- whether bytes may be stored to a page of this right
abbrev pub may_write : Right → Bool
may_write Write = true
may_write Read = false

-- the right of a page of a context
abbrev pub right_at : World → Name → ℕ → Right
right_at w c p = (context w c).right p

-- whether bytes may be stored to each page that a number of bytes from an address touch
unfoldable pub is_writable : World → Name → ℕ → ℕ → Bool
is_writable w c at count = list_all (λ p. may_write (right_at w c p)) (touched at count)

-- the right of a page that is copied to be read alone: Read where it is present
abbrev pub read_right : Bool → Right
read_right present = if present then Read else Write
