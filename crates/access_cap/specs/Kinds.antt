-- Whether a capability has all keys of some kinds.
use Rattle.std.specs.Prelude.{ℕ, ◌&&◌, Bool, not}
use Rattle.lwc_base.specs.Capabilities.{has_bit, has_key}
use Rattle.lwc_base.specs.declared.descriptor.Cap.{Cap}
use Rattle.lwc_base.specs.Modes.{kind_of}
use Rattle.lwc_base.specs.Sharing.{any_key}
use Rattle.lwc_types.specs.declared.key.Kind.{Kind}
use Rattle.lwc_types.specs.declared.key.Kind.TheVariants.{Page, Slot, Cred}

-- whether a mask chooses a kind: bit 0 the pages, bit 1 the slots, bit 2 the credential
abbrev pub is_chosen : ℕ → Kind → Bool
is_chosen mask Page = has_bit mask 0
is_chosen mask Slot = has_bit mask 1
is_chosen mask Cred = has_bit mask 2

-- whether a capability has each key of the chosen kinds, where there is this number of pages
unfoldable pub has_kinds : ℕ → Cap → ℕ → Bool
has_kinds pages cap mask = not (any_key pages (λ k. is_chosen mask (kind_of k) && not (has_key cap k)))
