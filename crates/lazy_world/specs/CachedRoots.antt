-- What all live contexts are reached from, and contexts that nothing reaches.
use Rattle.std.specs.FinMap as fm
use Rattle.std.specs.Prelude.{ℕ, ◌≡◌, ◌<◌, ◌⊎◌, ◌++◌, ◌∷◌, [], List, Option, None, Some, is_some, true}
use Rattle.fd_table.specs.Slots.{context_of}
use Rattle.lwc_base.specs.declared.item.Item.{Item}
use Rattle.lwc_base.specs.Cells.{slot_at}
use Rattle.lwc_base.specs.Life.{Reaches, is_among, is_reached, links}
use Rattle.lwc_base.specs.Modes.{mode}
use Rattle.lwc_base.specs.World.{World, is_live}
use Rattle.lwc_types.specs.declared.key.Key.TheVariants.{Slot}
use Rattle.lwc_types.specs.declared.key.TheConstants.{SLOTS}
use Rattle.lwc_types.specs.declared.name.Name.{Name}
use Rattle.lazy_world.specs.States.{Parts}

-- each live context is reached from these names
abbrev pub AreReached : World → List Name → Type 0
AreReached w names = (c : Name) → is_live w c ≡ true → is_reached w names c ≡ true

-- a live context is not reached from the roots, and each one that it links to is
pub record IsLoose (w : World) (roots : List Name) (c : Name) : Type 0 where
  pub live : is_live w c ≡ true
  pub loose : Reaches w roots c → ⊥
  pub ends : (d : Name) → links w c d ≡ true → Reaches w roots d

-- of some names each live one is reached from the roots, but for one that is loose, if there is one
pub record HasLoose (w : World) (names roots : List Name) (loose : Option Name) : Type 0 where
  pub one : (c : Name) → loose ≡ Some c → IsLoose w roots c
  pub others : (c : Name) → is_among names c ≡ true → is_live w c ≡ true → (loose ≡ Some c) ⊎ Reaches w roots c

-- names have each context that a slot which items name links a context to
abbrev pub HasNamedLinks : World → Name → List Item → List Name → Type 0
HasNamedLinks w c items names =
    (n : ℕ) (d : Name) → n < SLOTS → is_some (mode items (Slot n)) ≡ true →
    context_of (slot_at w c n) ≡ Some d → is_among names d ≡ true

-- names with one more, if one is given
abbrev pub with_cached_root : List Name → Option Name → List Name
with_cached_root names None = names
with_cached_root names (Some c) = names ++ c ∷ []

-- a root is at a place
pub record HasRoot (s : Parts) (roots : List Name) (i : ℕ) : Type 0 where
  pub root : Name
  pub among : is_among roots root ≡ true
  pub there : fm.get s.contexts.map root ≡ Some i
