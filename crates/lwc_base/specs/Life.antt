-- Which contexts and groups stay: the contexts that are reached from roots, and the groups that cells of
-- these name.
use Rattle.std.specs.Prelude.{◌≡◌, ℕ, zero, suc, ◌&&◌, ◌||◌, Bool, true, false, List}
use Rattle.std.specs.List.{list_any, range_with_len}
use Rattle.std.specs.Ordering.{eq_by_cmp, is_eq}
use Rattle.std.specs.FinMap as fm
use Rattle.lwc_base.specs.declared.cell.Cell.{Cell}
use Rattle.lwc_base.specs.declared.cell.Cell.TheVariants.{Own, Common}
use Rattle.lwc_base.specs.declared.descriptor.Descriptor.{Descriptor}
use Rattle.lwc_base.specs.declared.descriptor.Descriptor.TheVariants.{Ctx}
use Rattle.lwc_base.specs.Cells.{slot_at}
use Rattle.lwc_base.specs.Sharing.{any_key}
use Rattle.lwc_base.specs.Modes.{IsKey}
use Rattle.lwc_base.specs.Holders.{IsGroup}
use Rattle.lwc_base.specs.World.{World, Context, context, is_live}
use Rattle.lwc_types.specs.declared.key.TheConstants.{SLOTS}
use Rattle.lwc_types.specs.declared.key.Key.{Key}
use Rattle.lwc_types.specs.declared.name.Name.{Name}
use Rattle.lwc_types.specs.Names.{name_cmp}

-- whether a descriptor is one of the context of this name
abbrev pub is_of : Name → Descriptor → Bool
is_of c (Ctx name cap) = is_eq (name_cmp name c)
is_of c _ = false

-- whether a slot of context d has a descriptor of context c
unfoldable pub links : World → Name → Name → Bool
links w d c = list_any (λ n. is_of c (slot_at w d n)) (range_with_len 0 SLOTS)

-- whether a name is in a list
abbrev pub is_among : List Name → Name → Bool
is_among names c = list_any (eq_by_cmp name_cmp c) names

-- whether a context is reached in a number of rounds: roots are, and each round adds what reached live
-- contexts link to
abbrev pub reached_in : World → List Name → ℕ → Name → Bool
reached_in w roots zero c = is_among roots c
reached_in w roots (suc k) c =
    reached_in w roots k c || list_any (λ d. reached_in w roots k d && links w d c) (fm.keys w.contexts)

-- whether a context is reached from roots: there are no more rounds than contexts
unfoldable pub is_reached : World → List Name → Name → Bool
is_reached w roots c = reached_in w roots (fm.len w.contexts) c

-- whether a cell names a group
abbrev pub is_in : {T : Type 0} → Name → Cell T → Bool
is_in g (Own value) = false
is_in g (Common h) = is_eq (name_cmp h g)

-- whether a cell of a context with this number of pages names a group
unfoldable pub names_group : ℕ → Name → Context → Bool
names_group pages g x = any_key pages (λ k. is_in g (x.cell k))

-- the world without the contexts that are not reached, and then without the groups that no cell names
unfoldable pub reap : World → List Name → World
reap w roots =
    let kept = fm.retain_keys w.contexts (is_reached w roots) in
    record w {
      contexts = kept;
      groups = fm.retain_keys w.groups (λ g. list_any (names_group w.size.pages g) (fm.values kept));
    }

-- a context is reached from roots: it is a root, or a live context that is reached links to it
pub data Reaches (w : World) (roots : List Name) : Name → Type 0 where
  Root : (c : Name) → is_among roots c ≡ true → Reaches w roots c
  Link : (d c : Name) → Reaches w roots d → is_live w d ≡ true → links w d c ≡ true → Reaches w roots c

-- nothing is left to drop: each live context is reached from the roots, and a cell of a live context names
-- each live group
pub record IsReaped (w : World) (roots : List Name) : Type 0 where
  pub contexts : (c : Name) → is_live w c ≡ true → Reaches w roots c
  pub groups : (g : Name) → IsGroup w g →
      (c : Name) × (k : Key) × IsKey w.size.pages k × (is_live w c ≡ true) × ((context w c).cell k ≡ Common g)

-- each context that a slot of a live context has a descriptor of is live
pub record HasItsContexts (w : World) : Type 0 where
  pub live : (c d : Name) → is_live w c ≡ true → links w c d ≡ true → is_live w d ≡ true
