-- A reap at places: which place links to which, which groups are marked, and what is left of a map of names.
use Rattle.std.specs.Prelude.{◌≡◌, ◌≢◌, ℕ, ◌==◌, ◌||◌, Bool, true, false, not, List, Option, None, Some, nat_le}
use Rattle.std.specs.Prelude.{slice_index_or}
use Rattle.std.specs.Ordering.{is_eq}
use Rattle.std.specs.FinMap as fm
use Rattle.fd_table.specs.Slots.{context_of}
use Rattle.lwc_base.specs.declared.cell.Cell.TheVariants as cell
use Rattle.lwc_base.specs.declared.descriptor.Descriptor.{Descriptor}
use Rattle.lwc_base.specs.Cells.{slot_at}
use Rattle.lwc_base.specs.Life.{names_group}
use Rattle.lwc_types.specs.declared.key.Key.TheVariants.{Page}
use Rattle.lwc_types.specs.declared.name.Name.{Name}
use Rattle.lwc_types.specs.Names.{name_cmp}
use Rattle.range_map.specs.declared.segment.SegmentKind.{SegmentKind}
use Rattle.range_map.specs.declared.segment.SegmentKind.TheVariants.{Own, Common}
use Rattle.reach.specs.Reach.{is_marked}
use Rattle.lazy_world.specs.declared.world.PlacedWorld.{PlacedWorld}
use Rattle.lazy_world.specs.States.{Parts, context_at}
use Rattle.lazy_world.specs.Worlds.{seen}

-- the place of a context, if one is given and has one
abbrev pub place_by : fm.FinMap name_cmp ℕ → Option Name → Option ℕ
place_by places None = None
place_by places (Some c) = fm.get places c

-- the place of the context that a descriptor is of, if it has one
abbrev pub place_in : fm.FinMap name_cmp ℕ → Descriptor → Option ℕ
place_in places value = place_by places (context_of value)

-- the place that a slot of a context links to, if there is a context
abbrev pub link_from : PlacedWorld → ℕ → Option Name → Option ℕ
link_from w n None = None
link_from w n (Some c) = place_in w.contexts.map (slot_at (seen w) c n)

-- the place that a slot of the context at a place links to
unfoldable pub link_of : PlacedWorld → ℕ → ℕ → Option ℕ
link_of w place n = link_from w n (slice_index_or w.contexts.places place None)

-- the marks of groups whose names pass a test are set, and no other mark of a group has changed
pub record AddsMarks (places : List (Option Name)) (test : Name → Bool) (old new : List Bool) : Type 0 where
  pub at : (j : ℕ) (g : Name) → slice_index_or places j None ≡ Some g → is_marked new j ≡ (is_marked old j || test g)

-- whether a group is the one that is given, if one is
abbrev pub is_name : Option Name → Name → Bool
is_name None g = false
is_name (Some h) g = is_eq (name_cmp h g)

-- whether a group is the one that pages of a kind are common of, if they are
abbrev pub is_of : SegmentKind → Name → Bool
is_of Own g = false
is_of (Common h) g = is_eq (name_cmp h g)

-- whether a cell of the context at a place names a group, if there is a context
abbrev pub names_from : Parts → Name → ℕ → Option Name → Bool
names_from s g i None = false
names_from s g i (Some c) = names_group s.size.pages g (context_at s i)

-- whether a cell of the context at a place names a group
abbrev pub names_at : Parts → Name → ℕ → Bool
names_at s g i = names_from s g i (slice_index_or s.contexts.places i None)

-- no page of a place is common of a group
abbrev pub NamesNone : Parts → Name → Type 0
NamesNone s g = (i p : ℕ) → s.rows i (Page p) ≢ cell.Common g

-- no page of a place is common of a group whose place has no mark
abbrev pub NamesMarked : Parts → List Bool → Type 0
NamesMarked s marks =
    (j : ℕ) (g : Name) → slice_index_or s.groups.places j None ≡ Some g → is_marked marks j ≡ false → NamesNone s g

-- whether what is at a place stays, where only what is at place i may go
abbrev pub passes : Bool → ℕ → Option ℕ → Bool
passes stays i None = true
passes stays i (Some p) = stays || not (p == i)

-- whether what is at a place stays, where only what is below place n without a mark goes
abbrev pub keeps : List Bool → ℕ → Option ℕ → Bool
keeps marks n None = true
keeps marks n (Some p) = nat_le n p || is_marked marks p

-- what is left of a map by a test of the places of its names
unfoldable pub left_by : {X : Type 0} → fm.FinMap name_cmp ℕ → (Option ℕ → Bool) → fm.FinMap name_cmp X →
    fm.FinMap name_cmp X
left_by places test m = fm.retain_keys m (λ c. test (fm.get places c))
