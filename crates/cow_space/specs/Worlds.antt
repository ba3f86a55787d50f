-- The tags of a world whose contexts and groups have places.
use Rattle.std.specs.Prelude.{◌≡◌, ◌≢◌, ℕ, ◌<◌, ◌≤◌, All, List, [], None, Some, length}
use Rattle.std.specs.List.{AllPairs, Contains, flat_map}
use Rattle.lwc_base.specs.declared.cell.Cell.TheVariants as cell
use Rattle.lwc_base.specs.Frames as worlds
use Rattle.lwc_base.specs.World.{Context, Group, World}
use Rattle.lwc_types.specs.declared.key.Key.TheVariants.{Page}
use Rattle.lwc_types.specs.declared.limits.TheConstants.{MOST_PAGES}
use Rattle.lwc_types.specs.declared.name.Tag.{Tag}
use Rattle.lwc_types.specs.declared.page.PageValue.{PageValue}
use Rattle.cow_space.specs.Cells.{Place, place_of}
use Rattle.cow_space.specs.Tags.{is_parting, tags_of_place, used}

-- the tags of the places of these numbers
unfoldable pub tags_at : List Place → List ℕ → List Tag
tags_at cells numbers = flat_map (λ i. tags_of_place (place_of cells i)) numbers

-- these are different places, and no other one has a tag
pub record HoldAllTags (cells : List Place) (numbers : List ℕ) : Type 0 where
  pub inside : All (λ i. i < length cells) numbers
  pub apart : AllPairs ◌≢◌ numbers
  pub rest : (i : ℕ) → (Contains numbers i → ⊥) → tags_of_place (place_of cells i) ≡ []

-- a context, or a group, has the tags of the place with its cells; a world whose tags are those of different
-- places uses as many frames as the places do, and the same pages part
pub record WorldLaws : Type 0 where
  pub context : (pages : ℕ) (x : Context) (place : Place) → pages ≤ MOST_PAGES →
      ((p : ℕ) → p < pages → place p ≡ x.cell (Page p)) → ((p : ℕ) → pages ≤ p → place p ≡ cell.Own None) →
      worlds.tags_of_context pages x ≡ tags_of_place place
  pub group : (pages : ℕ) (x : Group) (place : Place) → pages ≤ MOST_PAGES →
      ((p : ℕ) → p < pages → place p ≡ cell.Own (x.value (Page p))) → ((p : ℕ) → pages ≤ p → place p ≡ cell.Own None) →
      worlds.tags_of_group pages x ≡ tags_of_place place
  pub used : (w : World) (cells : List Place) (numbers : List ℕ) → HoldAllTags cells numbers →
      worlds.tags w ≡ tags_at cells numbers → worlds.used w ≡ used cells
  pub parting : (w : World) (cells : List Place) (numbers : List ℕ) (i p : ℕ) (value : PageValue) →
      HoldAllTags cells numbers →
      worlds.tags w ≡ tags_at cells numbers → place_of cells i p ≡ cell.Own (Some value) →
      worlds.is_parting w value ≡ is_parting cells i p
