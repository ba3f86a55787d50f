-- A store and all trees that stand in it.
use Rattle.std.specs.Prelude.{◌≡◌, ◌≢◌, ℕ, ◌<◌, ◌⊎◌, List, length, slice_index, sum_by}
use Rattle.frame_pool.specs.Frame.{Frame, frame_count}
use Rattle.node_pool.specs.Nodes.{Node}
use Rattle.page_tree.specs.declared.cell.PageCell.{PageCell}
use Rattle.page_tree.specs.declared.cell.PageCell.TheVariants as cell
use Rattle.page_tree.specs.declared.store.TheConstants.{PAGES}
use Rattle.page_tree.specs.Pages.{page}
use Rattle.page_tree.specs.Sound.{IsSound, is_root, naming, trees_at}

-- how many of these trees have a root
abbrev pub having : List ℕ → ℕ → ℕ
having trees n = sum_by (λ tree. is_root tree n) trees

-- the store is sound, a root is held as often as these trees have it, and a frame as often as entries name it
pub record IsTied (nodes : List Node) (frames : List Frame) (trees : List ℕ) : Type 0 where
  pub sound : IsSound nodes frames
  pub rooted : (n : ℕ) → trees_at nodes n ≡ having trees n
  pub exact : (f : ℕ) → frame_count frames f ≡ naming nodes f

-- what one of the trees has for a page
abbrev pub page_of : List Node → List ℕ → ℕ → ℕ → PageCell
page_of nodes trees k p = page nodes (slice_index trees k) p

-- one of the trees has a frame at a page
pub record HasFrame (nodes : List Node) (trees : List ℕ) (f : ℕ) : Type 0 where
  pub k : ℕ
  pub p : ℕ
  pub inside : k < length trees
  pub below : p < PAGES
  pub has : page_of nodes trees k p ≡ cell.Frame (record { n = f })

-- another tree than tree k, or tree k at another page than p
abbrev pub IsElsewhere : ℕ → ℕ → ℕ → ℕ → Type 0
IsElsewhere k p a b = (a ≢ k) ⊎ ((a ≡ k) × (b ≢ p))

-- one of the trees has a frame elsewhere
pub record HasElsewhere (nodes : List Node) (trees : List ℕ) (k p f : ℕ) : Type 0 where
  pub other : HasFrame nodes trees f
  pub elsewhere : IsElsewhere k p other.k other.p
