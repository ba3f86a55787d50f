-- Which frames the trees of rows lead to.
use Rattle.std.specs.Prelude.{◌≡◌, ◌<◌, ◌+◌, ℕ, length, slice_index}
use Rattle.frame_pool.specs.Frame.{frame_count}
use Rattle.page_tree.specs.Pages.{entry_for, page}
use Rattle.page_tree.specs.Short.{page_short}
use Rattle.page_tree.specs.declared.store.TheConstants.{PAGES}
use Rattle.cow_space.specs.declared.rows.Rows.{Rows}

-- the tree of a row has this frame for a page
pub record LeadsTo (w : Rows) (i p f : ℕ) : Type 0 where
  pub inside : i < length w.trees.items
  pub below : p < PAGES
  pub there : entry_for (page w.store.nodes.all (slice_index w.trees.items i) p) ≡ f + 2

-- besides, no other row or page has it
pub record LeadsAlone (w : Rows) (i p f : ℕ) : Type 0 where
  pub to : LeadsTo w i p f
  pub path : page_short w.store.nodes.all (slice_index w.trees.items i) p ≡ 0
  pub once : frame_count w.store.frames f ≡ 1
