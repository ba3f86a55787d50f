-- What making a context from another one costs, and taking over from one: frames, tree nodes and node steps.
use Rattle.std.specs.Prelude.{◌≡◌, ◌≤◌, ℕ, ◌+◌, List, false, length, min}
use Rattle.lwc_base.specs.declared.item.Item.{Item}
use Rattle.lwc_base.specs.Ranges.{ranges_of}
use Rattle.lwc_base.specs.Sharing.{needs_group, share}
use Rattle.lwc_base.specs.World.{World, context}
use Rattle.lwc_types.specs.declared.name.Name.{Name}
use Rattle.lazy_world.specs.declared.world.PlacedWorld.{PlacedWorld}
use Rattle.lazy_world.specs.Cells.{HasOwnPages}
use Rattle.lazy_world.specs.Clones.{CopiesPages, change_nodes, change_steps, copy_nodes, copy_steps}
use Rattle.lazy_world.specs.Clones.{fill_nodes, fill_steps}
use Rattle.lazy_world.specs.Seen.{free_frames, free_nodes, node_steps, pool}
use Rattle.lazy_world.specs.Worlds.{seen}

-- how many ranges a context has, and how many items there are
abbrev pub pieces : World → Name → List Item → ℕ
pieces w c items = ranges_of w c + length items

-- no frame is taken or written, and at most so many tree nodes are
pub record TakesNodes (old new : PlacedWorld) (most : ℕ) : Type 0 where
  pub frames : free_frames old.places ≤ free_frames new.places
  pub pool : pool new.places ≡ pool old.places
  pub nodes : free_nodes old.places ≤ free_nodes new.places + most

-- a copy of a context leaves the free frames, and the stamp and the bytes of each frame; it takes few tree
-- nodes, and none where all pages are copied and are the context's own
pub record CopyStore (old new : PlacedWorld) (c : Name) (items : List Item) : Type 0 where
  pub frames : free_frames new.places ≡ free_frames old.places
  pub pool : pool new.places ≡ pool old.places
  pub nodes : free_nodes old.places ≤ free_nodes new.places + copy_nodes (pieces (seen old) c items)
  pub whole : CopiesPages items → HasOwnPages (context (seen old) c).cell →
      free_nodes old.places ≤ free_nodes new.places

-- it takes few node steps, and at most one where all pages are copied and are the context's own
pub record CopySteps (old new : PlacedWorld) (c : Name) (items : List Item) : Type 0 where
  pub all : node_steps new.places ≤ node_steps old.places + copy_steps (pieces (seen old) c items)
  pub whole : CopiesPages items → HasOwnPages (context (seen old) c).cell →
      node_steps new.places ≤ node_steps old.places + min 1 (ranges_of (seen old) c)

-- what a job's new context takes of the store: what a copy does where no group is needed
pub record CloneStore (old new : PlacedWorld) (c : Name) (job : ℕ) (items : List Item) : Type 0 where
  pub all : TakesNodes old new (fill_nodes (pieces (seen old) c items) + change_nodes (pieces (seen old) c items)
      + copy_nodes (pieces (share (seen old) c job items) c items))
  pub alone : needs_group (seen old) c items ≡ false → CopyStore old new c items

-- and of node steps
pub record CloneSteps (old new : PlacedWorld) (c : Name) (job : ℕ) (items : List Item) : Type 0 where
  pub all : node_steps new.places ≤ node_steps old.places
      + (fill_steps (pieces (seen old) c items) + change_steps (pieces (seen old) c items)
      + copy_steps (pieces (share (seen old) c job items) c items))
  pub alone : needs_group (seen old) c items ≡ false → CopySteps old new c items

-- what taking over from a context takes of the store
pub record OverlayStore (old new : PlacedWorld) (from : Name) (job : ℕ) (items : List Item) : Type 0 where
  pub all : TakesNodes old new (fill_nodes (pieces (seen old) from items)
      + change_nodes (pieces (seen old) from items)
      + change_nodes (pieces (share (seen old) from job items) from items))
  pub alone : needs_group (seen old) from items ≡ false
      → TakesNodes old new (change_nodes (pieces (seen old) from items))

-- and of node steps
pub record OverlaySteps (old new : PlacedWorld) (from : Name) (job : ℕ) (items : List Item) : Type 0 where
  pub all : node_steps new.places ≤ node_steps old.places + (fill_steps (pieces (seen old) from items)
      + change_steps (pieces (seen old) from items)
      + change_steps (pieces (share (seen old) from job items) from items))
  pub alone : needs_group (seen old) from items ≡ false →
      node_steps new.places ≤ node_steps old.places + change_steps (pieces (seen old) from items)
