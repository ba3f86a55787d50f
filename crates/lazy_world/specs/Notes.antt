-- Where pages were found, and that they are still there.
use Rattle.std.specs.Prelude.{◌≡◌, ℕ, Some, slice_get, true}
use Rattle.std.specs.FinMap as fm
use Rattle.cow_space.specs.Frames.{HasFrame, HasLoneFrame}
use Rattle.lwc_base.specs.Capabilities.{has_bit}
use Rattle.lazy_world.specs.declared.notes.Note.{Note}
use Rattle.lazy_world.specs.declared.notes.Notes.{Notes}
use Rattle.lazy_world.specs.declared.world.PlacedWorld.{PlacedWorld}

-- the context of a note is at its place, and its page is the context's own there and has the frame
pub record IsRead (w : PlacedWorld) (note : Note) : Type 0 where
  pub there : fm.get w.contexts.map note.context ≡ Some note.place
  pub has : HasFrame w.places.pages note.place note.page note.frame

-- besides, the page may be stored to there
pub record IsWrite (w : PlacedWorld) (note : Note) : Type 0 where
  pub there : fm.get w.contexts.map note.context ≡ Some note.place
  pub has : HasLoneFrame w.places.pages note.place note.page note.frame

-- what the notes say holds, where their bits are set
pub record AreRight (w : PlacedWorld) (notes : Notes) : Type 0 where
  pub read : (k : ℕ) (note : Note) → slice_get notes.notes k ≡ Some note → has_bit notes.read k ≡ true → IsRead w note
  pub write : (k : ℕ) (note : Note) → slice_get notes.notes k ≡ Some note → has_bit notes.write k ≡ true →
      IsWrite w note
