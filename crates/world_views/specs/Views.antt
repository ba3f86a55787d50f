-- What one job sees of a world and of channels.
use Rattle.std.specs.Prelude.{ℕ, List, Option, slice_get}
use Rattle.std.specs.Option.{option_map}
use Rattle.std.specs.FinMap as fm
use Rattle.lwc_base.specs.Channels.{Channels}
use Rattle.lwc_base.specs.World.{World, Context, Group}
use Rattle.lwc_types.specs.declared.counters.Counters.{Counters}
use Rattle.lwc_types.specs.declared.file_image.FileImage.{FileImage}

-- what a job sees of a world: its contexts and groups by number, what it has counted, and the number of pages
pub record JobView : Type 0 where
  pub contexts : ℕ → Option Context
  pub groups : ℕ → Option Group
  pub next : Counters
  pub pages : ℕ

-- a context as a thread sees it: of the saved registers those for the thread, and these under every number
abbrev pub seen_by : ℕ → Context → Context
seen_by t x = record x { saved = λ s. x.saved t }

-- what a job sees of a world through the thread of a number
unfoldable pub view : ℕ → ℕ → World → JobView
view job t w = record {
  contexts = λ k. option_map (seen_by t) (fm.get w.contexts (record { job = job; k = k }));
  groups = λ k. fm.get w.groups (record { job = job; k = k });
  next = w.next job;
  pages = w.size.pages;
}

-- what the job of a request sees of channels: the files, the request, and what is written to its reply
pub record ChannelView : Type 0 where
  pub files : List FileImage
  pub request : Option (List ℕ)
  pub reply : Option (List ℕ)

-- what the job of the request of a number sees of channels
unfoldable pub channel_view : ℕ → Channels → ChannelView
channel_view r io =
    record { files = io.files; request = slice_get io.requests r; reply = slice_get io.replies r }
