-- The machine that a run or a serve of an image starts from.
use Rattle.std.specs.Prelude.{ℕ, zero, suc, ◌+◌, ◌==◌, if◌then◌else◌, List, Option, None, Some, length, map}
use Rattle.std.specs.Prelude.{replicate, nat_lt, slice_index, take}
use Rattle.std.specs.FinMap as fm
use Rattle.std.specs.List.{enumerate_from, find}
use Rattle.std.specs.Option.{option_map, option_map_or}
use Rattle.guest_image.specs.declared.image.Form.{Form}
use Rattle.guest_image.specs.declared.image.Image.{Image}
use Rattle.guest_image.specs.declared.image.PageImage.{PageImage}
use Rattle.guest_image.specs.declared.image.SlotImage.{SlotImage}
use Rattle.guest_image.specs.declared.image.TheConstants.{VAULT_SLOT}
use Rattle.guest_image.specs.declared.image.Vault.{Vault}
use Rattle.guest_image.specs.Limits.{pages_of}
use Rattle.kernel_core.specs.Machine as machine
use Rattle.kernel_core.specs.Machine.{Machine, home_of, homes_of}
use Rattle.kernel_core.specs.Step.{waiting}
use Rattle.kernel_core.specs.declared.settings.Job.{Job}
use Rattle.kernel_core.specs.declared.settings.Job.TheVariants.{Run, Serve}
use Rattle.kernel_core.specs.declared.settings.Settings.{Settings}
use Rattle.kernel_core.specs.declared.thread.Thread.{Thread}
use Rattle.lwc_base.specs.declared.cell.Cell.TheVariants.{Own}
use Rattle.lwc_base.specs.declared.descriptor.Descriptor.{Descriptor}
use Rattle.lwc_base.specs.declared.descriptor.Descriptor.TheVariants.{Empty, Console, Ctx, File}
use Rattle.lwc_base.specs.Capabilities.{empty_cap}
use Rattle.lwc_base.specs.Cells.{put_slot}
use Rattle.lwc_base.specs.Channels.{opened}
use Rattle.lwc_base.specs.Keys.{ValueOf}
use Rattle.lwc_base.specs.World.{World, Context, change_counters}
use Rattle.lwc_types.specs.declared.key.TheConstants.{SLOTS}
use Rattle.lwc_types.specs.declared.counters.Counters.{Counters}
use Rattle.lwc_types.specs.declared.fault.ThreadStatus.TheVariants.{Running}
use Rattle.lwc_types.specs.declared.key.Key.{Key}
use Rattle.lwc_types.specs.declared.key.Key.TheVariants.{Page, Slot, Cred}
use Rattle.lwc_types.specs.declared.key.TheConstants.{NOBODY}
use Rattle.lwc_types.specs.declared.limits.TheConstants.{MOST_CONTEXTS, MOST_GROUPS, MOST_JOBS}
use Rattle.lwc_types.specs.declared.name.Name.{Name}
use Rattle.lwc_types.specs.declared.name.Tag.{Tag}
use Rattle.lwc_types.specs.declared.page.PageValue.{PageValue}
use Rattle.lwc_types.specs.declared.page.PageValue.TheVariants.{Data}
use Rattle.lwc_types.specs.declared.right.Right.TheVariants.{Write}
use Rattle.lwc_types.specs.declared.size.WorldSize.{WorldSize}
use Rattle.lwc_types.specs.Names.{name_cmp}
use Rattle.lwc_types.specs.Registers.{fresh_registers}

-- what a kernel is opened with: an image, a vault beside it if there is one, requests, and settings
pub record Inputs : Type 0 where
  pub image : Image
  pub vault : Option Vault
  pub requests : List (List ℕ)
  pub settings : Settings

-- an image alone, with these requests and settings
abbrev pub inputs_of : Image → List (List ℕ) → Settings → Inputs
inputs_of image requests settings =
    record { image = image; vault = None; requests = requests; settings = settings }

-- the number of threads: in a run one for each entry of the image, in a serve one for each worker
abbrev pub threads_for : Image → Job → ℕ
threads_for image Run = length image.entries
threads_for image (Serve workers) = workers

-- the number of threads of a kernel
unfoldable pub thread_count : Inputs → ℕ
thread_count inputs = threads_for inputs.image inputs.settings.job

-- the k-th tag of job 0, which the image's k-th page has
abbrev pub image_tag : ℕ → Tag
image_tag k = record { job = 0; k = k }

-- what is under a page at the start: its bytes, under the tag of their place among these pages, counted from the
-- number of tags that are taken
unfoldable pub first_page : ℕ → List PageImage → ℕ → Option PageValue
first_page taken pages p =
    option_map (λ e. Data (image_tag e.0) e.1.bytes) (find (λ e. e.1.number == p) (enumerate_from taken pages))

-- what is in a slot at the start: the console in 0 and 1, else the beginning of the image's file, or nothing
unfoldable pub first_slot : List SlotImage → ℕ → Descriptor
first_slot slots n =
    if nat_lt n 2 then Console else option_map_or (λ s. File s.file 0) (find (λ s. s.slot == n) slots) Empty

-- what is under each key at the start, with the slots below a number filled
abbrev pub first_value : Image → List PageImage → ℕ → (k : Key) → ValueOf k
first_value image pages slots (Page p) = first_page 0 pages p
first_value image pages slots (Slot n) = if nat_lt n slots then first_slot image.slots n else Empty
first_value image pages slots Cred = image.uid

-- the instruction that the first context begins at
abbrev pub first_entry : Image → ℕ
first_entry image = slice_index image.entries 0

-- the one context of a start, with these pages, and with the slots below a number filled
unfoldable pub first_context : Image → List PageImage → ℕ → Context
first_context image pages slots = record {
  cell = λ k. Own (first_value image pages slots k);
  right = λ p. Write;
  entry = fresh_registers (first_entry image);
  saved = λ t. None;
}

-- the name of that context
abbrev pub first_name : Name
first_name = record { job = 0; k = 0 }

-- the thread of a number: it runs for a job of its own in the one context, from its entry on
abbrev pub first_thread : ℕ → ℕ → ℕ → Thread
first_thread budget t entry = record {
  status = Running;
  context = first_name;
  regs = fresh_registers entry;
  job = t + 1;
  budget = budget;
}

-- the threads of a run's start, one for each entry
unfoldable pub first_threads : ℕ → List ℕ → List Thread
first_threads budget entries = map (λ e. first_thread budget e.0 e.1) (enumerate_from 0 entries)

-- the size of a kernel's world: as many pages as the image's form has
abbrev pub world_size : Form → ℕ → WorldSize
world_size form frames = record {
  frames = frames;
  contexts = MOST_CONTEXTS;
  groups = MOST_GROUPS;
  jobs = MOST_JOBS;
  pages = pages_of form;
}

-- this number of contexts and tags counted, and no groups
abbrev pub counted : ℕ → ℕ → Counters
counted contexts tags = record { contexts = contexts; groups = 0; tags = tags }

-- the world with this one context, which job 0 has named; job 0 has taken this number of tags
unfoldable pub world_with : Form → ℕ → ℕ → Context → World
world_with form frames tags x = record {
  contexts = fm.insert fm.empty first_name x;
  groups = fm.empty;
  next = λ job. if job == 0 then counted 1 tags else counted 0 0;
  size = world_size form frames;
}

-- the world of a run's start: its one context, in which each page has a tag of its own
unfoldable pub start_world : Image → ℕ → World
start_world image frames =
    world_with image.form frames (length image.pages) (first_context image image.pages SLOTS)

-- what is under each key of a home: what is under the first context's, but slots 0 and 1 are empty
abbrev pub home_value : Image → (k : Key) → ValueOf k
home_value image (Slot n) = if nat_lt n 2 then Empty else first_value image image.pages SLOTS (Slot n)
home_value image k = first_value image image.pages SLOTS k

-- the context in which a worker waits
unfoldable pub home_context : Image → Context
home_context image = record {
  cell = λ k. Own (home_value image k);
  right = λ p. Write;
  entry = fresh_registers (first_entry image);
  saved = λ t. None;
}

-- contexts, and beside them the homes of this number of workers
abbrev pub with_homes : fm.FinMap name_cmp Context → Context → ℕ → fm.FinMap name_cmp Context
with_homes contexts home zero = contexts
with_homes contexts home (suc t) = fm.insert (with_homes contexts home t) (home_of t) home

-- the world of these contexts, where job 0 has named the first context and this number of homes, and taken a
-- tag for each page
unfoldable pub world_of : Image → ℕ → ℕ → fm.FinMap name_cmp Context → World
world_of image frames workers contexts = record {
  contexts = contexts;
  groups = fm.empty;
  next = λ job. if job == 0 then counted (workers + 1) (length image.pages) else counted 0 0;
  size = world_size image.form frames;
}

-- the world of a serve's start as it is built: the first context, and this number of homes
abbrev pub homes_so_far : Image → ℕ → ℕ → World
homes_so_far image frames workers =
    world_of image frames workers
    (with_homes (fm.insert fm.empty first_name (first_context image image.pages SLOTS)) (home_context image) workers)

-- the world of a serve's start: the homes of its workers
abbrev pub serve_world : Image → ℕ → ℕ → World
serve_world image frames workers =
    world_of image frames workers (with_homes fm.empty (home_context image) workers)

-- the world of a start, by the job
abbrev pub world_for : Image → ℕ → Job → World
world_for image frames Run = start_world image frames
world_for image frames (Serve workers) = serve_world image frames workers

-- the workers of a start, each idle in its home
unfoldable pub first_workers : ℕ → ℕ → List Thread
first_workers entry workers = map (λ home. waiting home (fresh_registers entry)) (homes_of workers)

-- the name of a vault's context: the second one of job 0
abbrev pub vault_name : Name
vault_name = record { job = 0; k = 1 }

-- what is under each key of a vault: its pages' bytes, empty slots, and the uid of nobody
abbrev pub vault_value : ℕ → List PageImage → (k : Key) → ValueOf k
vault_value taken pages (Page p) = first_page taken pages p
vault_value taken pages (Slot n) = Empty
vault_value taken pages Cred = NOBODY

-- the context of a vault with these pages, once this number of tags is taken
unfoldable pub vault_context : ℕ → ℕ → List PageImage → Context
vault_context taken entry pages = record {
  cell = λ k. Own (vault_value taken pages k);
  right = λ p. Write;
  entry = fresh_registers entry;
  saved = λ t. None;
}

-- the world with one context more, which job 0 has named, and for which it has taken this number of tags
unfoldable pub with_context : World → Name → ℕ → Context → World
with_context w c tags x =
    change_counters (record w { contexts = fm.insert w.contexts c x }) 0
    (λ n. record n { contexts = n.contexts + 1; tags = n.tags + tags })

-- the world with the context of a vault that has these pages
abbrev pub vault_so_far : World → ℕ → List PageImage → World
vault_so_far w entry pages =
    with_context w vault_name (length pages) (vault_context (w.next 0).tags entry pages)

-- the world with a vault: its context, and in the vault's slot of the first context a descriptor without a key
unfoldable pub with_vault : World → Vault → World
with_vault w v = put_slot (vault_so_far w v.entry v.pages) first_name VAULT_SLOT (Ctx vault_name empty_cap)

-- the world with its vault, if it has one
abbrev pub with_its_vault : World → Option Vault → World
with_its_vault w None = w
with_its_vault w (Some v) = with_vault w v

-- the threads of a start, by the job
abbrev pub threads_at : Image → ℕ → Job → List Thread
threads_at image budget Run = first_threads budget image.entries
threads_at image budget (Serve workers) = first_workers (first_entry image) workers

-- the serve of a start, if it is one: no request is begun
abbrev pub serve_at : Job → ℕ → ℕ → Option machine.Serve
serve_at Run budget requests = None
serve_at (Serve workers) budget requests =
    Some (record { workers = workers; budget = budget; next = 0; replies = replicate requests None })

-- the machine of a start: the text and the files are the image's, and nothing has been written
unfoldable pub start : Inputs → Machine
start inputs = record {
  threads = threads_at inputs.image inputs.settings.budget inputs.settings.job;
  environment = record {
    world = with_its_vault (world_for inputs.image inputs.settings.frames inputs.settings.job) inputs.vault;
    channels = opened inputs.image.files inputs.requests;
  };
  text = inputs.image.text;
  serve = serve_at inputs.settings.job inputs.settings.budget (length inputs.requests);
}

-- the world of a start as it is built: with this number of pages stored, and the slots below a number filled
unfoldable pub world_so_far : Image → ℕ → ℕ → ℕ → World
world_so_far image frames pages slots =
    world_with image.form frames pages (first_context image (take pages image.pages) slots)
