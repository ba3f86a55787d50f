-- The start of a lifted image is the start with more pages, and its capabilities are full or empty, since there are none.
use Rattle.std.proofs.Common.{◌≡◌, ◌∙◌, refl, sym, ap, ℕ, zero, suc, Bool, true, false, cond, eqb, Option, Some, None, List}
use Rattle.std.proofs.lemmas.Bool.{false≢true}
use Rattle.std.specs.FinMap as fm
use Rattle.std.specs.List.{find}
use Rattle.std.specs.Option.{option_map_or}
use Rattle.std.specs.Prelude.{is_some, nat_lt}
use Rattle.guest_image.specs.Limits.{lifted}
use Rattle.guest_image.specs.declared.image.Form.TheVariants.{Two}
use Rattle.guest_image.specs.declared.image.Image.{Image}
use Rattle.guest_image.specs.declared.image.Vault.{Vault}
use Rattle.guest_image.specs.declared.image.SlotImage.{SlotImage}
use Rattle.kernel_core.proofs.HomeStart.{ready_start}
use Rattle.kernel_core.specs.Kernel.{CanOpen}
use Rattle.kernel_core.specs.Machine.{home_of}
use Rattle.kernel_core.specs.Start.{Inputs, first_context, first_name, first_slot, first_value, home_context, home_value, serve_world, start, start_world, with_its_vault, with_homes, world_for, world_of, world_size, world_with}
use Rattle.kernel_core.specs.Step.{with_world}
use Rattle.kernel_core.specs.declared.settings.Job.{Job}
use Rattle.kernel_core.specs.declared.settings.Job.TheVariants.{Run, Serve}
use Rattle.lwc_base.specs.Holders.{InContext}
use Rattle.lwc_base.specs.World.{World, Context, Group}
use Rattle.lwc_base.specs.declared.cell.Cell.TheVariants.{Own}
use Rattle.lwc_base.specs.declared.descriptor.Descriptor.{Descriptor}
use Rattle.lwc_base.specs.declared.descriptor.Descriptor.TheVariants.{Empty, Console, File}
use Rattle.lwc_base.proofs.Holders.{keeps-insert_context}
use Rattle.lwc_types.specs.Names.{name_cmp}
use Rattle.lwc_types.specs.declared.key.TheConstants.{SLOTS}
use Rattle.lwc_types.specs.declared.key.Key.{Key}
use Rattle.lwc_types.specs.declared.key.Key.TheVariants.{Page, Slot, Cred}
use Rattle.lift_law.proofs.Staying.{KeepsWhole}
use Rattle.lift_law.proofs.Stepping.{wide_machine}
use Rattle.lift_law.proofs.Tables.{empty-with, insert-with, with_values}
use Rattle.lift_law.proofs.Telling.{IsFine}
use Rattle.lift_law.proofs.Whole.{IsWhole, whole}
use Rattle.lift_law.proofs.Wide.{wide, wide_cell, wide_context, wide_descriptor, wide_group}
use Rattle.lift_law.specs.Lifting.{lifted_inputs}

-- a slot of a start has no descriptor of a context
slot-wide : (b : Bool) (o : Option SlotImage) → wide_descriptor (cond b Console (option_map_or (λ (s : SlotImage). File s.file 0) o Empty)) ≡ cond b Console (option_map_or (λ (s : SlotImage). File s.file 0) o Empty)
slot-wide true o = refl
slot-wide false None = refl
slot-wide false (Some s) = refl

first_slot-wide : (slots : List SlotImage) (n : ℕ) → wide_descriptor (first_slot slots n) ≡ first_slot slots n
unfolding first_slot
first_slot-wide slots n = slot-wide (nat_lt n 2) (find (λ s. eqb s.slot n) slots)

slot-whole : (pages : ℕ) (b : Bool) (o : Option SlotImage) → IsWhole pages (cond b Console (option_map_or (λ (s : SlotImage). File s.file 0) o Empty))
slot-whole pages true o = tt
slot-whole pages false None = tt
slot-whole pages false (Some s) = tt

first_slot-whole : (pages : ℕ) (slots : List SlotImage) (n : ℕ) → IsWhole pages (first_slot slots n)
unfolding first_slot
first_slot-whole pages slots n = slot-whole pages (nat_lt n 2) (find (λ s. eqb s.slot n) slots)

there_or_empty : (b : Bool) (d : Descriptor) → wide_descriptor d ≡ d → wide_descriptor (cond b d Empty) ≡ cond b d Empty
there_or_empty true d same = same
there_or_empty false d same = refl

empty_or_there : (b : Bool) (d : Descriptor) → wide_descriptor d ≡ d → wide_descriptor (cond b Empty d) ≡ cond b Empty d
empty_or_there true d same = refl
empty_or_there false d same = same

whole_or_empty : (pages : ℕ) (b : Bool) (d : Descriptor) → IsWhole pages d → IsWhole pages (cond b d Empty)
whole_or_empty pages true d is = is
whole_or_empty pages false d is = tt

empty_or_whole : (pages : ℕ) (b : Bool) (d : Descriptor) → IsWhole pages d → IsWhole pages (cond b Empty d)
empty_or_whole pages true d is = tt
empty_or_whole pages false d is = is

module _ (image : Image) where
  first-wide : wide_context (first_context image image.pages SLOTS) ≡ first_context image image.pages SLOTS
  unfolding first_context
  first-wide = λ i. record (first_context image image.pages SLOTS) { cell = λ k. at k i }
    where
      at : (k : Key) → wide_cell k (Own (first_value image image.pages SLOTS k)) ≡ Own (first_value image image.pages SLOTS k)
      at (Page p) = refl
      at (Slot n) = ap Own (there_or_empty (nat_lt n SLOTS) (first_slot image.slots n) (first_slot-wide image.slots n))
      at Cred = refl

  home-wide : wide_context (home_context image) ≡ home_context image
  unfolding home_context
  home-wide = λ i. record (home_context image) { cell = λ k. at k i }
    where
      at : (k : Key) → wide_cell k (Own (home_value image k)) ≡ Own (home_value image k)
      at (Page p) = refl
      at (Slot n) = ap Own (empty_or_there (nat_lt n 2) _ (there_or_empty (nat_lt n SLOTS) (first_slot image.slots n) (first_slot-wide image.slots n)))
      at Cred = refl

  first-whole : (pages : ℕ) → InContext (whole pages) 0 (first_context image image.pages SLOTS)
  unfolding first_context
  first-whole pages (Page p) = tt
  first-whole pages (Slot n) = whole_or_empty pages (nat_lt n SLOTS) (first_slot image.slots n) (first_slot-whole pages image.slots n)
  first-whole pages Cred = tt

  home-whole : (pages : ℕ) → InContext (whole pages) 0 (home_context image)
  unfolding home_context
  home-whole pages (Page p) = tt
  home-whole pages (Slot n) = empty_or_whole pages (nat_lt n 2) _ (whole_or_empty pages (nat_lt n SLOTS) (first_slot image.slots n) (first_slot-whole pages image.slots n))
  home-whole pages Cred = tt

  homes-wide : (n : ℕ) → with_values wide_context (with_homes fm.empty (home_context image) n) ≡ with_homes fm.empty (home_context image) n
  homes-wide zero = empty-with wide_context
  homes-wide (suc n) =
      sym (insert-with wide_context (with_homes fm.empty (home_context image) n) (home_of n) (home_context image))
      ∙ (λ i. fm.insert (homes-wide n i) (home_of n) (home-wide i))

  -- the world of a run, and that of a serve
  run_world-wide : (frames : ℕ) → start_world (lifted image) frames ≡ wide (start_world image frames)
  unfolding start_world world_with first_context
  run_world-wide frames = λ i. record {
    contexts = (sym (sym (insert-with wide_context fm.empty first_name (first_context image image.pages SLOTS))
        ∙ (λ j. fm.insert (empty-with wide_context j) first_name (first-wide j)))) i;
    groups = sym (empty-with wide_group) i;
    next = (start_world image frames).next;
    size = world_size Two frames;
  }

  serve_world-wide : (frames workers : ℕ) → serve_world (lifted image) frames workers ≡ wide (serve_world image frames workers)
  unfolding world_of home_context
  serve_world-wide frames workers = λ i. record {
    contexts = sym (homes-wide workers) i;
    groups = sym (empty-with wide_group) i;
    next = (serve_world image frames workers).next;
    size = world_size Two frames;
  }

pub start-wide : (inputs : Inputs) → inputs.vault ≡ None → start (lifted_inputs inputs) ≡ wide_machine (start inputs)
unfolding start
start-wide inputs none = ap (λ w. record (start (lifted_inputs inputs)) { environment = with_world (start inputs).environment w }) (with_none inputs.vault none)
  where
    by : (job : Job) → world_for (lifted inputs.image) inputs.settings.frames job ≡ wide (world_for inputs.image inputs.settings.frames job)
    by Run = run_world-wide inputs.image inputs.settings.frames
    by (Serve workers) = serve_world-wide inputs.image inputs.settings.frames workers

    with_none : (vault : Option Vault) → vault ≡ None →
        with_its_vault (world_for (lifted inputs.image) inputs.settings.frames inputs.settings.job) vault ≡ wide (with_its_vault (world_for inputs.image inputs.settings.frames inputs.settings.job) vault)
    with_none None none = by inputs.settings.job
    with_none (Some v) none = cc

-- worlds without contexts
nothing-whole : (pages : ℕ) (w : World) → w.contexts ≡ fm.empty → w.groups ≡ fm.empty → KeepsWhole pages w
nothing-whole pages w no_context no_group = record {
  contexts = λ c live. absurd (false≢true (sym (ap is_some (fm.get-empty name_cmp c)) ∙ sym (ap (λ (m : fm.FinMap name_cmp Context). fm.contains_key m c) no_context) ∙ live));
  groups = λ g live. absurd (false≢true (sym (ap is_some (fm.get-empty name_cmp g)) ∙ sym (ap (λ (m : fm.FinMap name_cmp Group). fm.contains_key m g) no_group) ∙ live));
}

module _ (pages : ℕ) (image : Image) (frames : ℕ) where
  run-whole : KeepsWhole pages (start_world image frames)
  unfolding start_world world_with
  run-whole = keeps-insert_context (whole pages) (record (start_world image frames) { contexts = fm.empty }) first_name (first_context image image.pages SLOTS) (first-whole image pages)
      (nothing-whole pages _ refl refl)

  serve-whole : (workers n : ℕ) → KeepsWhole pages (world_of image frames workers (with_homes fm.empty (home_context image) n))
  unfolding world_of
  serve-whole workers zero = nothing-whole pages _ refl refl
  serve-whole workers (suc n) =
      keeps-insert_context (whole pages) (world_of image frames workers (with_homes fm.empty (home_context image) n)) (home_of n) (home_context image) (home-whole image pages) (serve-whole workers n)

pub start-fine : (inputs : Inputs) → inputs.vault ≡ None → CanOpen inputs → IsFine inputs (start inputs)
unfolding start
start-fine inputs none can = record {
  count = 0;
  ready = ready_start inputs can;
  keeps = with_none inputs.vault none (start inputs).environment.world.size.pages;
}
  where
    by : (job : Job) (pages : ℕ) → KeepsWhole pages (world_for inputs.image inputs.settings.frames job)
    by Run pages = run-whole pages inputs.image inputs.settings.frames
    by (Serve workers) pages = serve-whole pages inputs.image inputs.settings.frames workers workers

    with_none : (vault : Option Vault) → vault ≡ None → (pages : ℕ) → KeepsWhole pages (with_its_vault (world_for inputs.image inputs.settings.frames inputs.settings.job) vault)
    with_none None none pages = by inputs.settings.job pages
    with_none (Some v) none pages = cc
