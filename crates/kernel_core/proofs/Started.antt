-- The machine of a start is ready, and its world sound.
use Rattle.std.proofs.Common.{◌≡◌, ◌⊎◌, inl, inr, ℕ, zero, suc, ◌+◌, ◌≤◌, ◌<◌, refl, sym, ap, subst, ◌∙◌, Bool, true, false, cond, eqb, ltb, Option, Some, None, List, [], ◌∷◌, ◌++◌, length, map, take, get_or, arith}
use Rattle.std.specs.FinMap as fm
use Rattle.std.specs.List.{Contains, enumerate_from, find}
use Rattle.std.specs.Option.{option_map_or}
use Rattle.std.specs.Ordering.{eq_by_cmp}
use Rattle.std.specs.Prelude.{All, is_some, slice_get}
use Rattle.std.proofs.lemmas.Bool.{false≢true}
use Rattle.std.proofs.lemmas.List.{length-map, length-take-le, map-append, take_more}
use Rattle.std.proofs.lemmas.List.Elements.{All-cons, All-nil}
use Rattle.std.proofs.lemmas.List.FromFn.{length-enumerate_from}
use Rattle.std.proofs.lemmas.List.Sums.{count_by-le-length}
use Rattle.std.proofs.Math.Seq.{take-length}
use Rattle.guest_image.specs.Limits.{IsImage, pages_of}
use Rattle.guest_image.specs.declared.image.Form.{Form}
use Rattle.guest_image.specs.declared.image.Image.{Image}
use Rattle.guest_image.specs.declared.image.PageImage.{PageImage}
use Rattle.guest_image.specs.declared.image.SlotImage.{SlotImage}
use Rattle.guest_image.specs.declared.image.Vault.{Vault}
use Rattle.guest_image.proofs.Lifted.{most_pages}
use Rattle.kernel_core.proofs.Building.{enumerate-push, first_made, first_world, mapped_world, number_below, page_stored, slot_put}
use Rattle.kernel_core.proofs.FirstLife.{named_first, reaped_first}
use Rattle.kernel_core.proofs.FirstWorld.{get-first, page_piece}
use Rattle.kernel_core.proofs.Limits.{length_of_keys}
use Rattle.kernel_core.proofs.Worlds.{files_store}
use Rattle.kernel_core.specs.Kernel.{CanOpen, pages_in}
use Rattle.kernel_core.specs.Machine.{Machine}
use Rattle.kernel_core.specs.declared.settings.Job.{Job}
use Rattle.kernel_core.specs.declared.settings.Job.TheVariants.{Run}
use Rattle.kernel_core.specs.Ready.{IsCounted, IsReady, IsReadyThread, IsWithinLimits, jobs_of, most_counted}
use Rattle.kernel_core.specs.Start.{Inputs, counted, first_context, first_entry, first_name, first_slot, first_thread, first_threads, serve_at, start_world, thread_count, threads_at, world_for, threads_for, world_size, world_so_far, world_with}
use Rattle.lwc_base.specs.Cells.{put_slot}
use Rattle.lwc_base.specs.Channels.{HasItsFiles, IsInRange, opened}
use Rattle.lwc_base.specs.Mapping.{map_pages}
use Rattle.lwc_base.specs.Sound.{IsSound}
use Rattle.lwc_base.specs.Store.{Done, Piece, store}
use Rattle.lwc_base.specs.World.{World, Context, Group, add_context, empty_world, groups_of, is_live, live_of, new_context}
use Rattle.lwc_base.specs.declared.descriptor.Descriptor.TheVariants.{Console, Empty, File}
use Rattle.lwc_base.proofs.Facts.{orders}
use Rattle.lwc_base.proofs.InRange.{files-add_context, files-empty_world, files-map_pages, files-put_slot}
use Rattle.lwc_base.proofs.Room.{sound-store}
use Rattle.lwc_base.proofs.Sound.{sound-add_new_context, sound-empty_world, sound-map_pages, sound-put_slot}
use Rattle.lwc_types.specs.Names.{name_cmp}
use Rattle.lwc_types.specs.Registers.{fresh_registers}
use Rattle.lwc_types.specs.declared.file_image.FileImage.{FileImage}
use Rattle.lwc_types.specs.declared.limits.TheConstants.{MOST_BUDGET}
use Rattle.lwc_types.specs.declared.name.Name.{Name}
use Rattle.lwc_types.proofs.Orders.{same_name}

-- the threads of one entry more
pub one_thread_more : (budget t : ℕ) (entries : List ℕ) → t < length entries →
    first_threads budget (take (t + 1) entries) ≡ first_threads budget (take t entries) ++ first_thread budget t (get_or entries t 0) ∷ []
unfolding first_threads
one_thread_more budget t entries within =
    let make = λ (e : ℕ × ℕ). first_thread budget e.0 e.1 in
    let count : length (take t entries) ≡ t = length-take-le t entries (omega arith) in
    ap (λ l. map make (enumerate_from 0 l)) (take_more entries t 0 within)
    ∙ ap (map make) (enumerate-push 0 (take t entries) (get_or entries t 0))
    ∙ map-append make (enumerate_from 0 (take t entries)) ((0 + length (take t entries), get_or entries t 0) ∷ [])
    ∙ ap (λ n. map make (enumerate_from 0 (take t entries)) ++ first_thread budget n (get_or entries t 0) ∷ []) (omega (arith, count))

length-first_threads : (budget : ℕ) (entries : List ℕ) → length (first_threads budget entries) ≡ length entries
unfolding first_threads
length-first_threads budget entries = length-map (enumerate_from 0 entries) (λ e. first_thread budget e.0 e.1) ∙ length-enumerate_from 0 entries

pub ready_from : (w : World) (budget n : ℕ) (entries : List ℕ) → is_live w first_name ≡ true → 1 ≤ budget → budget ≤ MOST_BUDGET → n + length entries < w.size.jobs →
    All (IsReadyThread w) (map (λ e. first_thread budget e.0 e.1) (enumerate_from n entries))
ready_from w budget n [] live some few known = All-nil (IsReadyThread w)
ready_from w budget n (e ∷ entries) live some few known =
    All-cons (IsReadyThread w) (first_thread budget n e) (map (λ x. first_thread budget x.0 x.1) (enumerate_from (n + 1) entries))
    (record { live = live; budget = few; runs = record { some_job = omega arith; known_job = omega arith; some_step = some } })
    (ready_from w budget (n + 1) entries live some few (omega arith))

pub counted_by : (b : Bool) (tags : ℕ) → tags ≤ 16384 → IsCounted (most_counted 0) (cond b (counted 1 tags) (counted 0 0))
counted_by true tags few = record { contexts = omega arith; groups = omega arith; tags = omega arith }
counted_by false tags few = record { contexts = omega arith; groups = omega arith; tags = omega arith }

-- the world of a start is the one in which all pages are stored and all slots filled
pub all_put : (image : Image) (frames : ℕ) → world_so_far image frames (length image.pages) 64 ≡ start_world image frames
unfolding world_so_far start_world
all_put image frames = ap (λ l. world_with image.form frames (length image.pages) (first_context image l 64)) (take-length image.pages)

pub page_there : (pages : List PageImage) (k : ℕ) → k < length pages → (x : PageImage) × (slice_get pages k ≡ Some x)
page_there [] k within = absurd (omega arith)
page_there (x ∷ xs) zero within = (x, refl)
page_there (x ∷ xs) (suc k) within = page_there xs k (omega arith)

-- what stays so while the world of a start is built
record StaysSo (image : Image) (frames : ℕ) (P : World → Type 0) : Type 0 where
  add : P (add_context (empty_world (world_size image.form frames)) 0 (new_context image.uid (fresh_registers (first_entry image))))
  map : (w : World) (c : Name) (from to : ℕ) → to ≤ w.size.pages → P w → P (map_pages w c from to)
  store : (w v : World) (c : Name) (job : ℕ) (piece : Piece) → P w → is_live w c ≡ true → store w c job piece ≡ Done v → P v
  slot : (w : World) (n : ℕ) → P w → P (put_slot w first_name n (first_slot image.slots n))

found_by : (b : Bool) (x : SlotImage) (later : Option SlotImage) (s : SlotImage) → cond b (Some x) later ≡ Some s → (x ≡ s) ⊎ (later ≡ Some s)
found_by true x later s is = inl cc
found_by false x later s is = inr is

-- what is found has what each one has
found_has : (P : SlotImage → Type 0) (test : SlotImage → Bool) (slots : List SlotImage) → All P slots → (s : SlotImage) → find test slots ≡ Some s → P s
found_has P test [] all s found = cc
found_has P test (x ∷ xs) all s found =
    elim (found_by (test x) x (find test xs) s found) [
      | inl same ↦ subst P same (all 0 x (omega arith))
      | inr later ↦ found_has P test xs (λ k d within. all (suc k) d (omega (arith, within))) s later
    ]

-- what is in a slot at the start is in range
first_in_range : (files : List FileImage) (requests : List (List ℕ)) (slots : List SlotImage) → All (λ s. s.file < length files) slots → (n : ℕ) →
    IsInRange (opened files requests) (first_slot slots n)
unfolding first_slot
first_in_range files requests slots there n = by_number (ltb n 2)
  where
    by_found : (o : Option SlotImage) → find (λ s. eqb s.slot n) slots ≡ o → IsInRange (opened files requests) (option_map_or (λ (s : SlotImage). File s.file 0) o Empty)
    by_found None is = tt
    by_found (Some s) is = record { there = rw length-map (found_has (λ t. t.file < length files) (λ t. eqb t.slot n) slots there s is); within = omega arith }

    by_number : (b : Bool) → IsInRange (opened files requests) (cond b Console (option_map_or (λ (s : SlotImage). File s.file 0) (find (λ s. eqb s.slot n) slots) Empty))
    by_number true = tt
    by_number false = by_found _ refl

abbrev nobody : fm.FinMap name_cmp Context
nobody = fm.empty

-- the machine of a start, by the job
abbrev pub machine_at : Inputs → Job → Machine
machine_at inputs job = record {
  threads = threads_at inputs.image inputs.settings.budget job;
  environment = record {
    world = world_for inputs.image inputs.settings.frames job;
    channels = opened inputs.image.files inputs.requests;
  };
  text = inputs.image.text;
  serve = serve_at job inputs.settings.budget (length inputs.requests);
}

-- the world of one context is within the limits
within_limits : (form : Form) (frames tags : ℕ) (x : Context) (jobs : List ℕ) → IsWithinLimits (world_with form frames tags x) jobs
unfolding world_with live_of groups_of
within_limits form frames tags x jobs =
    let w : World = world_with form frames tags x in
    let one : fm.len w.contexts ≡ 1 =
    fm.len-insert orders.names nobody first_name x
    ∙ ap (λ b. cond b (fm.len nobody) (fm.len nobody + 1)) (ap is_some (fm.get-empty name_cmp first_name))
    ∙ ap (λ n. n + 1) (fm.len-empty name_cmp Context) in
    let no_group : fm.len w.groups ≡ 0 = fm.len-empty name_cmp Group in
    let contexts : (job : ℕ) → live_of w job ≤ 1 = λ job. omega (arith, one, length_of_keys w.contexts, count_by-le-length (λ (c : Name). eqb c.job job) (fm.keys w.contexts)) in
    let groups : (job : ℕ) → groups_of w job ≤ 0 = λ job. omega (arith, no_group, length_of_keys w.groups, count_by-le-length (λ (c : Name). eqb c.job job) (fm.keys w.groups)) in
    record {
      contexts = λ c live. only_first c _ refl (sym (ap is_some (get-first x c)) ∙ live);
      groups = λ g there. absurd (false≢true (sym (ap is_some (fm.get-empty name_cmp g)) ∙ there));
      homes = omega (arith, contexts 0);
      few_contexts = λ job. omega (arith, contexts job);
      few_groups = λ job. omega (arith, groups job);
    }
  where
    only_first : (c : Name) (b : Bool) → eq_by_cmp name_cmp c first_name ≡ b → is_some (cond b (Some x) None) ≡ true → Contains (0 ∷ jobs) c.job
    only_first c true same live =
        let is : c ≡ first_name = same_name c first_name same in (zero, omega arith, sym (ap (λ (n : Name). n.job) is))
    only_first c false other live = absurd (false≢true live)

module _ (image : Image) (is : IsImage image) (frames : ℕ) (fits : length image.pages ≤ frames) where
  module _ (P : World → Type 0) (stays : StaysSo image frames P) where
    so_after_pages : (k : ℕ) → k ≤ length image.pages → P (world_so_far image frames k 0)
    so_after_pages zero within = subst P (first_made image frames (fresh_registers (first_entry image)) _ _ refl refl refl) stays.add
    so_after_pages (suc k) within =
        let there = page_there image.pages k (omega arith) in
        let x = there.0 in
        let w : World = world_so_far image frames k 0 in
        let v : World = map_pages w first_name x.number (x.number + 1) in
        let first = first_world image is frames k 0 w refl (omega (arith, is.page_count, most_pages image.form)) in
        let number : x.number < pages_of image.form = number_below image is k x there.1 in
        let so : P v = stays.map w first_name x.number (x.number + 1) (omega (arith, number, ap (λ s. s.pages) first.size)) (so_after_pages k (omega arith)) in
        let live = (mapped_world image is k x there.1 frames fits w refl).live in
        let next : k + 1 ≡ suc k = omega arith in
        subst (λ (n : ℕ). P (world_so_far image frames n 0)) next
        (stays.store v (world_so_far image frames (k + 1) 0) first_name 0 (page_piece x.number x.bytes) so live
        (page_stored image is k x there.1 frames fits w refl))

    so_after_slots : (n : ℕ) → P (world_so_far image frames (length image.pages) n)
    so_after_slots zero = so_after_pages (length image.pages) (omega arith)
    so_after_slots (suc n) =
        let w : World = world_so_far image frames (length image.pages) n in
        let next : n + 1 ≡ suc n = omega arith in
        subst (λ (m : ℕ). P (world_so_far image frames (length image.pages) m)) next
        (subst P (slot_put image is frames (length image.pages) n (first_slot image.slots n) w _ refl refl refl) (stays.slot w n (so_after_slots n)))

    so_at_start : P (start_world image frames)
    so_at_start = subst P (all_put image frames) (so_after_slots 64)

  pub sound_start : IsSound (start_world image frames)
  sound_start =
      so_at_start IsSound
      (record {
        add = sound-add_new_context (empty_world (world_size image.form frames)) 0 image.uid (fresh_registers (first_entry image)) (sound-empty_world (world_size image.form frames));
        map = sound-map_pages;
        store = sound-store;
        slot = λ w n. sound-put_slot w first_name n (first_slot image.slots n);
      })

  -- each file that a slot names is there
  pub files_start : (requests : List (List ℕ)) → HasItsFiles (opened image.files requests) (start_world image frames)
  files_start requests =
      let io = opened image.files requests in
      so_at_start (HasItsFiles io)
      (record {
        add = files-add_context io (empty_world (world_size image.form frames)) 0 image.uid (fresh_registers (first_entry image)) (files-empty_world io (world_size image.form frames));
        map = λ w c from to within. files-map_pages io w c from to;
        store = λ w v c job piece has live done. files_store w v io c job piece done has;
        slot = λ w n. files-put_slot io w first_name n (first_slot image.slots n) (first_in_range image.files requests image.slots is.slots.files n);
      })

-- the image alone fits, where it does with a vault
pub image_fits : (image : Image) (vault : Option Vault) (frames : ℕ) → pages_in image vault ≤ frames → length image.pages ≤ frames
image_fits image None frames fits = fits
image_fits image (Some v) frames fits = omega (arith, fits)

-- the machine of a run's start is ready
pub ready_run_start : (inputs : Inputs) → CanOpen inputs → inputs.settings.job ≡ Run → inputs.requests ≡ [] → IsReady inputs 0 (machine_at inputs Run)
unfolding start_world first_threads world_with thread_count
ready_run_start inputs can job none =
    let image = inputs.image in
    let frames = inputs.settings.frames in
    let entries = image.entries in
    let count : length (first_threads inputs.settings.budget entries) ≡ length entries = length-first_threads inputs.settings.budget entries in
    record {
      image = can.image;
      few_requests = omega (arith, ap (λ (l : List (List ℕ)). length l) none);
      serve = tt;
      size = refl;
      sound = sound_start image can.image frames (image_fits image inputs.vault frames can.fits);
      named = named_first image frames (length image.pages) image.pages;
      files = files_start image can.image frames (image_fits image inputs.vault frames can.fits) inputs.requests;
      given_files = refl;
      given_requests = refl;
      reaped = reaped_first image.form frames (length image.pages) (first_context image image.pages 64) inputs.settings.budget entries can.image.some_thread;
      limits = within_limits image.form frames (length image.pages) (first_context image image.pages 64) (jobs_of (first_threads inputs.settings.budget entries));
      counted = λ job. counted_by (eqb job 0) (length image.pages) (omega (arith, can.image.page_count, most_pages image.form));
      threads = ready_from (start_world image frames) inputs.settings.budget 0 entries
          (first_world image can.image frames (length image.pages) 64 _ (sym (all_put image frames)) (omega (arith, can.image.page_count, most_pages image.form))).live
          can.settings.budget.0 can.settings.budget.1 (omega (arith, can.image.thread_count));
      count = count ∙ sym (ap (threads_for image) job);
      some = omega (arith, count, can.image.some_thread);
      few = omega (arith, count, can.image.thread_count);
      text = refl;
    }
