-- A request by itself starts as request 0 with the same bytes does, under other numbers.
use Rattle.std.proofs.Common.{◌≡◌, ℕ, zero, suc, ◌+◌, ◌-◌, refl, sym, ap, ◌∙◌, Bool, true, false, cond, eqb, ltb, Option, Some, None, List, [], ◌∷◌, ◌++◌, length, arith}
use Rattle.std.proofs.lemmas.Bool.Decides.{nat_tests}
use Rattle.std.specs.Prelude.{replicate}
use Rattle.std.specs.FinMap as fm
use Rattle.std.specs.List.{enumerate_from, find}
use Rattle.std.specs.Option.{option_map, option_map_or}
use Rattle.guest_image.specs.declared.image.Image.{Image}
use Rattle.guest_image.specs.declared.image.PageImage.{PageImage}
use Rattle.guest_image.specs.declared.image.SlotImage.{SlotImage}
use Rattle.kernel_core.specs.Machine.{home_of}
use Rattle.kernel_core.specs.Start.{counted, first_page, first_slot, first_workers, home_context, home_value, image_tag, serve_world, start, world_of}
use Rattle.lwc_base.proofs.Facts.{orders}
use Rattle.lwc_base.specs.Channels.{opened}
use Rattle.lwc_base.specs.World.{nothing_counted}
use Rattle.lwc_base.specs.declared.cell.Cell.TheVariants.{Own}
use Rattle.lwc_base.specs.declared.descriptor.Descriptor.{Descriptor}
use Rattle.lwc_base.specs.declared.descriptor.Descriptor.TheVariants.{Empty, Console, File}
use Rattle.lwc_types.specs.Names.{name_cmp}
use Rattle.lwc_types.specs.declared.counters.Counters.{Counters}
use Rattle.lwc_types.specs.declared.key.TheConstants.{SLOTS}
use Rattle.lwc_types.specs.declared.key.Key.{Key}
use Rattle.lwc_types.specs.declared.key.Key.TheVariants.{Page, Slot, Cred}
use Rattle.lwc_types.specs.declared.page.PageValue.TheVariants.{Data}
use Rattle.lwc_names.proofs.Tables as tables
use Rattle.lwc_names.proofs.Tables.{name_cmp-shifted}
use Rattle.lwc_names.specs.Machines.{EachActsForItsJob, shifted_machine}
use Rattle.lwc_names.specs.Shifts.{shifted_channels, shifted_context, shifted_counters, shifted_descriptor, shifted_group, shifted_name, shifted_page, shifted_table, shifted_value, shifted_world}
use Rattle.request_isolation.specs.Alone.{start_alone}
use Rattle.snapshot_host.specs.declared.finishing.Finished.{Finished}

-- as many of a thing as there are requests, the last of which is one's own
last_more : {A : Type 0} (x : A) (r : ℕ) (bytes : List ℕ) → replicate (length (replicate r [] ++ bytes ∷ [])) x ≡ replicate r x ++ x ∷ []
last_more x zero bytes = refl
last_more x (suc r) bytes = ap (λ l. x ∷ l) (last_more x r bytes)

module _ (r : ℕ) where
  -- a home is the same under other numbers
  page-same : (o : Option (ℕ × PageImage)) → option_map (shifted_page r) (option_map (λ e. Data (image_tag e.0) e.1.bytes) o) ≡ option_map (λ e. Data (image_tag e.0) e.1.bytes) o
  page-same None = refl
  page-same (Some e) = refl

  file-same : (o : Option SlotImage) → shifted_descriptor r (option_map_or (λ s. File s.file 0) o Empty) ≡ option_map_or (λ s. File s.file 0) o Empty
  file-same None = refl
  file-same (Some s) = refl

  chosen-same : (b : Bool) (d e : Descriptor) → shifted_descriptor r d ≡ d → shifted_descriptor r e ≡ e → shifted_descriptor r (cond b d e) ≡ cond b d e
  chosen-same true d e first second = first
  chosen-same false d e first second = second

  slot-same : (slots : List SlotImage) (n : ℕ) → shifted_descriptor r (first_slot slots n) ≡ first_slot slots n
  unfolding first_slot
  slot-same slots n = chosen-same (ltb n 2) Console (option_map_or (λ s. File s.file 0) (find (λ s. eqb s.slot n) slots) Empty) refl (file-same (find (λ s. eqb s.slot n) slots))

  value-same : (image : Image) (k : Key) → shifted_value r k (home_value image k) ≡ home_value image k
  unfolding first_page
  value-same image (Page p) = page-same (find (λ e. eqb e.1.number p) (enumerate_from 0 image.pages))
  value-same image (Slot n) =
      chosen-same (ltb n 2) Empty (cond (ltb n SLOTS) (first_slot image.slots n) Empty) refl
      (chosen-same (ltb n SLOTS) (first_slot image.slots n) Empty (slot-same image.slots n) refl)
  value-same image Cred = refl

  home-same : (image : Image) → shifted_context r (home_context image) ≡ home_context image
  unfolding home_context
  home-same image = λ i. record (home_context image) { cell = λ k. Own (value-same image k i) }

  -- and so is the world of a start
  empty-same : {X : Type 0} (f : X → X) → shifted_table r f fm.empty ≡ fm.empty
  empty-same f =
      fm.empty_of_len (shifted_table r f fm.empty) (tables.len-shifted name_cmp (shifted_name r) (name_cmp-shifted r) f fm.empty ∙ fm.len-empty name_cmp _)

  homes-same : (image : Image) → shifted_table r (shifted_context r) (fm.insert fm.empty (home_of 0) (home_context image)) ≡ fm.insert fm.empty (home_of 0) (home_context image)
  homes-same image =
      sym (tables.insert-shifted name_cmp (shifted_name r) (name_cmp-shifted r) (shifted_context r) orders.names fm.empty (home_of 0) (home_context image))
      ∙ (λ i. fm.insert (empty-same (shifted_context r) i) (home_of 0) (home-same image i))

  abbrev beyond : ℕ → ℕ → Bool → Counters
  beyond n i b = cond b (cond (eqb (suc i - r) 0) (counted 2 n) (counted 0 0)) nothing_counted

  beyond-same : (n i : ℕ) (b : Bool) → ltb r (suc i) ≡ b → beyond n i b ≡ counted 0 0
  beyond-same n i true is = let none : eqb (suc i - r) 0 ≡ false = grind (arith, nat_tests) in ap (λ b. cond b (counted 2 n) (counted 0 0)) none
  beyond-same n i false is = refl

  counted-same : (n job : ℕ) → shifted_counters r (λ j. cond (eqb j 0) (counted 2 n) (counted 0 0)) job ≡ cond (eqb job 0) (counted 2 n) (counted 0 0)
  counted-same n zero = refl
  counted-same n (suc i) =
      let no : eqb (suc i) 0 ≡ false = grind (arith, nat_tests) in
      ap (λ b. cond b (counted 2 n) (beyond n i (ltb r (suc i)))) no
      ∙ beyond-same n i (ltb r (suc i)) refl ∙ sym (ap (λ b. cond b (counted 2 n) (counted 0 0)) no)

  world-same : (image : Image) (frames : ℕ) → serve_world image frames 1 ≡ shifted_world r (serve_world image frames 1)
  unfolding shifted_world world_of
  world-same image frames =
      sym (λ i. record (serve_world image frames 1) {
        contexts = homes-same image i;
        groups = empty-same (shifted_group r) i;
        next = λ job. counted-same (length image.pages) job i;
      })

  pub start-shifted : (image : Image) (frames budget : ℕ) (bytes : List ℕ) → start_alone image frames budget r bytes ≡ shifted_machine r (start_alone image frames budget 0 bytes)
  unfolding start start_alone shifted_machine shifted_channels first_workers
  start-shifted image frames budget bytes =
      let none : Option Finished = None in
      let number : r ≡ 0 + r = omega arith in
      λ i. record (start_alone image frames budget r bytes) {
        environment = record {
          world = world-same image frames i;
          channels = record (opened image.files (replicate r [] ++ bytes ∷ [])) { replies = last_more [] r bytes i };
        };
        serve = Some (record { workers = 1; budget = budget; next = number i; replies = last_more none r bytes i });
      }

-- the one worker of a request by itself waits
pub alone-acts : (image : Image) (frames budget : ℕ) (bytes : List ℕ) → EachActsForItsJob (start_alone image frames budget 0 bytes)
unfolding start start_alone first_workers
alone-acts image frames budget bytes zero x found runs = cc
alone-acts image frames budget bytes (suc t) x found runs = cc
