-- What calls ask of a world, under other numbers.
use Rattle.std.proofs.Common.{◌≡◌, ℕ, zero, suc, ◌+◌, ◌*◌, ◌/◌, ◌%◌, refl, sym, ap, ◌∙◌, cond, eqb, leb, not, ◌&&◌, Option, Some, None, List, [], ◌∷◌, map, arith}
use Rattle.std.proofs.lemmas.Bool.Decides.{nat_tests}
use Rattle.std.proofs.lemmas.List.Sums.{sum_by-cons}
use Rattle.std.specs.Prelude.{count_by, slice_index}
use Rattle.std.specs.List.{find, range_with_len}
use Rattle.std.specs.Ordering.{is_eq}
use Rattle.std.specs.Option.{option_map, option_map_or}
use Rattle.std.specs.FinMap as fm
use Rattle.lwc_base.specs.Cells.{page_at, slot_at}
use Rattle.lwc_base.specs.Memory.{byte_at, bytes_for, load}
use Rattle.lwc_base.specs.Ranges.{are_of_one_kind, begins_range, continues_range, ranges, ranges_of}
use Rattle.lwc_base.specs.Rights.{same_right}
use Rattle.lwc_base.specs.Sharing.{cloned_context, ranges_after_clone, share}
use Rattle.lwc_base.specs.Slots.{lowest_empty}
use Rattle.lwc_base.specs.Summaries.{is_empty}
use Rattle.lwc_base.specs.World.{World, Context, context, groups_of, live_of}
use Rattle.lwc_base.specs.declared.cell.Cell.{Cell}
use Rattle.lwc_base.specs.declared.cell.Cell.TheVariants.{Own, Common}
use Rattle.lwc_base.specs.declared.descriptor.Descriptor.{Descriptor}
use Rattle.lwc_base.specs.declared.descriptor.Descriptor.TheVariants.{Empty, Console, File, Request, Reply, Ctx}
use Rattle.lwc_base.specs.declared.item.Item.{Item}
use Rattle.lwc_types.specs.Names.{name_cmp}
use Rattle.lwc_types.specs.Pages.{bytes_of}
use Rattle.lwc_types.specs.declared.key.TheConstants.{SLOTS}
use Rattle.lwc_types.specs.declared.key.Key.TheVariants.{Page, Slot}
use Rattle.lwc_types.specs.declared.name.Name.{Name}
use Rattle.lwc_types.specs.declared.page.PageValue.{PageValue}
use Rattle.lwc_types.specs.declared.page.TheConstants.{PAGE_BYTES}
use Rattle.lwc_names.proofs.Clones.{cloned_context-shifted, page-shifted, share-shifted}
use Rattle.lwc_names.proofs.Reaps.{maps}
use Rattle.lwc_names.proofs.Stores.{bytes-shifted, page_at-shifted, present-shifted}
use Rattle.lwc_names.proofs.Tables as tables
use Rattle.lwc_names.proofs.Tables.{name_cmp-shifted}
use Rattle.lwc_names.proofs.Worlds.{context-shifted, value_at-shifted}
use Rattle.lwc_names.specs.Shifts.{shifted_cell, shifted_context, shifted_descriptor, shifted_entry, shifted_group, shifted_job, shifted_name, shifted_page, shifted_table, shifted_world}

module _ (r : ℕ) where
  pub empty-shifted : (d : Descriptor) → is_empty (shifted_descriptor r d) ≡ is_empty d
  empty-shifted Empty = refl
  empty-shifted Console = refl
  empty-shifted (File file at) = refl
  empty-shifted (Request q at) = refl
  empty-shifted (Reply q) = refl
  empty-shifted (Ctx name cap) = refl

  same_job : (a b : ℕ) → eqb (shifted_job r a) (shifted_job r b) ≡ eqb a b
  same_job zero zero = refl
  same_job zero (suc b) = grind (arith, nat_tests)
  same_job (suc a) zero = grind (arith, nat_tests)
  same_job (suc a) (suc b) = grind (arith, nat_tests)

  count-shifted : (job : ℕ) (cs : List Name) → count_by (λ c. eqb c.job (shifted_job r job)) (map (shifted_name r) cs) ≡ count_by (λ c. eqb c.job job) cs
  count-shifted job [] = refl
  count-shifted job (c ∷ cs) =
      sum_by-cons (λ (d : Name). cond (eqb d.job (shifted_job r job)) 1 0) (shifted_name r c) (map (shifted_name r) cs)
      ∙ (λ i. cond (same_job c.job job i) 1 0 + count-shifted job cs i)
      ∙ sym (sum_by-cons (λ (d : Name). cond (eqb d.job job) 1 0) c cs)

  keys-shifted : {X : Type 0} (f : X → X) (m : fm.FinMap name_cmp X) → fm.keys (shifted_table r f m) ≡ map (shifted_name r) (fm.keys m)
  keys-shifted f m =
      ap (map (λ e. e.0)) (tables.entries-shifted name_cmp (shifted_name r) (name_cmp-shifted r) f m)
      ∙ maps (shifted_entry r f) (λ e. e.0) (λ e. shifted_name r e.0) (λ e. refl) (fm.entries m) ∙ sym (maps (λ e. e.0) (shifted_name r) (λ e. shifted_name r e.0) (λ e. refl) (fm.entries m))

  kind-shifted : (a b : Cell (Option PageValue)) → are_of_one_kind (shifted_cell r (Page 0) a) (shifted_cell r (Page 0) b) ≡ are_of_one_kind a b
  kind-shifted (Own None) (Own None) = refl
  kind-shifted (Own None) (Own (Some y)) = refl
  kind-shifted (Own (Some x)) (Own None) = refl
  kind-shifted (Own (Some x)) (Own (Some y)) = refl
  kind-shifted (Own None) (Common h) = refl
  kind-shifted (Own (Some x)) (Common h) = refl
  kind-shifted (Common g) (Own None) = refl
  kind-shifted (Common g) (Own (Some y)) = refl
  kind-shifted (Common g) (Common h) = ap is_eq (name_cmp-shifted r g h)

  continues-shifted : (x : Context) (p : ℕ) → continues_range (shifted_context r x) p ≡ continues_range x p
  continues-shifted x zero = refl
  continues-shifted x (suc p) = λ i. kind-shifted (x.cell (Page p)) (x.cell (Page (suc p))) i && same_right (x.right p) (x.right (suc p))

  begins-shifted : (x : Context) (p : ℕ) → begins_range (shifted_context r x) p ≡ begins_range x p
  unfolding begins_range
  begins-shifted x p = λ i. page-shifted r (x.cell (Page p)) i && not (continues-shifted x p i)

  pub ranges-shifted : (pages : ℕ) (x : Context) → ranges pages (shifted_context r x) ≡ ranges pages x
  unfolding ranges
  ranges-shifted pages x = λ i. count_by (λ p. begins-shifted x p i) (range_with_len 0 pages)

  module _ (w : World) where
    pub live_of-shifted : (job : ℕ) → live_of (shifted_world r w) (shifted_job r job) ≡ live_of w job
    unfolding live_of shifted_world
    live_of-shifted job = ap (count_by (λ c. eqb c.job (shifted_job r job))) (keys-shifted (shifted_context r) w.contexts) ∙ count-shifted job (fm.keys w.contexts)

    pub groups_of-shifted : (job : ℕ) → groups_of (shifted_world r w) (shifted_job r job) ≡ groups_of w job
    unfolding groups_of shifted_world
    groups_of-shifted job = ap (count_by (λ c. eqb c.job (shifted_job r job))) (keys-shifted (shifted_group r) w.groups) ∙ count-shifted job (fm.keys w.groups)

    module _ (c : Name) where
      pub lowest-shifted : lowest_empty (shifted_world r w) (shifted_name r c) ≡ lowest_empty w c
      unfolding lowest_empty
      lowest-shifted = λ i. find (λ n. (ap is_empty (value_at-shifted r w c (Slot n)) ∙ empty-shifted (slot_at w c n)) i) (range_with_len 0 SLOTS)

      pub ranges_of-shifted : ranges_of (shifted_world r w) (shifted_name r c) ≡ ranges_of w c
      unfolding ranges_of shifted_world
      ranges_of-shifted = ap (ranges w.size.pages) (context-shifted r w c) ∙ ranges-shifted w.size.pages (context w c)

      byte_or : (at : ℕ) (o : Option PageValue) → option_map_or (λ value. slice_index (bytes_of value) at) (option_map (shifted_page r) o) 0 ≡ option_map_or (λ value. slice_index (bytes_of value) at) o 0
      byte_or at None = refl
      byte_or at (Some value) = ap (λ bytes. slice_index bytes at) (bytes-shifted r value)

      byte-shifted : (at : ℕ) → byte_at (shifted_world r w) (shifted_name r c) at ≡ byte_at w c at
      unfolding byte_at
      byte-shifted at =
          ap (λ o. option_map_or (λ value. slice_index (bytes_of value) (at % PAGE_BYTES)) o 0) (page_at-shifted r w c (at / PAGE_BYTES))
          ∙ byte_or (at % PAGE_BYTES) (page_at w c (at / PAGE_BYTES))

      load-shifted : (at count : ℕ) → load (shifted_world r w) (shifted_name r c) at count ≡ load w c at count
      unfolding load
      load-shifted at count = λ i. cond (present-shifted r w c at count i) (Some (map (λ b. byte-shifted b i) (range_with_len at count))) None

      pub bytes_for-shifted : (at count : ℕ) → bytes_for (shifted_world r w) (shifted_name r c) at count ≡ bytes_for w c at count
      unfolding bytes_for shifted_world
      bytes_for-shifted at count = λ i. cond (eqb count 0) (Some []) (cond (leb (at + count) (w.size.pages * PAGE_BYTES)) (load-shifted at count i) None)

  module _ (w : World) where
    pub after_clone-shifted : (c : Name) (job : ℕ) (items : List Item) → ranges_after_clone (shifted_world r w) (shifted_name r c) (shifted_job r job) items ≡ ranges_after_clone w c job items
    unfolding ranges_after_clone shifted_world
    after_clone-shifted c job items =
        let s = share w c job items in
        ap (λ (v : World). (ranges_of v (shifted_name r c), ranges v.size.pages (cloned_context v (shifted_name r c) items (context v (shifted_name r c)).entry))) (share-shifted r w c job items)
        ∙ (λ i. (ranges_of-shifted s c i, ranges s.size.pages (cloned_context-shifted r s c items ((context-shifted r s c i).entry) i)))
        ∙ (λ i. (ranges_of s c, ranges-shifted s.size.pages (cloned_context s c items (context s c).entry) i))
