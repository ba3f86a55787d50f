-- What is reached and what is dropped, under other numbers.
use Rattle.std.proofs.Common.{◌≡◌, ℕ, zero, suc, refl, sym, ap, ◌∙◌, Bool, ◌||◌, ◌&&◌, List, [], ◌∷◌, map}
use Rattle.std.specs.List.{list_any, range_with_len}
use Rattle.std.specs.Ordering.{eq_by_cmp, is_eq}
use Rattle.std.specs.FinMap as fm
use Rattle.lwc_base.specs.Cells.{slot_at}
use Rattle.lwc_base.proofs.Facts.{orders}
use Rattle.lwc_base.specs.Keys.{ValueOf}
use Rattle.lwc_base.specs.Life.{is_among, is_in, is_of, is_reached, links, names_group, reached_in, reap}
use Rattle.lwc_base.specs.Sharing.{any_key}
use Rattle.lwc_base.specs.World.{World, Context}
use Rattle.lwc_base.specs.declared.cell.Cell.{Cell}
use Rattle.lwc_base.specs.declared.cell.Cell.TheVariants.{Own, Common}
use Rattle.lwc_base.specs.declared.descriptor.Descriptor.{Descriptor}
use Rattle.lwc_base.specs.declared.descriptor.Descriptor.TheVariants.{Empty, Console, File, Request, Reply, Ctx}
use Rattle.lwc_types.specs.Names.{name_cmp}
use Rattle.lwc_types.specs.declared.key.TheConstants.{SLOTS}
use Rattle.lwc_types.specs.declared.key.Key.{Key}
use Rattle.lwc_types.specs.declared.key.Key.TheVariants.{Slot}
use Rattle.lwc_types.specs.declared.name.Name.{Name}
use Rattle.lwc_names.proofs.Tables as tables
use Rattle.lwc_names.proofs.Tables.{name_cmp-shifted}
use Rattle.lwc_names.proofs.Worlds.{value_at-shifted}
use Rattle.lwc_names.specs.Shifts.{shifted_cell, shifted_context, shifted_descriptor, shifted_entry, shifted_group, shifted_name, shifted_table, shifted_world}

any-of-map : {A B : Type 0} (f : A → B) (p : B → Bool) (q : A → Bool) → ((x : A) → p (f x) ≡ q x) → (xs : List A) → list_any p (map f xs) ≡ list_any q xs
any-of-map f p q same [] = refl
any-of-map f p q same (x ∷ xs) = λ i. same x i || any-of-map f p q same xs i

pub maps : {A B C : Type 0} (f : A → B) (g : B → C) (h : A → C) → ((x : A) → g (f x) ≡ h x) → (xs : List A) → map g (map f xs) ≡ map h xs
maps f g h same [] = refl
maps f g h same (x ∷ xs) = λ i. same x i ∷ maps f g h same xs i

module _ (r : ℕ) where
  of-shifted : (c : Name) (d : Descriptor) → is_of (shifted_name r c) (shifted_descriptor r d) ≡ is_of c d
  of-shifted c Empty = refl
  of-shifted c Console = refl
  of-shifted c (File file at) = refl
  of-shifted c (Request q at) = refl
  of-shifted c (Reply q) = refl
  of-shifted c (Ctx name cap) = ap is_eq (name_cmp-shifted r name c)

  among-shifted : (names : List Name) (c : Name) → is_among (map (shifted_name r) names) (shifted_name r c) ≡ is_among names c
  among-shifted names c = any-of-map (shifted_name r) (eq_by_cmp name_cmp (shifted_name r c)) (eq_by_cmp name_cmp c) (λ d. ap is_eq (name_cmp-shifted r c d)) names

  any-key : {X : Type 0} (f : X → X) (m : fm.FinMap name_cmp X) (p q : Name → Bool) → ((c : Name) → p (shifted_name r c) ≡ q c) → list_any p (fm.keys (shifted_table r f m)) ≡ list_any q (fm.keys m)
  any-key f m p q same =
      ap (λ es. list_any p (map (λ e. e.0) es)) (tables.entries-shifted name_cmp (shifted_name r) (name_cmp-shifted r) f m)
      ∙ ap (list_any p) (maps (shifted_entry r f) (λ e. e.0) (λ e. shifted_name r e.0) (λ e. refl) (fm.entries m) ∙ sym (maps (λ e. e.0) (shifted_name r) (λ e. shifted_name r e.0) (λ e. refl) (fm.entries m)))
      ∙ any-of-map (shifted_name r) p q same (fm.keys m)

  any-value : {X : Type 0} (f : X → X) (m : fm.FinMap name_cmp X) (p q : X → Bool) → ((x : X) → p (f x) ≡ q x) → list_any p (fm.values (shifted_table r f m)) ≡ list_any q (fm.values m)
  any-value f m p q same =
      ap (λ es. list_any p (map (λ e. e.1) es)) (tables.entries-shifted name_cmp (shifted_name r) (name_cmp-shifted r) f m)
      ∙ ap (list_any p) (maps (shifted_entry r f) (λ e. e.1) (λ e. f e.1) (λ e. refl) (fm.entries m) ∙ sym (maps (λ e. e.1) f (λ e. f e.1) (λ e. refl) (fm.entries m)))
      ∙ any-of-map f p q same (fm.values m)

  in-shifted : (k : Key) (g : Name) (cell : Cell (ValueOf k)) → is_in (shifted_name r g) (shifted_cell r k cell) ≡ is_in g cell
  in-shifted k g (Own value) = refl
  in-shifted k g (Common h) = ap is_eq (name_cmp-shifted r h g)

  names-shifted : (pages : ℕ) (g : Name) (x : Context) → names_group pages (shifted_name r g) (shifted_context r x) ≡ names_group pages g x
  unfolding names_group
  names-shifted pages g x = λ i. any_key pages (λ k. in-shifted k g (x.cell k) i)

  module _ (w : World) where
    links-shifted : (d c : Name) → links (shifted_world r w) (shifted_name r d) (shifted_name r c) ≡ links w d c
    unfolding links
    links-shifted d c = λ i. list_any (λ n. (ap (is_of (shifted_name r c)) (value_at-shifted r w d (Slot n)) ∙ of-shifted c (slot_at w d n)) i) (range_with_len 0 SLOTS)

    module _ (names : List Name) where
      reached_in-shifted : (k : ℕ) (c : Name) → reached_in (shifted_world r w) (map (shifted_name r) names) k (shifted_name r c) ≡ reached_in w names k c
      unfolding shifted_world
      reached_in-shifted zero c = among-shifted names c
      reached_in-shifted (suc k) c =
          λ i. reached_in-shifted k c i
          || any-key (shifted_context r) w.contexts (λ d. reached_in (shifted_world r w) (map (shifted_name r) names) k d && links (shifted_world r w) d (shifted_name r c)) (λ d. reached_in w names k d && links w d c) (λ d j. reached_in-shifted k d j && links-shifted d c j) i

      pub reached-shifted : (c : Name) → is_reached (shifted_world r w) (map (shifted_name r) names) (shifted_name r c) ≡ is_reached w names c
      unfolding is_reached shifted_world
      reached-shifted c =
          ap (λ k. reached_in (shifted_world r w) (map (shifted_name r) names) k (shifted_name r c)) (tables.len-shifted name_cmp (shifted_name r) (name_cmp-shifted r) (shifted_context r) w.contexts)
          ∙ reached_in-shifted (fm.len w.contexts) c

      pub reap-shifted : reap (shifted_world r w) (map (shifted_name r) names) ≡ shifted_world r (reap w names)
      unfolding reap shifted_world
      reap-shifted =
          let kept = fm.retain_keys w.contexts (is_reached w names) in
          let contexts : fm.retain_keys (shifted_world r w).contexts (is_reached (shifted_world r w) (map (shifted_name r) names)) ≡ shifted_table r (shifted_context r) kept =
          tables.kept-shifted name_cmp (shifted_name r) (name_cmp-shifted r) (shifted_context r) orders.names orders.one_name w.contexts (is_reached (shifted_world r w) (map (shifted_name r) names)) (is_reached w names) reached-shifted in
          (λ i. record (shifted_world r w) {
            contexts = contexts i;
            groups = fm.retain_keys (shifted_world r w).groups (λ g. list_any (names_group w.size.pages g) (fm.values (contexts i)));
          })
          ∙ (λ i. record (shifted_world r w) {
            contexts = shifted_table r (shifted_context r) kept;
            groups = tables.kept-shifted name_cmp (shifted_name r) (name_cmp-shifted r) (shifted_group r) orders.names orders.one_name w.groups (λ g. list_any (names_group w.size.pages g) (fm.values (shifted_table r (shifted_context r) kept)))
                (λ g. list_any (names_group w.size.pages g) (fm.values kept))
                (λ g. any-value (shifted_context r) kept (names_group w.size.pages (shifted_name r g)) (names_group w.size.pages g) (names-shifted w.size.pages g)) i;
          })
