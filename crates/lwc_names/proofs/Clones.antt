-- Clones and overlays under other numbers.
use Rattle.std.proofs.Common.{◌≡◌, ℕ, refl, sym, ap, ◌∙◌, cond, Option, Some, None, List}
use Rattle.lwc_base.specs.Keys.{ValueOf}
use Rattle.lwc_base.specs.Modes.{mode, mode_or_copy}
use Rattle.lwc_base.specs.Overlay.{overlaid_cell, overlaid_right, overlay, with_overlay}
use Rattle.lwc_base.specs.Ranges.{has_page, is_page}
use Rattle.lwc_base.specs.Rights.{read_right}
use Rattle.lwc_base.specs.Sharing.{any_key, clone_context, cloned_cell, cloned_context, cloned_right, is_moved, moved_value, moved_values, needs_group, share, shared_cell, with_shared}
use Rattle.lwc_base.specs.World.{World, Context, add_context, add_group, change_context, context, next_group}
use Rattle.lwc_base.specs.declared.cell.Cell.{Cell}
use Rattle.lwc_base.specs.declared.cell.Cell.TheVariants.{Own, Common}
use Rattle.lwc_base.specs.declared.item.Item.{Item}
use Rattle.lwc_base.specs.declared.item.Mode.{Mode}
use Rattle.lwc_base.specs.declared.item.Mode.TheVariants.{Copy, CopyRead, Share, Unmap}
use Rattle.lwc_types.specs.declared.key.Key.{Key}
use Rattle.lwc_types.specs.declared.key.Key.TheVariants.{Page}
use Rattle.lwc_types.specs.declared.name.Name.{Name}
use Rattle.lwc_types.specs.declared.page.PageValue.{PageValue}
use Rattle.lwc_types.specs.declared.regs.Regs.{Regs}
use Rattle.lwc_types.specs.declared.right.Right.{Right}
use Rattle.lwc_names.proofs.Puts.{branch}
use Rattle.lwc_names.proofs.Stores.{right_at-shifted}
use Rattle.lwc_names.proofs.Worlds.{add_context-shifted, add_group-shifted, change_context-shifted, context-shifted, next_group-shifted, nothing-shifted, there-shifted, value_at-shifted}
use Rattle.lwc_names.specs.Shifts.{shifted_cell, shifted_context, shifted_group, shifted_job, shifted_name, shifted_value, shifted_world}

module _ (r : ℕ) where
  pub page-shifted : (a : Cell (Option PageValue)) → is_page (shifted_cell r (Page 0) a) ≡ is_page a
  page-shifted (Own None) = refl
  page-shifted (Own (Some x)) = refl
  page-shifted (Common g) = refl

  moved-shifted : (m : Mode) (k : Key) (cell : Cell (ValueOf k)) → is_moved m k (shifted_cell r k cell) ≡ is_moved m k cell
  moved-shifted Copy k cell = refl
  moved-shifted Share k (Own value) = there-shifted r k value
  moved-shifted Share k (Common g) = refl
  moved-shifted Unmap k cell = refl
  moved-shifted CopyRead k cell = refl

  moved_value-shifted : (m : Mode) (k : Key) (cell : Cell (ValueOf k)) → moved_value m k (shifted_cell r k cell) ≡ shifted_value r k (moved_value m k cell)
  moved_value-shifted Copy k (Own value) = sym (nothing-shifted r k)
  moved_value-shifted Copy k (Common g) = sym (nothing-shifted r k)
  moved_value-shifted Share k (Own value) = refl
  moved_value-shifted Share k (Common g) = sym (nothing-shifted r k)
  moved_value-shifted Unmap k (Own value) = sym (nothing-shifted r k)
  moved_value-shifted Unmap k (Common g) = sym (nothing-shifted r k)
  moved_value-shifted CopyRead k (Own value) = sym (nothing-shifted r k)
  moved_value-shifted CopyRead k (Common g) = sym (nothing-shifted r k)

  moved_values-shifted : (items : List Item) (x : Context) → moved_values items (shifted_context r x) ≡ shifted_group r (moved_values items x)
  unfolding moved_values
  moved_values-shifted items x = λ i. record { value = λ k. moved_value-shifted (mode_or_copy items k) k (x.cell k) i }

  shared_cell-shifted : (g : Name) (m : Mode) (k : Key) (cell : Cell (ValueOf k)) → shared_cell (shifted_name r g) m k (shifted_cell r k cell) ≡ shifted_cell r k (shared_cell g m k cell)
  shared_cell-shifted g m k cell =
      (λ i. cond (moved-shifted m k cell i) (Common (shifted_name r g)) (shifted_cell r k cell))
      ∙ branch (shifted_cell r k) (is_moved m k cell) (Common g) cell

  with_shared-shifted : (g : Name) (items : List Item) (x : Context) → with_shared (shifted_name r g) items (shifted_context r x) ≡ shifted_context r (with_shared g items x)
  unfolding with_shared
  with_shared-shifted g items x = λ i. record (shifted_context r x) { cell = λ k. shared_cell-shifted g (mode_or_copy items k) k (x.cell k) i }

  pub needs-shifted : (w : World) (c : Name) (items : List Item) → needs_group (shifted_world r w) (shifted_name r c) items ≡ needs_group w c items
  unfolding needs_group shifted_world
  needs-shifted w c items =
      λ i. any_key w.size.pages (λ k. (ap (λ (x : Context). is_moved (mode_or_copy items k) k (x.cell k)) (context-shifted r w c) ∙ moved-shifted (mode_or_copy items k) k ((context w c).cell k)) i)

  pub share-shifted : (w : World) (c : Name) (job : ℕ) (items : List Item) → share (shifted_world r w) (shifted_name r c) (shifted_job r job) items ≡ shifted_world r (share w c job items)
  unfolding share
  share-shifted w c job items =
      (λ i. cond (needs-shifted w c items i) (shared i) (shifted_world r w))
      ∙ branch (shifted_world r) (needs_group w c items) (add_group (change_context w c (with_shared (next_group w job) items)) job (moved_values items (context w c))) w
    where
      shared : add_group (change_context (shifted_world r w) (shifted_name r c) (with_shared (next_group (shifted_world r w) (shifted_job r job)) items)) (shifted_job r job) (moved_values items (context (shifted_world r w) (shifted_name r c)))
          ≡ shifted_world r (add_group (change_context w c (with_shared (next_group w job) items)) job (moved_values items (context w c)))
      shared =
          (λ i. add_group (change_context (shifted_world r w) (shifted_name r c) (with_shared (next_group-shifted r w job i) items)) (shifted_job r job) (moved_values items (context-shifted r w c i)))
          ∙ (λ i. add_group (change_context-shifted r w c (with_shared (next_group w job) items) (with_shared (shifted_name r (next_group w job)) items) (with_shared-shifted (next_group w job) items) i) (shifted_job r job) (moved_values-shifted items (context w c) i))
          ∙ add_group-shifted r (change_context w c (with_shared (next_group w job) items)) job (moved_values items (context w c))

  cloned_cell-shifted : (w : World) (c : Name) (k : Key) (m : Mode) → cloned_cell (shifted_world r w) (shifted_name r c) k m ≡ shifted_cell r k (cloned_cell w c k m)
  cloned_cell-shifted w c k Copy = ap (λ (v : ValueOf k). Own v) (value_at-shifted r w c k)
  cloned_cell-shifted w c k Share = ap (λ (x : Context). x.cell k) (context-shifted r w c)
  cloned_cell-shifted w c k Unmap = ap (λ (v : ValueOf k). Own v) (sym (nothing-shifted r k))
  cloned_cell-shifted w c k CopyRead = ap (λ (v : ValueOf k). Own v) (value_at-shifted r w c k)

  cloned_right-shifted : (w : World) (c : Name) (p : ℕ) (m : Mode) → cloned_right (shifted_world r w) (shifted_name r c) p m ≡ cloned_right w c p m
  cloned_right-shifted w c p Copy = right_at-shifted r w c p
  cloned_right-shifted w c p Share = right_at-shifted r w c p
  cloned_right-shifted w c p Unmap = refl
  cloned_right-shifted w c p CopyRead = ap (λ (x : Context). read_right (has_page x p)) (context-shifted r w c) ∙ ap read_right (page-shifted ((context w c).cell (Page p)))

  pub cloned_context-shifted : (w : World) (c : Name) (items : List Item) (entry : Regs) → cloned_context (shifted_world r w) (shifted_name r c) items entry ≡ shifted_context r (cloned_context w c items entry)
  unfolding cloned_context
  cloned_context-shifted w c items entry = λ i. record { cell = λ k. cloned_cell-shifted w c k (mode_or_copy items k) i; right = λ p. cloned_right-shifted w c p (mode_or_copy items (Page p)) i; entry = entry; saved = λ t. None }

  pub clone-shifted : (w : World) (c : Name) (job : ℕ) (items : List Item) (entry : Regs) → clone_context (shifted_world r w) (shifted_name r c) (shifted_job r job) items entry ≡ shifted_world r (clone_context w c job items entry)
  unfolding clone_context
  clone-shifted w c job items entry =
      let s = share w c job items in
      ap (λ (v : World). add_context v (shifted_job r job) (cloned_context v (shifted_name r c) items entry)) (share-shifted w c job items)
      ∙ ap (add_context (shifted_world r s) (shifted_job r job)) (cloned_context-shifted s c items entry)
      ∙ add_context-shifted r s job (cloned_context s c items entry)

  overlaid-shifted : (w : World) (d : Name) (k : Key) (m : Option Mode) (cell : Cell (ValueOf k)) → overlaid_cell (shifted_world r w) (shifted_name r d) k m (shifted_cell r k cell) ≡ shifted_cell r k (overlaid_cell w d k m cell)
  overlaid-shifted w d k None cell = refl
  overlaid-shifted w d k (Some m) cell = cloned_cell-shifted w d k m

  overlaid_right-shifted : (w : World) (d : Name) (p : ℕ) (m : Option Mode) (right : Right) → overlaid_right (shifted_world r w) (shifted_name r d) p m right ≡ overlaid_right w d p m right
  overlaid_right-shifted w d p None right = refl
  overlaid_right-shifted w d p (Some m) right = cloned_right-shifted w d p m

  with_overlay-shifted : (w : World) (d : Name) (items : List Item) (x : Context) → with_overlay (shifted_world r w) (shifted_name r d) items (shifted_context r x) ≡ shifted_context r (with_overlay w d items x)
  with_overlay-shifted w d items x = λ i. record (shifted_context r x) { cell = λ k. overlaid-shifted w d k (mode items k) (x.cell k) i; right = λ p. overlaid_right-shifted w d p (mode items (Page p)) (x.right p) i }

  pub overlay-shifted : (w : World) (c d : Name) (job : ℕ) (items : List Item) → overlay (shifted_world r w) (shifted_name r c) (shifted_name r d) (shifted_job r job) items ≡ shifted_world r (overlay w c d job items)
  unfolding overlay
  overlay-shifted w c d job items =
      let s = share w d job items in
      ap (λ (v : World). change_context v (shifted_name r c) (with_overlay v (shifted_name r d) items)) (share-shifted w d job items)
      ∙ change_context-shifted r s c (with_overlay s d items) (with_overlay (shifted_world r s) (shifted_name r d) items) (with_overlay-shifted s d items)
