-- Holders and moves, key by key.
use Rattle.std.proofs.Common.{◌≡◌, ◌≢◌, ◌⊎◌, ⊎_elim, ℕ, arith, ◌<◌, ◌∙◌, ap, sym, subst, refl, Bool, true, false, cond, get_or, Option, None, Some, vec_len}
use Rattle.std.proofs.lemmas.Grind.{common_steps}
use Rattle.lwc_base.specs.declared.cell.Cell.{Cell}
use Rattle.lwc_base.specs.declared.cell.Cell.TheVariants as cell
use Rattle.lwc_base.specs.declared.descriptor.Descriptor.{Descriptor}
use Rattle.lwc_base.specs.declared.item.Mode.{Mode}
use Rattle.lwc_base.specs.declared.item.Mode.TheVariants.{Copy, CopyRead, Share, Unmap}
use Rattle.lwc_base.specs.Cells.{put_in, with_cell, with_value}
use Rattle.lwc_base.specs.Keys.{ValueOf, is_there, nothing}
use Rattle.lwc_base.specs.Sharing.{has_own, is_moved, shared_cell}
use Rattle.lwc_base.specs.World.{World, Context, Group, change_context, change_group}
use Rattle.lwc_types.specs.declared.key.Key.{Key}
use Rattle.lwc_types.specs.declared.key.Key.TheVariants.{Page, Slot, Cred}
use Rattle.lwc_types.specs.declared.page.PageValue.{PageValue}
use Rattle.lwc_types.specs.declared.name.Name.{Name}
use Rattle.whole_world.specs.declared.context_row.ContextRow.{ContextRow}
use Rattle.whole_world.specs.declared.holder.Holder.{Holder}
use Rattle.whole_world.specs.declared.holder.Holder.TheVariants.{Nobody, Own, Group as InGroup, NewGroup}
use Rattle.whole_world.specs.declared.key_value.KeyValue.{KeyValue}
use Rattle.whole_world.specs.Holders.{holder, holder_of, same_holder}
use Rattle.whole_world.specs.KeyValues.{key_in, value_in}
use Rattle.whole_world.specs.Rows.{cell_of, context_of}
use Rattle.whole_world.proofs.Moves.{takes}

own_where : (b : Bool) → same_holder (cond b Own Nobody) Own ≡ b
own_where true = refl
own_where false = refl

-- the context itself has the value where it is its own
pub own-holder : (k : Key) (c : Cell (ValueOf k)) → same_holder (holder_of k c) Own ≡ has_own k c
own-holder k (cell.Own value) = own_where (is_there k value)
own-holder k (cell.Common g) = refl

-- a cell with an own value is the context's own
pub own-cell : (k : Key) (c : Cell (ValueOf k)) → has_own k c ≡ true → holder c ≡ Own
own-cell k (cell.Own value) is = refl
own-cell k (cell.Common g) is = cc

-- what moves is the context's own
pub own-moved : (mode : Mode) (k : Key) (c : Cell (ValueOf k)) → is_moved mode k c ≡ true → has_own k c ≡ true
own-moved Copy k c is = cc
own-moved Share k c is = is
own-moved Unmap k c is = cc
own-moved CopyRead k c is = cc

-- the cell at the place of a page is the page's
pub cell-page : (row : ContextRow) (p : ℕ) (c : Cell (Option PageValue)) → p < vec_len row.pages → c ≡ get_or row.pages.items p c → c ≡ (context_of row).cell (Page p)
unfolding context_of cell_of
cell-page row p c within is = grind (arith, common_steps)

-- the cell at the place of a slot is the slot's
pub cell-slot : (row : ContextRow) (n : ℕ) (c : Cell Descriptor) → n < vec_len row.slots → c ≡ get_or row.slots.items n c → c ≡ (context_of row).cell (Slot n)
unfolding context_of cell_of
cell-slot row n c within is = grind (arith, common_steps)

moved_own : (mode : Mode) (k : Key) (value : ValueOf k) (h : Group) → is_moved mode k (cell.Own value) ≡ true → with_value k value h ≡ takes mode k (cell.Own value) h
moved_own Copy k value h moves = cc
moved_own Share k value h moves = sym (ap (λ b. cond b (with_value k value h) h) moves)
moved_own Unmap k value h moves = cc
moved_own CopyRead k value h moves = cc

-- a group that is given the value under a key takes it
pub group-takes : (mode : Mode) (x : Context) (h j : Group) (v : KeyValue) (k : Key) → key_in v ≡ k → x.cell (key_in v) ≡ cell.Own (value_in v) →
    is_moved mode k (x.cell k) ≡ true → j ≡ with_value (key_in v) (value_in v) h → j ≡ takes mode k (x.cell k) h
group-takes mode x h j v k key_is cell_is =
    subst (λ k. is_moved mode k (x.cell k) ≡ true → j ≡ with_value (key_in v) (value_in v) h → j ≡ takes mode k (x.cell k) h) key_is
    (λ moves put.
    put ∙ moved_own mode (key_in v) (value_in v) h (sym (ap (is_moved mode (key_in v)) cell_is) ∙ moves)
    ∙ ap (λ c. takes mode (key_in v) c h) (sym cell_is))

own_there : (b : Bool) → cond b Own Nobody ≡ Own → b ≡ true
own_there true is = refl
own_there false is = cc

nobody_there : (b : Bool) → cond b Own Nobody ≡ Nobody → b ≡ false
nobody_there true is = cc
nobody_there false is = refl

neither : (b : Bool) (h : Holder) → cond b Own Nobody ≡ h → h ≢ Own → h ≢ Nobody → ⊥
neither true h is own nobody = own (sym is)
neither false h is own nobody = nobody (sym is)

nothing_there : (k : Key) (value : ValueOf k) → is_there k value ≡ false → value ≡ nothing k
nothing_there (Page p) None is = refl
nothing_there (Page p) (Some value) is = cc
nothing_there (Slot n) value is = cc
nothing_there Cred value is = cc

module _ (w : World) (c : Name) (k : Key) (value : ValueOf k) where
  -- a value is put into the context's own cell
  pub put-own : (x : Cell (ValueOf k)) → holder_of k x ≡ Own → put_in w c k value x ≡ change_context w c (with_cell k (cell.Own value))
  put-own (cell.Own old) is = ap (λ b. cond b (change_context w c (with_cell k (cell.Own value))) w) (own_there (is_there k old) is)
  put-own (cell.Common g) is = cc

  -- into a group
  pub put-group : (x : Cell (ValueOf k)) (g : Name) → holder_of k x ≡ InGroup g → put_in w c k value x ≡ change_group w g (with_value k value)
  put-group (cell.Own old) g is = absurd (neither (is_there k old) (InGroup g) is (λ e. cc) (λ e. cc))
  put-group (cell.Common h) g is = ap (λ n. change_group w n (with_value k value)) (same_group h g is)
    where
      same_group : (h g : Name) → InGroup h ≡ InGroup g → h ≡ g
      same_group h g is = cc

  -- or nowhere
  pub put-nobody : (x : Cell (ValueOf k)) → holder_of k x ≡ Nobody → put_in w c k value x ≡ w
  put-nobody (cell.Own old) is = ap (λ b. cond b (change_context w c (with_cell k (cell.Own value))) w) (nobody_there (is_there k old) is)
  put-nobody (cell.Common g) is = cc

not_new : (k : Key) (c : Cell (ValueOf k)) → holder_of k c ≢ NewGroup
not_new k (cell.Own value) is = neither (is_there k value) NewGroup is (λ e. cc) (λ e. cc)
not_new k (cell.Common g) is = cc

-- no cell is of a group to come
pub is-nobody : (k : Key) (c : Cell (ValueOf k)) (h : Holder) → holder_of k c ≡ h → (h ≡ Nobody) ⊎ (h ≡ NewGroup) → holder_of k c ≡ Nobody
is-nobody k c h is = ⊎_elim (λ nobody. is ∙ nobody) (λ new. absurd (not_new k c (is ∙ new)))

module _ (k : Key) (new : Name) where
  -- under share an own value becomes common of the new group
  pub shared-own : (c : Cell (ValueOf k)) → holder_of k c ≡ Own → shared_cell new Share k c ≡ cell.Common new
  shared-own (cell.Own value) is = ap (λ b. cond b (cell.Common new) (cell.Own value)) (own_there (is_there k value) is)
  shared-own (cell.Common g) is = cc

  -- what is common stays so
  pub shared-group : (c : Cell (ValueOf k)) (g : Name) → holder_of k c ≡ InGroup g → shared_cell new Share k c ≡ cell.Common g
  shared-group (cell.Own value) g is = absurd (neither (is_there k value) (InGroup g) is (λ e. cc) (λ e. cc))
  shared-group (cell.Common h) g is = cc

  -- and an absent page stays absent
  pub shared-nobody : (c : Cell (ValueOf k)) → holder_of k c ≡ Nobody → shared_cell new Share k c ≡ cell.Own (nothing k)
  shared-nobody (cell.Own value) is =
      ap (λ b. cond b (cell.Common new) (cell.Own value)) (nobody_there (is_there k value) is)
      ∙ ap (λ v. cell.Own v) (nothing_there k value (nobody_there (is_there k value) is))
  shared-nobody (cell.Common g) is = cc

-- a value that is put is the cell of its key
pub put-cell : (x : Context) (v : KeyValue) (k : Key) (cells : (k : Key) → Cell (ValueOf k)) → key_in v ≡ k → cell.Own (value_in v) ≡ cells (key_in v) →
    with_cell (key_in v) (cell.Own (value_in v)) x ≡ with_cell k (cells k) x
put-cell x v k cells key_is value_is =
    subst (λ k. with_cell (key_in v) (cell.Own (value_in v)) x ≡ with_cell k (cells k) x) key_is (ap (λ c. with_cell (key_in v) c x) value_is)
