-- The cells of a new context, from the world as it is before what is under share has moved.
use Rattle.std.proofs.Common.{◌≡◌, ◌≢◌, ◌⊎◌, ⊎_elim, ℕ, ◌+◌, ◌≤◌, arith, refl, sym, ap, subst, ◌∙◌, true, cond, eqb, ltb, List, Option, None, Some}
use Rattle.std.specs.Prelude.{nat_lt, unwrap_or}
use Rattle.std.proofs.lemmas.Bool.Decides.{nat_tests}
use Rattle.std.specs.FinMap as fm
use Rattle.lwc_base.specs.declared.cell.Cell.{Cell}
use Rattle.lwc_base.specs.declared.cell.Cell.TheVariants.{Own}
use Rattle.lwc_base.specs.declared.item.Item.{Item}
use Rattle.lwc_base.specs.declared.item.Mode.{Mode}
use Rattle.lwc_base.specs.declared.item.Mode.TheVariants.{Copy, CopyRead, Share, Unmap}
use Rattle.lwc_base.specs.Cells.{value_at, value_of, with_cell}
use Rattle.lwc_base.specs.Fresh.{IsFresh, named_groups}
use Rattle.lwc_base.specs.Holders.{InContext}
use Rattle.lwc_base.specs.Keys.{ValueOf, nothing}
use Rattle.lwc_base.specs.Modes.{IsSpec, kind_of, limit, mode, mode_or_copy, number_of}
use Rattle.lwc_base.specs.Ranges.{is_page}
use Rattle.lwc_base.specs.Rights.{read_right, right_at}
use Rattle.lwc_base.specs.Sharing.{cloned_right, shared_cell, cloned_context, clone_context, cloned_cell, with_shared, share}
use Rattle.lwc_base.specs.World.{World, Context, add_context, context, is_live, new_context, next_context, next_group}
use Rattle.lwc_types.specs.declared.key.TheConstants.{SLOTS}
use Rattle.lwc_types.specs.declared.key.Key.{Key}
use Rattle.lwc_types.specs.declared.key.Key.TheVariants.{Page, Slot, Cred}
use Rattle.lwc_types.specs.declared.name.Name.{Name}
use Rattle.lwc_types.specs.declared.regs.Regs.{Regs}
use Rattle.lwc_types.specs.declared.right.Right.{Right}
use Rattle.lwc_types.specs.declared.right.Right.TheVariants.{Write}
use Rattle.lwc_types.specs.declared.key.Kind.TheVariants as kind
use Rattle.lwc_types.specs.declared.key.TheConstants.{NOBODY}
use Rattle.whole_world.specs.Rows.{with_right}
use Rattle.whole_world.specs.Sharing.{clone_cells, clone_rights, is_below, with_cells, with_rights}
use Rattle.whole_world.proofs.Moves.{in_all, with_cells-all, with_cells-next, with_cells-none}
use Rattle.whole_world.proofs.SharedCells.{cloned_right-shared, context-shared}
use Rattle.whole_world.proofs.Unnamed.{unnamed_past}
use Rattle.lwc_base.proofs.Facts.{changes, counts, stays_fresh}
use Rattle.lwc_base.proofs.Sharing.{value_at-share}

module _ (w : World) (c : Name) (job : ℕ) (items : List Item) (fresh : IsFresh w) (live : is_live w c ≡ true) (spec : IsSpec w.size.pages items)
    (rest : Mode) (not_shared : rest ≢ Share) where
  abbrev shared : World
  shared = share w c job items

  -- the cells of the new context
  abbrev cells : (k : Key) → Cell (ValueOf k)
  cells = clone_cells w c job items rest

  abbrev mode_of : Key → Mode
  mode_of k = unwrap_or (mode items k) rest

  abbrev new : Name
  new = next_group w job

  pub key_copied : (k : Key) (m : Mode) → mode_of k ≡ m → (m ≡ Copy) ⊎ (m ≡ CopyRead) → Own (value_at w c k) ≡ cells k
  key_copied k m is copies =
      sym (⊎_elim (λ (copy : m ≡ Copy). ap (cloned_cell shared c k) (is ∙ copy)) (λ (read : m ≡ CopyRead). ap (cloned_cell shared c k) (is ∙ read)) copies
      ∙ ap Own (value_at-share w c job items fresh c k))

  -- a key under share is one in a clone too
  share_mode : (o : Option Mode) → unwrap_or o rest ≡ Share → unwrap_or o Copy ≡ Share
  share_mode None is = absurd (not_shared is)
  share_mode (Some m) is = is

  pub key_shared : (k : Key) → mode_of k ≡ Share → shared_cell new Share k ((context w c).cell k) ≡ cells k
  unfolding with_shared mode_or_copy
  key_shared k is =
      sym (ap (cloned_cell shared c k) is ∙ ap (λ (x : Context). x.cell k) (context-shared w c job items live spec)
      ∙ ap (λ m. shared_cell new m k ((context w c).cell k)) (share_mode (mode items k) is))

  pub key_unmapped : (k : Key) → mode_of k ≡ Unmap → Own (nothing k) ≡ cells k
  key_unmapped k is = sym (ap (cloned_cell shared c k) is)

  module _ (past_keys : (k : Key) → limit w.size.pages (kind_of k) ≤ number_of k → (context w c).cell k ≡ Own (nothing k)) where
    rest_past : (k : Key) → limit w.size.pages (kind_of k) ≤ number_of k → (m : Mode) → m ≢ Share → cloned_cell shared c k m ≡ Own (nothing k)
    unfolding value_at
    rest_past k past Copy other = ap Own (value_at-share w c job items fresh c k) ∙ ap (λ cell. Own (value_of w k cell)) (past_keys k past)
    rest_past k past Share other = absurd (other refl)
    rest_past k past Unmap other = refl
    rest_past k past CopyRead other = ap Own (value_at-share w c job items fresh c k) ∙ ap (λ cell. Own (value_of w k cell)) (past_keys k past)

    key_past : (k : Key) → limit w.size.pages (kind_of k) ≤ number_of k → cells k ≡ Own (nothing k)
    key_past k past = ap (λ o. cloned_cell shared c k (unwrap_or o rest)) (unnamed_past w.size.pages k items spec past) ∙ rest_past k past rest not_shared

    -- the row that has these cells is the new context
    pub context-made : (x y z : Context) (entry : Regs) → x ≡ new_context NOBODY entry → y ≡ with_cells (is_below kind.Page w.size.pages) cells x →
        z ≡ with_cells (is_below kind.Slot SLOTS) cells y → (v : Context) → v ≡ with_cell Cred (cells Cred) z → v ≡ record (new_context NOBODY entry) { cell = cells }
    context-made x y z entry begun pages slots v cred =
        let before : Context = with_cells (is_below kind.Slot SLOTS) cells (with_cells (is_below kind.Page w.size.pages) cells x) in
        let is : z ≡ before = slots ∙ ap (with_cells (is_below kind.Slot SLOTS) cells) pages in
        with_cells-next kind.Cred 0 cells before z v (is ∙ with_cells-none cells before) cred
        ∙ with_cells-all w.size.pages cells x (λ k past. key_past k past ∙ sym (fresh_cell k) ∙ ap (λ (u : Context). u.cell k) (sym begun))
        ∙ ap (λ (u : Context). record u { cell = cells }) begun
      where
        fresh_cell : (k : Key) → (new_context NOBODY entry).cell k ≡ Own (nothing k)
        fresh_cell (Page p) = refl
        fresh_cell (Slot n) = refl
        fresh_cell Cred = refl

    module _ (past_rights : (p : ℕ) → w.size.pages ≤ p → right_at w c p ≡ Write) where
      abbrev rights : ℕ → Right
      rights p = cloned_right w c p (mode_of (Page p))

      new_right : (p : ℕ) → w.size.pages ≤ p → (m : Mode) → cloned_right w c p m ≡ Write
      new_right p past Copy = past_rights p past
      new_right p past Share = past_rights p past
      new_right p past Unmap = refl
      new_right p past CopyRead = ap (λ (cell : Cell (ValueOf (Page p))). read_right (is_page cell)) (past_keys (Page p) past)

      right_there : (p : ℕ) → cond (nat_lt p w.size.pages) (rights p) Write ≡ clone_rights w c job items rest p
      right_there p =
          in_all w.size.pages (Page p) (rights p) Write
          (λ past. ap (λ o. cloned_right w c p (unwrap_or o rest)) (unnamed_past w.size.pages (Page p) items spec past) ∙ new_right p past rest)
          ∙ sym (cloned_right-shared w c job items live spec p (mode_of (Page p)))

      -- and the row that has the rights too
      pub rights-made : (x y : Context) (entry : Regs) → x ≡ record (new_context NOBODY entry) { cell = cells } → y ≡ with_rights w.size.pages rights x →
          y ≡ record (new_context NOBODY entry) { cell = cells; right = clone_rights w c job items rest }
      rights-made x y entry made righted =
          righted ∙ ap (with_rights w.size.pages rights) made ∙ (λ i. record (new_context NOBODY entry) { cell = cells; right = λ p. right_there p i })

-- one right more is given
pub with_rights-next : (n : ℕ) (rights : ℕ → Right) (x y z : Context) (right : Right) → y ≡ with_rights n rights x → right ≡ rights n → z ≡ with_right n right y →
    z ≡ with_rights (n + 1) rights x
with_rights-next n rights x y z right before is put =
    put ∙ (λ i. with_right n (is i) (before i)) ∙ (λ i. record x { right = λ p. next rights x.right n p i })
  where
    next : (f old : ℕ → Right) (n p : ℕ) → cond (eqb p n) (f n) (cond (ltb p n) (f p) (old p)) ≡ cond (ltb p (n + 1)) (f p) (old p)
    next f old n p = grind (arith, nat_tests)

-- where keys that no item names are copied, it is a clone
pub context-copied : (w : World) (c : Name) (job : ℕ) (items : List Item) (entry : Regs) (x : Context) →
    x ≡ record (new_context NOBODY entry) { cell = clone_cells w c job items Copy; right = clone_rights w c job items Copy } → x ≡ cloned_context (share w c job items) c items entry
unfolding cloned_context mode_or_copy
context-copied w c job items entry x is = is

-- the world once the new context is added to the one in which what is under share has moved
module _ (w shared : World) (c : Name) (job : ℕ) (items : List Item) (is_shared : shared ≡ share w c job items) where
  pub shared-contexts : (shared.next job).contexts ≡ (w.next job).contexts
  shared-contexts = ap (λ (v : World). (v.next job).contexts) is_shared ∙ ap (λ (n : Name). n.k) (changes.next_shared w c job job items)

  pub shared-name : next_context shared job ≡ next_context w job
  shared-name = ap (λ v. next_context v job) is_shared ∙ changes.next_shared w c job job items

  pub shared-size : shared.size ≡ w.size
  shared-size = ap (λ (v : World). v.size) is_shared ∙ (changes.shared w c job items).size

  pub shared-len : fm.len shared.contexts ≡ fm.len w.contexts
  shared-len = ap (λ (v : World). fm.len v.contexts) is_shared ∙ (counts.same_contexts w (share w c job items) job (changes.shared w c job items).live).1

  pub shared-old_groups : (x : Context) (entry : Regs) → is_live w c ≡ true → IsFresh w → x ≡ cloned_context (share w c job items) c items entry →
      InContext (named_groups shared.next) job x
  shared-old_groups x entry live fresh made =
      let still : is_live (share w c job items) c ≡ true = (changes.shared w c job items).live c ∙ live in
      subst (InContext (named_groups shared.next) job) (sym made)
      (subst (λ (v : World). InContext (named_groups v.next) job (cloned_context (share w c job items) c items entry)) (sym is_shared)
      (stays_fresh.clone_cells (share w c job items) c job items entry still (stays_fresh.shared w c job items live fresh)))

  pub shared-added : (added : World) (x : Context) (entry : Regs) → x ≡ cloned_context (share w c job items) c items entry → added ≡ add_context shared job x →
      added ≡ clone_context w c job items entry
  unfolding clone_context
  shared-added added x entry made is_added = is_added ∙ (λ i. add_context (is_shared i) job (made i))
