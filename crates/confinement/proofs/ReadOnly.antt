-- Pages of a context's own with the right Read, in the worlds that acts come to.
use Rattle.std.proofs.Common.{◌≡◌, ◌≢◌, ◌⊎◌, inl, inr, ℕ, true, false, Option, None, Some, List, refl, ap, sym, subst, ◌∙◌, arith}
use Rattle.lwc_base.specs.declared.cell.Cell.TheVariants.{Common, Own}
use Rattle.lwc_base.specs.declared.descriptor.Descriptor.{Descriptor}
use Rattle.lwc_base.specs.declared.item.Item.{Item}
use Rattle.lwc_base.specs.declared.item.Mode.{Mode}
use Rattle.lwc_base.specs.declared.item.Mode.TheVariants.{Copy, CopyRead, Share, Unmap}
use Rattle.lwc_base.specs.Cells.{put_slot, value_at}
use Rattle.lwc_base.specs.Facts.{AddsContext, ChangesContext, SharesValues}
use Rattle.lwc_base.specs.Fresh.{IsFresh}
use Rattle.lwc_base.specs.Modes.{mode, mode_or_copy}
use Rattle.lwc_base.specs.Overlay.{overlay, with_overlay}
use Rattle.lwc_base.specs.Rights.{right_at}
use Rattle.lwc_base.specs.Saved.{save}
use Rattle.lwc_base.specs.Sharing.{needs_group, share, shared_cell, with_shared}
use Rattle.lwc_base.specs.Store.{Done, Piece, store}
use Rattle.lwc_base.specs.World.{World, Context, context, is_live, next_context, next_group}
use Rattle.lwc_types.specs.declared.key.Key.TheVariants.{Page, Slot}
use Rattle.lwc_types.specs.declared.name.Name.{Name}
use Rattle.lwc_types.specs.declared.page.PageValue.{PageValue}
use Rattle.lwc_types.specs.declared.regs.Regs.{Regs}
use Rattle.lwc_types.specs.declared.right.Right.{Right}
use Rattle.lwc_types.specs.declared.right.Right.TheVariants.{Read}
use Rattle.lwc_syscall.specs.Changes.{IsMapped, KeepsReadOnly, maps_page}
use Rattle.lwc_syscall.specs.declared.calls.CallContexts.{CallContexts}
use Rattle.lwc_syscall.specs.declared.plain_call.PlainCall.{PlainCall}
use Rattle.confinement.specs.Confined.{IsLeftToRead}
use Rattle.confinement.proofs.Decide.{name_or_not, value_same}
use Rattle.guest_call.proofs.Changes.{saving}
use Rattle.lwc_base.proofs.Common.{put-other_cell, put-other_key, value_at-cell}
use Rattle.lwc_base.proofs.Facts.{changes}
use Rattle.lwc_base.proofs.ItemModes.{mode-shared}
use Rattle.lwc_base.proofs.Rights.{rights-put_at, rights-share, store-kept, store-right}
use Rattle.lwc_base.proofs.Sharing.{group-same, share-cell, value_at-share}

-- each page of a live context's own with the right Read is left to be read, perhaps shared, or may be replaced
abbrev pub LeavesToRead : World → World → (Name → ℕ → Type 0) → (Name → ℕ → Type 0) → Type 0
LeavesToRead w v Shared May =
    (e : Name) (p : ℕ) (value : Option PageValue) → is_live w e ≡ true → (context w e).cell (Page p) ≡ Own value → right_at w e p ≡ Read →
    IsLeftToRead w v e p (Shared e p) ⊎ May e p

-- a page that is as it was after it was left to be read is left so
left_on : (Shared : Type 0) (w u v : World) (e : Name) (p : ℕ) → right_at v e p ≡ right_at u e p → (context v e).cell (Page p) ≡ (context u e).cell (Page p) →
    value_at v e (Page p) ≡ value_at u e (Page p) → IsLeftToRead w u e p Shared → IsLeftToRead w v e p Shared
left_on Shared w u v e p right cell value is = record {
  right = right ∙ is.right;
  cell = elim is.cell [
    | inl same ↦ inl (cell ∙ same)
    | inr common ↦ inr (common.0, cell ∙ common.1, common.2)
  ];
  value = value ∙ is.value;
}

or_may : {A B P : Type 0} → (A → B) → A ⊎ P → B ⊎ P
or_may f (inl a) = inl (f a)
or_may f (inr may) = inr may

module _ (w : World) (Shared May : Name → ℕ → Type 0) where
  pub left_same : LeavesToRead w w Shared May
  left_same e p value live own read = inl (record { right = read; cell = inl refl; value = refl })

  -- a put under a slot leaves all pages
  pub left_slot : (u : World) (c : Name) (n : ℕ) (new : Descriptor) → LeavesToRead w u Shared May → LeavesToRead w (put_slot u c n new) Shared May
  left_slot u c n new was e p value live own read =
      or_may (left_on (Shared e p) w u (put_slot u c n new) e p (ap (λ (f : ℕ → Right). f p) (rights-put_at u c (Slot n) new e))
      (put-other_cell u c (Slot n) new e (Page p) (λ _ is. absurd cc)) (put-other_key u c (Slot n) new e (Page p) (λ is. absurd cc))) (was e p value live own read)

  -- saved registers are no pages
  pub left_saved : (c : Name) (t : ℕ) (regs : Regs) → LeavesToRead w (save w c t regs) Shared May
  left_saved c t regs e p value live own read =
      let saves = saving w c t regs in
      inl (record { right = ap (λ (f : ℕ → Right). f p) (saves.rights e) ∙ read; cell = inl (saves.cells e (Page p)); value = saves.values e (Page p) })

  -- a page that has the same cell and right is left to be read
  here : (v : World) (e : Name) (p : ℕ) (value : Option PageValue) → (context w e).cell (Page p) ≡ Own value → (context v e).cell (Page p) ≡ Own value → right_at v e p ≡ Read →
      IsLeftToRead w v e p (Shared e p)
  here v e p value own kept right =
      record { right = right; cell = inl (kept ∙ sym own); value = value_at-cell v e (Page p) (Own value) kept ∙ sym (value_at-cell w e (Page p) (Own value) own) }

  pub left_stored : (c : Name) (job : ℕ) (piece : Piece) (v : World) → store w c job piece ≡ Done v → LeavesToRead w v Shared May
  left_stored c job piece v is e p value live own read =
      inl (here v e p value own (store-kept w v c job piece is e p value read own) (store-right w v c job piece is e p ∙ read))

  -- a plain call leaves such pages, where those that it maps may be replaced
  pub left_plain : (v : World) (targets : CallContexts) (call : Option PlainCall) (args : List ℕ) → ((p : ℕ) → maps_page call args p ≡ true → May targets.memory p) →
      KeepsReadOnly w v (IsMapped targets call args) → LeavesToRead w v Shared May
  left_plain v targets call args may keeps e p value live own read = elim (name_or_not e targets.memory) [
    | inr other ↦ let kept = keeps e p value (λ is. other is.0) own read in inl (here v e p value own kept.0 kept.1)
    | inl same ↦
        elim (maps_page call args p) as (λ b. maps_page call args p ≡ b → IsLeftToRead w v e p (Shared e p) ⊎ May e p) [
          | true ↦ λ maps. inr (subst (λ (n : Name). May n p) (sym same) (may p maps))
          | false ↦ λ none. let kept = keeps e p value (λ is. absurd (let no : true ≡ false = sym is.1 ∙ none in cc)) own read in inl (here v e p value own kept.0 kept.1)
        ] refl
  ]

  module _ (fresh : IsFresh w) (c : Name) (job : ℕ) (items : List Item) (shared : (p : ℕ) → mode items (Page p) ≡ Some Share → Shared c p) where
    abbrev s : World
    s = share w c job items

    -- the cell of a page of one's own in a sharing
    moved_or_not : (g : Name) (m : Mode) (p : ℕ) (value : Option PageValue) →
        (shared_cell g m (Page p) (Own value) ≡ Own value) ⊎ (shared_cell g m (Page p) (Own value) ≡ Common g)
    moved_or_not g Copy p value = inl refl
    moved_or_not g Unmap p value = inl refl
    moved_or_not g CopyRead p value = inl refl
    moved_or_not g Share p None = inl refl
    moved_or_not g Share p (Some value) = inr refl

    shared_page : (e : Name) (p : ℕ) (value : Option PageValue) → is_live w e ≡ true → (context w e).cell (Page p) ≡ Own value →
        ((context s e).cell (Page p) ≡ (context w e).cell (Page p)) ⊎ ((g : Name) × ((context s e).cell (Page p) ≡ Common g))
    unfolding with_shared
    shared_page e p value live own =
        let shares : SharesValues w c job items s = changes.shared w c job items in
        elim (name_or_not e c) [
          | inr other ↦ inl (ap (λ (x : Context). x.cell (Page p)) (shares.others e other))
          | inl same ↦
              elim (needs_group w c items) as (λ b. needs_group w c items ≡ b → ((context s e).cell (Page p) ≡ (context w e).cell (Page p)) ⊎ ((g : Name) × ((context s e).cell (Page p) ≡ Common g))) [
                | false ↦ λ none. inl (ap (λ (u : World). (context u e).cell (Page p)) (shares.none none))
                | true ↦ λ needs.
                    let named = shares.named needs (subst (λ (n : Name). is_live w n ≡ true) same live) in
                    let is : (context s e).cell (Page p) ≡ shared_cell (next_group w job) (mode_or_copy items (Page p)) (Page p) (Own value) =
                    ap (λ (n : Name). (context s n).cell (Page p)) same ∙ (ap (λ (x : Context). x.cell (Page p)) named
                    ∙ ap (shared_cell (next_group w job) (mode_or_copy items (Page p)) (Page p)) (sym (ap (λ (n : Name). (context w n).cell (Page p)) same) ∙ own)) in
                    elim (moved_or_not (next_group w job) (mode_or_copy items (Page p)) p value) [
                      | inl stays ↦ inl (is ∙ (stays ∙ sym own))
                      | inr moves ↦ inr (next_group w job, is ∙ moves)
                    ]
              ] refl
        ]

    -- where its cell has changed, an item shares it
    shared_or_same : (e : Name) (p : ℕ) (value : Option PageValue) → is_live w e ≡ true → (context w e).cell (Page p) ≡ Own value →
        ((context s e).cell (Page p) ≡ (context w e).cell (Page p)) ⊎ ((g : Name) × ((context s e).cell (Page p) ≡ Common g) × Shared e p)
    shared_or_same e p value live own = elim (share-cell w c job items e (Page p)) [
      | inl same ↦ inl same
      | inr moves ↦ elim (shared_page e p value live own) [
        | inl same ↦ inl same
        | inr common ↦ inr (common.0, common.1, subst (λ (n : Name). Shared n p) (sym moves.0) (shared p (mode-shared items (Page p) moves.1)))
      ]
    ]

    pub left_shared : LeavesToRead w s Shared May
    left_shared e p value live own read = inl (record {
      right = ap (λ (f : ℕ → Right). f p) (rights-share w c job items e) ∙ read;
      cell = shared_or_same e p value live own;
      value = value_at-share w c job items fresh e (Page p);
    })

  -- a context is added
  pub left_added : (u : World) (job : ℕ) (x : Context) (v : World) → AddsContext u job x v → ((e : Name) → is_live w e ≡ true → e ≢ next_context u job) →
      LeavesToRead w u Shared May → LeavesToRead w v Shared May
  left_added u job x v adds old was e p value live own read =
      let same = adds.others e (old e live) in
      let cell : (context v e).cell (Page p) ≡ (context u e).cell (Page p) = ap (λ (y : Context). y.cell (Page p)) same in
      or_may (left_on (Shared e p) w u v e p (ap (λ (y : Context). y.right p) same) cell (value_same u v e (Page p) cell (λ g. group-same u v g adds.groups)))
      (was e p value live own read)

  -- a context takes over what items name: its pages that they name may be replaced
  pub left_overlaid : (fresh : IsFresh w) (to d : Name) (job : ℕ) (items : List Item) → ((p : ℕ) → mode items (Page p) ≡ Some Share → Shared d p) → is_live w to ≡ true → ((p : ℕ) (m : Mode) → mode items (Page p) ≡ Some m → May to p) →
      LeavesToRead w (overlay w to d job items) Shared May
  left_overlaid fresh to d job items shared taker may e p value live own read =
      elim (name_or_not e to) [
        | inr other ↦ kept (ap (λ (x : Context). x.cell (Page p)) (overlaid.others e other)) (ap (λ (x : Context). x.right p) (overlaid.others e other))
        | inl same ↦
            elim (mode items (Page p)) as (λ o. mode items (Page p) ≡ o → IsLeftToRead w v e p (Shared e p) ⊎ May e p) [
              | Some m ↦ λ named. inr (subst (λ (n : Name). May n p) (sym same) (may p m named))
              | None ↦ λ none.
                  let now = overlaid.changed ((changes.shared w d job items).live to ∙ taker) in
                  kept
                  (subst (λ (n : Name). (context v n).cell (Page p) ≡ (context s n).cell (Page p)) (sym same) (unnamed_cell now none))
                  (subst (λ (n : Name). (context v n).right p ≡ (context s n).right p) (sym same) (unnamed_right now none))
            ] refl
      ]
    where
      s : World
      s = share w d job items

      v : World
      v = overlay w to d job items

      overlaid : ChangesContext s to (with_overlay s d items) v
      overlaid = changes.overlaid w to d job items

      unnamed_cell : context v to ≡ with_overlay s d items (context s to) → mode items (Page p) ≡ None → (context v to).cell (Page p) ≡ (context s to).cell (Page p)
      unnamed_cell now none = grind arith

      unnamed_right : context v to ≡ with_overlay s d items (context s to) → mode items (Page p) ≡ None → (context v to).right p ≡ (context s to).right p
      unnamed_right now none = grind arith

      kept : (context v e).cell (Page p) ≡ (context s e).cell (Page p) → (context v e).right p ≡ (context s e).right p → IsLeftToRead w v e p (Shared e p) ⊎ May e p
      kept cell right = or_may (left_on (Shared e p) w s v e p right cell (value_same s v e (Page p) cell overlaid.groups)) (left_shared fresh d job items shared e p value live own read)
